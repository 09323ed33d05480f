-- Pointers that are moved, loads and stores, put together.
use Rattle.std.proofs.Common.{arith, sym, ◌≡◌, ℕ, ◌+◌, ◌<◌, ◌≤◌, Bool, true, false, List, [], ◌∷◌, Some, refl, subst}
use Rattle.vk_types.specs.declared.types.Ty.{Ty}
use Rattle.vk_kinds.specs.declared.heads.CType.{CType}
use Rattle.vk_kinds.specs.declared.heads.CType.TheVariants.{Void, Int, Ptr}
use Rattle.vk_meaning.specs.Data.{and_then, given, loaded, moved, number_in}
use Rattle.vk_meaning.specs.Expressions.{converted, subscripted}
use Rattle.vk_meaning.specs.Statements.{assigned}
use Rattle.vk_code.specs.declared.instruction.Instr.{Instr}
use Rattle.vk_code.specs.declared.instruction.Operation.TheVariants.{Load, PtrAdd, Store}
use Rattle.vk_code.specs.Instruction.{operation_of}
use Rattle.vk_object.specs.Memory.{moved as word_moved}
use Rattle.vk_lane.specs.Pieces.{Always, Does}
use Rattle.vk_lane.specs.Writes.{Writes, pointer_result}
use Rattle.vk_lane.specs.Cells.{MayLoad, MayStore, Stores, cell_at, load_result}
use Rattle.vk_lane.specs.Entries.{LaneCall, place_of}
use Rattle.vk_lane.proofs.Rules.{does_weaken}
use Rattle.vk_lane.proofs.Writing.{does_write, write_step}
use Rattle.vk_lane.proofs.Moving.{does_store, write_load}
use Rattle.vk_construct.specs.Computes.{Computes, Table}
use Rattle.vk_construct.specs.Adds.{Adds, AddsValue, HasType, HasWritten, IsTableOf, Puts, Written}
use Rattle.vk_construct.specs.Applies.{number_at}
use Rattle.vk_construct.proofs.Adding.{adds_nil, adds_put, adds_then, adds_weaken, free_register, has_written_less, table_there, type_there}
use Rattle.vk_construct.proofs.Evaluating.{Expression}
use Rattle.vk_construct.proofs.Instructions.{IsTarget}
use Rattle.vk_construct.proofs.Operands.{answers_loaded, answers_moved, computes_same, may_load, read_moves}
use Rattle.vk_construct.proofs.Values.{of_variable, then_two, then_write}
use Rattle.vk_construct_memory.specs.Pointers.{HasPointer, IsPointerTarget}
use Rattle.vk_construct_memory.proofs.Giving.{adds_given, put_less, typed_load, typed_step, typed_store}
use Rattle.vk_construct_memory.proofs.Storing.{may_store, store_converted, then_store}

-- ---- pointers

-- a pointer that is a variable, where it may be used as it is: no code
pub emits_pointer : (a : Written) (tb : Table) (v : ℕ) (to : Ty) (written : Bool) (m k f : ℕ) → IsTableOf a tb k → v < tb.count → tb.ty v ≡ Ptr to written → ((q : LaneCall) → HasWritten q a → (place_of q).usable (tb.reg v) ≡ true) →
    AddsValue a a tb (λ c vs. given (vs v)) (Ptr to written) (tb.reg v) m k f 0
emits_pointer a tb v to written m k f it lv ty usable = adds_weaken a a _ _ 0 0 0 (adds_nil a) (omega arith) (λ q hw j h h' s s' e.
    subst (λ x. Computes (place_of q) tb (λ vs. given (vs v)) (Ptr to written) (tb.reg v) m k f j h x) (sym e)
    (subst (λ u. Computes (place_of q) tb (λ vs. given (vs v)) u (tb.reg v) m k f j h h) ty
    (of_variable (place_of q) tb v m k f j h hw.place (table_there q a tb k hw it) lv (λ to' w p. usable q hw) s)))

adds_step : (b c : Written) (i : Instr) (types : List CType) (to s : Ty) (written : Bool) (r r' d m k : ℕ) → Puts b c i types → i.m ≡ m → m < c.masks → operation_of i ≡ Some (PtrAdd d r r') → IsPointerTarget c to written d k → HasPointer c r to written → HasType c r' s →
    Adds b c (λ q. Writes m d (λ j h. pointer_result (word_moved (h.lane.reg r) (number_at s r' h)))) 1 0
adds_step b c i types to s written r r' d m k p em lm is target tr tr' = adds_put b c i types (PtrAdd d r r') _ p is refl (subst (λ n. n < c.masks) (sym em) lm)
    (λ e z fin. typed_step e z c to s written d r r' fin target.typed tr tr')
    (λ q hw. does_weaken (place_of q) Always Always _ _ (i ∷ [])
    (does_write (place_of q) Always d i (PtrAdd d r r') _ hw.place (free_register q c d hw target.free) is
    (write_step (place_of q) Always s to to written written i.m d r r' (type_there q c r' (Int s) hw tr') (type_there q c r (Ptr to written) hw tr) (type_there q c d (Ptr to written) hw target.typed)))
    (λ j h x u. tt) (λ j h h' x x' u z. subst (λ n. Writes n d (λ l y. pointer_result (word_moved (y.lane.reg r) (number_at s r' y))) j h h') em z.1))

-- `p + e`, and where `p[e]` points, for a pointer that may only be read through
pub emits_moved : (a b c d : Written) (tb : Table) (p e : Expression) (i : Instr) (types : List CType) (to s : Ty) (r r' rd m k k1 f n1 n2 : ℕ) → IsTableOf a tb k → m < f → k ≤ k1 → r < k1 → AddsValue a b tb p (Ptr to false) r m k f n1 → AddsValue b c tb e (Int s) r' m k1 f n2 →
    Puts c d i types → i.m ≡ m → m < d.masks → operation_of i ≡ Some (PtrAdd rd r r') → IsPointerTarget d to false rd k → HasPointer d r to false → HasType d r' s →
    AddsValue a d tb (λ c vs. subscripted (p c vs) (e c vs)) (Ptr to false) rd m k f (n1 + n2 + 1)
emits_moved a b c d tb p e i types to s r r' rd m k k1 f n1 n2 it lm lk lr x y z em lmd is target tr tr' =
    adds_weaken a d _ _ (n1 + n2 + 1) (n1 + n2 + 1) 0 (adds_then a c d _ _ (n1 + n2) 1 0 (adds_then a b c _ _ n1 n2 0 x y) step) (omega arith)
    (λ q hw j h h' s1 s2 g.
    let there : HasWritten q a = has_written_less a b _ n1 0 q x (has_written_less b c _ n2 0 q y (has_written_less c d _ 1 0 q step hw)) in
    then_two (place_of q) tb _ _ (λ dt n. moved dt (number_in n)) (Ptr to false) (Int s) (Ptr to false) r r' m k k1 f rd j (λ l u. pointer_result (word_moved (u.lane.reg r) (number_at s r' u))) h (g.1).0 g.0 h'
    (table_there q a tb k there it) lm lk lr target.above (g.1).1 (g.1).2 g.2
    (λ dt n w hp hn ew. answers_moved (place_of q) j to s false dt n ((g.0).lane.reg r) ((g.0).lane.reg r') w (read_moves (place_of q) j to) hp hn))
  where
    step : Adds c d (λ q. Writes m rd (λ j h. pointer_result (word_moved (h.lane.reg r) (number_at s r' h)))) 1 0
    step = adds_step c d i types to s false r r' rd m k z em lmd is target tr tr'

-- ---- loads

-- the element that a pointer points to, as one of its type
pub emits_loaded : (a b c : Written) (tb : Table) (p : Expression) (i : Instr) (types : List CType) (to : Ty) (written : Bool) (r d m k f n : ℕ) → IsTableOf a tb k → m < f → AddsValue a b tb p (Ptr to written) r m k f n →
    Puts b c i types → i.m ≡ m → m < c.masks → operation_of i ≡ Some (Load d r) → IsTarget c to d k → HasPointer c r to written → AddsValue a c tb (λ c vs. and_then (p c vs) (loaded c.arrays to)) (Int to) d m k f (n + 1)
emits_loaded a b c tb p i types to written r d m k f n it lm x z em lmc is target tr =
    adds_weaken a c _ _ (n + 1) (n + 1) 0
    (adds_given a b c i types (Load d r) _ (λ q. MayLoad (place_of q) m r) (λ q. Writes m d (λ j h. load_result h.world.memory to (cell_at (place_of q) r h))) n 0 x z is refl (subst (λ y. y < c.masks) (sym em) lmc)
    (λ e u fin. typed_load e u c to written d r fin target.typed tr)
    (λ q hw. subst (λ y. Does (place_of q) (MayLoad (place_of q) y r) (i ∷ []) (Writes y d (λ j h. load_result h.world.memory to (cell_at (place_of q) r h)))) em
    (does_weaken (place_of q) (MayLoad (place_of q) i.m r) (MayLoad (place_of q) i.m r) _ _ (i ∷ [])
    (does_write (place_of q) (MayLoad (place_of q) i.m r) d i (Load d r) _ hw.place (free_register q c d hw target.free) is (write_load (place_of q) i.m d r to hw.place (type_there q c d (Int to) hw target.typed)))
    (λ j h s u. u) (λ j h h' s s' u v. v.1)))
    (λ q hw j h h' s y. may_load (place_of q) tb (p q.context) to written r m k f j h h' hw.place lm y)) (omega arith)
    (λ q hw j h h' s1 s2 g. then_write (place_of q) tb (p q.context) (loaded q.context.arrays to) (Ptr to written) (Int to) r m k k f d j (λ l u. load_result u.world.memory to (cell_at (place_of q) r u)) h g.0 h' (omega arith) target.above lm g.1 g.2
    (λ dt w kp hp. answers_loaded (place_of q) j to to written dt r g.0 w hw.place kp.world hp))

-- ---- stores

-- `place = e`: the pointer, the value as one of the element's type, the store
pub emits_stored : (a b c d : Written) (tb : Table) (place e : Expression) (i : Instr) (to : Ty) (r r' m k k1 f n1 n2 : ℕ) → IsTableOf a tb k → m < f → k ≤ k1 → r < k1 → AddsValue a b tb place (Ptr to true) r m k f n1 → AddsValue b c tb (λ x vs. converted to (e x vs)) (Int to) r' m k1 f n2 →
    Puts c d i [] → i.m ≡ m → m < d.masks → operation_of i ≡ Some (Store r r') → HasPointer d r to true → HasType d r' to → AddsValue a d tb (λ x vs. assigned x to (place x vs) (e x vs)) Void 0 m k f (n1 + n2 + 1)
emits_stored a b c d tb place e i to r r' m k k1 f n1 n2 it lm lk lr x y z em lmd is tr tr' =
    adds_weaken a d _ _ (n1 + n2 + 1) (n1 + n2 + 1) 0
    (adds_given a c d i [] (Store r r') _ (λ q. MayStore (place_of q) m r) (λ q. Stores m (λ h. number_at to r' h) (cell_at (place_of q) r)) (n1 + n2) 0 (adds_then a b c _ _ n1 n2 0 x y) z is refl (subst (λ u. u < d.masks) (sym em) lmd)
    (λ env u fin. typed_store env u d to r r' fin tr tr')
    (λ q hw. subst (λ u. Does (place_of q) (MayStore (place_of q) u r) (i ∷ []) (Stores u (λ h. number_at to r' h) (cell_at (place_of q) r))) em (does_store (place_of q) r r' to i hw.place (type_there q d r' (Int to) hw tr') is))
    (λ q hw j h h' s g. may_store (place_of q) tb (place q.context) _ to (Int to) r r' m k k1 f j h g.0 h' hw.place lm lr g.1 g.2)) (omega arith)
    (λ q hw j h h' s1 s2 g. computes_same (place_of q) tb _ _ Void 0 m k f j h h' (λ vs w. store_converted q.context to (place q.context vs) (e q.context vs) w)
    (then_store (place_of q) tb (place q.context) (λ vs. converted to (e q.context vs)) to to true r r' m k k1 f j h (g.1).0 g.0 h' hw.place (table_there q a tb k (before q hw) it) lk lm lr (g.1).1 (g.1).2 g.2))
  where
    before : (q : LaneCall) → HasWritten q d → HasWritten q a
    before q hw = has_written_less a b _ n1 0 q x (has_written_less b c _ n2 0 q y (put_less c d i [] z q hw))
