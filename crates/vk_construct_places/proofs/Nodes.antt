-- Places, and sums of pointers and numbers, from the code of their parts.
use Rattle.std.proofs.Common.{arith, sym, ◌≡◌, ℕ, ◌+◌, ◌*◌, ◌<◌, ◌≤◌, Bool, true, false, cond, not, ◌&&◌, length, Some, refl, ap, ◌∙◌, ℤ, Ok}
use Rattle.vk_types.specs.declared.types.Ty.{Ty}
use Rattle.vk_types.specs.declared.types.Ty.TheVariants.{I64}
use Rattle.vk_kinds.specs.declared.heads.CType.TheVariants.{Int, Ptr}
use Rattle.vk_ast.specs.declared.expressions.BinOp.TheVariants.{Add, Sub}
use Rattle.vk_ast.specs.Tree.{Tree, int, name, index, deref, addr, unary, binary, choice, cast, call, nodes_of}
use Rattle.vk_rules_book.specs.declared.typings.Typing.{Typing}
use Rattle.vk_rules_book.specs.declared.typings.Typing.TheVariants.{Number, Variable as AVariable, Cell, Pointer, Nothing, Function, Untyped}
use Rattle.vk_rules_book.specs.Scopes.{Scope}
use Rattle.vk_rules_book.specs.Typings.{is_pointer, number_type, typing_of}
use Rattle.vk_meaning.specs.World.{World}
use Rattle.vk_meaning.specs.Data.{and_then, loaded, then_number}
use Rattle.vk_meaning.specs.Expressions.{Context, Variables, address_of, integer_type, integers_value, moved_by, operator_value, pointed_type, subscripted, value_of}
use Rattle.vk_construct.specs.Computes.{Table}
use Rattle.vk_construct.specs.Adds.{AddsNumber, HasType, IsTableOf, Written}
use Rattle.vk_construct.specs.Applies.{one}
use Rattle.vk_construct.specs.Trees.{AddsTree, HasNumber}
use Rattle.vk_construct.proofs.Adding.{no_fewer}
use Rattle.vk_construct.proofs.Evaluating.{emits_less, emits_same}
use Rattle.vk_construct_memory.specs.Pointers.{AddsPointerTree}
use Rattle.vk_construct_memory.proofs.Loading.{emits_loaded}
use Rattle.vk_construct_places.specs.Places.{AddsPlace, IsTurned, Loads, MayMove, Moves, part_nodes}
use Rattle.vk_construct_places.proofs.Moving.{emits_back, emits_first, emits_stepped}

-- what gives a number is no pointer
not_pointer : (t : Typing) (s : Ty) → number_type t ≡ Some s → is_pointer t ≡ false
not_pointer (Number t) s e = refl
not_pointer (AVariable t fixed) s e = refl
not_pointer (Cell t written) s e = refl
not_pointer (Pointer to written) s e = cc
not_pointer Nothing s e = cc
not_pointer Function s e = cc
not_pointer Untyped s e = cc

fewer_parts : (e : Tree) → part_nodes e ≤ nodes_of e
fewer_parts (int l k t n) = omega arith
fewer_parts (name l k id) = omega arith
fewer_parts (index l k base subscript) = omega arith
fewer_parts (deref l k operand) = omega arith
fewer_parts (addr l k operand) = omega arith
fewer_parts (unary l k op operand) = omega arith
fewer_parts (binary l k op left right) = omega arith
fewer_parts (choice l k condition first second) = omega arith
fewer_parts (cast l k t operand) = omega arith
fewer_parts (call l k id arguments) = omega arith

-- ---- places

pub place_deref : (a b : Written) (scope : Scope) (tb : Table) (l p : ℕ) (operand : Tree) (to : Ty) (written : Bool) (r m f : ℕ) → AddsPointerTree a b scope tb operand to written r m f → AddsPlace a b scope tb (deref l p operand) to written r m f
place_deref a b scope tb l p operand to written r m f x = emits_less a b tb _ (Ptr to written) r m (length a.regs) f (length a.regs) f (8 * nodes_of operand) (8 * nodes_of operand + 1) (omega arith) (omega arith) (omega arith) x

pub place_index : (a b c d : Written) (scope : Scope) (tb : Table) (l p : ℕ) (base e : Tree) (to s : Ty) (written : Bool) (r n rd m f : ℕ) → IsTableOf a tb (length a.regs) → m < f → r < length b.regs → MayMove a to written →
    AddsPointerTree a b scope tb base to written r m f → AddsTree b c scope tb e s n m f → Moves c d to written s r n rd m (length a.regs) → AddsPlace a d scope tb (index l p base e) to written rd m f
place_index a b c d scope tb l p base e to s written r n rd m f it lm lr may x y z =
    emits_less a d tb _ (Ptr to written) rd m (length a.regs) f (length a.regs) f (8 * nodes_of base + 8 * nodes_of e + 1) (8 * (nodes_of base + nodes_of e) + 1) (omega arith) (omega arith) (omega arith)
    (emits_stepped a b c d tb _ _ to s written r n rd m (length a.regs) (length b.regs) f (8 * nodes_of base) (8 * nodes_of e) it lm (no_fewer a b _ _ 0 x) lr may x y z)

pub place_first : (a b : Written) (scope : Scope) (tb : Table) (l p l' p' : ℕ) (base : Tree) (t to : Ty) (written : Bool) (r m f : ℕ) → AddsPointerTree a b scope tb base to written r m f →
    AddsPlace a b scope tb (index l p base (int l' p' t 0)) to written r m f
place_first a b scope tb l p l' p' base t to written r m f x =
    emits_less a b tb _ (Ptr to written) r m (length a.regs) f (length a.regs) f (8 * nodes_of base) (8 * (nodes_of base + 1) + 1) (omega arith) (omega arith) (omega arith)
    (emits_first a b tb _ t to written r m (length a.regs) f (8 * nodes_of base) x)

pub pointer_address : (a b : Written) (scope : Scope) (tb : Table) (l p : ℕ) (e : Tree) (to : Ty) (written : Bool) (r m f : ℕ) → AddsPlace a b scope tb e to written r m f → AddsPointerTree a b scope tb (addr l p e) to written r m f
pointer_address a b scope tb l p e to written r m f x = let few = fewer_parts e in
    emits_less a b tb _ (Ptr to written) r m (length a.regs) f (length a.regs) f (8 * part_nodes e + 1) (8 * (1 + nodes_of e)) (omega arith) (omega arith) (omega (arith, few)) x

module _ (a b c : Written) (scope : Scope) (tb : Table) (l p : ℕ) (base : Tree) (to : Ty) (written : Bool) (r d m f : ℕ) (it : IsTableOf a tb (length a.regs)) (lm : m < f) (ty : typing_of scope base ≡ Pointer to written) (y : Loads b c to written r d m (length a.regs)) where
  pub loaded_deref : AddsPlace a b scope tb (deref l p base) to written r m f → AddsTree a c scope tb (deref l p base) to d m f
  loaded_deref x =
      emits_less a c tb _ (Int to) d m (length a.regs) f (length a.regs) f (8 * nodes_of base + 1 + 1) (8 * (1 + nodes_of base)) (omega arith) (omega arith) (omega arith)
      (emits_same a c tb _ _ (Int to) d m (length a.regs) f (8 * nodes_of base + 1 + 1) (λ k vs w. ap (λ t. and_then (value_of k scope vs base) (loaded k.arrays (pointed_type t)) w) (sym ty))
      (emits_loaded a b c tb _ y.instr y.types to written r d m (length a.regs) f (8 * nodes_of base + 1) it lm x y.puts y.mask y.running y.operation (record { typed = y.typed; free = y.free; above = y.above }) y.base))

  pub loaded_index : (e : Tree) → AddsPlace a b scope tb (index l p base e) to written r m f → AddsTree a c scope tb (index l p base e) to d m f
  loaded_index e x =
      emits_less a c tb _ (Int to) d m (length a.regs) f (length a.regs) f (8 * (nodes_of base + nodes_of e) + 1 + 1) (8 * (1 + nodes_of base + nodes_of e)) (omega arith) (omega arith) (omega arith)
      (emits_same a c tb _ _ (Int to) d m (length a.regs) f (8 * (nodes_of base + nodes_of e) + 1 + 1) (λ k vs w. ap (λ t. and_then (address_of k scope vs (index l p base e)) (loaded k.arrays (pointed_type t)) w) (sym ty))
      (emits_loaded a b c tb _ y.instr y.types to written r d m (length a.regs) f (8 * (nodes_of base + nodes_of e) + 1) it lm x y.puts y.mask y.running y.operation (record { typed = y.typed; free = y.free; above = y.above }) y.base))

-- ---- sums and differences

pub sum_right : (a b c d : Written) (scope : Scope) (tb : Table) (l p : ℕ) (base e : Tree) (to s : Ty) (written : Bool) (r n rd m f : ℕ) → IsTableOf a tb (length a.regs) → m < f → r < length b.regs → MayMove a to written → typing_of scope base ≡ Pointer to written →
    AddsPointerTree a b scope tb base to written r m f → AddsTree b c scope tb e s n m f → Moves c d to written s r n rd m (length a.regs) → AddsPointerTree a d scope tb (binary l p Add base e) to written rd m f
sum_right a b c d scope tb l p base e to s written r n rd m f it lm lr may ty x y z =
    emits_less a d tb _ (Ptr to written) rd m (length a.regs) f (length a.regs) f (8 * nodes_of base + 8 * nodes_of e + 1) (8 * (1 + nodes_of base + nodes_of e)) (omega arith) (omega arith) (omega arith)
    (emits_same a d tb _ _ (Ptr to written) rd m (length a.regs) f (8 * nodes_of base + 8 * nodes_of e + 1) (λ k vs w. ap (λ t. operator_value Add t (typing_of scope e) (value_of k scope vs base) (value_of k scope vs e) w) (sym ty))
    (emits_stepped a b c d tb _ _ to s written r n rd m (length a.regs) (length b.regs) f (8 * nodes_of base) (8 * nodes_of e) it lm (no_fewer a b _ _ 0 x) lr may x y z))

-- `E + P`, whose pointer is evaluated first
pub sum_left : (a b c d : Written) (scope : Scope) (tb : Table) (l p : ℕ) (e base : Tree) (to s : Ty) (written : Bool) (r n rd m f : ℕ) → IsTableOf a tb (length a.regs) → m < f → r < length b.regs → MayMove a to written → HasNumber scope e s → typing_of scope base ≡ Pointer to written →
    AddsPointerTree a b scope tb base to written r m f → AddsTree b c scope tb e s n m f → Moves c d to written s r n rd m (length a.regs) → AddsPointerTree a d scope tb (binary l p Add e base) to written rd m f
sum_left a b c d scope tb l p e base to s written r n rd m f it lm lr may num ty x y z =
    emits_less a d tb _ (Ptr to written) rd m (length a.regs) f (length a.regs) f (8 * nodes_of base + 8 * nodes_of e + 1) (8 * (1 + nodes_of e + nodes_of base)) (omega arith) (omega arith) (omega arith)
    (emits_same a d tb _ _ (Ptr to written) rd m (length a.regs) f (8 * nodes_of base + 8 * nodes_of e + 1)
    (λ k vs w. swapped (typing_of scope e) (not_pointer (typing_of scope e) s num) k vs w)
    (emits_stepped a b c d tb _ _ to s written r n rd m (length a.regs) (length b.regs) f (8 * nodes_of base) (8 * nodes_of e) it lm (no_fewer a b _ _ 0 x) lr may x y z))
  where
    swapped : (t : Typing) → is_pointer t ≡ false → (k : Context) (vs : Variables) (w : World) →
        subscripted (value_of k scope vs base) (value_of k scope vs e) w ≡ operator_value Add t (typing_of scope base) (value_of k scope vs e) (value_of k scope vs base) w
    swapped t plain k vs w = sym (ap (λ u. operator_value Add t u (value_of k scope vs e) (value_of k scope vs base) w) ty
        ∙ ap (λ b. cond b (and_then (value_of k scope vs e) (λ q. then_number (value_of k scope vs base) (moved_by Add q)))
        (cond (not b && true) (and_then (value_of k scope vs base) (λ q. then_number (value_of k scope vs e) (moved_by Add q)))
        (integers_value Add (integer_type t) (integer_type (Pointer to written)) (value_of k scope vs e) (value_of k scope vs base))) w) plain)

pub difference : (a b c d e : Written) (scope : Scope) (tb : Table) (l p : ℕ) (base n : Tree) (g : ℤ → ℤ) (to s : Ty) (written : Bool) (r rn y rd m f size : ℕ) → IsTableOf a tb (length a.regs) → m < f → r < length b.regs → size ≤ 7 → MayMove a to written → IsTurned s g →
    typing_of scope base ≡ Pointer to written → HasType c rn s → AddsPointerTree a b scope tb base to written r m f → AddsTree b c scope tb n s rn m f → AddsNumber c d (one (λ z. Ok (g z)) s rn) I64 y m (length c.regs) f size → Moves d e to written I64 r y rd m (length c.regs) →
    AddsPointerTree a e scope tb (binary l p Sub base n) to written rd m f
difference a b c d e scope tb l p base n g to s written r rn y rd m f size it lm lr few may is ty tn x1 x2 x3 x4 =
    emits_less a e tb _ (Ptr to written) rd m (length a.regs) f (length a.regs) f (8 * nodes_of base + 8 * nodes_of n + size + 1) (8 * (1 + nodes_of base + nodes_of n)) (omega arith) (omega arith) (omega (arith, few))
    (emits_same a e tb _ _ (Ptr to written) rd m (length a.regs) f (8 * nodes_of base + 8 * nodes_of n + size + 1) (λ k vs w. ap (λ t. operator_value Sub t (typing_of scope n) (value_of k scope vs base) (value_of k scope vs n) w) (sym ty))
    (emits_back a b c d e tb _ _ g to s written r rn y rd m (length a.regs) (length b.regs) (length c.regs) f (8 * nodes_of base) (8 * nodes_of n) size it lm (no_fewer a b _ _ 0 x1) (no_fewer b c _ _ 0 x2) lr may is tn x1 x2 x3 x4))
