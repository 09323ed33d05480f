-- The operators of C, pointers and cells, by their instructions.
use Rattle.std.proofs.Common.{sym, ◌≡◌, ℕ, ◌/◌, ◌^◌, ◌<◌, Bool, true, false, cond, List, Option, Some, None, refl, subst, ap, ap₂, ◌∙◌, ℤ, ◌+ℤ◌, Result, Ok, Err}
use Rattle.vk_types.specs.declared.types.Stop.{Stop}
use Rattle.vk_types.specs.declared.types.Ty.{Ty}
use Rattle.vk_types.specs.declared.types.Op1.{Op1}
use Rattle.vk_types.specs.declared.types.Op2.{Op2}
use Rattle.vk_types.specs.Numbers.{number_of, word_of, wrap_number, IsInRange}
use Rattle.vk_types.specs.Operators.{op1_number, op2_number, result_type}
use Rattle.vk_kinds.specs.declared.heads.CType.{CType}
use Rattle.vk_kinds.specs.declared.heads.CType.TheVariants.{Int, Ptr}
use Rattle.vk_numbers.proofs.Numbers.{wrap_in_range, number_of-word, op1_in_range, op2_in_range}
use Rattle.vk_numbers.specs.Operators.{result_in, shift_result}
use Rattle.vk_meaning.specs.World.{Array, array_at, World}
use Rattle.vk_meaning.specs.Data.{Datum, number, pointer, number_in, array_of, Value, got, halts, with_value, Action, and_then, then_number, fits_offset, pointer_at, moved, named_element, at_element, loaded, given}
use Rattle.vk_meaning.specs.Expressions.{answered, both, converted, Variables}
use Rattle.vk_meaning.specs.Statements.{Evaluation}
use Rattle.vk_meaning.specs.Lanes.{datum_of}
use Rattle.vk_object.specs.Memory.{Cell, cell_of, offset_of, at_offset, moved as word_moved}
use Rattle.vk_lane.specs.Places.{Share, Place, IsPlace, IsFine, IsVisible}
use Rattle.vk_lane.specs.Writes.{word_result, pointer_result}
use Rattle.vk_lane.specs.Cells.{cell_as, load_result, cell_at, MayLoad}
use Rattle.vk_construct.specs.Computes.{Table, Has, Gives, Computes, Answers}
use Rattle.vk_construct.proofs.Values.{computes_has}
use Rattle.vk_lane.proofs.Pointers.{moved_word, same_cell}

-- ---- numbers

pub has_number : (x : Place) (j : ℕ) (t : Ty) (z : ℤ) → IsInRange t z → Has x j (Int t) (number z) (word_of z)
has_number x j t z h = record { is = ap number (sym (number_of-word t z h)); fine = tt }

-- an expression that gives the same
pub computes_same : (x : Place) (tb : Table) (e e' : Evaluation) (t : CType) (r m d f j : ℕ) (h h' : Share) → ((vs : Variables) (w : World) → e vs w ≡ e' vs w) → Computes x tb e t r m d f j h h' → Computes x tb e' t r m d f j h h'
computes_same x tb e e' t r m d f j h h' same c = record { gone = c.gone; off = c.off; runs = λ s n o a. subst (Gives x j t r d f h h') (same s.variables s.world) (c.runs s n o a) }

-- a number, converted: of a cast, and of an operand
pub answers_convert : (x : Place) (j : ℕ) (t u : Ty) (dt : Datum) (a : ℕ) (w : World) → Has x j (Int u) dt a → Answers x j (Int t) (given (number (wrap_number t (number_in dt))) w) w (Ok (word_of (wrap_number t (number_of u a))))
answers_convert x j t u dt a w h = (number (wrap_number t (number_of u a)), ap (λ d. got (number (wrap_number t (number_in d))) w) h.is, has_number x j t _ (wrap_in_range t (number_of u a)))

answers_result : (x : Place) (j : ℕ) (t : Ty) (w : World) (r : Result ℤ Stop) → ((z : ℤ) → r ≡ Ok z → IsInRange t z) → Answers x j (Int t) (answered r w) w (word_result r)
answers_result x j t w (Ok z) h = (number z, refl, has_number x j t z (h z refl))
answers_result x j t w (Err y) h = refl

-- an operator whose left operand is of the type t, and whose right one is of the type u
pub answers_op2 : (x : Place) (j : ℕ) (op : Op2) (t u v : Ty) (a b : Datum) (p q : ℕ) (w : World) → result_type op t ≡ v → Has x j (Int t) a p → Has x j (Int u) b q →
    Answers x j (Int v) (answered (op2_number op t (number_in a) (number_in b)) w) w (word_result (op2_number op t (number_of t p) (number_of u q)))
answers_op2 x j op t u v a b p q w rt ha hb =
    subst (λ r. Answers x j (Int v) (answered r w) w (word_result (op2_number op t (number_of t p) (number_of u q)))) (sym (ap₂ (λ c d. op2_number op t (number_in c) (number_in d)) ha.is hb.is))
    (answers_result x j v w (op2_number op t (number_of t p) (number_of u q)) (λ z e. subst (λ y. IsInRange y z) rt (op2_in_range op t _ _ z e)))

pub answers_op1 : (x : Place) (j : ℕ) (op : Op1) (t : Ty) (a : Datum) (p : ℕ) (w : World) → Has x j (Int t) a p →
    Answers x j (Int t) (answered (Ok (op1_number op t (number_in a))) w) w (Ok (word_of (op1_number op t (number_of t p))))
answers_op1 x j op t a p w h = (number (op1_number op t (number_of t p)), ap (λ d. got (number (op1_number op t (number_in d))) w) h.is, has_number x j t _ (op1_in_range op t _))

-- the operands are converted on the way
pub convert_both : (t : Ty) (op : Op2) (left right : Action) (w : World) →
    and_then (converted t left) (λ a. and_then (converted t right) (λ b. answered (op2_number op t (number_in a) (number_in b)))) w ≡ both left right (λ y z. answered (result_in op t y z)) w
convert_both t op left right w = first (left w)
  where
    second : (a : ℤ) (v : Value) → with_value (with_value v (λ d. given (number (wrap_number t (number_in d))))) (λ b. answered (op2_number op t (wrap_number t a) (number_in b)))
        ≡ with_value v (λ d. answered (result_in op t a (number_in d)))
    second a (got d u) = refl
    second a (halts z u) = refl

    first : (v : Value) → with_value (with_value v (λ d. given (number (wrap_number t (number_in d))))) (λ a. and_then (converted t right) (λ b. answered (op2_number op t (number_in a) (number_in b))))
        ≡ with_value v (λ d. then_number right (λ z. answered (result_in op t (number_in d) z)))
    first (got d u) = second (number_in d) (right u)
    first (halts z u) = refl

pub convert_left : (t : Ty) (op : Op2) (left right : Action) (w : World) →
    and_then (converted t left) (λ a. and_then right (λ b. answered (op2_number op t (number_in a) (number_in b)))) w ≡ both left right (λ y z. answered (shift_result op t y z)) w
convert_left t op left right w = first (left w)
  where
    first : (v : Value) → with_value (with_value v (λ d. given (number (wrap_number t (number_in d))))) (λ a. and_then right (λ b. answered (op2_number op t (number_in a) (number_in b))))
        ≡ with_value v (λ d. then_number right (λ z. answered (shift_result op t (number_in d) z)))
    first (got d u) = refl
    first (halts z u) = refl

pub convert_one : (t : Ty) (op : Op1) (a : Action) (w : World) → and_then (converted t a) (λ d. answered (Ok (op1_number op t (number_in d)))) w ≡ then_number a (λ z. answered (Ok (op1_number op t (wrap_number t z)))) w
convert_one t op a w = first (a w)
  where
    first : (v : Value) → with_value (with_value v (λ d. given (number (wrap_number t (number_in d))))) (λ d. answered (Ok (op1_number op t (number_in d)))) ≡ with_value v (λ d. answered (Ok (op1_number op t (wrap_number t (number_in d)))))
    first (got d u) = refl
    first (halts z u) = refl

-- ---- pointers

-- a pointer that may be moved freely stays fine
pub MayMove : Place → ℕ → CType → Type 0
MayMove x j t = (a : ℕ) (o o' : ℤ) → IsFine x j t (pointer a o) → IsFine x j t (pointer a o')

pub read_moves : (x : Place) (j : ℕ) (to : Ty) → MayMove x j (Ptr to false)
unfolding MayMove
read_moves x j to a o o' f = f

pub answers_moved : (x : Place) (j : ℕ) (to u : Ty) (wr : Bool) (p n : Datum) (a b : ℕ) (w : World) → MayMove x j (Ptr to wr) → Has x j (Ptr to wr) p a → Has x j (Int u) n b →
    Answers x j (Ptr to wr) (moved p (number_in n) w) w (pointer_result (word_moved a (number_of u b)))
unfolding MayMove
answers_moved x j to u wr p n a b w may hp hn = subst (λ v. Answers x j (Ptr to wr) v w (pointer_result (word_moved a (number_of u b)))) (sym (ap₂ (λ d e. moved d (number_in e) w) hp.is hn.is)) (go (fits_offset o) refl)
  where
    o : ℤ
    o = offset_of a +ℤ number_of u b

    go : (f : Bool) → fits_offset o ≡ f → Answers x j (Ptr to wr) (pointer_at f (a / 2 ^ 32) o w) w (pointer_result (cond f (Some (at_offset a o)) None))
    go true f = (pointer (a / 2 ^ 32) o, refl, record { is = sym (moved_word to wr a o f); fine = may (a / 2 ^ 32) (offset_of a) o (subst (IsFine x j (Ptr to wr)) hp.is hp.fine) })
    go false f = refl

-- ---- cells

pub cell_is : (x : Place) (to : Ty) (wr : Bool) (a : ℕ) (h : Share) → IsPlace x → cell_at x a h ≡ cell_as x.context.arrays (datum_of (Ptr to wr) (h.lane.reg a)) (named_element x.context.arrays (datum_of (Ptr to wr) (h.lane.reg a)))
cell_is x to wr a h ip = ap (λ l. cell_of l (h.lane.reg a)) ip.extents ∙ same_cell x.context.arrays to wr (h.lane.reg a)

pub answers_loaded : (x : Place) (j : ℕ) (t to : Ty) (wr : Bool) (p : Datum) (a : ℕ) (h : Share) (w : World) → IsPlace x → h.world ≡ w → Has x j (Ptr to wr) p (h.lane.reg a) →
    Answers x j (Int t) (loaded x.context.arrays t p w) w (load_result h.world.memory t (cell_at x a h))
answers_loaded x j t to wr p a h w ip ew hp = subst (λ r. Answers x j (Int t) (loaded x.context.arrays t p w) w r) (sym (ap₂ (λ u c. load_result u.memory t c) ew (cell_is x to wr a h ip)))
    (subst (λ d. Answers x j (Int t) (loaded x.context.arrays t d w) w (load_result w.memory t (cell_as x.context.arrays q (named_element x.context.arrays q)))) (sym hp.is) (go (named_element x.context.arrays q)))
  where
    q : Datum
    q = datum_of (Ptr to wr) (h.lane.reg a)

    go : (e : Option ℕ) → Answers x j (Int t) (at_element e (λ index v. got (number (wrap_number t (number_of (array_at x.context.arrays (array_of q)).ty (v.memory (array_of q) index)))) v) w) w
        (load_result w.memory t (cell_as x.context.arrays q e))
    go None = refl
    go (Some i) = (number (wrap_number t (number_of (array_at x.context.arrays (array_of q)).ty (w.memory (array_of q) i))), refl, has_number x j t _ (wrap_in_range t _))

-- the premise of a load: the pointer may be read
pub fine_seen : (x : Place) (j : ℕ) (to : Ty) (wr : Bool) (p : Datum) (i : ℕ) → IsPlace x → IsFine x j (Ptr to wr) p → named_element x.context.arrays p ≡ Some i → IsVisible x j (array_of p) i
fine_seen x j to true p i ip f e = λ k l ne o. ip.apart k j (array_of p) i ne o (f i e)
fine_seen x j to false p i ip f e = f i

pub cell_some : (arrays : List Array) (d : Datum) (e : Option ℕ) (c : Cell) → cell_as arrays d e ≡ Some c → (i : ℕ) × (e ≡ Some i) × (array_of d ≡ c.array) × (i ≡ c.index)
cell_some arrays d None c q = cc
cell_some arrays d (Some i) c q = (i, refl, ap (λ o. elim o as (λ _. ℕ) [ None ↦ array_of d | Some y ↦ y.array ]) q, ap (λ o. elim o as (λ _. ℕ) [ None ↦ i | Some y ↦ y.index ]) q)

pub may_load : (x : Place) (tb : Table) (e : Evaluation) (to : Ty) (wr : Bool) (r m d f j : ℕ) (h h' : Share) → IsPlace x → m < f → Computes x tb e (Ptr to wr) r m d f j h h' → MayLoad x m r j h'
may_load x tb e to wr r m d f j h h' ip lm c live cell ec =
    let p = computes_has x tb e (Ptr to wr) r m d f j h h' lm c live in
    let q = cell_some x.context.arrays (datum_of (Ptr to wr) (h'.lane.reg r)) (named_element x.context.arrays (datum_of (Ptr to wr) (h'.lane.reg r))) cell (sym (cell_is x to wr r h' ip) ∙ ec) in
    subst (λ a. IsVisible x j a cell.index) q.2 (subst (IsVisible x j (array_of (datum_of (Ptr to wr) (h'.lane.reg r)))) q.3
    (fine_seen x j to wr (datum_of (Ptr to wr) (h'.lane.reg r)) q.0 ip (subst (IsFine x j (Ptr to wr)) p.1.is p.1.fine) q.1))
