-- Code of expressions, put together.
use Rattle.std.proofs.Common.{arith, sym, ◌≡◌, ℕ, ◌+◌, ◌<◌, ◌≤◌, Bool, true, false, cond, refl, subst, ap, ◌∙◌, ℤ, pos, Result, Ok}
use Rattle.vk_types.specs.declared.types.Ty.{Ty}
use Rattle.vk_types.specs.declared.types.Ty.TheVariants.{I32}
use Rattle.vk_types.specs.declared.types.Stop.{Stop}
use Rattle.vk_types.specs.Numbers.{wrap_number}
use Rattle.vk_types.specs.Operators.{truth}
use Rattle.vk_kinds.specs.declared.heads.CType.{CType}
use Rattle.vk_kinds.specs.declared.heads.CType.TheVariants.{Int, Ptr}
use Rattle.vk_numbers.specs.Operators.{is_on}
use Rattle.vk_meaning.specs.World.{World}
use Rattle.vk_meaning.specs.Data.{number, number_in, Value, got, halts, Action, given, with_value, then_number}
use Rattle.vk_meaning.specs.Expressions.{Context, Variables, answered, both, chosen, converted, truth_of}
use Rattle.vk_lane.specs.Entries.{place_of}
use Rattle.vk_construct.specs.Computes.{Table, Computes}
use Rattle.vk_construct.specs.Adds.{Adds, AddsNumber, AddsValue, HasType, HasWritten, IsTableOf, Splits, Written}
use Rattle.vk_construct.specs.Applies.{one, two}
use Rattle.vk_construct.proofs.Adding.{adds_nil, adds_then, adds_weaken, has_written_less, table_more, table_there, type_there}
use Rattle.vk_construct.proofs.Applying.{computes_answered, computes_one, computes_two}
use Rattle.vk_construct.proofs.Choices.{chooses}
use Rattle.vk_construct.proofs.Operands.{computes_same}
use Rattle.vk_construct.proofs.Values.{computes_less, of_variable}

-- what an expression computes, by the program that it stands in
abbrev pub Expression : Type 0
Expression = Context → Variables → Action

-- ---- values of registers

-- a number that hangs on nothing
pub emits_number : (a b : Written) (tb : Table) (z : ℤ) (t : Ty) (d m k f s : ℕ) → AddsNumber a b (λ h. Ok z) t d m k f s → AddsValue a b tb (λ c vs. given (number z)) (Int t) d m k f s
emits_number a b tb z t d m k f s p = adds_weaken a b _ _ s s 0 p (omega arith) (λ q hw j h h' s1 s2 x. computes_answered (place_of q) tb (λ g. Ok z) (Ok z) t d m k f j h h' refl x)

-- a variable that is a number: no code
pub emits_variable : (a : Written) (tb : Table) (v : ℕ) (t : Ty) (m k f : ℕ) → IsTableOf a tb k → v < tb.count → tb.ty v ≡ Int t → AddsValue a a tb (λ c vs. given (vs v)) (Int t) (tb.reg v) m k f 0
emits_variable a tb v t m k f it lv ty = adds_weaken a a _ _ 0 0 0 (adds_nil a) (omega arith) (λ q hw j h h' s s' e.
    subst (λ x. Computes (place_of q) tb (λ vs. given (vs v)) (Int t) (tb.reg v) m k f j h x) (sym e)
    (subst (λ u. Computes (place_of q) tb (λ vs. given (vs v)) u (tb.reg v) m k f j h h) ty
    (of_variable (place_of q) tb v m k f j h hw.place (table_there q a tb k hw it) lv (λ to w p. no_pointer to w (sym ty ∙ p)) s)))
  where
    no_pointer : {P : Type 0} → (to : Ty) (w : Bool) → Int t ≡ Ptr to w → P
    no_pointer to w e = cc

pub emits_same : (a b : Written) (tb : Table) (e e' : Expression) (t : CType) (r m k f s : ℕ) → ((c : Context) (vs : Variables) (w : World) → e c vs w ≡ e' c vs w) → AddsValue a b tb e t r m k f s → AddsValue a b tb e' t r m k f s
emits_same a b tb e e' t r m k f s same p = adds_weaken a b _ _ s s 0 p (omega arith) (λ q hw j h h' s1 s2 x. computes_same (place_of q) tb _ _ t r m k f j h h' (λ vs w. same q.context vs w) x)

pub emits_less : (a b : Written) (tb : Table) (e : Expression) (t : CType) (r m k f k' f' s s' : ℕ) → k ≤ k' → f ≤ f' → s ≤ s' → AddsValue a b tb e t r m k' f' s → AddsValue a b tb e t r m k f s'
emits_less a b tb e t r m k f k' f' s s' lk lf ls p = adds_weaken a b _ _ s s' 0 p ls (λ q hw j h h' s1 s2 x. computes_less (place_of q) tb _ t r m k f k' f' j h h' lk lf x)

-- ---- operators

-- an operator on the value of an expression
pub emits_one : (a b c : Written) (tb : Table) (e : Expression) (g : ℤ → Result ℤ Stop) (s t : Ty) (r d m k k' f n1 n2 : ℕ) → IsTableOf a tb k → m < f → k ≤ k' →
    AddsValue a b tb e (Int s) r m k f n1 → AddsNumber b c (one g s r) t d m k' f n2 → AddsValue a c tb (λ x vs. then_number (e x vs) (λ z. answered (g z))) (Int t) d m k f (n1 + n2)
emits_one a b c tb e g s t r d m k k' f n1 n2 it lm lk p q = adds_weaken a c _ _ (n1 + n2) (n1 + n2) 0 (adds_then a b c _ _ n1 n2 0 p q) (omega arith)
    (λ l hw j h h' s1 s2 x. computes_one (place_of l) tb _ g s t r d m k k' f j h x.0 h' (table_there l a tb k (has_written_less a b _ n1 0 l p (has_written_less b c _ n2 0 l q hw)) it) lm lk x.1 x.2)

-- an operator on the values of two, the left one evaluated first
pub emits_two : (a b c e : Written) (tb : Table) (left right : Expression) (g : ℤ → ℤ → Result ℤ Stop) (s s' t : Ty) (r r' d m k k1 k2 f n1 n2 n3 : ℕ) → IsTableOf a tb k → m < f → k ≤ k1 → k1 ≤ k2 → r < k1 →
    AddsValue a b tb left (Int s) r m k f n1 → AddsValue b c tb right (Int s') r' m k1 f n2 → AddsNumber c e (two g s r s' r') t d m k2 f n3 →
    AddsValue a e tb (λ x vs. both (left x vs) (right x vs) (λ y z. answered (g y z))) (Int t) d m k f (n1 + n2 + n3)
emits_two a b c e tb left right g s s' t r r' d m k k1 k2 f n1 n2 n3 it lm lk lk2 lr p q w =
    adds_weaken a e _ _ (n1 + n2 + n3) (n1 + n2 + n3) 0 (adds_then a c e _ _ (n1 + n2) n3 0 (adds_then a b c _ _ n1 n2 0 p q) w) (omega arith)
    (λ l hw j h h' s1 s2 x.
    let there : HasWritten l a = has_written_less a b _ n1 0 l p (has_written_less b c _ n2 0 l q (has_written_less c e _ n3 0 l w hw)) in
    computes_two (place_of l) tb _ _ g s s' t r r' d m k k1 k2 f j h (x.1).0 x.0 h' (table_there l a tb k there it) (table_there l a tb k1 there (table_more a tb k k1 lk it)) lm lk lk2 lr (x.1).1 (x.1).2 x.2)

-- ---- choices

-- one expression where a condition holds, else another, both into register rd
pub emits_chosen : (c0 c1 c3 c4 c5 : Written) (tb : Table) (e a b : Expression) (t : Ty) (u : CType) (r rd m k f n1 n2 n3 : ℕ) → IsTableOf c0 tb k → m < f → HasType c1 r t →
    AddsValue c0 c1 tb e (Int t) r m k f n1 → Adds c1 c3 (Splits m f r) 2 0 → AddsValue c3 c4 tb a u rd f k (f + 2) n2 → AddsValue c4 c5 tb b u rd (f + 1) k (f + 2) n3 →
    AddsValue c0 c5 tb (λ x vs. then_number (e x vs) (λ z. cond (is_on z) (a x vs) (b x vs))) u rd m k f (n1 + n2 + n3 + 2)
emits_chosen c0 c1 c3 c4 c5 tb e a b t u r rd m k f n1 n2 n3 it lm tr p1 p2 p4 p5 =
    adds_weaken c0 c5 _ _ (n1 + 2 + n2 + n3) (n1 + n2 + n3 + 2) 0
    (adds_then c0 c4 c5 _ _ (n1 + 2 + n2) n3 0 (adds_then c0 c3 c4 _ _ (n1 + 2) n2 0 (adds_then c0 c1 c3 _ _ n1 2 0 p1 p2) p4) p5) (omega arith)
    (λ l hw j h h' s1 s2 x.
    let y4 = x.1 in let y3 = y4.1 in let split = y3.2 in
    let there : HasWritten l c1 = has_written_less c1 c3 _ 2 0 l p2 (has_written_less c3 c4 _ n2 0 l p4 (has_written_less c4 c5 _ n3 0 l p5 hw)) in
    chooses (place_of l) tb (e l.context) (a l.context) (b l.context) t u r rd m k f j h y3.0 split.0 y4.0 x.0 h' (table_there l c0 tb k (has_written_less c0 c1 _ n1 0 l p1 there) it) lm (type_there l c1 r (Int t) there tr) y3.3
    y3.1 split.1 split.2 y4.2 x.2)

-- the number is converted behind the choice, as well as in each of its cases
converted_chosen : (t : Ty) (e a b : Action) (w : World) → then_number e (λ z. cond (is_on z) (converted t a) (converted t b)) w ≡ converted t (chosen e a b) w
converted_chosen t e a b w = first (e w)
  where
    second : (p : Bool) (v : World) → cond p (converted t a) (converted t b) v ≡ with_value (cond p a b v) (λ d. given (number (wrap_number t (number_in d))))
    second true v = refl
    second false v = refl

    first : (v : Value) → with_value v (λ d. cond (is_on (number_in d)) (converted t a) (converted t b)) ≡ with_value (with_value v (λ d. cond (is_on (number_in d)) a b)) (λ d. given (number (wrap_number t (number_in d))))
    first (got d u) = second (is_on (number_in d)) u
    first (halts x u) = refl

-- `e ? a : b`, the cases converted to one type
pub emits_choice : (c0 c1 c3 c4 c5 : Written) (tb : Table) (e a b : Expression) (t u : Ty) (r rd m k f n1 n2 n3 : ℕ) → IsTableOf c0 tb k → m < f → HasType c1 r t →
    AddsValue c0 c1 tb e (Int t) r m k f n1 → Adds c1 c3 (Splits m f r) 2 0 →
    AddsValue c3 c4 tb (λ x vs. converted u (a x vs)) (Int u) rd f k (f + 2) n2 → AddsValue c4 c5 tb (λ x vs. converted u (b x vs)) (Int u) rd (f + 1) k (f + 2) n3 →
    AddsValue c0 c5 tb (λ x vs. converted u (chosen (e x vs) (a x vs) (b x vs))) (Int u) rd m k f (n1 + n2 + n3 + 2)
emits_choice c0 c1 c3 c4 c5 tb e a b t u r rd m k f n1 n2 n3 it lm tr p1 p2 p4 p5 =
    emits_same c0 c5 tb _ _ (Int u) rd m k f (n1 + n2 + n3 + 2) (λ x vs w. converted_chosen u (e x vs) (a x vs) (b x vs) w)
    (emits_chosen c0 c1 c3 c4 c5 tb e (λ x vs. converted u (a x vs)) (λ x vs. converted u (b x vs)) t (Int u) r rd m k f n1 n2 n3 it lm tr p1 p2 p4 p5)

-- an operand of `&&` or `||`, as 0 or 1
truth_cases : (p : Bool) → cond p (pos 1) (pos 0) ≡ truth p
truth_cases true = refl
truth_cases false = refl

truth_is : (e : Action) (w : World) → then_number e (λ z. answered (Ok (cond (is_on z) (pos 1) (pos 0)))) w ≡ truth_of e w
truth_is e w = first (e w)
  where
    first : (v : Value) → with_value v (λ d. answered (Ok (cond (is_on (number_in d)) (pos 1) (pos 0)))) ≡ with_value v (λ d. given (number (truth (is_on (number_in d)))))
    first (got d u) = ap (λ z. got (number z) u) (truth_cases (is_on (number_in d)))
    first (halts x u) = refl

pub emits_truth : (a b c : Written) (tb : Table) (e : Expression) (s : Ty) (r d m k k' f n1 n2 : ℕ) → IsTableOf a tb k → m < f → k ≤ k' →
    AddsValue a b tb e (Int s) r m k f n1 → AddsNumber b c (one (λ z. Ok (cond (is_on z) (pos 1) (pos 0))) s r) I32 d m k' f n2 → AddsValue a c tb (λ x vs. truth_of (e x vs)) (Int I32) d m k f (n1 + n2)
emits_truth a b c tb e s r d m k k' f n1 n2 it lm lk p q = emits_same a c tb _ _ (Int I32) d m k f (n1 + n2) (λ x vs w. truth_is (e x vs) w)
    (emits_one a b c tb e (λ z. Ok (cond (is_on z) (pos 1) (pos 0))) s I32 r d m k k' f n1 n2 it lm lk p q)
