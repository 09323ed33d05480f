-- What an operator does on constants is what the rules of units compute, one lemma an operator.
use Rattle.std.proofs.Common.{◌≡◌, Bool, true, false, not, ◌&&◌, cond, ℤ, pos, Result, Ok, Err, Option, Some, unwrap_or, refl, ap, ◌∙◌}
use Rattle.std.proofs.lemmas.Option.{none-some}
use Rattle.std.specs.Ordering.{int_eq}
use Rattle.vk_types.specs.declared.types.Ty.{Ty}
use Rattle.vk_types.specs.declared.types.Ty.TheVariants.{I32}
use Rattle.vk_types.specs.declared.types.Stop.{Stop}
use Rattle.vk_types.specs.Conversions.{common_type}
use Rattle.vk_ast.specs.declared.expressions.UnOp.{UnOp}
use Rattle.vk_ast.specs.declared.expressions.BinOp.{BinOp}
use Rattle.vk_ast.specs.declared.expressions.BinOp.TheVariants.{Add, Sub, Mul, Div, Rem, And, Or, Xor, Shl, Shr, Eq, Ne, Lt, Le, Gt, Ge, LogAnd, LogOr}
use Rattle.vk_numbers.specs.Types.{unary_type, binary_type}
use Rattle.vk_numbers.specs.Values as computed
use Rattle.vk_numbers.specs.Operators.{holds, unary_number, binary_number, unary_value, binary_value, choice_value}
use Rattle.vk_rules_book.specs.declared.typings.Typing.{Typing}
use Rattle.vk_rules_book.specs.declared.typings.Typing.TheVariants.{Number, Variable, Cell, Pointer, Nothing, Function, Untyped}
use Rattle.vk_rules_book.specs.Typings as typings
use Rattle.vk_rules_book.specs.Typings.{number_type, is_pointer, is_sum, is_plus, binary_typing, unary_typing, cast_typing, choice_typing}
use Rattle.vk_meaning.specs.Data.{Action, then_number}
use Rattle.vk_meaning.specs.Expressions.{answered, truth_of, integers_value, operator_value, integer_type, chosen, converted}
use Rattle.vk_meaning_constants.specs.Standing.{stands_for}

-- ---- types

abbrev pub IsOf : Typing → Ty → Type 0
IsOf s t = number_type s ≡ Some t

-- a number is no pointer
no_pointer : (s : Typing) (t : Ty) → IsOf s t → is_pointer s ≡ false
no_pointer (Number t') t h = refl
no_pointer (Variable t' fixed) t h = refl
no_pointer (Cell t' written) t h = refl
no_pointer (Pointer to written) t h = absurd (none-some t h)
no_pointer Nothing t h = refl
no_pointer Function t h = refl
no_pointer Untyped t h = refl

-- where no operand is a pointer, nothing is moved
unmoved : {A : Type 0} (a b p q : Bool) (x y z : A) → p ≡ false → q ≡ false → cond (a && p) x (cond (b && (not p && q)) y z) ≡ z
unmoved a b p q x y z hp hq = (λ i. cond (a && hp i) x (cond (b && (not (hp i) && hq i)) y z)) ∙ plain a b
  where
    plain : (a b : Bool) → cond (a && false) x (cond (b && (true && false)) y z) ≡ z
    plain true true = refl
    plain true false = refl
    plain false true = refl
    plain false false = refl

type_is : (s : Typing) (t : Ty) → IsOf s t → integer_type s ≡ t
type_is s t h = ap (λ (o : Option Ty). unwrap_or o I32) h

pub unary_typed : (op : UnOp) (s : Typing) (t : Ty) → IsOf s t → IsOf (unary_typing op s) (unary_type op t)
unary_typed op s t h i = number_type (typings.then_number (h i) (λ u. Number (unary_type op u)))

pub cast_typed : (t : Ty) (s : Typing) (u : Ty) → IsOf s u → IsOf (cast_typing t s) t
cast_typed t s u h i = number_type (typings.then_number (h i) (λ v. Number t))

pub choice_typed : (c s s' : Typing) (b t t' : Ty) → IsOf c b → IsOf s t → IsOf s' t' → IsOf (choice_typing c s s') (common_type t t')
unfolding choice_typing
choice_typed c s s' b t t' hc h h' i =
    number_type (typings.then_number (hc i) (λ v. typings.then_number (h i) (λ u. typings.then_number (h' i) (λ u'. Number (common_type u u')))))

pub binary_typed : (op : BinOp) (s s' : Typing) (t t' : Ty) → IsOf s t → IsOf s' t' → IsOf (binary_typing op s s') (binary_type op t t')
binary_typed op s s' t t' h h' =
    ap number_type (unmoved (is_sum op) (is_plus op) (is_pointer s) (is_pointer s') _ _ _ (no_pointer s t h) (no_pointer s' t' h'))
    ∙ (λ i. number_type (typings.then_number (h i) (λ u. typings.then_number (h' i) (λ u'. Number (binary_type op u u')))))

-- ---- values

answer_stands : (r : Result ℤ Stop) → answered r ≡ stands_for (computed.value_of_result r)
answer_stands (Ok z) = refl
answer_stands (Err stop) = refl

-- the one of two evaluations that a condition takes
taken : (b : Bool) (x y : computed.Value) (first second : Action) → first ≡ stands_for x → second ≡ stands_for y →
    cond (not b) first second ≡ stands_for (cond b y x)
taken true x y first second h k = k
taken false x y first second h k = h

truth_stands : (x : computed.Value) → truth_of (stands_for x) ≡ stands_for (computed.with_value x holds)
truth_stands (computed.got z) = refl
truth_stands (computed.halts stop) = refl

converted_stands : (t : Ty) (x : computed.Value) → converted t (stands_for x) ≡ stands_for (computed.with_value x (computed.converted t))
converted_stands t (computed.got z) = refl
converted_stands t (computed.halts stop) = refl

unary_stands : (op : UnOp) (t : Ty) (x : computed.Value) →
    then_number (stands_for x) (λ z. answered (unary_number op t z)) ≡ stands_for (computed.with_value x (unary_value op t))
unary_stands op t (computed.got z) = answer_stands (unary_number op t z)
unary_stands op t (computed.halts stop) = refl

both_stand : (x y : computed.Value) (r : ℤ → ℤ → Result ℤ Stop) →
    then_number (stands_for x) (λ m. then_number (stands_for y) (λ n. answered (r m n)))
    ≡ stands_for (computed.with_value x (λ m. computed.with_value y (λ n. computed.value_of_result (r m n))))
both_stand (computed.got m) (computed.got n) r = answer_stands (r m n)
both_stand (computed.got m) (computed.halts stop) r = refl
both_stand (computed.halts stop) y r = refl

and_stands : (x y : computed.Value) (t t' : Ty) → integers_value LogAnd t t' (stands_for x) (stands_for y) ≡ stands_for (binary_value LogAnd t t' x y)
and_stands (computed.got m) y t t' = taken (int_eq m (pos 0)) (computed.with_value y holds) (computed.got (pos 0)) _ _ (truth_stands y) refl
and_stands (computed.halts stop) y t t' = refl

or_stands : (x y : computed.Value) (t t' : Ty) → integers_value LogOr t t' (stands_for x) (stands_for y) ≡ stands_for (binary_value LogOr t t' x y)
or_stands (computed.got m) y t t' = taken (int_eq m (pos 0)) (computed.got (pos 1)) (computed.with_value y holds) _ _ refl (truth_stands y)
or_stands (computed.halts stop) y t t' = refl

integers_stand : (op : BinOp) (t t' : Ty) (x y : computed.Value) →
    integers_value op t t' (stands_for x) (stands_for y) ≡ stands_for (binary_value op t t' x y)
integers_stand Add t t' x y = both_stand x y (binary_number Add t t')
integers_stand Sub t t' x y = both_stand x y (binary_number Sub t t')
integers_stand Mul t t' x y = both_stand x y (binary_number Mul t t')
integers_stand Div t t' x y = both_stand x y (binary_number Div t t')
integers_stand Rem t t' x y = both_stand x y (binary_number Rem t t')
integers_stand And t t' x y = both_stand x y (binary_number And t t')
integers_stand Or t t' x y = both_stand x y (binary_number Or t t')
integers_stand Xor t t' x y = both_stand x y (binary_number Xor t t')
integers_stand Shl t t' x y = both_stand x y (binary_number Shl t t')
integers_stand Shr t t' x y = both_stand x y (binary_number Shr t t')
integers_stand Eq t t' x y = both_stand x y (binary_number Eq t t')
integers_stand Ne t t' x y = both_stand x y (binary_number Ne t t')
integers_stand Lt t t' x y = both_stand x y (binary_number Lt t t')
integers_stand Le t t' x y = both_stand x y (binary_number Le t t')
integers_stand Gt t t' x y = both_stand x y (binary_number Gt t t')
integers_stand Ge t t' x y = both_stand x y (binary_number Ge t t')
integers_stand LogAnd t t' x y = and_stands x y t t'
integers_stand LogOr t t' x y = or_stands x y t t'

choice_stands : (t : Ty) (c x y : computed.Value) →
    converted t (chosen (stands_for c) (stands_for x) (stands_for y))
    ≡ stands_for (computed.with_value c (λ z. computed.with_value (computed.chosen z x y) (computed.converted t)))
choice_stands t (computed.got z) x y =
    ap (converted t) (taken (int_eq z (pos 0)) x y _ _ refl refl) ∙ converted_stands t (computed.chosen z x y)
choice_stands t (computed.halts stop) x y = refl

-- ---- the same of operands that stand for these values

pub unary_means : (op : UnOp) (s : Typing) (t : Ty) (e : Action) (x : computed.Value) → IsOf s t → e ≡ stands_for x →
    then_number e (λ z. answered (unary_number op (integer_type s) z)) ≡ stands_for (computed.with_value x (unary_value op t))
unary_means op s t e x h k = (λ i. then_number (k i) (λ z. answered (unary_number op (type_is s t h i) z))) ∙ unary_stands op t x

pub binary_means : (op : BinOp) (s s' : Typing) (t t' : Ty) (e e' : Action) (x x' : computed.Value) → IsOf s t → IsOf s' t' →
    e ≡ stands_for x → e' ≡ stands_for x' → operator_value op s s' e e' ≡ stands_for (binary_value op t t' x x')
binary_means op s s' t t' e e' x x' h h' k k' =
    unmoved (is_sum op) (is_plus op) (is_pointer s) (is_pointer s') _ _ _ (no_pointer s t h) (no_pointer s' t' h')
    ∙ ((λ i. integers_value op (type_is s t h i) (type_is s' t' h' i) (k i) (k' i)) ∙ integers_stand op t t' x x')

pub choice_means : (s s' : Typing) (t t' : Ty) (c e e' : Action) (b x x' : computed.Value) → IsOf s t → IsOf s' t' →
    c ≡ stands_for b → e ≡ stands_for x → e' ≡ stands_for x' →
    converted (common_type (integer_type s) (integer_type s')) (chosen c e e') ≡ stands_for (choice_value t t' b x x')
choice_means s s' t t' c e e' b x x' h h' m k k' =
    (λ i. converted (common_type (type_is s t h i) (type_is s' t' h' i)) (chosen (m i) (k i) (k' i))) ∙ choice_stands (common_type t t') b x x'

pub cast_means : (t : Ty) (e : Action) (x : computed.Value) → e ≡ stands_for x → converted t e ≡ stands_for (computed.with_value x (computed.converted t))
cast_means t e x k = ap (converted t) k ∙ converted_stands t x
