-- Values of binary operators, by whether the first operand decides.
use Rattle.std.proofs.Common.{◌≡◌, Bool, true, false, not, cond, ℤ, pos, refl, sym}
use Rattle.std.proofs.lemmas.Bool.{false≢true}
use Rattle.std.specs.Ordering.{int_eq}
use Rattle.vk_types.specs.declared.types.Ty.{Ty}
use Rattle.vk_types.specs.declared.types.Stop.{Stop}
use Rattle.vk_types.specs.Operators.{truth}
use Rattle.vk_ast.specs.declared.expressions.BinOp.{BinOp}
use Rattle.vk_ast.specs.declared.expressions.BinOp.TheVariants.{Add, Sub, Mul, Div, Rem, And, Or, Xor, Shl, Shr, Eq, Ne, Lt, Le, Gt, Ge, LogAnd, LogOr}
use Rattle.vk_numbers.specs.Values.{Value, got, halts, value_of_result, with_value}
use Rattle.vk_numbers.specs.Operators.{binary_number, binary_value, holds, is_on}
use Rattle.vk_numbers.specs.Inner.Deciding.{decides}

and_on : (zero : Bool) (y : Value) → not (not zero) ≡ true → cond zero (got (pos 0)) (with_value y holds) ≡ got (truth (not zero))
and_on true y is = refl
and_on false y is = absurd (false≢true is)

and_off : (zero : Bool) (y : Value) → not (not zero) ≡ false → cond zero (got (pos 0)) (with_value y holds) ≡ with_value y holds
and_off false y is = refl
and_off true y is = absurd (false≢true (sym is))

or_on : (zero : Bool) (y : Value) → not zero ≡ true → cond zero (with_value y holds) (got (pos 1)) ≡ got (truth (not zero))
or_on false y is = refl
or_on true y is = absurd (false≢true is)

or_off : (zero : Bool) (y : Value) → not zero ≡ false → cond zero (with_value y holds) (got (pos 1)) ≡ with_value y holds
or_off true y is = refl
or_off false y is = absurd (false≢true (sym is))

pub stopped : (op : BinOp) (s t : Ty) (stop : Stop) (y : Value) → binary_value op s t (halts stop) y ≡ halts stop
stopped Add s t stop y = refl
stopped Sub s t stop y = refl
stopped Mul s t stop y = refl
stopped Div s t stop y = refl
stopped Rem s t stop y = refl
stopped And s t stop y = refl
stopped Or s t stop y = refl
stopped Xor s t stop y = refl
stopped Shl s t stop y = refl
stopped Shr s t stop y = refl
stopped Eq s t stop y = refl
stopped Ne s t stop y = refl
stopped Lt s t stop y = refl
stopped Le s t stop y = refl
stopped Gt s t stop y = refl
stopped Ge s t stop y = refl
stopped LogAnd s t stop y = refl
stopped LogOr s t stop y = refl

pub decided : (op : BinOp) (s t : Ty) (x : ℤ) (y : Value) → decides op x ≡ true → binary_value op s t (got x) y ≡ got (truth (is_on x))
decided LogAnd s t x y is = and_on (int_eq x (pos 0)) y is
decided LogOr s t x y is = or_on (int_eq x (pos 0)) y is
decided Add s t x y is = absurd (false≢true is)
decided Sub s t x y is = absurd (false≢true is)
decided Mul s t x y is = absurd (false≢true is)
decided Div s t x y is = absurd (false≢true is)
decided Rem s t x y is = absurd (false≢true is)
decided And s t x y is = absurd (false≢true is)
decided Or s t x y is = absurd (false≢true is)
decided Xor s t x y is = absurd (false≢true is)
decided Shl s t x y is = absurd (false≢true is)
decided Shr s t x y is = absurd (false≢true is)
decided Eq s t x y is = absurd (false≢true is)
decided Ne s t x y is = absurd (false≢true is)
decided Lt s t x y is = absurd (false≢true is)
decided Le s t x y is = absurd (false≢true is)
decided Gt s t x y is = absurd (false≢true is)
decided Ge s t x y is = absurd (false≢true is)

pub undecided : (op : BinOp) (s t : Ty) (x : ℤ) (y : Value) → decides op x ≡ false
    → binary_value op s t (got x) y ≡ with_value y (λ n. value_of_result (binary_number op s t x n))
undecided LogAnd s t x y is = and_off (int_eq x (pos 0)) y is
undecided LogOr s t x y is = or_off (int_eq x (pos 0)) y is
undecided Add s t x y is = refl
undecided Sub s t x y is = refl
undecided Mul s t x y is = refl
undecided Div s t x y is = refl
undecided Rem s t x y is = refl
undecided And s t x y is = refl
undecided Or s t x y is = refl
undecided Xor s t x y is = refl
undecided Shl s t x y is = refl
undecided Shr s t x y is = refl
undecided Eq s t x y is = refl
undecided Ne s t x y is = refl
undecided Lt s t x y is = refl
undecided Le s t x y is = refl
undecided Gt s t x y is = refl
undecided Ge s t x y is = refl
