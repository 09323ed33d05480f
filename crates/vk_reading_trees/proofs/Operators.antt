-- What an operator does behind its first operand.
use Rattle.std.proofs.Common.{◌≡◌, Bool, true, false, cond, Some, None, List, ℤ, pos, Result, Ok, Err, refl, sym, ap, subst, ◌∙◌, true≢false}
use Rattle.std.proofs.lemmas.Option.{none-some, same_Some}
use Rattle.vk_types.specs.declared.types.Ty.{Ty}
use Rattle.vk_types.specs.Operators.{truth}
use Rattle.vk_ast.specs.declared.expressions.BinOp.{BinOp}
use Rattle.vk_ast.specs.declared.expressions.BinOp.TheVariants.{Add, Sub, Mul, Div, Rem, And, Or, Xor, Shl, Shr, Eq, Ne, Lt, Le, Gt, Ge, LogAnd, LogOr}
use Rattle.vk_numbers.specs.Operators.{is_on, binary_number}
use Rattle.vk_rules_book.specs.declared.typings.Typing.{Typing}
use Rattle.vk_rules_book.specs.Typings.{moves_left, moves_right}
use Rattle.vk_meaning.specs.World.{Array}
use Rattle.vk_meaning.specs.Data.{Datum, number, number_in, Action, given, and_then, then_number}
use Rattle.vk_meaning.specs.Expressions.{answered, truth_of, integers_value, moved_by, operator_value, integer_type}
use Rattle.vk_reading.specs.declared.held.Held.{Held}
use Rattle.vk_reading.specs.declared.held.Halt.{Halt}
use Rattle.vk_reading.specs.Held.{datum_of}
use Rattle.vk_reading_steps.specs.Runs.{Run, Does, Adds, GoesOn}
use Rattle.vk_reading_steps.specs.Deciding.{decided_by}
use Rattle.vk_reading_steps.proofs.Steps.{does_then, does_fail, does_settled}
use Rattle.vk_reading_steps.proofs.Adds.{adds_given, adds_number, adds_cond, adds_answered, adds_moved_by}

-- ---- operators on numbers

-- goes on with the second operand
abbrev with_second : BinOp → Ty → Ty → Action → Datum → Action
with_second op s t right d = and_then right (λ e. answered (binary_number op s t (number_in d) (number_in e)))

-- what is done behind the first operand
abbrev after_first : BinOp → Ty → Ty → Action → Datum → Action
after_first LogAnd s t right d = cond (is_on (number_in d)) (truth_of right) (given (number (pos 0)))
after_first LogOr s t right d = cond (is_on (number_in d)) (given (number (pos 1))) (truth_of right)
after_first Add s t right d = with_second Add s t right d
after_first Sub s t right d = with_second Sub s t right d
after_first Mul s t right d = with_second Mul s t right d
after_first Div s t right d = with_second Div s t right d
after_first Rem s t right d = with_second Rem s t right d
after_first And s t right d = with_second And s t right d
after_first Or s t right d = with_second Or s t right d
after_first Xor s t right d = with_second Xor s t right d
after_first Shl s t right d = with_second Shl s t right d
after_first Shr s t right d = with_second Shr s t right d
after_first Eq s t right d = with_second Eq s t right d
after_first Ne s t right d = with_second Ne s t right d
after_first Lt s t right d = with_second Lt s t right d
after_first Le s t right d = with_second Le s t right d
after_first Gt s t right d = with_second Gt s t right d
after_first Ge s t right d = with_second Ge s t right d

first_then : (op : BinOp) (s t : Ty) (left right : Action) → and_then left (after_first op s t right) ≡ integers_value op s t left right
first_then LogAnd s t left right = refl
first_then LogOr s t left right = refl
first_then Add s t left right = refl
first_then Sub s t left right = refl
first_then Mul s t left right = refl
first_then Div s t left right = refl
first_then Rem s t left right = refl
first_then And s t left right = refl
first_then Or s t left right = refl
first_then Xor s t left right = refl
first_then Shl s t left right = refl
first_then Shr s t left right = refl
first_then Eq s t left right = refl
first_then Ne s t left right = refl
first_then Lt s t left right = refl
first_then Le s t left right = refl
first_then Gt s t left right = refl
first_then Ge s t left right = refl

adds_truth : {a : Action} → Adds a → Adds (truth_of a)
adds_truth h = adds_number h (λ z. adds_given (number (truth (is_on z))))

adds_second : (op : BinOp) (s t : Ty) {right : Action} → Adds right → (d : Datum) → Adds (with_second op s t right d)
adds_second op s t h d = adds_number h (λ y. adds_answered (binary_number op s t (number_in d) y))

adds_first : (op : BinOp) (s t : Ty) {right : Action} → Adds right → (d : Datum) → Adds (after_first op s t right d)
adds_first LogAnd s t h d = adds_cond (is_on (number_in d)) (adds_truth h) (adds_given (number (pos 0)))
adds_first LogOr s t h d = adds_cond (is_on (number_in d)) (adds_given (number (pos 1))) (adds_truth h)
adds_first Add s t h d = adds_second Add s t h d
adds_first Sub s t h d = adds_second Sub s t h d
adds_first Mul s t h d = adds_second Mul s t h d
adds_first Div s t h d = adds_second Div s t h d
adds_first Rem s t h d = adds_second Rem s t h d
adds_first And s t h d = adds_second And s t h d
adds_first Or s t h d = adds_second Or s t h d
adds_first Xor s t h d = adds_second Xor s t h d
adds_first Shl s t h d = adds_second Shl s t h d
adds_first Shr s t h d = adds_second Shr s t h d
adds_first Eq s t h d = adds_second Eq s t h d
adds_first Ne s t h d = adds_second Ne s t h d
adds_first Lt s t h d = adds_second Lt s t h d
adds_first Le s t h d = adds_second Le s t h d
adds_first Gt s t h d = adds_second Gt s t h d
adds_first Ge s t h d = adds_second Ge s t h d

Some≢None : {A P : Type 0} {x : A} → Some x ≡ None → P
Some≢None {x = x} e = absurd (none-some x (sym e))

-- where the first operand decides
and_decided : (on : Bool) (a : Action) {d : Datum} → Some d ≡ decided_by LogAnd on → cond on a (given (number (pos 0))) ≡ given d
and_decided true a e = Some≢None e
and_decided false a e = ap given (sym (same_Some _ _ e))

or_decided : (on : Bool) (a : Action) {d : Datum} → Some d ≡ decided_by LogOr on → cond on (given (number (pos 1))) a ≡ given d
or_decided true a e = ap given (sym (same_Some _ _ e))
or_decided false a e = Some≢None e

decided_first : (op : BinOp) (s t : Ty) (right : Action) (first : Datum) {d : Datum} → Some d ≡ decided_by op (is_on (number_in first)) → after_first op s t right first ≡ given d
decided_first LogAnd s t right first e = and_decided (is_on (number_in first)) (truth_of right) e
decided_first LogOr s t right first e = or_decided (is_on (number_in first)) (truth_of right) e
decided_first Add s t right first e = Some≢None e
decided_first Sub s t right first e = Some≢None e
decided_first Mul s t right first e = Some≢None e
decided_first Div s t right first e = Some≢None e
decided_first Rem s t right first e = Some≢None e
decided_first And s t right first e = Some≢None e
decided_first Or s t right first e = Some≢None e
decided_first Xor s t right first e = Some≢None e
decided_first Shl s t right first e = Some≢None e
decided_first Shr s t right first e = Some≢None e
decided_first Eq s t right first e = Some≢None e
decided_first Ne s t right first e = Some≢None e
decided_first Lt s t right first e = Some≢None e
decided_first Le s t right first e = Some≢None e
decided_first Gt s t right first e = Some≢None e
decided_first Ge s t right first e = Some≢None e

-- where it does not decide
and_open : (on : Bool) (a b : Action) → None ≡ decided_by LogAnd on → a ≡ cond on a b
and_open true a b e = refl
and_open false a b e = Some≢None (sym e)

or_open : (on : Bool) (a b : Action) → None ≡ decided_by LogOr on → a ≡ cond on b a
or_open true a b e = Some≢None (sym e)
or_open false a b e = refl

second_first : (op : BinOp) (s t : Ty) (right : Action) (first : Datum) → None ≡ decided_by op (is_on (number_in first)) → with_second op s t right first ≡ after_first op s t right first
second_first LogAnd s t right first e = and_open (is_on (number_in first)) (truth_of right) (given (number (pos 0))) e
second_first LogOr s t right first e = or_open (is_on (number_in first)) (truth_of right) (given (number (pos 1))) e
second_first Add s t right first e = refl
second_first Sub s t right first e = refl
second_first Mul s t right first e = refl
second_first Div s t right first e = refl
second_first Rem s t right first e = refl
second_first And s t right first e = refl
second_first Or s t right first e = refl
second_first Xor s t right first e = refl
second_first Shl s t right first e = refl
second_first Shr s t right first e = refl
second_first Eq s t right first e = refl
second_first Ne s t right first e = refl
second_first Lt s t right first e = refl
second_first Le s t right first e = refl
second_first Gt s t right first e = refl
second_first Ge s t right first e = refl

-- ---- sums with a pointer

by_test : (b : Bool) (x y : Action) → b ≡ true → x ≡ cond b x y
by_test true x y e = refl
by_test false x y e = absurd (true≢false (sym e))

by_no_test : (b : Bool) (x y : Action) → b ≡ false → y ≡ cond b x y
by_no_test false x y e = refl
by_no_test true x y e = absurd (true≢false e)

-- ---- what the code does of them

module _ {arrays : List Array} {b : Run} (op : BinOp) where
  -- on numbers
  module _ (s t : Ty) where
    integers_failed : {m : Run} {left right : Action} {x : Halt} → Adds right → Does arrays b left m (Err x) → Does arrays b (integers_value op s t left right) m (Err x)
    integers_failed {m = m} {left = left} {right = right} {x = x} a d =
        subst (λ (f : Action). Does arrays b f m (Err x)) (first_then op s t left right) (does_fail (after_first op s t right) (adds_first op s t a) d)

    integers_decided : {m : Run} {left : Action} (right : Action) {h v : Held} → Some (datum_of v) ≡ decided_by op (is_on (number_in (datum_of h))) →
        Does arrays b left m (Ok h) → Does arrays b (integers_value op s t left right) m (Ok v)
    integers_decided {m = m} {left = left} right {h = h} {v = v} e d = subst (λ (f : Action). Does arrays b f m (Ok v)) (first_then op s t left right)
        (does_then (after_first op s t right) d (subst (λ (f : Action). Does arrays m f m (Ok v)) (sym (decided_first op s t right (datum_of h) e))
        (does_settled m (given (datum_of v)) (Ok v) (λ start w k. refl))))

    integers_both : {m n : Run} {left right : Action} {h : Held} {y r : Result Held Halt} → None ≡ decided_by op (is_on (number_in (datum_of h))) →
        Does arrays b left m (Ok h) → Does arrays m right n y →
        GoesOn arrays n y (λ d. answered (binary_number op s t (number_in (datum_of h)) (number_in d))) r → Does arrays b (integers_value op s t left right) n r
    integers_both {m = m} {n = n} {left = left} {right = right} {h = h} {r = r} e d f g = subst (λ (a : Action). Does arrays b a n r) (first_then op s t left right)
        (does_then (after_first op s t right) d (subst (λ (a : Action). Does arrays m a n r) (second_first op s t right (datum_of h) e) (g.goes m right f)))

  -- with a pointer
  module _ (s t : Typing) where
    pub left_moves : {m n : Run} {left right : Action} {p : Held} {y r : Result Held Halt} → moves_left op s ≡ true → Does arrays b left m (Ok p) → Does arrays m right n y →
        GoesOn arrays n y (λ d. moved_by op (datum_of p) (number_in d)) r → Does arrays b (operator_value op s t left right) n r
    left_moves {m = m} {n = n} {right = right} {r = r} h d e g = subst (λ (a : Action). Does arrays b a n r) (by_test (moves_left op s) _ _ h)
        (does_then (λ q. then_number right (moved_by op q)) d (g.goes m right e))

    pub left_failed : {m : Run} {left right : Action} {x : Halt} → moves_left op s ≡ true → Adds right → Does arrays b left m (Err x) →
        Does arrays b (operator_value op s t left right) m (Err x)
    left_failed {m = m} {right = right} {x = x} h a d = subst (λ (f : Action). Does arrays b f m (Err x)) (by_test (moves_left op s) _ _ h)
        (does_fail (λ q. then_number right (moved_by op q)) (λ q. adds_number a (λ z. adds_moved_by op q z)) d)

    pub right_moves : {m n : Run} {left right : Action} {p : Held} {y r : Result Held Halt} → moves_left op s ≡ false → moves_right op s t ≡ true →
        Does arrays b right m (Ok p) → Does arrays m left n y →
        GoesOn arrays n y (λ d. moved_by op (datum_of p) (number_in d)) r → Does arrays b (operator_value op s t left right) n r
    right_moves {m = m} {n = n} {left = left} {r = r} h k d e g =
        subst (λ (a : Action). Does arrays b a n r) (by_test (moves_right op s t) _ _ k ∙ by_no_test (moves_left op s) _ _ h)
        (does_then (λ q. then_number left (moved_by op q)) d (g.goes m left e))

    pub right_failed : {m : Run} {left right : Action} {x : Halt} → moves_left op s ≡ false → moves_right op s t ≡ true → Adds left → Does arrays b right m (Err x) →
        Does arrays b (operator_value op s t left right) m (Err x)
    right_failed {m = m} {left = left} {x = x} h k a d =
        subst (λ (f : Action). Does arrays b f m (Err x)) (by_test (moves_right op s t) _ _ k ∙ by_no_test (moves_left op s) _ _ h)
        (does_fail (λ q. then_number left (moved_by op q)) (λ q. adds_number a (λ z. adds_moved_by op q z)) d)

    -- none is a pointer
    none_moves : {c : Run} (left right : Action) {r : Result Held Halt} → moves_left op s ≡ false → moves_right op s t ≡ false →
        Does arrays b (integers_value op (integer_type s) (integer_type t) left right) c r → Does arrays b (operator_value op s t left right) c r
    none_moves {c = c} left right {r = r} h k d = subst (λ (a : Action). Does arrays b a c r) (by_no_test (moves_right op s t) _ _ k ∙ by_no_test (moves_left op s) _ _ h) d

    pub numbers_failed : {m : Run} {left right : Action} {x : Halt} → moves_left op s ≡ false → moves_right op s t ≡ false → Adds right → Does arrays b left m (Err x) →
        Does arrays b (operator_value op s t left right) m (Err x)
    numbers_failed h k a d = none_moves _ _ h k (integers_failed (integer_type s) (integer_type t) a d)

    pub numbers_decided : {m : Run} {left : Action} (right : Action) {h v : Held} → moves_left op s ≡ false → moves_right op s t ≡ false →
        Some (datum_of v) ≡ decided_by op (is_on (number_in (datum_of h))) →
        Does arrays b left m (Ok h) → Does arrays b (operator_value op s t left right) m (Ok v)
    numbers_decided right i k e d = none_moves _ right i k (integers_decided (integer_type s) (integer_type t) right e d)

    pub numbers_both : {m n : Run} {left right : Action} {h : Held} {y r : Result Held Halt} {u v : Ty} → u ≡ integer_type s → v ≡ integer_type t →
        moves_left op s ≡ false → moves_right op s t ≡ false → None ≡ decided_by op (is_on (number_in (datum_of h))) →
        Does arrays b left m (Ok h) → Does arrays m right n y → GoesOn arrays n y (λ d. answered (binary_number op u v (number_in (datum_of h)) (number_in d))) r →
        Does arrays b (operator_value op s t left right) n r
    numbers_both {n = n} {left = left} {right = right} {h = h} {y = y} {r = r} {u = u} {v = v} su tv i k e d f g =
        none_moves left right i k (integers_both (integer_type s) (integer_type t) e d f
        (subst (λ (x : Ty). GoesOn arrays n y (λ d. answered (binary_number op x (integer_type t) (number_in (datum_of h)) (number_in d))) r) su
        (subst (λ (x : Ty). GoesOn arrays n y (λ d. answered (binary_number op u x (number_in (datum_of h)) (number_in d))) r) tv g)))

-- ---- tests

pub left_is : (op : BinOp) {s s' : Typing} {r b : Bool} → s ≡ s' → r ≡ moves_left op s → r ≡ b → moves_left op s' ≡ b
left_is op e h k = ap (moves_left op) (sym e) ∙ sym h ∙ k

pub right_is : (op : BinOp) {s s' t t' : Typing} {r b : Bool} → s ≡ s' → t ≡ t' → r ≡ moves_right op s t → r ≡ b → moves_right op s' t' ≡ b
right_is op {s' = s'} {t = t} e f h k = ap (moves_right op s') (sym f) ∙ ap (λ (x : Typing). moves_right op x t) (sym e) ∙ sym h ∙ k

pub on_is : {z w : ℤ} {r b : Bool} → z ≡ w → r ≡ is_on z → r ≡ b → is_on w ≡ b
on_is e h k = ap is_on (sym e) ∙ sym h ∙ k
