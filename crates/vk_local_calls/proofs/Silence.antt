-- Evaluations without events.
use Rattle.std.proofs.Common.{◌≡◌, ℕ, Bool, true, false, cond, List, Option, Some, None, ℤ, pos, neg_ℤ, ◌+ℤ◌, Result, Ok, Err, refl, ◌∙◌}
use Rattle.vk_types.specs.declared.types.Ty.{Ty}
use Rattle.vk_types.specs.declared.types.Stop.{Stop}
use Rattle.vk_types.specs.Numbers.{wrap_number}
use Rattle.vk_types.specs.Operators.{truth}
use Rattle.vk_ast.specs.declared.expressions.BinOp.{BinOp}
use Rattle.vk_ast.specs.declared.expressions.BinOp.TheVariants.{Sub, LogAnd, LogOr}
use Rattle.vk_numbers.specs.Operators.{is_on, binary_number}
use Rattle.vk_rules_book.specs.declared.typings.Typing.{Typing}
use Rattle.vk_rules_book.specs.Scopes.{Meaning, an_object, a_function, a_variable}
use Rattle.vk_rules_book.specs.Typings.{moves_left, moves_right}
use Rattle.vk_meaning.specs.World.{Array, World}
use Rattle.vk_meaning.specs.Data.{Datum, number, pointer, nothing, number_in, Value, got, halts, with_value, Action, given, and_then, then_number, fits_offset, pointer_at, moved, named_element, at_element, loaded, stored}
use Rattle.vk_meaning.specs.Expressions.{answered, both, converted, integer_type, integers_value, moved_by, object_value, operator_value, subscripted, truth_of}
use Rattle.vk_lane.specs.Runs.{events_of}

-- it leaves the events as they were
pub record Hushes (action : Action) : Type 0 where
  pub silent : (w : World) → events_of (action w) ≡ w.events

hush_value : (x : Value) (f : Datum → Action) → ((d : Datum) → Hushes (f d)) → events_of (with_value x f) ≡ events_of x
hush_value (got d w) f k = (k d).silent w
hush_value (halts s w) f k = refl

pub hush_then : {a : Action} {f : Datum → Action} → Hushes a → ((d : Datum) → Hushes (f d)) → Hushes (and_then a f)
hush_then {a = a} {f = f} h k = record { silent = λ w. hush_value (a w) f k ∙ h.silent w }

pub hush_number : {a : Action} {f : ℤ → Action} → Hushes a → ((z : ℤ) → Hushes (f z)) → Hushes (then_number a f)
hush_number h k = hush_then h (λ d. k (number_in d))

pub hush_given : (d : Datum) → Hushes (given d)
hush_given d = record { silent = λ w. refl }

pub hush_cond : {a b : Action} (t : Bool) → Hushes a → Hushes b → Hushes (cond t a b)
hush_cond true h k = h
hush_cond false h k = k

pub hush_answered : (r : Result ℤ Stop) → Hushes (answered r)
hush_answered (Ok z) = record { silent = λ w. refl }
hush_answered (Err s) = record { silent = λ w. refl }

hush_pointer_at : (fits : Bool) (a : ℕ) (o : ℤ) → Hushes (pointer_at fits a o)
hush_pointer_at true a o = record { silent = λ w. refl }
hush_pointer_at false a o = record { silent = λ w. refl }

hush_moved : (d : Datum) (n : ℤ) → Hushes (moved d n)
hush_moved (number z) n = record { silent = λ w. refl }
hush_moved (pointer a o) n = record { silent = (hush_pointer_at (fits_offset (o +ℤ n)) a (o +ℤ n)).silent }
hush_moved nothing n = record { silent = λ w. refl }

hush_element : (o : Option ℕ) (next : ℕ → Action) → ((i : ℕ) → Hushes (next i)) → Hushes (at_element o next)
hush_element None next h = record { silent = λ w. refl }
hush_element (Some i) next h = record { silent = (h i).silent }

pub hush_loaded : (arrays : List Array) (t : Ty) (d : Datum) → Hushes (loaded arrays t d)
hush_loaded arrays t d = hush_element (named_element arrays d) _ (λ i. record { silent = λ w. refl })

pub hush_stored : (arrays : List Array) (d : Datum) (z : ℤ) → Hushes (stored arrays d z)
hush_stored arrays d z = hush_element (named_element arrays d) _ (λ i. record { silent = λ w. refl })

pub hush_both : {a b : Action} {f : ℤ → ℤ → Action} → Hushes a → Hushes b → ((x y : ℤ) → Hushes (f x y)) → Hushes (both a b f)
hush_both h k n = hush_number h (λ x. hush_number k (n x))

hush_truth : {b : Action} → Hushes b → Hushes (truth_of b)
hush_truth k = hush_number k (λ y. hush_given (number (truth (is_on y))))

hush_integers : {a b : Action} (op : BinOp) (s t : Ty) → Hushes a → Hushes b → Hushes (integers_value op s t a b)
hush_integers LogAnd s t h k = hush_number h (λ x. hush_cond (is_on x) (hush_truth k) (hush_given (number (pos 0))))
hush_integers LogOr s t h k = hush_number h (λ x. hush_cond (is_on x) (hush_given (number (pos 1))) (hush_truth k))
hush_integers op s t h k = hush_both h k (λ x y. hush_answered (binary_number op s t x y))

hush_moved_by : (op : BinOp) (d : Datum) (n : ℤ) → Hushes (moved_by op d n)
hush_moved_by Sub d n = hush_moved d (neg_ℤ n)
hush_moved_by op d n = hush_moved d n

pub hush_operator : {a b : Action} (op : BinOp) (s t : Typing) → Hushes a → Hushes b → Hushes (operator_value op s t a b)
hush_operator op s t h k =
    hush_cond (moves_left op s) (hush_then h (λ p. hush_number k (λ n. hush_moved_by op p n)))
    (hush_cond (moves_right op s t) (hush_then k (λ p. hush_number h (λ n. hush_moved_by op p n)))
    (hush_integers op (integer_type s) (integer_type t) h k))

pub hush_converted : {a : Action} (t : Ty) → Hushes a → Hushes (converted t a)
hush_converted t h = hush_number h (λ z. hush_given (number (wrap_number t z)))

pub hush_subscripted : {a b : Action} → Hushes a → Hushes b → Hushes (subscripted a b)
hush_subscripted h k = hush_then h (λ p. hush_number k (λ n. hush_moved p n))

pub hush_read : {a : Action} (arrays : List Array) (t : Ty) → Hushes a → Hushes (and_then a (loaded arrays t))
hush_read arrays t h = hush_then h (λ d. hush_loaded arrays t d)

pub hush_object : (arrays : List Array) (a : ℕ) (m : Option Meaning) → Hushes (object_value arrays a m)
hush_object arrays a None = hush_given nothing
hush_object arrays a (Some (a_variable t fixed)) = hush_given nothing
hush_object arrays a (Some (an_object t is_array fixed)) = hush_cond is_array (hush_given (pointer a (pos 0))) (hush_loaded arrays t (pointer a (pos 0)))
hush_object arrays a (Some (a_function r ps is_simd)) = hush_given nothing
