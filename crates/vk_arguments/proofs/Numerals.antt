-- The integers that a text writes.
use Rattle.std.proofs.Common.{◌≡◌, ℕ, ◌<◌, ◌≤◌, ◌≢◌, ◌^◌, List, [], ◌∷◌, length, get_or, cond, eqb, refl, ap, arith, Option, Some, None, sym, ◌∙◌, true, false, Ok, Err, Result, ℤ, pos, neg_ℤ, subst, inl, inr, zero, suc, OkIff, Bool, option_map, option_and_then}
use Rattle.std.proofs.lemmas.Bool.Decides.{nat_tests}
use Rattle.std.proofs.lemmas.Bool.{cases_eq}
use Rattle.std.proofs.lemmas.Str.Parse.{IsNumeralModel, numerals_by_value, tells_all_ascii_digits, parse_signed_minus, parse_signed_plain}
use Rattle.std.specs.Result.{result_ok}
use Rattle.std.specs.Str.{all_ascii_digits}
use Rattle.std.specs.Str.Parse.{digits_value, ParsesSigned}
use mir.Syntax.{w128}
use Rattle.vk_types.specs.declared.types.Ty.{Ty}
use Rattle.vk_types.specs.Numbers.{IsInRange}
use Rattle.vk_arguments.proofs.Ranges.{if_wide, narrow, range_told}
use Rattle.vk_arguments.specs.Integers.{if_in_range, integer_of_text, is_in_range, natural_of, number_in}

own : IsNumeralModel (λ ds. all_ascii_digits ds ≡ true) (digits_value 10)
own = numerals_by_value _ tells_all_ascii_digits

-- where the number has 128 bits
if_wide_minus : (n : ℕ) → n ≤ 2 ^ 127 → if_wide (neg_ℤ (pos n)) ≡ Some (neg_ℤ (pos n))
if_wide_minus zero h = refl
if_wide_minus (suc n) h = grind (arith, nat_tests)

if_wide_below : (n : ℕ) → 2 ^ 127 < n → if_wide (neg_ℤ (pos n)) ≡ None
if_wide_below zero h = absurd (omega arith)
if_wide_below (suc n) h = grind (arith, nat_tests)

if_wide_plus : (n : ℕ) → n < 2 ^ 127 → if_wide (pos n) ≡ Some (pos n)
if_wide_plus n h = grind (arith, nat_tests)

if_wide_above : (n : ℕ) → 2 ^ 127 ≤ n → if_wide (pos n) ≡ None
if_wide_above n h = grind (arith, nat_tests)

-- a text of digits, and one that is not
natural_of-digits : (ds : List ℕ) → all_ascii_digits ds ≡ true → 0 < length ds → natural_of ds ≡ Some (digits_value 10 ds)
natural_of-digits [] digits h = absurd (omega arith)
natural_of-digits (c ∷ cs) digits h = ap (λ (b : Bool). cond b (Some (digits_value 10 (c ∷ cs))) None) digits

-- the number of a text that is a number where the test passes, and none elsewhere
from_test : (b : Bool) (n : ℕ) (P : ℕ → Type 0) (f : ℕ → ℤ) → ((n : ℕ) → (P n → ⊥) → if_wide (f n) ≡ None) → ((b ≡ true) × P n → ⊥) →
    option_and_then if_wide (option_map f (cond b (Some n) None)) ≡ None
from_test true n P f none h = none n (λ p. h (refl, p))
from_test false n P f none h = refl

natural_none : (ds : List ℕ) (P : ℕ → Type 0) (f : ℕ → ℤ) → ((n : ℕ) → (P n → ⊥) → if_wide (f n) ≡ None) →
    ((all_ascii_digits ds ≡ true) × (0 < length ds) × P (digits_value 10 ds) → ⊥) → option_and_then if_wide (option_map f (natural_of ds)) ≡ None
natural_none [] P f none h = refl
natural_none (c ∷ cs) P f none h = from_test (all_ascii_digits (c ∷ cs)) (digits_value 10 (c ∷ cs)) P f none (λ p. h (p.0, omega arith, p.1))

natural_read : {E : Type 0} (ds : List ℕ) (P : ℕ → Type 0) (f : ℕ → ℤ) (r : Result ℤ E) → ((n : ℕ) → P n → if_wide (f n) ≡ Some (f n)) → ((n : ℕ) → (P n → ⊥) → if_wide (f n) ≡ None) →
    OkIff r ((all_ascii_digits ds ≡ true) × (0 < length ds) × P (digits_value 10 ds)) (f (digits_value 10 ds)) →
    result_ok r ≡ option_and_then if_wide (option_map f (natural_of ds))
natural_read ds P f (Ok x) some none h =
    ap Some h.1 ∙ sym (some (digits_value 10 ds) (h.0).2) ∙ sym (ap (λ o. option_and_then if_wide (option_map f o)) (natural_of-digits ds (h.0).0 (h.0).1))
natural_read ds P f (Err e) some none h = sym (natural_none ds P f none h)

minus_read : {E : Type 0} (ds : List ℕ) (r : Result ℤ E) →
    OkIff r ((all_ascii_digits ds ≡ true) × (0 < length ds) × (digits_value 10 ds ≤ 2 ^ 127)) (neg_ℤ (pos (digits_value 10 ds))) →
    result_ok r ≡ option_and_then if_wide (option_map (λ n. neg_ℤ (pos n)) (natural_of ds))
minus_read ds r h = natural_read ds (λ n. n ≤ 2 ^ 127) (λ n. neg_ℤ (pos n)) r if_wide_minus (λ n no. if_wide_below n (omega arith)) h

plus_read : {E : Type 0} (ds : List ℕ) (r : Result ℤ E) →
    OkIff r ((all_ascii_digits ds ≡ true) × (0 < length ds) × (digits_value 10 ds < 2 ^ 127)) (pos (digits_value 10 ds)) →
    result_ok r ≡ option_and_then if_wide (option_map pos (natural_of ds))
plus_read ds r h = natural_read ds (λ n. n < 2 ^ 127) pos r if_wide_plus (λ n no. if_wide_above n (omega arith)) h

sign : (c : ℕ) (x y : Option ℤ) → c ≡ 45 → x ≡ cond (eqb c 45) x y
sign c x y h = grind (arith, nat_tests)

no_sign : (c : ℕ) (x y : Option ℤ) → c ≢ 45 → y ≡ cond (eqb c 45) x y
no_sign c x y h = grind (arith, nat_tests)

-- what `parse` reads in a text that has no '+' in front
integer_parsed : {E : Type 0} (bs : List ℕ) (r : Result ℤ E) → ParsesSigned w128 10 bs r → get_or bs 0 0 ≢ 43 → result_ok r ≡ option_and_then if_wide (integer_of_text bs)
integer_parsed [] r parsed plain = plus_read [] r (parse_signed_plain own w128 [] r parsed plain (λ e. omega arith))
integer_parsed (c ∷ cs) r parsed plain = elim (cases_eq c 45) [
  | inl e ↦ minus_read cs r (parse_signed_minus own w128 (c ∷ cs) r parsed e)
      ∙ ap (option_and_then if_wide) (sign c (option_map (λ n. neg_ℤ (pos n)) (natural_of cs)) (option_map pos (natural_of (c ∷ cs))) e)
  | inr n ↦ plus_read (c ∷ cs) r (parse_signed_plain own w128 (c ∷ cs) r parsed plain n)
      ∙ ap (option_and_then if_wide) (no_sign c (option_map (λ n. neg_ℤ (pos n)) (natural_of cs)) (option_map pos (natural_of (c ∷ cs))) n)
]

-- the number of the type that it has
pub number_read : {E : Type 0} (t : Ty) (bs : List ℕ) (r : Result ℤ E) → ParsesSigned w128 10 bs r → get_or bs 0 0 ≢ 43 → option_and_then (if_in_range t) (result_ok r) ≡ number_in t bs
number_read t bs r parsed plain = ap (option_and_then (if_in_range t)) (integer_parsed bs r parsed plain) ∙ narrow t (integer_of_text bs)

-- they are of the type
if_in_range_only : (t : Ty) (b : Bool) (x z : ℤ) → (b ≡ true → IsInRange t x) → cond b (Some x) None ≡ Some z → IsInRange t z
if_in_range_only t true x z h e = let same : x ≡ z = cc in subst (IsInRange t) same (h refl)
if_in_range_only t false x z h e = cc

pub number_in_range : (t : Ty) (o : Option ℤ) (z : ℤ) → option_and_then (if_in_range t) o ≡ Some z → IsInRange t z
number_in_range t None z e = cc
number_in_range t (Some x) z e = if_in_range_only t (is_in_range t x) x z (range_told t x) e
