-- The numbers of elements that digits write.
use Rattle.std.proofs.Common.{◌≡◌, ℕ, ◌<◌, ◌≤◌, ◌≢◌, ◌^◌, List, [], ◌∷◌, length, get_or, cond, refl, ap, arith, Option, Some, None, sym, ◌∙◌, true, false, Ok, Err, Result, ℤ, pos, subst, OkIff, Bool, option_map, option_and_then, IfSome, ◌≤ℤ◌, rules}
use Rattle.std.proofs.lemmas.Bool.Decides.{nat_tests}
use Rattle.std.proofs.lemmas.Str.Parse.{IsNumeralModel, numerals_by_value, tells_all_ascii_digits, parse_signed_plain}
use Rattle.std.specs.Result.{result_ok}
use Rattle.std.specs.Str.{all_ascii_digits}
use Rattle.std.specs.Str.Parse.{digits_value, ParsesSigned}
use mir.Syntax.{w32}
use Rattle.vk_arguments.specs.Integers.{natural_of}
use Rattle.vk_pointer_texts.specs.Texts.{steps_of, within}

own : IsNumeralModel (λ ds. all_ascii_digits ds ≡ true) (digits_value 10)
own = numerals_by_value _ tells_all_ascii_digits

within_some : (n : ℕ) → n < 2 ^ 31 → within n ≡ Some n
within_some n h = grind (arith, nat_tests)

within_none : (n : ℕ) → (n < 2 ^ 31 → ⊥) → within n ≡ None
within_none n h = let above : 2 ^ 31 ≤ n = omega arith in grind (arith, nat_tests)

natural_of-digits : (ds : List ℕ) → all_ascii_digits ds ≡ true → 0 < length ds → natural_of ds ≡ Some (digits_value 10 ds)
natural_of-digits [] digits h = absurd (omega arith)
natural_of-digits (c ∷ cs) digits h = ap (λ (b : Bool). cond b (Some (digits_value 10 (c ∷ cs))) None) digits

from_test : (b : Bool) (n : ℕ) → ((b ≡ true) × (n < 2 ^ 31) → ⊥) → option_and_then within (cond b (Some n) None) ≡ None
from_test true n h = within_none n (λ p. h (refl, p))
from_test false n h = refl

no_steps : (ds : List ℕ) → ((all_ascii_digits ds ≡ true) × (0 < length ds) × (digits_value 10 ds < 2 ^ 31) → ⊥) → steps_of ds ≡ None
no_steps [] h = refl
no_steps (c ∷ cs) h = from_test (all_ascii_digits (c ∷ cs)) (digits_value 10 (c ∷ cs)) (λ p. h (p.0, omega arith, p.1))

read : {E : Type 0} (ds : List ℕ) (r : Result ℤ E) →
    OkIff r ((all_ascii_digits ds ≡ true) × (0 < length ds) × (digits_value 10 ds < 2 ^ 31)) (pos (digits_value 10 ds)) → result_ok r ≡ option_map pos (steps_of ds)
read ds (Ok x) h =
    ap Some h.1 ∙ sym (ap (option_map pos) (within_some (digits_value 10 ds) (h.0).2)) ∙ sym (ap (λ o. option_map pos (option_and_then within o)) (natural_of-digits ds (h.0).0 (h.0).1))
read ds (Err e) h = sym (ap (option_map pos) (no_steps ds h))

pub steps_read : {E : Type 0} (ds : List ℕ) (r : Result ℤ E) → ParsesSigned w32 10 ds r → get_or ds 0 0 ≢ 43 → get_or ds 0 0 ≢ 45 → result_ok r ≡ option_map pos (steps_of ds)
steps_read ds r parsed plus minus = read ds r (parse_signed_plain own w32 ds r parsed plus minus)

-- a sign is no digit
pub signed : (ds : List ℕ) (c : ℕ) → get_or ds 0 0 ≡ c → c < 48 → 0 < c → None ≡ option_map pos (steps_of ds)
signed [] c e low some = refl
signed (d ∷ ds) c e low some = sym (ap (option_map pos) (no_steps (d ∷ ds) (λ p. let digits = (tells_all_ascii_digits.parts d ds p.0).0 in absurd (omega arith))))

-- no number of steps is below 0
pub least : (o : Option ℕ) (r : Option ℤ) → r ≡ option_map pos o → IfSome r (λ n. pos 0 ≤ℤ n)
least None None e = tt
least None (Some z) e = cc
least (Some n) None e = tt
least (Some n) (Some z) e = let same : pos n ≡ z = cc in subst (λ x. pos 0 ≤ℤ x) same (search rules)
