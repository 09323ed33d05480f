-- Runs of digits that come byte by byte: what is judged where they end.
use Rattle.std.proofs.Common.{◌≡◌, ℕ, suc, ◌+◌, ◌-◌, min, Bool, true, false, ◌||◌, ◌&&◌, cond, ltb, eqb, List, [], ◌∷◌, ◌++◌, length, Option, Some, Result, Ok, Err, refl, sym, ap, ◌∙◌, arith, length-append, append_assoc, pos, negsuc}
use Rattle.std.specs.Char.{is_ascii_digit}
use Rattle.std.specs.Int.{is_power_of_two}
use Rattle.std.specs.List.{list_all}
use Rattle.std.proofs.lemmas.Bool.{le-ltb, lt-ltb, eq-eqb, ne_eqb, and_from, and_parts, false≢true}
use Rattle.vk_kinds.specs.declared.kinds.Step.{Step}
use Rattle.vk_kinds.specs.declared.kinds.Step.TheVariants.{By, Arg}
use Rattle.vk_names.specs.declared.rules.NameRule.{NameRule}
use Rattle.vk_names.specs.declared.rules.NameRule.TheVariants.{N6, N8}
use Rattle.vk_names.specs.declared.rules.NameFault.{NameFault}
use Rattle.vk_names.proofs.Reading.{Stop}
use Rattle.vk_names.specs.declared.steps.Run.{Run}
use Rattle.vk_names.specs.declared.steps.Form.{Form}
use Rattle.vk_names.specs.declared.steps.Form.TheVariants.{Plain, Negative, Position}
use Rattle.vk_names.specs.Refusal.{Ends}
use Rattle.vk_names.specs.Pieces.{told_at}
use Rattle.vk_names.proofs.Reading.{◌>>=◌, refuse, digits_after, digits_at, has_zero, number_at, position_at, power_at}
use Rattle.vk_names.specs.Inner.Steps.{on_ok, run_from, with_byte, number_of, position_of, align_of, step_of_run}
use Rattle.vk_names.proofs.Standing.{RunIs, form_at}

pub run_begins : (place at : ℕ) → place ≡ told_at at → RunIs (run_from place) at []
unfolding digits_at
run_begins place at is = record { place = is; len = refl; zero = refl; digits = refl; value = λ rest. refl }

all_more : (ds : List ℕ) (b : ℕ) → list_all is_ascii_digit ds ≡ true → is_ascii_digit b ≡ true → list_all is_ascii_digit (ds ++ (b ∷ [])) ≡ true
all_more [] b all digit = and_from (is_ascii_digit b) true digit refl
all_more (d ∷ ds) b all digit =
    let p = and_parts (is_ascii_digit d) (list_all is_ascii_digit ds) all in
    and_from (is_ascii_digit d) (list_all is_ascii_digit (ds ++ (b ∷ []))) p.0 (all_more ds b p.1 digit)

zero_more : (ds : List ℕ) (b len : ℕ) (zero : Bool) → len ≡ told_at (length ds) → zero ≡ has_zero ds → cond (eqb len 0) (eqb b 48) zero ≡ has_zero (ds ++ (b ∷ []))
zero_more [] b len first is same = rw (eq-eqb len 0 is) refl
zero_more (d ∷ ds) b len first is same = rw (ne_eqb len 0 (λ none. omega (arith, is, none))) same

pub run_more : (run : Run) (at : ℕ) (ds : List ℕ) (b : ℕ) → RunIs run at ds → is_ascii_digit b ≡ true → RunIs (with_byte run b) at (ds ++ (b ∷ []))
run_more run at ds b r digit =
    let len = r.len in
    record {
      place = r.place;
      len = omega (arith, len, length-append ds (b ∷ []));
      zero = zero_more ds b run.len run.zero r.len r.zero;
      digits = all_more ds b r.digits digit;
      value = λ rest. ap digits_at (append_assoc ds (b ∷ []) rest) ∙ r.value (b ∷ rest) ∙ rw digit refl;
    }

-- ---- where a run ends

after_ends : (n : ℕ) (rest : List ℕ) → Ends is_ascii_digit rest → digits_after n rest ≡ (n, rest)
after_ends n [] stops = refl
after_ends n (b ∷ bs) stops = rw stops refl

pub run_read : (run : Run) (at : ℕ) (ds rest : List ℕ) → RunIs run at ds → Ends is_ascii_digit rest → digits_at (ds ++ rest) ≡ (run.value, rest)
run_read run at ds rest r stops = r.value rest ∙ after_ends run.value rest stops

no_zero : (rest : List ℕ) → Ends is_ascii_digit rest → has_zero rest ≡ false
no_zero [] stops = refl
no_zero (b ∷ bs) stops = ne_eqb b 48 (λ is. false≢true (sym stops ∙ ap is_ascii_digit is))

zero_read : (ds rest : List ℕ) → Ends is_ascii_digit rest → has_zero (ds ++ rest) ≡ has_zero ds
zero_read [] rest stops = no_zero rest stops
zero_read (d ∷ ds) rest stops = refl

-- a run that is judged by a test: the value with what follows, or a refusal
pub data Judged (A B : Type 0) (view : A → List ℕ → B) (at : ℕ) (rule : NameRule) (bytes rest : List ℕ) : Result A NameFault → Result B Stop → Type 0 where
  passes : (x : A) → Judged A B view at rule bytes rest (Ok x) (Ok (view x rest))
  fails : Judged A B view at rule bytes rest (Err (record { at = at; rule = rule })) (Err (record { left = length bytes; rule = rule }))

abbrev pub Numbers : ℕ → NameRule → List ℕ → List ℕ → Result ℕ NameFault → Result (ℕ × List ℕ) Stop → Type 0
Numbers at rule bytes rest = Judged ℕ (ℕ × List ℕ) (λ n t. (n, t)) at rule bytes rest

judged_by : (test : Bool) (n at : ℕ) (rule : NameRule) (bytes rest : List ℕ)
    → Numbers at rule bytes rest (cond test (Err (record { at = at; rule = rule })) (Ok n)) (cond test (refuse rule bytes) (Ok (n, rest)))
judged_by true n at rule bytes rest = fails
judged_by false n at rule bytes rest = passes n

pub number_judged : (low high : ℕ) (rule : NameRule) (run : Run) (at : ℕ) (ds rest : List ℕ) → RunIs run at ds → Ends is_ascii_digit rest
    → Numbers run.at rule (ds ++ rest) rest (number_of low high rule run) (number_at low high rule (ds ++ rest))
unfolding number_at
number_judged low high rule run at ds rest r stops =
    let zero : has_zero (ds ++ rest) ≡ run.zero = zero_read ds rest stops ∙ sym r.zero in
    rw (run_read run at ds rest r stops, zero) (judged_by (run.zero || (ltb run.value low || ltb high run.value)) run.value run.at rule (ds ++ rest) rest)

-- ---- positions

same_tests : (ds rest : List ℕ) (len : ℕ) → len ≡ told_at (length ds) → (eqb (length rest) (length (ds ++ rest)) ≡ eqb len 0) × (ltb (length rest + 1) (length (ds ++ rest)) ≡ ltb 1 len)
same_tests [] rest len is = (eq-eqb _ _ refl ∙ sym (eq-eqb len 0 is), le-ltb (length rest + 1) (length rest) (omega arith) ∙ sym (le-ltb 1 len (omega (arith, is))))
same_tests (d ∷ []) rest len is = (
  ne_eqb (length rest) (suc (length rest)) (λ e. omega (arith, e)) ∙ sym (ne_eqb len 0 (λ e. omega (arith, is, e))),
  le-ltb (length rest + 1) (suc (length rest)) (omega arith) ∙ sym (le-ltb 1 len (omega (arith, is))),
)
same_tests (d ∷ e ∷ ds) rest len is =
    let both = length-append ds rest in (
      ne_eqb (length rest) (suc (suc (length (ds ++ rest)))) (λ e. omega (arith, e, both)) ∙ sym (ne_eqb len 0 (λ e. omega (arith, is, e))),
      lt-ltb (length rest + 1) (suc (suc (length (ds ++ rest)))) (omega (arith, both)) ∙ sym (lt-ltb 1 len (omega (arith, is))),
    )

pub position_judged : (run : Run) (at : ℕ) (ds rest : List ℕ) → RunIs run at ds → Ends is_ascii_digit rest → Numbers run.at N6 (ds ++ rest) rest (position_of run) (position_at (ds ++ rest))
unfolding position_at
position_judged run at ds rest r stops =
    let zero : has_zero (ds ++ rest) ≡ run.zero = zero_read ds rest stops ∙ sym r.zero in
    let tests = same_tests ds rest run.len r.len in
    rw (run_read run at ds rest r stops, zero, tests.0, tests.1) (judged_by (eqb run.len 0 || (run.zero && ltb 1 run.len)) (min run.value 255) run.at N6 (ds ++ rest) rest)

-- ---- alignments

abbrev pub Aligns : ℕ → List ℕ → List ℕ → Result ℕ NameFault → Result (Option ℕ × List ℕ) Stop → Type 0
Aligns at bytes rest = Judged ℕ (Option ℕ × List ℕ) (λ n t. (Some n, t)) at N8 bytes rest

power_judged : (at : ℕ) (bytes rest : List ℕ) (x : Result ℕ NameFault) (y : Result (ℕ × List ℕ) Stop) → Numbers at N8 bytes rest x y
    → Aligns at bytes rest (on_ok x (λ n. cond (is_power_of_two n) (Ok n) (Err (record { at = at; rule = N8 })))) (y >>= λ n. cond (is_power_of_two n.0) (Ok (Some n.0, n.1)) (refuse N8 bytes))
power_judged at bytes rest x y fails = fails
power_judged at bytes rest x y (passes n) = by_test (is_power_of_two n) n
  where
    by_test : (test : Bool) (n : ℕ) → Aligns at bytes rest (cond test (Ok n) (Err (record { at = at; rule = N8 }))) (cond test (Ok (Some n, rest)) (refuse N8 bytes))
    by_test true n = passes n
    by_test false n = fails

pub align_judged : (run : Run) (at : ℕ) (ds rest : List ℕ) → RunIs run at ds → Ends is_ascii_digit rest → Aligns run.at (ds ++ rest) rest (align_of run) (power_at (ds ++ rest))
align_judged run at ds rest r stops = power_judged run.at (ds ++ rest) rest (number_of 1 65536 N8 run) (number_at 1 65536 N8 (ds ++ rest)) (number_judged 1 65536 N8 run at ds rest r stops)

-- ---- steps

abbrev pub Steps : ℕ → List ℕ → List ℕ → Result Step NameFault → Result (Step × List ℕ) Stop → Type 0
Steps at bytes rest = Judged Step (Step × List ℕ) (λ s t. (s, t)) at N6 bytes rest

mapped : (f : ℕ → Step) (at : ℕ) (bytes rest : List ℕ) (x : Result ℕ NameFault) (y : Result (ℕ × List ℕ) Stop) → Numbers at N6 bytes rest x y
    → Steps at bytes rest (on_ok x (λ n. Ok (f n))) (y >>= λ n. Ok (f n.0, n.1))
mapped f at bytes rest x y fails = fails
mapped f at bytes rest x y (passes n) = passes (f n)

pub step_judged : (form : Form) (run : Run) (at : ℕ) (ds rest : List ℕ) → RunIs run at ds → Ends is_ascii_digit rest → Steps run.at (ds ++ rest) rest (step_of_run form run) (form_at form (ds ++ rest))
step_judged Plain run at ds rest r stops = mapped (λ n. By (pos n)) run.at (ds ++ rest) rest _ _ (number_judged 2 2147483647 N6 run at ds rest r stops)
step_judged Negative run at ds rest r stops = mapped (λ n. By (negsuc (n - 1))) run.at (ds ++ rest) rest _ _ (number_judged 1 2147483647 N6 run at ds rest r stops)
step_judged Position run at ds rest r stops = mapped (λ n. Arg n) run.at (ds ++ rest) rest _ _ (position_judged run at ds rest r stops)
