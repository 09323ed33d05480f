-- One more byte before the parameters.
use Rattle.std.proofs.Common.{◌≡◌, ℕ, zero, suc, ◌+◌, ◌<◌, ◌≤◌, Bool, true, false, ◌&&◌, cond, eqb, List, [], ◌∷◌, ◌++◌, length, take, Some, Result, Ok, Err, refl, sym, ap, subst, ◌∙◌, arith, length-append, append_assoc}
use Rattle.std.specs.Prelude.{slice_get}
use Rattle.std.specs.Char.{is_ascii_digit}
use Rattle.std.specs.List.{list_all}
use Rattle.std.proofs.lemmas.Bool.{cases_Bool, eqb-true, eqb-false, ne_eqb, and_parts, false≢true}
use Rattle.vk_kinds.specs.declared.kinds.Isa.{Isa}
use Rattle.vk_kinds.specs.declared.kinds.Isa.TheVariants.{B, C, D, E, N, S}
use Rattle.vk_kinds.specs.declared.kinds.Len.{Len}
use Rattle.vk_kinds.specs.declared.kinds.Len.TheVariants.{Fixed, Scalable}
use Rattle.vk_kinds.specs.declared.kinds.Length.{Length}
use Rattle.vk_names.specs.declared.rules.NameRule.{NameRule}
use Rattle.vk_names.specs.declared.rules.NameRule.TheVariants.{N1, N2, N3, N4, N11}
use Rattle.vk_names.specs.declared.rules.NameFault.{NameFault}
use Rattle.vk_names.proofs.Reading.{Stop}
use Rattle.vk_names.specs.declared.steps.Run.{Run}
use Rattle.vk_names.specs.declared.states.State.{State}
use Rattle.vk_names.specs.declared.states.State.TheVariants.{Mark, AtIsa, AtMask, AtLen, LenDigits, Next, Fault}
use Rattle.vk_names.specs.Spelling.{mark, isa_letter, mask_letter, is_name_byte}
use Rattle.vk_names.specs.Refusal.{Ends, wrong_mark}
use Rattle.vk_names.proofs.Reading.{◌>>=◌, number_at, byte_at, mark_at, isa_at, mask_at, fixed_at, len_at, front_at, name_at}
use Rattle.vk_names.specs.Inner.Steps.{is_s}
use Rattle.vk_names.specs.Pieces.{told_at, judges_run}
use Rattle.vk_names.specs.Inner.Steps.{run_from, with_byte, number_of, mark_on, isa_on, mask_on, len_on, size_on, digits_on}
use Rattle.vk_names.proofs.Standing.{RunIs, IsFault, StateIs, reading, fault}
use Rattle.vk_names.proofs.Numbers.{left_or}
use Rattle.vk_names.proofs.Fronts.{stop_at, isa_again, mask_again}
use Rattle.vk_names.proofs.Whole.{name_from_front}
use Rattle.vk_names.proofs.Runs.{passes, fails, Numbers, run_begins, run_more, number_judged}
use Rattle.vk_names.proofs.Due.{placed_fault, stopped_fault, run_fault}
use Rattle.vk_names.proofs.AtNext.{next_is}

-- ---- `_ZGV`

some_is : (a b : ℕ) → Some a ≡ Some b → a ≡ b
some_is a b e = cc

-- the byte after so many of the mark
mark_step : (n b wanted : ℕ) (next : State) → list_all is_name_byte (take n mark ++ (b ∷ [])) ≡ true → n < 4 → slice_get mark n ≡ Some wanted → slice_get (take n mark ++ (b ∷ [])) n ≡ Some b
    → take n (take n mark ++ (b ∷ [])) ≡ take n mark → length (take n mark ++ (b ∷ [])) ≡ n + 1 → ((b ≡ wanted) → StateIs [] (take n mark ++ (b ∷ [])) next)
    → StateIs [] (take n mark ++ (b ∷ [])) (cond (eqb b wanted) next (Fault (record { at = n; rule = N1 })))
mark_step n b wanted next all small here there front len goes =
    left_or (cases_Bool (eqb b wanted))
    (λ yes. rw yes (goes (eqb-true b wanted yes)))
    (λ other. rw other (fault (record { at = n; rule = N1 })
    (placed_fault (take n mark ++ (b ∷ [])) n n N1 all
    (wrong_mark n small front (λ e. eqb-false b wanted other (some_is b wanted (sym there ∙ e ∙ here)))) (omega (arith, small)) (omega (arith, len)) refl)))

pub mark_is : (n b : ℕ) → n < 4 → list_all is_name_byte (take n mark ++ (b ∷ [])) ≡ true → StateIs [] (take n mark ++ (b ∷ [])) (mark_on n b)
mark_is zero b small all = mark_step 0 b 95 (Mark 1) all small refl refl refl refl (λ is. reading (Mark 1) all (omega arith, ap (λ (c : ℕ). c ∷ []) is, refl))
mark_is (suc zero) b small all = mark_step 1 b 90 (Mark 2) all small refl refl refl refl (λ is. reading (Mark 2) all (omega arith, ap (λ (c : ℕ). 95 ∷ c ∷ []) is, refl))
mark_is (suc (suc zero)) b small all = mark_step 2 b 71 (Mark 3) all small refl refl refl refl (λ is. reading (Mark 3) all (omega arith, ap (λ (c : ℕ). 95 ∷ 90 ∷ c ∷ []) is, refl))
mark_is (suc (suc (suc zero))) b small all = mark_step 3 b 86 AtIsa all small refl refl refl refl (λ is. reading AtIsa all (ap (λ (c : ℕ). 95 ∷ 90 ∷ 71 ∷ c ∷ []) is, refl))
mark_is (suc (suc (suc (suc n)))) b small all = absurd (omega arith)

-- ---- letters

-- a refusal of the front at the byte
front_fault : (fed : List ℕ) (b at : ℕ) (rule : NameRule) → list_all is_name_byte (fed ++ (b ∷ [])) ≡ true → front_at (fed ++ (b ∷ [])) ≡ Err (stop_at rule (b ∷ [])) → at ≡ length fed → at ≤ 6 → judges_run rule ≡ false
    → IsFault (record { at = at; rule = rule }) (fed ++ (b ∷ []))
front_fault fed b at rule all h is low plain =
    let lens = length-append fed (b ∷ []) in
    stopped_fault (fed ++ (b ∷ [])) at 1 rule all (name_from_front (fed ++ (b ∷ [])) (stop_at rule (b ∷ [])) h) (omega arith) (omega (arith, lens)) (omega (arith, is, low, lens)) plain

letter_is : (i : Isa) (b : ℕ) → list_all is_name_byte (mark ++ (b ∷ [])) ≡ true → eqb b (isa_letter i) ≡ true → StateIs [] (mark ++ (b ∷ [])) (AtMask i)
letter_is i b all test = reading (AtMask i) all (ap (λ (c : ℕ). mark ++ (c ∷ [])) (eqb-true b (isa_letter i) test), refl)

pub isa_is : (b : ℕ) → list_all is_name_byte (mark ++ (b ∷ [])) ≡ true → StateIs [] (mark ++ (b ∷ [])) (isa_on b)
unfolding front_at mark_at byte_at isa_at
isa_is b all =
    left_or (cases_Bool (eqb b 98)) (λ y. rw y (letter_is B b all y))
    (λ n1. left_or (cases_Bool (eqb b 99)) (λ y. rw (n1, y) (letter_is C b all y))
    (λ n2. left_or (cases_Bool (eqb b 100)) (λ y. rw (n1, n2, y) (letter_is D b all y))
    (λ n3. left_or (cases_Bool (eqb b 101)) (λ y. rw (n1, n2, n3, y) (letter_is E b all y))
    (λ n4. left_or (cases_Bool (eqb b 110)) (λ y. rw (n1, n2, n3, n4, y) (letter_is N b all y))
    (λ n5. left_or (cases_Bool (eqb b 115)) (λ y. rw (n1, n2, n3, n4, n5, y) (letter_is S b all y))
    (λ n6. rw (n1, n2, n3, n4, n5, n6) (fault (record { at = 4; rule = N2 }) (front_fault mark b 4 N2 all (rw (n1, n2, n3, n4, n5, n6) refl) refl (omega arith) refl))))))))

masks_is : (i : Isa) (m : Bool) (b : ℕ) → list_all is_name_byte ((mark ++ (isa_letter i ∷ [])) ++ (b ∷ [])) ≡ true → eqb b (mask_letter m) ≡ true → StateIs [] ((mark ++ (isa_letter i ∷ [])) ++ (b ∷ [])) (AtLen i m)
masks_is i m b all test = reading (AtLen i m) all (ap (λ (c : ℕ). mark ++ (isa_letter i ∷ c ∷ [])) (eqb-true b (mask_letter m) test), refl)

pub mask_is : (i : Isa) (b : ℕ) → list_all is_name_byte ((mark ++ (isa_letter i ∷ [])) ++ (b ∷ [])) ≡ true → StateIs [] ((mark ++ (isa_letter i ∷ [])) ++ (b ∷ [])) (mask_on i b)
unfolding front_at mark_at byte_at mask_at
mask_is i b all =
    left_or (cases_Bool (eqb b 77)) (λ y. rw y (masks_is i true b all y))
    (λ n1. left_or (cases_Bool (eqb b 78)) (λ y. rw (n1, y) (masks_is i false b all y))
    (λ n2. rw (n1, n2) (fault (record { at = 5; rule = N3 }) (front_fault (mark ++ (isa_letter i ∷ [])) b 5 N3 all (rw (isa_again i (b ∷ [])) (rw (n1, n2) refl)) refl (omega arith) refl))))

-- ---- the length

-- what stands before the length
abbrev pub letters : Isa → Bool → List ℕ
letters i m = mark ++ (isa_letter i ∷ mask_letter m ∷ [])

pub len_read : (i : Isa) (m : Bool) (rest : List ℕ) → front_at (letters i m ++ rest) ≡ (len_at i m rest >>= λ len. Ok (record { isa = i; masked = m; len = len.0 }, len.1))
unfolding front_at mark_at byte_at
len_read i m rest = rw (isa_again i (mask_letter m ∷ rest), mask_again m rest) refl

-- a run of digits that is judged
abbrev num_ok : ℕ → Result ℕ NameFault
num_ok n = Ok n

num_is : (a b : ℕ) → num_ok a ≡ Ok b → a ≡ b
num_is a b e = cc

pub passed : (at : ℕ) (rule : NameRule) (bytes rest : List ℕ) (x : Result ℕ NameFault) (y : Result (ℕ × List ℕ) Stop) (n : ℕ) → Numbers at rule bytes rest x y → x ≡ Ok n → y ≡ Ok (n, rest)
passed at rule bytes rest x y n (passes k) is = ap (λ (j : ℕ). Ok (j, rest)) (num_is k n is)
passed at rule bytes rest x y n fails is = absurd cc

pub record Refuses (at : ℕ) (rule : NameRule) (bytes : List ℕ) (f : NameFault) (y : Result (ℕ × List ℕ) Stop) : Type 0 where
  pub fault_is : f ≡ record { at = at; rule = rule }
  pub stops : y ≡ Err (record { left = length bytes; rule = rule })

abbrev num_err : NameFault → Result ℕ NameFault
num_err f = Err f

fault_same : (d e : NameFault) → num_err d ≡ Err e → e ≡ d
fault_same d e h = cc

pub refused : (at : ℕ) (rule : NameRule) (bytes rest : List ℕ) (x : Result ℕ NameFault) (y : Result (ℕ × List ℕ) Stop) (f : NameFault) → Numbers at rule bytes rest x y → x ≡ Err f → Refuses at rule bytes f y
refused at rule bytes rest x y f (passes k) is = absurd cc
refused at rule bytes rest x y f fails is = record { fault_is = fault_same (record { at = at; rule = rule }) f is; stops = refl }

-- the bytes are read as a number and not as `x`
abbrev pub AsNumber : Isa → Bool → List ℕ → Type 0
AsNumber i m bytes = len_at i m bytes ≡ fixed_at bytes

pub no_x : (i : Isa) (m : Bool) (b : ℕ) (rest : List ℕ) → eqb b 120 ≡ false → AsNumber i m (b ∷ rest)
unfolding len_at
no_x i m b rest x = rw x refl

pub some_digit : (i : Isa) (m : Bool) (ds rest : List ℕ) → list_all is_ascii_digit ds ≡ true → 0 < length ds → AsNumber i m (ds ++ rest)
some_digit i m [] rest digits some = absurd (omega arith)
some_digit i m (d ∷ ds) rest digits some = no_x i m d (ds ++ rest) (ne_eqb d 120 (λ is. false≢true (ap is_ascii_digit (sym is) ∙ (and_parts (is_ascii_digit d) (list_all is_ascii_digit ds) digits).0)))

abbrev sized : Isa → Bool → ℕ × List ℕ → Result (Length × List ℕ) Stop
sized i m n = Ok (record { isa = i; masked = m; len = Fixed n.0 }, n.1)

abbrev as_len : ℕ × List ℕ → Result (Len × List ℕ) Stop
as_len n = Ok (Fixed n.0, n.1)

abbrev with_len : Isa → Bool → Len × List ℕ → Result (Length × List ℕ) Stop
with_len i m len = Ok (record { isa = i; masked = m; len = len.0 }, len.1)

-- digits, and then the rest
run_reads : (i : Isa) (m : Bool) (ds rest : List ℕ) → AsNumber i m (ds ++ rest) → front_at ((letters i m ++ ds) ++ rest) ≡ (number_at 1 65535 N4 (ds ++ rest) >>= λ n. sized i m n)
run_reads i m ds rest numbered = ap front_at (append_assoc (letters i m) ds rest) ∙ len_read i m (ds ++ rest) ∙ rw numbered (regroup (number_at 1 65535 N4 (ds ++ rest)))
  where
    regroup : (r : Result (ℕ × List ℕ) Stop) → ((r >>= λ n. as_len n) >>= λ len. with_len i m len) ≡ (r >>= λ n. sized i m n)
    regroup (Ok n) = refl
    regroup (Err e) = refl

-- the front is read to the rest, or refused by its digits
pub front_read : (i : Isa) (m : Bool) (run : Run) (ds rest : List ℕ) (n : ℕ) → RunIs run 6 ds → Ends is_ascii_digit rest → AsNumber i m (ds ++ rest) → number_of 1 65535 N4 run ≡ Ok n
    → front_at ((letters i m ++ ds) ++ rest) ≡ Ok (record { isa = i; masked = m; len = Fixed n }, rest)
front_read i m run ds rest n r stops numbered is =
    run_reads i m ds rest numbered ∙ rw (passed run.at N4 (ds ++ rest) rest (number_of 1 65535 N4 run) (number_at 1 65535 N4 (ds ++ rest)) n (number_judged 1 65535 N4 run 6 ds rest r stops) is) refl

pub record FrontRefused (run : Run) (bytes fed : List ℕ) (f : NameFault) : Type 0 where
  pub fault_is : f ≡ record { at = run.at; rule = N4 }
  pub stops : name_at fed ≡ Err (record { left = length bytes; rule = N4 })

pub front_stops : (i : Isa) (m : Bool) (run : Run) (ds rest : List ℕ) (f : NameFault) → RunIs run 6 ds → Ends is_ascii_digit rest → AsNumber i m (ds ++ rest) → number_of 1 65535 N4 run ≡ Err f
    → FrontRefused run (ds ++ rest) ((letters i m ++ ds) ++ rest) f
front_stops i m run ds rest f r stops numbered is =
    let judged = refused run.at N4 (ds ++ rest) rest (number_of 1 65535 N4 run) (number_at 1 65535 N4 (ds ++ rest)) f (number_judged 1 65535 N4 run 6 ds rest r stops) is in
    record {
      fault_is = judged.fault_is;
      stops = name_from_front ((letters i m ++ ds) ++ rest) (record { left = length (ds ++ rest); rule = N4 }) (run_reads i m ds rest numbered ∙ rw (judged.stops) refl);
    }

-- the byte ends the digits
pub size_is : (i : Isa) (m : Bool) (run : Run) (ds : List ℕ) (b : ℕ) (r : Result ℕ NameFault) → list_all is_name_byte ((letters i m ++ ds) ++ (b ∷ [])) ≡ true → RunIs run 6 ds → is_ascii_digit b ≡ false
    → ((rest : List ℕ) → AsNumber i m (ds ++ (b ∷ rest))) → number_of 1 65535 N4 run ≡ r → StateIs [] ((letters i m ++ ds) ++ (b ∷ [])) (size_on i m run [] b r)
size_is i m run ds b (Err f) all r other numbered is =
    let refusal = front_stops i m run ds (b ∷ []) f r other (numbered []) is in
    fault f (subst (λ (g : NameFault). IsFault g ((letters i m ++ ds) ++ (b ∷ []))) (sym refusal.fault_is)
    (run_fault (letters i m ++ ds) ds b run.at 6 N4 all r.digits (letters i m, refl) other (omega arith) r.place refusal.stops))
size_is i m run ds b (Ok n) all r other numbered is =
    let len = r.len in
    next_is (record { isa = i; masked = m; len = Fixed n }) [] (told_at (run.len + 6)) b (letters i m ++ ds) [] all (omega (arith, len))
    (λ rest. ap front_at (append_assoc (letters i m ++ ds) (b ∷ []) rest) ∙ front_read i m run ds (b ∷ rest) n r other (numbered rest) is)
    (λ rest. refl) (omega arith)

pub digits_is : (i : Isa) (m : Bool) (run : Run) (ds : List ℕ) (b : ℕ) → list_all is_name_byte ((letters i m ++ ds) ++ (b ∷ [])) ≡ true → RunIs run 6 ds → 0 < length ds
    → StateIs [] ((letters i m ++ ds) ++ (b ∷ [])) (digits_on i m run [] b)
digits_is i m run ds b all r some =
    left_or (cases_Bool (is_ascii_digit b))
    (λ yes. rw yes (reading (LenDigits i m (with_byte run b)) all
    (ds ++ (b ∷ []), append_assoc (letters i m) ds (b ∷ []), run_more run 6 ds b r yes, omega (arith, length-append ds (b ∷ [])), refl)))
    (λ other. rw other (size_is i m run ds b (number_of 1 65535 N4 run) all r other (λ rest. some_digit i m ds (b ∷ rest) r.digits some) refl))

-- after the mask letter
x_read : (i : Isa) (m : Bool) (rest : List ℕ) → (is_s i && m) ≡ true → front_at (letters i m ++ (120 ∷ rest)) ≡ Ok (record { isa = i; masked = m; len = Scalable }, rest)
unfolding len_at
x_read i m rest s = len_read i m (120 ∷ rest) ∙ rw s refl

x_stops : (i : Isa) (m : Bool) → (is_s i && m) ≡ false → front_at (letters i m ++ (120 ∷ [])) ≡ Err (stop_at N11 (120 ∷ []))
unfolding len_at
x_stops i m s = len_read i m (120 ∷ []) ∙ rw s refl

x_is : (i : Isa) (m : Bool) → list_all is_name_byte (letters i m ++ (120 ∷ [])) ≡ true
    → StateIs [] (letters i m ++ (120 ∷ [])) (cond (is_s i && m) (Next (record { isa = i; masked = m; len = Scalable }) 7) (Fault (record { at = 6; rule = N11 })))
x_is i m all =
    left_or (cases_Bool (is_s i && m))
    (λ yes. rw yes (reading (Next (record { isa = i; masked = m; len = Scalable }) 7) all (record {
      after = [];
      place = refl;
      front_is = λ rest. ap front_at (append_assoc (letters i m) (120 ∷ []) rest) ∙ x_read i m rest yes;
      params_are = λ rest. refl;
      few = omega arith;
    })))
    (λ other. rw other (fault (record { at = 6; rule = N11 }) (front_fault (letters i m) 120 6 N11 all (x_stops i m other) refl (omega arith) refl)))

pub len_is : (i : Isa) (m : Bool) (b : ℕ) → list_all is_name_byte (letters i m ++ (b ∷ [])) ≡ true → StateIs [] (letters i m ++ (b ∷ [])) (len_on i m b)
len_is i m b all =
    left_or (cases_Bool (eqb b 120))
    (λ yes.
    let same : 120 ≡ b = sym (eqb-true b 120 yes) in
    rw yes (subst (λ (c : ℕ). list_all is_name_byte (letters i m ++ (c ∷ [])) ≡ true → StateIs [] (letters i m ++ (c ∷ [])) (cond (is_s i && m) (Next (record { isa = i; masked = m; len = Scalable }) 7) (Fault (record { at = 6; rule = N11 })))) same (x_is i m) all))
    (λ x.
    left_or (cases_Bool (is_ascii_digit b))
    (λ yes. rw (x, yes) (reading (LenDigits i m (with_byte (run_from 6) b)) all (b ∷ [], refl, run_more (run_from 6) 6 [] b (run_begins 6 6 refl) yes, omega arith, refl)))
    (λ other. rw (x, other) (size_is i m (run_from 6) [] b (Err (record { at = 6; rule = N4 })) all (run_begins 6 6 refl) other (λ rest. no_x i m b rest x) refl)))
