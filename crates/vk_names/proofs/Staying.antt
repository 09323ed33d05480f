-- What is due to be answered of bytes stays so, whatever follows them.
use Rattle.std.proofs.Common.{◌≡◌, ℕ, zero, suc, ◌+◌, ◌<◌, ◌≤◌, true, false, not, ◌||◌, ltb, List, [], ◌∷◌, ◌++◌, length, drop, refl, sym, ap, subst, ◌∙◌, arith, length-append, append_assoc}
use Rattle.std.specs.Prelude.{slice_get}
use Rattle.std.specs.Char.{is_ascii_digit}
use Rattle.std.proofs.lemmas.Bool.{cases_Bool, ltb-true, ltb-false, lt-ltb, and_parts, and_from, or_cases, or_left, or_right, false≢true}
use Rattle.std.proofs.lemmas.List.{take-append-le, drop-append-le, drop_at}
use Rattle.std.proofs.lemmas.List.Sums.{take_while-cons}
use Rattle.vk_kinds.specs.declared.kinds.Length.{Length}
use Rattle.vk_names.specs.declared.rules.NameRule.{NameRule}
use Rattle.vk_names.specs.Spelling.{Name, Written, mark, isa_letter, mask_letter, front_text, step_of, optional_step_text, kind_letter, kind_text, params_text, IsPosition, is_name_byte, text_of, Spells}
use Rattle.vk_names.specs.Refusal.{digit_run, BeginsWith, NoNumber, Begins, StandsAt, Refused, wrong_mark, wrong_isa, wrong_mask, wrong_len, wrong_x, stray, one_more, cut_off, wrong_step, wrong_negative, wrong_position, wrong_align, misplaced, wrong_scalar, long_scalar, NameRefused}
use Rattle.vk_names.specs.Pieces.{is_ended, judges_run, run_ends, is_told, is_due}
use Rattle.vk_names.proofs.Numbers.{left_or}

-- ---- the text

-- an ended text stays
pub text_stays : (bytes more : List ℕ) → is_ended bytes ≡ true → text_of (bytes ++ more) ≡ text_of bytes
text_stays bytes more ended = goes bytes (ltb-true _ _ ended)
  where
    goes : (bytes : List ℕ) → length (text_of bytes) < length bytes → text_of (bytes ++ more) ≡ text_of bytes
    goes [] h = absurd (omega arith)
    goes (b ∷ bs) h =
        left_or (cases_Bool (is_name_byte b))
        (λ yes.
        let one : text_of (b ∷ bs) ≡ b ∷ text_of bs = take_while-cons is_name_byte b bs ∙ rw yes refl in
        let two : text_of (b ∷ (bs ++ more)) ≡ b ∷ text_of (bs ++ more) = take_while-cons is_name_byte b (bs ++ more) ∙ rw yes refl in
        two ∙ ap (λ (t : List ℕ). b ∷ t) (goes bs (omega (arith, ap (λ (t : List ℕ). length t) one))) ∙ sym one)
        (λ no.
        let one : text_of (b ∷ bs) ≡ [] = take_while-cons is_name_byte b bs ∙ rw no refl in
        let two : text_of (b ∷ (bs ++ more)) ≡ [] = take_while-cons is_name_byte b (bs ++ more) ∙ rw no refl in
        two ∙ sym one)

-- and is ended
pub ended_stays : (bytes more : List ℕ) → is_ended bytes ≡ true → is_ended (bytes ++ more) ≡ true
ended_stays bytes more ended =
    let below = ltb-true _ _ ended in
    lt-ltb _ _ (omega (arith, ap (λ (t : List ℕ). length t) (text_stays bytes more ended), length-append bytes more))

-- one that has not ended is all bytes
all_text : (bytes more : List ℕ) → is_ended bytes ≡ false → (text_of bytes ≡ bytes) × (text_of (bytes ++ more) ≡ bytes ++ text_of more)
all_text bytes more whole = goes bytes (ltb-false _ _ whole)
  where
    goes : (bytes : List ℕ) → length bytes ≤ length (text_of bytes) → (text_of bytes ≡ bytes) × (text_of (bytes ++ more) ≡ bytes ++ text_of more)
    goes [] h = (refl, refl)
    goes (b ∷ bs) h =
        left_or (cases_Bool (is_name_byte b))
        (λ yes.
        let one : text_of (b ∷ bs) ≡ b ∷ text_of bs = take_while-cons is_name_byte b bs ∙ rw yes refl in
        let two : text_of (b ∷ (bs ++ more)) ≡ b ∷ text_of (bs ++ more) = take_while-cons is_name_byte b (bs ++ more) ∙ rw yes refl in
        let rest = goes bs (omega (arith, ap (λ (t : List ℕ). length t) one)) in
        (one ∙ ap (λ (t : List ℕ). b ∷ t) rest.0, two ∙ ap (λ (t : List ℕ). b ∷ t) rest.1))
        (λ no.
        let one : text_of (b ∷ bs) ≡ [] = take_while-cons is_name_byte b bs ∙ rw no refl in
        absurd (omega (arith, ap (λ (t : List ℕ). length t) one)))

-- ---- runs of digits

run_stays : (bytes more : List ℕ) → run_ends bytes ≡ true → digit_run (bytes ++ more) ≡ digit_run bytes
run_stays bytes more ends = goes bytes (ltb-true _ _ ends)
  where
    goes : (bytes : List ℕ) → length (digit_run bytes) < length bytes → digit_run (bytes ++ more) ≡ digit_run bytes
    goes [] h = absurd (omega arith)
    goes (b ∷ bs) h =
        left_or (cases_Bool (is_ascii_digit b))
        (λ yes.
        let one : digit_run (b ∷ bs) ≡ b ∷ digit_run bs = take_while-cons is_ascii_digit b bs ∙ rw yes refl in
        let two : digit_run (b ∷ (bs ++ more)) ≡ b ∷ digit_run (bs ++ more) = take_while-cons is_ascii_digit b (bs ++ more) ∙ rw yes refl in
        two ∙ ap (λ (t : List ℕ). b ∷ t) (goes bs (omega (arith, ap (λ (t : List ℕ). length t) one))) ∙ sym one)
        (λ no.
        let one : digit_run (b ∷ bs) ≡ [] = take_while-cons is_ascii_digit b bs ∙ rw no refl in
        let two : digit_run (b ∷ (bs ++ more)) ≡ [] = take_while-cons is_ascii_digit b (bs ++ more) ∙ rw no refl in
        two ∙ sym one)

run_ends_stays : (bytes more : List ℕ) → run_ends bytes ≡ true → run_ends (bytes ++ more) ≡ true
run_ends_stays bytes more ends =
    let below = ltb-true _ _ ends in
    lt-ltb _ _ (omega (arith, ap (λ (t : List ℕ). length t) (run_stays bytes more ends), length-append bytes more))

-- a run that was judged, and that has ended
Judged : List ℕ → ℕ → NameRule → Type 0
Judged text at rule = judges_run rule ≡ true → run_ends (drop at text) ≡ true

told_parts : (bytes : List ℕ) (at : ℕ) (rule : NameRule) → is_told bytes at rule ≡ true → (at < length bytes) × Judged bytes at rule
unfolding Judged
told_parts bytes at rule told =
    let p = and_parts (ltb at (length bytes)) (not (judges_run rule) || run_ends (drop at bytes)) told in (
      ltb-true _ _ p.0,
      λ judges. left_or (or_cases (not (judges_run rule)) (run_ends (drop at bytes)) p.1) (λ no. absurd (false≢true (ap not (sym judges) ∙ no))) (λ ends. ends),
    )

told_stays : (bytes more : List ℕ) (at : ℕ) (rule : NameRule) → is_told bytes at rule ≡ true → is_told (bytes ++ more) at rule ≡ true
told_stays bytes more at rule told =
    let p = and_parts (ltb at (length bytes)) (not (judges_run rule) || run_ends (drop at bytes)) told in
    let below : at < length bytes = ltb-true _ _ p.0 in
    let inside : at ≤ length bytes = omega arith in
    and_from (ltb at (length (bytes ++ more))) (not (judges_run rule) || run_ends (drop at (bytes ++ more))) (lt-ltb _ _ (omega (arith, length-append bytes more)))
    (left_or (or_cases (not (judges_run rule)) (run_ends (drop at bytes)) p.1)
    (λ no. or_left (not (judges_run rule)) (run_ends (drop at (bytes ++ more))) no)
    (λ ends. or_right (not (judges_run rule)) (run_ends (drop at (bytes ++ more)))
    (ap run_ends (drop-append-le at bytes more inside) ∙ run_ends_stays (drop at bytes) more ends)))

-- ---- refusals of a text that goes on

same_get : (text more : List ℕ) (at : ℕ) → at < length text → slice_get (text ++ more) at ≡ slice_get text at
same_get [] more at h = absurd (omega arith)
same_get (b ∷ bs) more zero h = refl
same_get (b ∷ bs) more (suc k) h = same_get bs more k (omega arith)

-- what begins with a byte began with it
began : (c : ℕ) (rest more : List ℕ) → 0 < length rest → BeginsWith c (rest ++ more) → BeginsWith c rest
began c [] more some begins = absurd (omega arith)
began c (b ∷ bs) more some begins = (bs, first (begins.0) begins.1)
  where
    first : (t : List ℕ) → b ∷ (bs ++ more) ≡ c ∷ t → b ∷ bs ≡ c ∷ bs
    first t e = let same : b ≡ c = cc in ap (λ (k : ℕ). k ∷ bs) same

lens : (text front rest : List ℕ) (n : ℕ) → text ≡ front ++ rest → length front ≡ n → n + length rest ≡ length text
lens text front rest n is len = omega (arith, ap (λ (t : List ℕ). length t) is, length-append front rest, len)

regrouped : (front params rest more : List ℕ) → (front ++ (params ++ rest)) ++ more ≡ front ++ (params ++ (rest ++ more))
regrouped front params rest more = append_assoc front (params ++ rest) more ∙ ap (λ (t : List ℕ). front ++ t) (append_assoc params rest more)

begins_on : (text more : List ℕ) (front : Length) (ws : List Written) (b : ℕ) (rest : List ℕ) → Begins text front ws (b ∷ rest)
    → Begins (text ++ more) front ws (b ∷ (rest ++ more))
begins_on text more front ws b rest begins = record {
  front_fits = begins.front_fits;
  before_fit = begins.before_fit;
  count = begins.count;
  whole = begins.whole;
  parts = ap (λ (t : List ℕ). t ++ more) begins.parts ∙ regrouped (front_text front) (params_text ws) (b ∷ rest) more;
}

stands_on : (text rest more : List ℕ) (at : ℕ) → StandsAt text at rest → StandsAt (text ++ more) at (rest ++ more)
stands_on text rest more at place = omega (arith, place, length-append text more, length-append rest more)

-- the bytes from the place on
from_place : (text front params x rest : List ℕ) (at : ℕ) → text ≡ front ++ (params ++ (x ++ rest)) → StandsAt text at rest → drop at text ≡ rest
from_place text front params x rest at parts place =
    let before : List ℕ = front ++ (params ++ x) in
    let is : text ≡ before ++ rest = parts ∙ sym (regrouped front params x rest) in
    ap (λ (t : List ℕ). drop at t) is ∙ drop_at before rest at (omega (arith, place, ap (λ (t : List ℕ). length t) is, length-append before rest))

-- no number stands there, whatever follows
none_on : (P : ℕ → Type 0) (rest more : List ℕ) → run_ends rest ≡ true → NoNumber P rest → NoNumber P (rest ++ more)
none_on P rest more ends none n p is = none n p (sym (run_stays rest more ends) ∙ is)

refused_on : (text more : List ℕ) (at : ℕ) (rule : NameRule) → at < length text → Judged text at rule → Refused text at rule → Refused (text ++ more) at rule
unfolding Judged
refused_on text more at rule below judged (wrong_mark k small front here) =
    wrong_mark k small (take-append-le k text more (omega arith) ∙ front) (λ same. here (sym (same_get text more k below) ∙ same))
refused_on text more at rule below judged (wrong_isa rest is none) =
    wrong_isa (rest ++ more) (ap (λ (t : List ℕ). t ++ more) is)
    (λ i begins. none i (began (isa_letter i) rest more (omega (arith, below, lens text mark rest 4 is refl)) begins))
refused_on text more at rule below judged (wrong_mask isa rest is none) =
    wrong_mask isa (rest ++ more) (ap (λ (t : List ℕ). t ++ more) is)
    (λ m begins. none m (began (mask_letter m) rest more (omega (arith, below, lens text (mark ++ (isa_letter isa ∷ [])) rest 5 is refl)) begins))
refused_on text more at rule below judged (wrong_len isa masked rest is x none) =
    let ends : run_ends rest ≡ true = ap (λ (t : List ℕ). run_ends (drop 6 t)) (sym is) ∙ judged refl in
    wrong_len isa masked (rest ++ more) (ap (λ (t : List ℕ). t ++ more) is)
    (λ begins. x (began 120 rest more (omega (arith, below, lens text (mark ++ (isa_letter isa ∷ mask_letter masked ∷ [])) rest 6 is refl)) begins))
    (none_on (λ n. (1 ≤ n) × (n ≤ 65535)) rest more ends none)
refused_on text more at rule below judged (wrong_x isa masked rest is none) =
    wrong_x isa masked (rest ++ more) (ap (λ (t : List ℕ). t ++ more) is) none
refused_on text more at rule below judged (stray front ws b rest k begins letter other place) =
    stray front ws b (rest ++ more) k (begins_on text more front ws b rest begins) letter other (stands_on text (b ∷ rest) more k place)
refused_on text more at rule below judged (one_more front ws b rest k begins letter full place) =
    one_more front ws b (rest ++ more) k (begins_on text more front ws b rest begins) letter full (stands_on text (b ∷ rest) more k place)
refused_on text more at rule below judged (cut_off front ws begins) = absurd (omega arith)
refused_on text more at rule below judged (wrong_step front ws b rest k begins room letter digit none place) =
    let here = from_place text (front_text front) (params_text ws) (b ∷ []) rest k begins.parts place in
    let ends : run_ends rest ≡ true = ap run_ends (sym here) ∙ judged refl in
    wrong_step front ws b (rest ++ more) k (begins_on text more front ws b rest begins) room letter (λ is. digit (sym (run_stays rest more ends) ∙ is))
    (none_on (λ n. (2 ≤ n) × (n ≤ 2147483647)) rest more ends none) (stands_on text rest more k place)
refused_on text more at rule below judged (wrong_negative front ws b rest k begins room letter none place) =
    let here = from_place text (front_text front) (params_text ws) (b ∷ 110 ∷ []) rest k begins.parts place in
    let ends : run_ends rest ≡ true = ap run_ends (sym here) ∙ judged refl in
    wrong_negative front ws b (rest ++ more) k (begins_on text more front ws b (110 ∷ rest) begins) room letter
    (none_on (λ n. (1 ≤ n) × (n ≤ 2147483647)) rest more ends none) (stands_on text rest more k place)
refused_on text more at rule below judged (wrong_position front ws b rest k begins room letter none place) =
    let here = from_place text (front_text front) (params_text ws) (b ∷ 115 ∷ []) rest k begins.parts place in
    let ends : run_ends rest ≡ true = ap run_ends (sym here) ∙ judged refl in
    wrong_position front ws b (rest ++ more) k (begins_on text more front ws b (115 ∷ rest) begins) room letter
    (λ p. none (subst (λ (ds : List ℕ). IsPosition ds) (run_stays rest more ends) p)) (stands_on text rest more k place)
refused_on text more at rule below judged (wrong_align front ws kind digits rest k begins room fits none place) =
    let x : List ℕ = kind_text kind digits ++ (97 ∷ []) in
    let a : kind_text kind digits ++ (97 ∷ rest) ≡ x ++ rest = sym (append_assoc (kind_text kind digits) (97 ∷ []) rest) in
    let here = from_place text (front_text front) (params_text ws) x rest k (begins.parts ∙ ap (λ (t : List ℕ). front_text front ++ (params_text ws ++ t)) a) place in
    let ends : run_ends rest ≡ true = ap run_ends (sym here) ∙ judged refl in
    let on = begins_on text more front ws (kind_letter kind) (optional_step_text (step_of kind) digits ++ (97 ∷ rest)) begins in
    wrong_align front ws kind digits (rest ++ more) k
    (subst (λ (t : List ℕ). Begins (text ++ more) front ws (kind_letter kind ∷ t)) (append_assoc (optional_step_text (step_of kind) digits) (97 ∷ rest) more) on) room fits
    (none_on _ rest more ends none) (stands_on text rest more k place)
refused_on text more at rule below judged (misplaced front before w after rest begins placed wrong) =
    misplaced front before w after (rest ++ more) (begins_on text more front _ 95 rest begins) placed wrong
refused_on text more at rule below judged (wrong_scalar front ws scalar k begins placed digit place) =
    wrong_scalar front ws (scalar ++ more) k (begins_on text more front ws 95 scalar begins) placed
    (λ b starts. digit b (began b scalar more (omega (arith, below, place)) starts)) (stands_on text scalar more k place)
refused_on text more at rule below judged (long_scalar front ws b scalar k begins placed first long place) =
    long_scalar front ws b (scalar ++ more) k (begins_on text more front ws 95 (b ∷ scalar) begins) placed first
    (omega (arith, long, length-append scalar more)) (omega (arith, place, length-append scalar more, length-append text more))

-- ---- what is due stays

pub due_stays : (bytes more : List ℕ) (at : ℕ) (rule : NameRule) → is_due bytes at rule ≡ true → is_due (bytes ++ more) at rule ≡ true
due_stays bytes more at rule due =
    left_or (or_cases (is_ended bytes) (is_told bytes at rule) due)
    (λ ended. or_left (is_ended (bytes ++ more)) (is_told (bytes ++ more) at rule) (ended_stays bytes more ended))
    (λ told. or_right (is_ended (bytes ++ more)) (is_told (bytes ++ more) at rule) (told_stays bytes more at rule told))

pub refusal_stays : (bytes more : List ℕ) (at : ℕ) (rule : NameRule) → is_due bytes at rule ≡ true → NameRefused bytes at rule → NameRefused (bytes ++ more) at rule
refusal_stays bytes more at rule due refused =
    left_or (cases_Bool (is_ended bytes))
    (λ ended. subst (λ (t : List ℕ). Refused t at rule) (sym (text_stays bytes more ended)) refused)
    (λ whole.
    let t = all_text bytes more whole in
    let told = told_parts bytes at rule (left_or (or_cases (is_ended bytes) (is_told bytes at rule) due) (λ ended. absurd (false≢true (sym whole ∙ ended))) (λ told. told)) in
    subst (λ (t : List ℕ). Refused t at rule) (sym t.1)
    (refused_on bytes (text_of more) at rule told.0 told.1 (subst (λ (t : List ℕ). Refused t at rule) t.0 refused)))

pub name_stays : (bytes more : List ℕ) (n : Name) → is_ended bytes ≡ true → Spells n bytes → Spells n (bytes ++ more)
name_stays bytes more n ended s = record { fits = s.fits; text = text_stays bytes more ended ∙ s.text }
