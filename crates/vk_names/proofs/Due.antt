-- Refusals of bytes that may go on: when they are due, and when they are not.
use Rattle.std.proofs.Common.{◌≡◌, ℕ, ◌+◌, ◌-◌, ◌<◌, ◌≤◌, Bool, true, false, not, ◌||◌, ◌&&◌, ltb, List, [], ◌∷◌, ◌++◌, length, drop, Ok, Err, refl, sym, ap, subst, ◌∙◌, arith, length-append, append_assoc}
use Rattle.std.specs.Char.{is_ascii_digit}
use Rattle.std.specs.List.{list_all}
use Rattle.std.proofs.lemmas.Bool.{le-ltb, lt-ltb, and_parts, and_from, or_left, or_right}
use Rattle.std.proofs.lemmas.List.{append-nil, drop_at}
use Rattle.std.proofs.lemmas.List.Sums.{take_while-cons}
use Rattle.vk_kinds.specs.declared.kinds.Length.{Length}
use Rattle.vk_kinds.specs.declared.kinds.Param.{Param}
use Rattle.vk_names.specs.declared.rules.NameRule.{NameRule}
use Rattle.vk_names.specs.declared.rules.NameFault.{NameFault}
use Rattle.vk_names.proofs.Reading.{Stop}
use Rattle.vk_names.specs.Spelling.{is_placed, is_name_byte, text_of}
use Rattle.vk_names.specs.Refusal.{digit_run, Ends, Refused, NameRefused}
use Rattle.vk_names.proofs.Reading.{◌>>=◌, front_at, params_at, scalar_at, name_at}
use Rattle.vk_names.specs.Pieces.{told_at, is_ended, judges_run, run_ends, is_told}
use Rattle.vk_names.proofs.Standing.{IsFault, EndsWith}
use Rattle.vk_names.proofs.Exact.{text_again, name_refused}

-- ---- bytes that are all text

pub own_text : (fed : List ℕ) → list_all is_name_byte fed ≡ true → text_of fed ≡ fed
own_text fed all = ap text_of (sym (append-nil fed)) ∙ text_again fed [] all tt

pub not_ended : (fed : List ℕ) → list_all is_name_byte fed ≡ true → is_ended fed ≡ false
not_ended fed all = le-ltb (length (text_of fed)) (length fed) (omega (arith, ap (λ (t : List ℕ). length t) (own_text fed all)))

pub more_text : (fed : List ℕ) (b : ℕ) → list_all is_name_byte fed ≡ true → is_name_byte b ≡ true → list_all is_name_byte (fed ++ (b ∷ [])) ≡ true
more_text [] b all more = and_from (is_name_byte b) true more refl
more_text (c ∷ cs) b all more =
    let p = and_parts (is_name_byte c) (list_all is_name_byte cs) all in
    and_from (is_name_byte c) (list_all is_name_byte (cs ++ (b ∷ []))) p.0 (more_text cs b p.1 more)

pub text_refused : (fed : List ℕ) (e : Stop) → list_all is_name_byte fed ≡ true → name_at fed ≡ Err e → NameRefused fed (length fed - e.left) e.rule
text_refused fed e all h = subst (λ (t : List ℕ). Refused t (length fed - e.left) e.rule) (sym (own_text fed all)) (name_refused fed e h)

-- ---- what the reader says of the parts

pub name_stops : (fed after : List ℕ) (front : Length) (e : Stop) → front_at fed ≡ Ok (front, after) → params_at 64 [] after ≡ Err e → name_at fed ≡ Err e
unfolding name_at
name_stops fed after front e h p = rw (h, p) refl

pub name_goes : (fed after : List ℕ) (front : Length) (params : List Param) (scalar : List ℕ) → front_at fed ≡ Ok (front, after) → params_at 64 [] after ≡ Ok (params, scalar)
    → list_all (is_placed params) params ≡ true → name_at fed ≡ (scalar_at scalar >>= λ s. Ok (record { front = front; params = params; scalar = s }))
unfolding name_at
name_goes fed after front params scalar h p placed = rw (h, p, placed) refl

-- ---- runs of digits

pub run_front : (ds rest : List ℕ) → list_all is_ascii_digit ds ≡ true → Ends is_ascii_digit rest → digit_run (ds ++ rest) ≡ ds
run_front [] [] all stops = refl
run_front [] (b ∷ bs) all stops = take_while-cons is_ascii_digit b bs ∙ rw stops refl
run_front (d ∷ ds) rest all stops =
    let p = and_parts (is_ascii_digit d) (list_all is_ascii_digit ds) all in
    take_while-cons is_ascii_digit d (ds ++ rest) ∙ rw (p.0, run_front ds rest p.1 stops) refl

-- ---- refusals that are due

pub placed_fault : (fed : List ℕ) (told at : ℕ) (rule : NameRule) → list_all is_name_byte fed ≡ true → Refused fed at rule → told ≡ told_at at → at < length fed → judges_run rule ≡ false
    → IsFault (record { at = told; rule = rule }) fed
placed_fault fed told at rule all refused is below plain = record {
  at = at;
  place = is;
  due = or_right (is_ended fed) (is_told fed at rule)
      (and_from (ltb at (length fed)) (not (judges_run rule) || run_ends (drop at fed)) (lt-ltb at (length fed) below) (or_left (not (judges_run rule)) (run_ends (drop at fed)) (ap not plain)));
  refused = subst (λ (t : List ℕ). Refused t at rule) (sym (own_text fed all)) refused;
}

pub stopped_fault : (fed : List ℕ) (told left : ℕ) (rule : NameRule) → list_all is_name_byte fed ≡ true → name_at fed ≡ Err (record { left = left; rule = rule }) → 0 < left → left ≤ length fed
    → told ≡ told_at (length fed - left) → judges_run rule ≡ false → IsFault (record { at = told; rule = rule }) fed
stopped_fault fed told left rule all h some inside is plain =
    placed_fault fed told (length fed - left) rule all (name_refused fed (record { left = left; rule = rule }) h) is (omega (arith, some, inside)) plain

-- refused by a run of digits, and then another byte
pub run_fault : (fed ds : List ℕ) (b told at : ℕ) (rule : NameRule) → list_all is_name_byte (fed ++ (b ∷ [])) ≡ true → list_all is_ascii_digit ds ≡ true → EndsWith ds fed → is_ascii_digit b ≡ false
    → at + length ds ≡ length fed → told ≡ told_at at → name_at (fed ++ (b ∷ [])) ≡ Err (record { left = length (ds ++ (b ∷ [])); rule = rule }) → IsFault (record { at = told; rule = rule }) (fed ++ (b ∷ []))
run_fault fed ds b told at rule all digits last other sum is h =
    let text : List ℕ = fed ++ (b ∷ []) in
    let lens = length-append fed (b ∷ []) in
    let run = length-append ds (b ∷ []) in
    let parts : text ≡ last.0 ++ (ds ++ (b ∷ [])) = ap (λ (t : List ℕ). t ++ (b ∷ [])) last.1 ∙ append_assoc last.0 ds (b ∷ []) in
    let place : at ≡ length last.0 = omega (arith, sum, ap (λ (t : List ℕ). length t) last.1, length-append last.0 ds) in
    let here : drop at text ≡ ds ++ (b ∷ []) = ap (λ (t : List ℕ). drop at t) parts ∙ drop_at last.0 (ds ++ (b ∷ [])) at (sym place) in
    let ends : run_ends (ds ++ (b ∷ [])) ≡ true =
    lt-ltb (length (digit_run (ds ++ (b ∷ [])))) (length (ds ++ (b ∷ []))) (omega (arith, run, ap (λ (t : List ℕ). length t) (run_front ds (b ∷ []) digits other))) in
    record {
      at = at;
      place = is;
      due = or_right (is_ended text) (is_told text at rule)
          (and_from (ltb at (length text)) (not (judges_run rule) || run_ends (drop at text)) (lt-ltb at (length text) (omega (arith, sum, lens)))
          (or_right (not (judges_run rule)) (run_ends (drop at text)) (ap run_ends here ∙ ends)));
      refused = subst (λ (k : ℕ). NameRefused text k rule) (omega (arith, sum, lens, run)) (text_refused text (record { left = length (ds ++ (b ∷ [])); rule = rule }) all h);
    }

-- ---- refusals that are not

-- refused, but not before the text ends
pub record IsOpen (fault : NameFault) (fed : List ℕ) : Type 0 where
  pub at : ℕ
  pub place : fault.at ≡ told_at at
  pub untold : is_told fed at fault.rule ≡ false
  pub refused : NameRefused fed at fault.rule

untold_here : (fed : List ℕ) (at : ℕ) (rule : NameRule) → length fed ≤ at → is_told fed at rule ≡ false
untold_here fed at rule past = rw (le-ltb at (length fed) past) refl

pub open_end : (fed : List ℕ) (told : ℕ) (rule : NameRule) → list_all is_name_byte fed ≡ true → name_at fed ≡ Err (record { left = 0; rule = rule }) → told ≡ told_at (length fed)
    → IsOpen (record { at = told; rule = rule }) fed
open_end fed told rule all h is = record {
  at = length fed;
  place = is;
  untold = untold_here fed (length fed) rule (omega arith);
  refused = subst (λ (k : ℕ). NameRefused fed k rule) (omega arith) (text_refused fed (record { left = 0; rule = rule }) all h);
}

pub open_run : (fed ds : List ℕ) (told at : ℕ) (rule : NameRule) → list_all is_name_byte fed ≡ true → list_all is_ascii_digit ds ≡ true → EndsWith ds fed
    → at + length ds ≡ length fed → told ≡ told_at at → judges_run rule ≡ true → name_at fed ≡ Err (record { left = length (ds ++ []); rule = rule }) → IsOpen (record { at = told; rule = rule }) fed
open_run fed ds told at rule all digits last sum is judges h =
    let run : length (ds ++ []) ≡ length ds = ap (λ (t : List ℕ). length t) (append-nil ds) in
    let place : at ≡ length last.0 = omega (arith, sum, ap (λ (t : List ℕ). length t) last.1, length-append last.0 ds) in
    let here : drop at fed ≡ ds = ap (λ (t : List ℕ). drop at t) last.1 ∙ drop_at last.0 ds at (sym place) in
    let whole : digit_run ds ≡ ds = ap digit_run (sym (append-nil ds)) ∙ run_front ds [] digits tt in
    let ends : run_ends ds ≡ false = le-ltb (length (digit_run ds)) (length ds) (omega (arith, ap (λ (t : List ℕ). length t) whole)) in
    record {
      at = at;
      place = is;
      untold = last_false (ltb at (length fed)) (not (judges_run rule) || run_ends (drop at fed)) (rw (judges, here, ends) refl);
      refused = subst (λ (k : ℕ). NameRefused fed k rule) (omega (arith, sum, run)) (text_refused fed (record { left = length (ds ++ []); rule = rule }) all h);
    }
  where
    last_false : (x y : Bool) → y ≡ false → (x && y) ≡ false
    last_false true y h = h
    last_false false y h = refl
