-- What stands before the scalar name, by the length of its text in decimal.
use Rattle.std.proofs.Common.{◌≡◌, ◌≢◌, ℕ, suc, ◌+◌, ◌*◌, ◌<◌, ◌≤◌, min, Bool, true, false, cond, List, [], ◌∷◌, ◌++◌, length, map, take, Option, Some, None, Ok, refl, sym, ap, subst, ◌∙◌, arith, length-append, pos, negsuc}
use Rattle.std.specs.Fmt.{decimal}
use Rattle.std.specs.List.{AllByRecursion, list_all, prefix_len}
use Rattle.std.proofs.lemmas.Bool.{cases_Bool, and_parts, and_from, false≢true}
use Rattle.std.proofs.lemmas.Fmt.{length-decimal-le}
use Rattle.std.proofs.lemmas.List.Concat.{flat_map-append}
use Rattle.vk_kinds.specs.declared.kinds.Len.{Len}
use Rattle.vk_kinds.specs.declared.kinds.Len.TheVariants.{Fixed, Scalable}
use Rattle.vk_kinds.specs.declared.kinds.Step.{Step}
use Rattle.vk_kinds.specs.declared.kinds.Step.TheVariants.{One, By, Arg}
use Rattle.vk_kinds.specs.declared.kinds.Kind.{Kind}
use Rattle.vk_kinds.specs.declared.kinds.Kind.TheVariants.{Vector, Uniform, Linear, Ref, Val, Uval}
use Rattle.vk_kinds.specs.declared.kinds.Length.{Length}
use Rattle.vk_kinds.specs.declared.kinds.Param.{Param}
use Rattle.vk_names.specs.declared.rules.NameRule.TheVariants.{N7}
use Rattle.vk_names.specs.Spelling.{Written, len_text, front_text, step_text, step_of, kind_text, align_text, written_text, position_in, in_decimal, params_text, IsLen, IsFront, IsStep, IsOptionalStep, IsOptionalAlign, IsWritten, step_is_placed, is_placed}
use Rattle.vk_names.specs.Refusal.{Begins, all_params, AllPlaced, Refused, misplaced}
use Rattle.vk_names.proofs.Reading.{params_at, front_at}
use Rattle.vk_names.specs.Inner.Steps.{head_len}
use Rattle.vk_names.proofs.Numbers.{left_or}
use Rattle.vk_names.proofs.Parameters.{capped, capped_kind, capped_param}
use Rattle.vk_names.proofs.Fronts.{front_takes}
use Rattle.vk_names.proofs.Sequence.{kept, params_take}
use Rattle.vk_names.proofs.Placement.{placed_kept, all_placed_kept, first_false}
use Rattle.vk_names.proofs.Whole.{all_in_decimal, begins_none}

-- ---- the first that fails a test

passes_all : {A : Type 0} (p : A → Bool) (xs : List A) → prefix_len p xs ≡ length xs → list_all p xs ≡ true
passes_all p [] h = refl
passes_all p (x ∷ xs) h =
    left_or (cases_Bool (p x))
    (λ y.
    let more : 1 + prefix_len p xs ≡ suc (length xs) = sym (ap (λ (b : Bool). cond b (1 + prefix_len p xs) 0) y) ∙ h in
    and_from (p x) (list_all p xs) y (passes_all p xs (omega (arith, more))))
    (λ n.
    let none : 0 ≡ suc (length xs) = sym (ap (λ (b : Bool). cond b (1 + prefix_len p xs) 0) n) ∙ h in
    absurd (omega (arith, none)))

all_pass : {A : Type 0} (p : A → Bool) (xs : List A) → list_all p xs ≡ true → prefix_len p xs ≡ length xs
all_pass p [] h = refl
all_pass p (x ∷ xs) h =
    let q = and_parts (p x) (list_all p xs) h in
    rw (q.0) (omega (arith, all_pass p xs q.1))

stops_at : {A : Type 0} (p : A → Bool) (xs : List A) (y : A) (ys : List A) → list_all p xs ≡ true → p y ≡ false → prefix_len p (xs ++ (y ∷ ys)) ≡ length xs
stops_at p [] y ys all wrong = rw wrong refl
stops_at p (x ∷ xs) y ys all wrong =
    let q = and_parts (p x) (list_all p xs) all in
    rw (q.0) (omega (arith, stops_at p xs y ys q.1 wrong))

seam : {A : Type 0} (xs ys : List A) → take (length xs) (xs ++ ys) ≡ xs
seam [] ys = refl
seam (x ∷ xs) ys = ap (λ t. x ∷ t) (seam xs ys)

kept_append : (xs ys : List Written) → kept (xs ++ ys) ≡ kept xs ++ kept ys
kept_append [] ys = refl
kept_append (x ∷ xs) ys = ap (λ (ps : List Param). capped_param x.param ∷ ps) (kept_append xs ys)

fit_before : (xs ys : List Written) → AllByRecursion IsWritten (xs ++ ys) → AllByRecursion IsWritten xs
fit_before [] ys fit = tt
fit_before (x ∷ xs) ys fit = (fit.0, fit_before xs ys fit.1)

-- ---- lengths

decimal_len : (n : ℕ) → n ≤ 2147483647 → length (decimal n) ≤ 10
decimal_len n small = length-decimal-le 10 n (omega arith) (omega (arith, small)) (omega (arith, small))

step_len : (s : Step) (digits : List ℕ) → IsStep s digits → length (step_text (capped s) (decimal (position_in (Some (capped s))))) ≤ 11
step_len One digits fits = omega arith
step_len (By (pos n)) digits fits = let l = decimal_len n fits.1 in omega (arith, l)
step_len (By (negsuc n)) digits fits = let l = decimal_len (suc n) fits in omega (arith, l)
step_len (Arg at) digits fits = let l = decimal_len (min at 255) (omega arith) in omega (arith, l)

kind_len : (k : Kind) (digits : List ℕ) → IsOptionalStep (step_of k) digits → length (kind_text (capped_kind k) (decimal (position_in (step_of (capped_kind k))))) ≤ 12
kind_len Vector digits fits = omega arith
kind_len Uniform digits fits = omega arith
kind_len (Linear s) digits fits = let l = step_len s digits fits in omega (arith, l)
kind_len (Ref s) digits fits = let l = step_len s digits fits in omega (arith, l)
kind_len (Val s) digits fits = let l = step_len s digits fits in omega (arith, l)
kind_len (Uval s) digits fits = let l = step_len s digits fits in omega (arith, l)

align_len : (a : Option ℕ) → IsOptionalAlign a → length (align_text a) ≤ 11
align_len None fits = omega arith
align_len (Some n) fits = let high = fits.high in let l = decimal_len n (omega (arith, high)) in omega (arith, l)

written_len : (w : Written) → IsWritten w → length (written_text (in_decimal (capped_param w.param))) ≤ 23
unfolding written_text
written_len w fits =
    let k = kind_len w.param.kind w.digits fits.step in
    let a = align_len w.param.align fits.align in
    omega (arith, k, a, length-append (kind_text (capped_kind w.param.kind) (decimal (position_in (step_of (capped_kind w.param.kind))))) (align_text w.param.align))

params_len : (ws : List Written) → AllByRecursion IsWritten ws → length (params_text (map in_decimal (kept ws))) ≤ 23 * length ws
params_len [] fit = omega arith
params_len (w ∷ ws) fit =
    let one = written_len w fit.0 in
    let more = params_len ws fit.1 in
    omega (arith, one, more, length-append (written_text (in_decimal (capped_param w.param))) (params_text (map in_decimal (kept ws))))

len_len : (isa : _) (masked : Bool) (len : Len) → IsLen isa masked len → length (len_text len) ≤ 10
len_len isa masked (Fixed n) fits = let high = fits.1 in decimal_len n (omega (arith, high))
len_len isa masked Scalable fits = omega arith

front_len : (f : Length) → IsFront f → length (front_text f) ≤ 16
unfolding front_text IsFront
front_len f fits = let l = len_len f.isa f.masked f.len fits in omega (arith, l)

-- ---- places

in_text : (all ws : List Written) → length all ≤ 64 → AllByRecursion IsWritten ws → list_all (is_placed (all_params all)) (all_params ws) ≡ true
    → params_text (map in_decimal (kept ws)) ≡ params_text ws
in_text all ws few fit placed =
    let d = all_in_decimal all ws few fit placed in
    ap (λ (ps : List Param). params_text (map in_decimal ps)) d.kept_are ∙ d.text

-- a position that names no uniform parameter has a letter and `s` before it
long_text : (ps : List Param) (w : Written) → is_placed ps w.param ≡ false → 2 ≤ length (written_text w)
unfolding written_text
long_text ps w wrong = omega (arith, by_kind w.param.kind w.digits wrong, length-append (kind_text w.param.kind w.digits) (align_text w.param.align))
  where
    by_step : (s : Step) (digits : List ℕ) → step_is_placed ps (Some s) ≡ false → 1 ≤ length (step_text s digits)
    by_step One digits h = absurd (false≢true (sym h))
    by_step (By z) digits h = absurd (false≢true (sym h))
    by_step (Arg at) digits h = omega arith

    by_kind : (k : Kind) (digits : List ℕ) → step_is_placed ps (step_of k) ≡ false → 2 ≤ length (kind_text k digits)
    by_kind Vector digits h = absurd (false≢true (sym h))
    by_kind Uniform digits h = absurd (false≢true (sym h))
    by_kind (Linear s) digits h = let l = by_step s digits h in omega (arith, l)
    by_kind (Ref s) digits h = let l = by_step s digits h in omega (arith, l)
    by_kind (Val s) digits h = let l = by_step s digits h in omega (arith, l)
    by_kind (Uval s) digits h = let l = by_step s digits h in omega (arith, l)

-- refused at this place, which is inside the text
pub record Misplaced (text : List ℕ) (at : ℕ) : Type 0 where
  pub refused : Refused text at N7
  pub below : at < length text
  pub low : at ≤ 1490

misplaced_place : (text : List ℕ) (front : Length) (all : List Written) (rest : List ℕ) → Begins text front all (95 ∷ rest) → list_all (is_placed (kept all)) (kept all) ≡ false
    → Misplaced text (head_len front (take (prefix_len (is_placed (kept all)) (kept all)) (kept all)) + 2)
misplaced_place text front all rest b wrong =
    let f = first_false (is_placed (all_params all)) all (sym (all_placed_kept all all b.count) ∙ wrong) in
    from_first f.before f.here f.after f.parts f.passed f.wrong
  where
    from_first : (before : List Written) (w : Written) (after : List Written) → all ≡ before ++ (w ∷ after) → list_all (is_placed (all_params all)) (all_params before) ≡ true
        → is_placed (all_params all) w.param ≡ false → Misplaced text (head_len front (take (prefix_len (is_placed (kept all)) (kept all)) (kept all)) + 2)
    from_first before w after is passed fails =
        let begins : Begins text front (before ++ (w ∷ after)) (95 ∷ rest) = subst (λ (ws : List Written). Begins text front ws (95 ∷ rest)) is b in
        let placed : AllPlaced (before ++ (w ∷ after)) before = subst (λ (ws : List Written). AllPlaced ws before) is passed in
        let misses : is_placed (all_params (before ++ (w ∷ after))) w.param ≡ false = subst (λ (ws : List Written). is_placed (all_params ws) w.param ≡ false) is fails in
        let parts : kept all ≡ kept before ++ (capped_param w.param ∷ kept after) = ap kept is ∙ kept_append before (w ∷ after) in
        let len : prefix_len (is_placed (kept all)) (kept all) ≡ length (kept before) =
        ap (λ (ps : List Param). prefix_len (is_placed (kept all)) ps) parts
        ∙ stops_at (is_placed (kept all)) (kept before) (capped_param w.param) (kept after) (all_placed_kept all before b.count ∙ passed) (placed_kept all w b.count ∙ fails) in
        let front_part : take (prefix_len (is_placed (kept all)) (kept all)) (kept all) ≡ kept before =
        ap (λ (k : ℕ). take k (kept all)) len ∙ ap (λ (ps : List Param). take (length (kept before)) ps) parts ∙ seam (kept before) (capped_param w.param ∷ kept after) in
        let fit : AllByRecursion IsWritten before = fit_before before (w ∷ after) begins.before_fit in
        let same : params_text (map in_decimal (take (prefix_len (is_placed (kept all)) (kept all)) (kept all))) ≡ params_text before =
        ap (λ (ps : List Param). params_text (map in_decimal ps)) front_part ∙ in_text all before b.count fit passed in
        let place : length (front_text front ++ params_text before) + 2 ≡ head_len front (take (prefix_len (is_placed (kept all)) (kept all)) (kept all)) + 2
        = omega (arith, ap (λ (t : List ℕ). length t) same, length-append (front_text front) (params_text before)) in
        let long = long_text (all_params all) w fails in
        let few = begins.count in
        let some : length before ≤ 64 = omega (arith, few, length-append before (w ∷ after)) in
        let short = params_len before fit in
        let short_front = front_len front b.front_fits in
        subst (λ (k : ℕ). Misplaced text k) place (record {
          refused = misplaced front before w after rest begins placed misses;
          below = omega (
            arith,
            long,
            ap (λ (t : List ℕ). length t) begins.parts,
            length-append (front_text front) (params_text (before ++ (w ∷ after)) ++ (95 ∷ rest)),
            length-append (params_text (before ++ (w ∷ after))) (95 ∷ rest),
            ap (λ (t : List ℕ). length t) (flat_map-append written_text before (w ∷ after)),
            length-append (params_text before) (params_text (w ∷ after)),
            length-append (written_text w) (params_text after),
            length-append (front_text front) (params_text before),
          );
          low = omega (arith, some, short, short_front, length-append (front_text front) (params_text before), ap (λ (t : List ℕ). length t) (in_text all before b.count fit passed));
        })

-- ---- at the `_`

pub record AtUnderscore (text : List ℕ) (front : Length) (params : List Param) (scalar : List ℕ) : Type 0 where
  pub place : prefix_len (is_placed params) params ≡ length params → head_len front params + 1 + length scalar ≡ length text
  pub placed : prefix_len (is_placed params) params ≡ length params → list_all (is_placed params) params ≡ true
  pub misplaced : prefix_len (is_placed params) params ≢ length params → Misplaced text (head_len front (take (prefix_len (is_placed params) params) params) + 2)
  pub low : head_len front params ≤ 1488

from_all : (text : List ℕ) (front : Length) (all : List Written) (scalar : List ℕ) → Begins text front all (95 ∷ scalar) → AtUnderscore text front (kept all) scalar
from_all text front all scalar b =
    let few = b.count in
    let one = front_len front b.front_fits in
    let more = params_len all b.before_fit in
    record {
      place = λ h.
          let placed = sym (all_placed_kept all all b.count) ∙ passes_all (is_placed (kept all)) (kept all) h in
          let same = in_text all all b.count b.before_fit placed in
          omega (
            arith,
            ap (λ (t : List ℕ). length t) same,
            ap (λ (t : List ℕ). length t) b.parts,
            length-append (front_text front) (params_text all ++ (95 ∷ scalar)),
            length-append (params_text all) (95 ∷ scalar),
          );
      placed = λ h. passes_all (is_placed (kept all)) (kept all) h;
      misplaced = λ h. misplaced_place text front all scalar b (not_all h);
      low = omega (arith, few, one, more);
    }
  where
    not_all : prefix_len (is_placed (kept all)) (kept all) ≢ length (kept all) → list_all (is_placed (kept all)) (kept all) ≡ false
    not_all h = left_or (cases_Bool (list_all (is_placed (kept all)) (kept all))) (λ y. absurd (h (all_pass (is_placed (kept all)) (kept all) y))) (λ n. n)

pub at_underscore_is : (text : List ℕ) (front : Length) (after : List ℕ) (params : List Param) (scalar : List ℕ) → front_at text ≡ Ok (front, after) → params_at 64 [] after ≡ Ok (params, scalar)
    → AtUnderscore text front params scalar
at_underscore_is text front after params scalar e h =
    let t = params_take 64 text front [] after params scalar (begins_none text front after (front_takes text front after e)) refl h in
    subst (λ (ps : List Param). AtUnderscore text front ps scalar) t.kept_are (from_all text front t.all scalar t.begins)
