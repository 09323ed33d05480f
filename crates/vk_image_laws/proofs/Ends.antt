-- Tables of which no condition is broken have valid codes, entries that call what they may, and short chains.
use Rattle.std.proofs.Common.{◌≡◌, ℕ, zero, suc, ◌+◌, ◌==◌, ◌<◌, Bool, true, false, not, ◌&&◌, ◌||◌, cond, List, [], ◌∷◌, ◌++◌, length, map, Option, Some, None, refl, sym, ap, ap₂, ◌∙◌, subst, slice_get, arith}
use Rattle.std.specs.Prelude.{nat_le, nat_lt}
use Rattle.std.specs.List.{list_all, list_any}
use Rattle.std.specs.Option.{option_map}
use Rattle.std.proofs.lemmas.Bool.{false≢true, eq-eqb, ltb-true}
use Rattle.std.proofs.lemmas.List.{length-map}
use Rattle.std.proofs.lemmas.Option.{slice_get-map}
use Rattle.vk_code.specs.Listing.{CallSite, Listing, SimdSite}
use Rattle.vk_code.specs.Tests.{all_good, first_bad, holds, pairs}
use Rattle.vk_code.specs.Valid.{fault_of, verdicts}
use Rattle.vk_code.proofs.Faults.{and_left, and_right, everywhere}
use Rattle.vk_object.specs.declared.tables.LoopTargets.{LoopTargets}
use Rattle.vk_object.specs.Images.{cells_of, code_of, entry_numbers, has_body, is_body_entry, is_call, is_chunk, is_code, is_entry, is_equal, is_function_code, is_image, is_linked, is_loop, is_main, is_number_of, is_ordinary, is_rest, is_row, is_variant, is_within, names_of, param_types, suits}
use Rattle.vk_object.specs.Parameters.{are_typed}
use Rattle.vk_object.specs.Tables.{EntryLists, Tables}
use Rattle.vk_format.specs.declared.rules.ObjectFault.{ObjectFault}
use Rattle.vk_format.specs.declared.rules.ObjectRule.TheVariants.{O7, O8, O9}
use Rattle.vk_format.specs.Format.{fault}
use Rattle.vk_format.specs.Codec.{FitAfter}
use Rattle.vk_code_format.specs.declared.rows.CodeRow.{CodeRow}
use Rattle.vk_code_format.specs.Codes.{in_image}
use Rattle.vk_code_format.specs.Fields.{first_along, or_else, unless}
use Rattle.vk_code_format.specs.Places.{code_length}
use Rattle.vk_code_format.specs.Parameters.{param_of}
use Rattle.vk_code_format.specs.Values.{bad_part, earlier, listing_of, places_verdicts, site_of}
use Rattle.vk_image_format.specs.declared.rows.RawEntry.{RawEntry}
use Rattle.vk_image_format.specs.declared.rows.RawImage.{RawImage}
use Rattle.vk_image_format.specs.Image.{IsImage, among_entries, asks_for, bad_part_of, by_code, code_fault, code_field, codes_at, entries_at, entry, entry_length, image_faults, image_table, is_body_code, is_runnable, kind_fault, loop_faults, loops_fault, loops_field, loops_of, main_at, params_fault, slots_of, table_bytes, target_faults, targets_fault, targets_field}
use Rattle.vk_image_format.specs.Values.{entry_of, tables_of}
use Rattle.vk_object_laws.proofs.Lists.{and_true}
use Rattle.vk_image_laws.proofs.Rows.{HaveRows, bodies, number_of_map, rows_fit}

or_first : (a b : Option ObjectFault) → or_else a b ≡ None → a ≡ None
or_first None b h = refl
or_first (Some f) b h = absurd cc

or_second : (a b : Option ObjectFault) → or_else a b ≡ None → b ≡ None
or_second None b h = h
or_second (Some f) b h = absurd cc

unless_none : (b : Bool) (f : ObjectFault) → unless b f ≡ None → b ≡ true
unless_none true f h = refl
unless_none false f h = absurd cc

map_none : {A B : Type 0} (f : A → B) (o : Option A) → option_map f o ≡ None → o ≡ None
map_none f None h = refl
map_none f (Some a) h = absurd cc

both_none : (a b : Option ℕ) → earlier a b ≡ None → (a ≡ None) × (b ≡ None)
both_none None b h = (refl, h)
both_none (Some m) None h = absurd cc
both_none (Some m) (Some n) h = absurd cc

cond_none : (b : Bool) (o : Option ℕ) → cond b o (Some 0) ≡ None → (b ≡ true) × (o ≡ None)
cond_none true o h = (refl, h)
cond_none false o h = absurd cc

or_same : (a b c : Bool) → (a || (b || c)) ≡ true → (a || b || c) ≡ true
or_same true true c h = refl
or_same true false c h = refl
or_same false true c h = refl
or_same false false c h = h

or_left : (a b : Bool) → a ≡ true → (a || b) ≡ true
or_left true b h = refl
or_left false b h = absurd (false≢true h)

or_right : (a b : Bool) → b ≡ true → (a || b) ≡ true
or_right true b h = refl
or_right false b h = h

-- ---- codes

codes_valid : (i : RawImage) (cs : List CodeRow) (n at : ℕ) → list_all (λ c. list_all (has_body (tables_of i)) (map site_of c.loops)) cs ≡ true
    → first_along (code_length (in_image (length i.codes))) (code_fault i) n at cs ≡ None → list_all (is_code (tables_of i)) (map listing_of cs) ≡ true
codes_valid i [] n at bodies h = refl
codes_valid i (c ∷ cs) n at bodies h =
    let size = code_length (in_image (length i.codes)) in
    let here = map_none _ (bad_part_of (tables_of i) n c) (or_first (code_fault i n at c) (first_along size (code_fault i) (n + 1) (at + size c) cs) h) in
    let split = cond_none (c.routine.front.lane_code || not (list_any (asks_for (tables_of i) n) (tables_of i).entries)) (bad_part (names_of (tables_of i)) (listing_of c)) here in
    let parts = both_none (first_bad (places_verdicts (listing_of c))) (fault_of (names_of (tables_of i)) (listing_of c)) split.1 in
    and_true _ _
    (and_true _ _ (and_left (list_all (has_body (tables_of i)) (map site_of c.loops)) (list_all (λ c. list_all (has_body (tables_of i)) (map site_of c.loops)) cs) bodies)
    (everywhere (verdicts (names_of (tables_of i)) (listing_of c)) parts.1))
    (codes_valid i cs (n + 1) (at + size c) (and_right (list_all (has_body (tables_of i)) (map site_of c.loops)) _ bodies) (or_second (code_fault i n at c) _ h))

-- code that an entry asks for is lane code
lane_codes : (i : RawImage) (cs : List CodeRow) (n at : ℕ) → first_along (code_length (in_image (length i.codes))) (code_fault i) n at cs ≡ None
    → (k : ℕ) (c : CodeRow) → slice_get cs k ≡ Some c → (m : ℕ) → m ≡ n + k → (c.routine.front.lane_code || not (list_any (asks_for (tables_of i) m) (tables_of i).entries)) ≡ true
lane_codes i [] n at h k c is m e = absurd cc
lane_codes i (d ∷ cs) n at h zero c is m e =
    let size = code_length (in_image (length i.codes)) in
    let same : d ≡ c = cc in
    let number : m ≡ n = omega (arith, e) in
    let here = map_none _ (bad_part_of (tables_of i) n d) (or_first (code_fault i n at d) (first_along size (code_fault i) (n + 1) (at + size d) cs) h) in
    let good = (cond_none (d.routine.front.lane_code || not (list_any (asks_for (tables_of i) n) (tables_of i).entries)) (bad_part (names_of (tables_of i)) (listing_of d)) here).0 in
    subst (λ k. (c.routine.front.lane_code || not (list_any (asks_for (tables_of i) k) (tables_of i).entries)) ≡ true) (sym number)
    (subst (λ (x : CodeRow). (x.routine.front.lane_code || not (list_any (asks_for (tables_of i) n) (tables_of i).entries)) ≡ true) same good)
lane_codes i (d ∷ cs) n at h (suc k) c is m e =
    let size = code_length (in_image (length i.codes)) in
    lane_codes i cs (n + 1) (at + size d) (or_second (code_fault i n at d) _ h) k c is m (omega (arith, e))

-- ---- entries and their codes

lane_by : (a b : Bool) → (a || not b) ≡ true → b ≡ true → a ≡ true
lane_by true b h k = refl
lane_by false true h k = h
lane_by false false h k = absurd (false≢true k)

-- what is asked by one of the later entries is asked
abbrev Asked : RawImage → List RawEntry → Type 0
Asked i es = (k : ℕ) → list_any (asks_for (tables_of i) k) (map entry_of es) ≡ true → list_any (asks_for (tables_of i) k) (tables_of i).entries ≡ true

module _ (i : RawImage) (e : RawEntry) (c : CodeRow) (is : slice_get i.codes e.front.code ≡ Some c) where
  code_is : code_of (tables_of i) (entry_of e) ≡ Some (listing_of c)
  code_is = slice_get-map listing_of i.codes e.front.code ∙ ap (option_map listing_of) is

  by_its_code : (faults : Listing → Option ObjectFault) → by_code (tables_of i) faults e ≡ None → faults (listing_of c) ≡ None
  by_its_code faults h = subst (λ (o : Option Listing). (elim o as (λ _. Option ObjectFault) [ None ↦ None | Some d ↦ faults d ]) ≡ None) code_is h

  -- its code is lane code
  lane_code : (b : Bool) → is_ordinary e.front.name.kind ≡ b → (c.routine.front.lane_code || not (list_any (asks_for (tables_of i) e.front.code) (tables_of i).entries)) ≡ true
      → (es : List RawEntry) → Asked i (e ∷ es) → (b || c.routine.front.lane_code) ≡ true
  lane_code true kind lanes es asked = refl
  lane_code false kind lanes es asked =
      let same : (e.front.code == e.front.code) ≡ true = eq-eqb e.front.code e.front.code refl in
      let first : (not (is_ordinary e.front.name.kind) && (e.front.code == e.front.code)) ≡ true = and_true _ _ (ap not kind) same in
      let asks : asks_for (tables_of i) e.front.code (entry_of e) ≡ true = or_left _ (holds (λ d. is_body_code d e.front.code) (code_of (tables_of i) (entry_of e))) first in
      lane_by c.routine.front.lane_code _ lanes
      (asked e.front.code (or_left (asks_for (tables_of i) e.front.code (entry_of e)) (list_any (asks_for (tables_of i) e.front.code) (map entry_of es)) asks))

  calls : (ss : List CallSite) (ts : List ℕ) (at : ℕ) → length ts ≡ length ss → target_faults (tables_of i) e (listing_of c) at ss ts ≡ None
      → pairs (is_call (tables_of i) (entry_of e) (listing_of c)) ss ts ≡ true
  calls [] [] at count h = refl
  calls [] (t ∷ ts) at count h = absurd (omega (arith, count))
  calls (s ∷ ss) [] at count h = absurd (omega (arith, count))
  calls (s ∷ ss) (t ∷ ts) at count h =
      let good = is_call (tables_of i) (entry_of e) (listing_of c) s t in
      let rest = target_faults (tables_of i) e (listing_of c) (at + 4) ss ts in
      and_true _ _ (unless_none good (fault at O7) (or_first (unless good (fault at O7)) rest h))
      (calls ss ts (at + 4) (omega (arith, count)) (or_second (unless good (fault at O7)) rest h))

  runs : (ls : List SimdSite) (ts : List LoopTargets) (at : ℕ) → length ts ≡ length ls → loop_faults (tables_of i) (listing_of c) at ls ts ≡ None
      → pairs (is_loop (tables_of i) (listing_of c)) ls ts ≡ true
  runs [] [] at count h = refl
  runs [] (t ∷ ts) at count h = absurd (omega (arith, count))
  runs (l ∷ ls) [] at count h = absurd (omega (arith, count))
  runs (l ∷ ls) (t ∷ ts) at count h =
      let chunk = is_body_entry (tables_of i) (listing_of c) l is_chunk t.chunk in
      let rest = is_body_entry (tables_of i) (listing_of c) l is_rest t.rest in
      let later = loop_faults (tables_of i) (listing_of c) (at + 8) ls ts in
      let behind = or_second (unless chunk (fault at O7)) (or_else (unless rest (fault (at + 4) O7)) later) h in
      and_true _ _
      (and_true _ _ (unless_none chunk (fault at O7) (or_first (unless chunk (fault at O7)) (or_else (unless rest (fault (at + 4) O7)) later) h))
      (unless_none rest (fault (at + 4) O7) (or_first (unless rest (fault (at + 4) O7)) later behind)))
      (runs ls ts (at + 8) (omega (arith, count)) (or_second (unless rest (fault (at + 4) O7)) later behind))

  linked : (es : List RawEntry) → Asked i (e ∷ es) → (c.routine.front.lane_code || not (list_any (asks_for (tables_of i) e.front.code) (tables_of i).entries)) ≡ true
      → length e.targets ≡ slots_of (slice_get i.codes e.front.code) → length e.loops ≡ loops_of (slice_get i.codes e.front.code)
      → (n at : ℕ) → kind_fault (tables_of i) n at e ≡ None → params_fault (tables_of i) n at e ≡ None → targets_fault (tables_of i) n at e ≡ None → loops_fault (tables_of i) n at e ≡ None
      → is_entry (tables_of i) (entry_of e) ≡ true
  linked es asked lanes targets loops n at kind params calling looping =
      let d = listing_of c in
      let k = e.front.name.kind in
      let slots : length e.targets ≡ length d.routine.slots = targets ∙ ap slots_of is ∙ sym (length-map c.routine.front.slots _) in
      let sites : length e.loops ≡ length d.loops = loops ∙ ap loops_of is ∙ sym (length-map c.loops _) in
      let suited : suits (entry_of e) d ≡ true =
      and_true _ _
      (and_true _ _ (lane_code (is_ordinary k) refl lanes es asked)
      (or_same (is_chunk k) (is_rest k) (is_function_code d)
      (unless_none (is_chunk k || (is_rest k || is_function_code d)) (fault (at + code_field e) O7)
      (by_its_code (λ x. unless (is_chunk k || (is_rest k || is_function_code x)) (fault (at + code_field e) O7)) kind))))
      (unless_none (not (is_variant k) || are_typed (param_types d) (map param_of e.front.params)) (fault at O7)
      (by_its_code (λ x. unless (not (is_variant k) || are_typed (param_types x) (map param_of e.front.params)) (fault at O7)) params)) in
      let whole : is_linked (tables_of i) (entry_of e) d ≡ true =
      and_true _ _
      (and_true _ _ suited
      (calls d.routine.slots e.targets (at + targets_field e) slots (by_its_code (λ x. target_faults (tables_of i) e x (at + targets_field e) x.routine.slots e.targets) calling)))
      (runs d.loops e.loops (at + loops_field e) sites (by_its_code (λ x. loop_faults (tables_of i) x (at + loops_field e) x.loops e.loops) looping)) in
      ap (holds (is_linked (tables_of i) (entry_of e))) code_is ∙ whole

-- ---- the entries

no_code : (i : RawImage) (e : RawEntry) → is_number_of (tables_of i).codes e.front.code ≡ true → slice_get i.codes e.front.code ≡ None → ⊥
no_code i e inside none =
    let low : e.front.code < length i.codes = ltb-true _ _ (ap (nat_lt e.front.code) (sym (length-map i.codes listing_of)) ∙ inside) in
    within i.codes e.front.code low none
  where
    within : (cs : List CodeRow) (k : ℕ) → k < length cs → slice_get cs k ≡ None → ⊥
    within [] k lt none = omega (arith, lt)
    within (c ∷ cs) zero lt none = cc
    within (c ∷ cs) (suc k) lt none = within cs k (omega (arith, lt)) none

abbrev along : RawImage → (Tables → ℕ → ℕ → RawEntry → Option ObjectFault) → ℕ → ℕ → List RawEntry → Option ObjectFault
along i faults n at es = first_along entry_length (faults (tables_of i)) n at es

-- each code is lane code where it is asked to be
abbrev Lanes : RawImage → Type 0
Lanes i = (k : ℕ) (c : CodeRow) → slice_get i.codes k ≡ Some c → (c.routine.front.lane_code || not (list_any (asks_for (tables_of i) k) (tables_of i).entries)) ≡ true

entry_linked : (i : RawImage) (before : List RawEntry) (e : RawEntry) (es : List RawEntry) (n at : ℕ) → (entry {R = RawImage} i.codes (length i.entries) before).fits e
    → is_row (tables_of i) (entry_of e) ≡ true → Lanes i → Asked i (e ∷ es)
    → kind_fault (tables_of i) n at e ≡ None → params_fault (tables_of i) n at e ≡ None → targets_fault (tables_of i) n at e ≡ None → loops_fault (tables_of i) n at e ≡ None
    → (o : Option CodeRow) → slice_get i.codes e.front.code ≡ o → is_entry (tables_of i) (entry_of e) ≡ true
entry_linked i before e es n at fits row lanes asked kind params calling looping None is =
    absurd (no_code i e (and_right _ _ (and_left _ _ (and_left _ _ (and_left _ _ row)))) is)
entry_linked i before e es n at fits row lanes asked kind params calling looping (Some c) is =
    linked i e c is es asked (lanes e.front.code c is) fits.1.0.0.0 fits.1.1.0.0.0 n at kind params calling looping

entries_linked : (i : RawImage) (before es : List RawEntry) (n at : ℕ) → FitAfter (entry {R = RawImage} i.codes (length i.entries)) before es
    → list_all (is_row (tables_of i)) (map entry_of es) ≡ true → Lanes i → Asked i es
    → along i kind_fault n at es ≡ None → along i params_fault n at es ≡ None → along i targets_fault n at es ≡ None → along i loops_fault n at es ≡ None
    → list_all (is_entry (tables_of i)) (map entry_of es) ≡ true
entries_linked i before [] n at fits rows lanes asked kind params calling looping = refl
entries_linked i before (e ∷ es) n at fits rows lanes asked kind params calling looping =
    let image = tables_of i in
    let end = at + entry_length e in
    and_true _ _
    (entry_linked i before e es n at fits.0 (and_left (is_row image (entry_of e)) (list_all (is_row image) (map entry_of es)) rows) lanes asked
    (or_first (kind_fault image n at e) (along i kind_fault (n + 1) end es) kind)
    (or_first (params_fault image n at e) (along i params_fault (n + 1) end es) params)
    (or_first (targets_fault image n at e) (along i targets_fault (n + 1) end es) calling)
    (or_first (loops_fault image n at e) (along i loops_fault (n + 1) end es) looping)
    (slice_get i.codes e.front.code) refl)
    (entries_linked i (before ++ e ∷ []) es (n + 1) end fits.1 (and_right (is_row image (entry_of e)) (list_all (is_row image) (map entry_of es)) rows) lanes
    (λ k h. asked k (or_right (asks_for image k (entry_of e)) (list_any (asks_for image k) (map entry_of es)) h))
    (or_second (kind_fault image n at e) (along i kind_fault (n + 1) end es) kind)
    (or_second (params_fault image n at e) (along i params_fault (n + 1) end es) params)
    (or_second (targets_fault image n at e) (along i targets_fault (n + 1) end es) calling)
    (or_second (loops_fault image n at e) (along i loops_fault (n + 1) end es) looping))

-- ---- the whole

tables_whole : (i : RawImage) (end : ℕ) → HaveRows i → image_faults i end ≡ None → is_image (tables_of i) ≡ true
tables_whole i end rows h =
    let image = tables_of i in
    let chains = unless (is_runnable image) (fault end O9) in
    let main = or_else (unless (is_main image (Some i.main)) (fault main_at O7)) chains in
    let looping = or_else (among_entries i loops_fault) main in
    let calling = or_else (among_entries i targets_fault) looping in
    let params = or_else (among_entries i params_fault) calling in
    let kinds = or_else (among_entries i kind_fault) params in
    let codes = first_along (code_length (in_image (length i.codes))) (code_fault i) 0 (codes_at i) i.codes in
    let first = unless (nat_lt i.main (length i.entries)) (fault main_at O8) in
    let h1 = or_second first (or_else codes kinds) h in
    let h2 = or_second codes kinds h1 in
    let h3 = or_second (among_entries i kind_fault) params h2 in
    let h4 = or_second (among_entries i params_fault) calling h3 in
    let h5 = or_second (among_entries i targets_fault) looping h4 in
    let h6 = or_second (among_entries i loops_fault) main h5 in
    let good_codes = or_first codes kinds h1 in
    let runnable = unless_none (is_runnable image) (fault end O9) (or_second (unless (is_main image (Some i.main)) (fault main_at O7)) chains h6) in
    let some_entry = number_of_map entry_of i.entries i.main (unless_none (nat_lt i.main (length i.entries)) (fault main_at O8) (or_first first (or_else codes kinds) h)) in
    let lanes : Lanes i = λ k c is. lane_codes i i.codes 0 (codes_at i) good_codes k c is k (omega arith) in
    let linked = entries_linked i [] i.entries 0 (entries_at i) rows.fits rows.entries lanes (λ k asks. asks)
    (or_first (among_entries i kind_fault) params h2) (or_first (among_entries i params_fault) calling h3)
    (or_first (among_entries i targets_fault) looping h4) (or_first (among_entries i loops_fault) main h5) in
    let is_main_entry = unless_none (is_main image (Some i.main)) (fault main_at O7) (or_first (unless (is_main image (Some i.main)) (fault main_at O7)) chains h6) in
    and_true _ _
    (and_true _ _
    (and_true _ _
    (and_true _ _
    (and_true _ _
    (and_true _ _
    (and_true _ _
    (and_true _ _
    (and_true _ _
    (and_true _ _
    (and_true _ _ rows.letter rows.vl)
    rows.arrays)
    rows.arrays_ascend)
    rows.entries)
    rows.entries_ascend)
    some_entry)
    (codes_valid i i.codes 0 (codes_at i) (bodies i [] i.codes rows.codes) good_codes))
    linked)
    is_main_entry)
    (and_left (list_all (is_within image 64) (entry_numbers image)) (nat_le (cells_of image) 33554432) runnable))
    (and_right (list_all (is_within image 64) (entry_numbers image)) (nat_le (cells_of image) 33554432) runnable)

pub tables_image : (i : RawImage) → IsImage i → is_image (tables_of i) ≡ true
tables_image i h = tables_whole i (length (table_bytes i)) (rows_fit i h.0) h.1
