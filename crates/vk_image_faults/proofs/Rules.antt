-- Faults by their rules, and by the first of several conditions.
use Rattle.std.proofs.Common.{◌≡◌, ℕ, zero, suc, ◌+◌, ◌<◌, ◌≤◌, get_or, arith, Bool, true, false, ◌&&◌, List, [], ◌∷◌, length, Option, Some, None, refl, ap, sym, ◌∙◌, subst, slice_get}
use Rattle.std.specs.Prelude.{is_none, is_some, nat_lt}
use Rattle.std.specs.Option.{option_map}
use Rattle.std.proofs.lemmas.Bool.{false≢true}
use Rattle.std.proofs.lemmas.Option.{slice_get-map}
use Rattle.vk_code.specs.Listing.{CallSite, Listing, SimdSite}
use Rattle.vk_format.specs.declared.rules.ObjectFault.{ObjectFault}
use Rattle.vk_format.specs.declared.rules.ObjectRule.{ObjectRule}
use Rattle.vk_format.specs.declared.rules.ObjectRule.TheVariants.{O7, O8, O9}
use Rattle.vk_format.specs.Format.{fault}
use Rattle.vk_code_format.specs.declared.rows.CodeRow.{CodeRow}
use Rattle.vk_code_format.specs.Codes.{Place, in_image}
use Rattle.vk_code_format.specs.Fields.{first_along, or_else, unless}
use Rattle.vk_code_format.specs.Places.{code_length, part_at}
use Rattle.vk_code_format.specs.Values.{listing_of}
use Rattle.vk_object.specs.declared.tables.LoopTargets.{LoopTargets}
use Rattle.vk_object.specs.Images.{code_of}
use Rattle.vk_object.specs.Tables.{Tables}
use Rattle.vk_object_faults.specs.Inner.Told.{capped_fault, place_told}
use Rattle.vk_image_format.specs.declared.rows.RawEntry.{RawEntry}
use Rattle.vk_image_format.specs.declared.rows.RawImage.{RawImage}
use Rattle.vk_image_format.specs.Image.{among_entries, bad_part_of, code_fault, codes_at, entries_at, entry_length, loop_faults, main_at, target_faults, targets_field, loops_field}
use Rattle.vk_image_format.specs.Values.{entry_of, tables_of}
use Rattle.vk_image_faults.specs.Ends.{faults_at}
use Rattle.vk_image_faults.specs.declared.entries.EntryCheck.{EntryCheck}
use Rattle.vk_image_faults.specs.declared.entries.EntryCheck.TheVariants as checks
use Rattle.vk_image_faults.specs.Inner.Told.{all_faults, among, entry_faults, link_faults, run_faults, among_codes, broken, code_size, entries_place, entry_size, fault_in_code, fault_in_entry, faults_of, has_few_cells, has_main, has_short_chains}

-- ---- codes

module _ (i : RawImage) (place : Place) (k p : ℕ) (c : CodeRow) where
  code_is : fault_in_code i place k p c ≡ option_map (λ part. fault (p + part_at place c part) O9) (bad_part_of (tables_of i) k c)
  unfolding fault_in_code
  code_is = refl

  pub none_code : bad_part_of (tables_of i) k c ≡ None → fault_in_code i place k p c ≡ None
  none_code h = code_is ∙ ap (option_map (λ part. fault (p + part_at place c part) O9)) h

  pub some_code : (part : ℕ) → bad_part_of (tables_of i) k c ≡ Some part → fault_in_code i place k p c ≡ Some (fault (p + part_at place c part) O9)
  some_code part h = code_is ∙ ap (option_map (λ n. fault (p + part_at place c n) O9)) h

pub codes_are : (i : RawImage) → first_along (code_size (in_image (length i.codes))) (fault_in_code i (in_image (length i.codes))) 0 (codes_at i) i.codes
    ≡ among_codes i
unfolding code_size fault_in_code among_codes
codes_are i = refl

-- ---- entries

-- an item by its number
pub found : {A : Type 0} (xs : List A) (n : ℕ) (x : A) → n < length xs → x ≡ get_or xs n x → slice_get xs n ≡ Some x
found [] n x h e = absurd (omega (arith, h))
found (y ∷ xs) zero x h e = ap (λ z. Some z) (sym e)
found (y ∷ xs) (suc n) x h e = found xs n x (omega (arith, h)) e

pub not_found : {A : Type 0} (xs : List A) (n : ℕ) → length xs ≤ n → slice_get xs n ≡ None
not_found [] n h = refl
not_found (y ∷ xs) zero h = absurd (omega (arith, h))
not_found (y ∷ xs) (suc n) h = not_found xs n (omega (arith, h))

-- by the code of an entry
pub by_its_code : (check : EntryCheck) (i : RawImage) (n p : ℕ) (e : RawEntry) (c : CodeRow) → slice_get i.codes e.front.code ≡ Some c → fault_in_entry check i n p e ≡ broken check (tables_of i) (listing_of c) p e
unfolding fault_in_entry
by_its_code check i n p e c h =
    ap (λ (o : Option Listing). (elim o as (λ _. Option ObjectFault) [ None ↦ None | Some d ↦ broken check (tables_of i) d p e ])) (slice_get-map listing_of i.codes e.front.code ∙ ap (option_map listing_of) h)

pub without_code : (check : EntryCheck) (i : RawImage) (n p : ℕ) (e : RawEntry) → slice_get i.codes e.front.code ≡ None → fault_in_entry check i n p e ≡ None
unfolding fault_in_entry
without_code check i n p e h =
    ap (λ (o : Option Listing). (elim o as (λ _. Option ObjectFault) [ None ↦ None | Some d ↦ broken check (tables_of i) d p e ])) (slice_get-map listing_of i.codes e.front.code ∙ ap (option_map listing_of) h)

checks_are : (check : EntryCheck) (i : RawImage) (n p : ℕ) (e : RawEntry) → fault_in_entry check i n p e ≡ faults_of check (tables_of i) n p e
unfolding fault_in_entry
checks_are checks.Kind i n p e = refl
checks_are checks.Params i n p e = refl
checks_are checks.Targets i n p e = refl
checks_are checks.Loops i n p e = refl

entries_begin : (i : RawImage) → entries_place i (in_image (length i.codes)) ≡ entries_at i
unfolding code_size
entries_begin i = refl

entries_along : (check : EntryCheck) (i : RawImage) (at : ℕ) → first_along entry_size (fault_in_entry check i) 0 at i.entries ≡ first_along entry_length (faults_of check (tables_of i)) 0 at i.entries
unfolding entry_size
entries_along check i at = λ t. first_along entry_length (λ n p e. checks_are check i n p e t) 0 at i.entries

pub entries_are : (check : EntryCheck) (i : RawImage) → first_along entry_size (fault_in_entry check i) 0 (entries_place i (in_image (length i.codes))) i.entries ≡ among_entries i (faults_of check)
entries_are check i = entries_along check i (entries_place i (in_image (length i.codes))) ∙ ap (λ at. first_along entry_length (faults_of check (tables_of i)) 0 at i.entries) (entries_begin i)

-- ---- rules

-- a fault, if there is one, is of this rule
abbrev HasRule : ObjectRule → Option ObjectFault → Type 0
HasRule rule x = option_map capped_fault x ≡ option_map (λ at. fault at rule) (place_told x)

either : (rule : ObjectRule) (x y : Option ObjectFault) → HasRule rule x → HasRule rule y → HasRule rule (or_else x y)
either rule None y h k = k
either rule (Some f) y h k = h

along : {A : Type 0} (rule : ObjectRule) (size : A → ℕ) (faults : ℕ → ℕ → A → Option ObjectFault) → ((n at : ℕ) (x : A) → HasRule rule (faults n at x))
    → (n at : ℕ) (xs : List A) → HasRule rule (first_along size faults n at xs)
along rule size faults each n at [] = refl
along rule size faults each n at (x ∷ xs) = either rule (faults n at x) (first_along size faults (n + 1) (at + size x) xs) (each n at x) (along rule size faults each (n + 1) (at + size x) xs)

by_test : (rule : ObjectRule) (b : Bool) (at : ℕ) → HasRule rule (unless b (fault at rule))
by_test rule true at = refl
by_test rule false at = refl

by_part : (rule : ObjectRule) (place : ℕ → ℕ) (o : Option ℕ) → HasRule rule (option_map (λ part. fault (place part) rule) o)
by_part rule place None = refl
by_part rule place (Some part) = refl

target_rule : (image : Tables) (e : RawEntry) (c : Listing) (at : ℕ) (ss : List CallSite) (ts : List ℕ) → HasRule O7 (target_faults image e c at ss ts)
target_rule image e c at [] ts = refl
target_rule image e c at (s ∷ ss) [] = refl
target_rule image e c at (s ∷ ss) (t ∷ ts) = either O7 _ (target_faults image e c (at + 4) ss ts) (by_test O7 _ at) (target_rule image e c (at + 4) ss ts)

loop_rule : (image : Tables) (c : Listing) (at : ℕ) (ss : List SimdSite) (ts : List LoopTargets) → HasRule O7 (loop_faults image c at ss ts)
loop_rule image c at [] ts = refl
loop_rule image c at (s ∷ ss) [] = refl
loop_rule image c at (s ∷ ss) (t ∷ ts) = either O7 _ (or_else _ (loop_faults image c (at + 8) ss ts)) (by_test O7 _ at) (either O7 _ (loop_faults image c (at + 8) ss ts) (by_test O7 _ (at + 4)) (loop_rule image c (at + 8) ss ts))

broken_rule : (check : EntryCheck) (image : Tables) (c : Listing) (at : ℕ) (e : RawEntry) → HasRule O7 (broken check image c at e)
broken_rule checks.Kind image c at e = by_test O7 _ _
broken_rule checks.Params image c at e = by_test O7 _ _
broken_rule checks.Targets image c at e = target_rule image e c (at + targets_field e) c.routine.slots e.targets
broken_rule checks.Loops image c at e = loop_rule image c (at + loops_field e) c.loops e.loops

code_rule : (check : EntryCheck) (image : Tables) (at : ℕ) (e : RawEntry) (o : Option Listing) → HasRule O7 (elim o as (λ _. Option ObjectFault) [ None ↦ None | Some d ↦ broken check image d at e ])
code_rule check image at e None = refl
code_rule check image at e (Some c) = broken_rule check image c at e

entry_rule : (check : EntryCheck) (i : RawImage) (n at : ℕ) (e : RawEntry) → HasRule O7 (fault_in_entry check i n at e)
unfolding fault_in_entry
entry_rule check i n at e = code_rule check (tables_of i) at e (code_of (tables_of i) (entry_of e))

pub entries_rule : (check : EntryCheck) (i : RawImage) → HasRule O7 (among_entries i (faults_of check))
entries_rule check i = subst (HasRule O7) (entries_are check i) (along O7 entry_size (fault_in_entry check i) (entry_rule check i) 0 (entries_place i (in_image (length i.codes))) i.entries)

pub codes_rule : (i : RawImage) → HasRule O9 (first_along (code_length (in_image (length i.codes))) (code_fault i) 0 (codes_at i) i.codes)
codes_rule i = along O9 (code_length (in_image (length i.codes))) (code_fault i) (λ n at c. by_part O9 (λ part. at + part_at (in_image (length i.codes)) c part) (bad_part_of (tables_of i) n c)) 0 (codes_at i) i.codes

pub entries_told : (check : EntryCheck) (i : RawImage) (told : Option ℕ) → told ≡ place_told (first_along entry_size (fault_in_entry check i) 0 (entries_place i (in_image (length i.codes))) i.entries)
    → option_map (λ at. fault at O7) told ≡ option_map capped_fault (among check i)
unfolding among
entries_told check i told h = ap (option_map (λ at. fault at O7)) (h ∙ ap place_told (entries_are check i)) ∙ sym (entries_rule check i)

pub codes_told : (i : RawImage) (told : Option ℕ) → told ≡ place_told (among_codes i) → option_map (λ at. fault at O9) told ≡ option_map capped_fault (among_codes i)
unfolding among_codes
codes_told i told h = ap (option_map (λ at. fault at O9)) h ∙ sym (codes_rule i)

-- ---- the first of several

pub stops_first : (told : Option ObjectFault) (x y : Option ObjectFault) → told ≡ option_map capped_fault x → is_some told ≡ true → told ≡ option_map capped_fault (or_else x y)
stops_first told None y h some = absurd (false≢true (sym (ap is_some h) ∙ some))
stops_first told (Some f) y h some = h

pub goes_on : (told : Option ObjectFault) (x y : Option ObjectFault) → told ≡ option_map capped_fault x → is_some told ≡ false → option_map capped_fault y ≡ option_map capped_fault (or_else x y)
goes_on told None y h none = refl
goes_on told (Some f) y h none = absurd (false≢true (sym none ∙ ap is_some h))

-- the conditions by themselves are the format's
pub whole : (i : RawImage) (end : ℕ) → all_faults i end ≡ faults_at i end
unfolding faults_at among among_codes has_few_cells has_main has_short_chains
whole i end = refl

-- ---- whether a condition is broken does not go by where the last field ends

same_behind : (a b c : Option ObjectFault) → is_none b ≡ is_none c → is_none (or_else a b) ≡ is_none (or_else a c)
same_behind None b c h = h
same_behind (Some f) b c h = refl

same_test : (b : Bool) (f g : ObjectFault) → is_none (unless b f) ≡ is_none (unless b g)
same_test true f g = refl
same_test false f g = refl

same_all : (i : RawImage) (m n : ℕ) → is_none (all_faults i m) ≡ is_none (all_faults i n)
same_all i m n =
    same_behind (unless (nat_lt i.main (length i.entries)) (fault main_at O8)) (or_else (among_codes i) (entry_faults i m)) (or_else (among_codes i) (entry_faults i n))
    (same_behind (among_codes i) (entry_faults i m) (entry_faults i n)
    (same_behind (among checks.Kind i) (or_else (among checks.Params i) (link_faults i m)) (or_else (among checks.Params i) (link_faults i n))
    (same_behind (among checks.Params i) (link_faults i m) (link_faults i n)
    (same_behind (among checks.Targets i) (or_else (among checks.Loops i) (run_faults i m)) (or_else (among checks.Loops i) (run_faults i n))
    (same_behind (among checks.Loops i) (run_faults i m) (run_faults i n)
    (same_behind (unless (has_main i) (fault main_at O7)) (unless (has_short_chains i && has_few_cells i) (fault m O9)) (unless (has_short_chains i && has_few_cells i) (fault n O9))
    (same_test (has_short_chains i && has_few_cells i) (fault m O9) (fault n O9))))))))

pub same_end : (i : RawImage) (m n : ℕ) → is_none (faults_at i m) ≡ is_none (faults_at i n)
same_end i m n = ap is_none (sym (whole i m)) ∙ same_all i m n ∙ ap is_none (whole i n)

-- the first fault is that of a code
pub codes_first : (i : RawImage) (end : ℕ) (told : Option ℕ) (at : ℕ) → told ≡ Some at → told ≡ place_told (among_codes i) → nat_lt i.main (length i.entries) ≡ true
    → option_map (λ n. fault n O9) told ≡ option_map capped_fault (all_faults i end)
codes_first i end told at some h inside =
    stops_first (option_map (λ n. fault n O9) told) (among_codes i) (entry_faults i end) (codes_told i told h) (ap is_some (ap (option_map (λ n. fault n O9)) some))
    ∙ ap (λ b. option_map capped_fault (or_else (unless b (fault main_at O8)) (or_else (among_codes i) (entry_faults i end)))) (sym inside)
