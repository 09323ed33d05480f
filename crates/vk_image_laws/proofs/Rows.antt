-- Rows that fit their fields have what the conditions on an image ask of each row and of its place among the others.
use Rattle.std.proofs.Common.{◌≡◌, ℕ, ◌+◌, ◌==◌, Bool, true, false, not, ◌&&◌, ◌||◌, cond, List, [], ◌∷◌, length, map, Option, Some, None, refl, sym, ap, ◌∙◌, subst, slice_get}
use Rattle.std.specs.Prelude.{nat_le, nat_lt}
use Rattle.std.specs.List.{list_all}
use Rattle.std.specs.Option.{option_map}
use Rattle.std.proofs.lemmas.Bool.{eq-eqb}
use Rattle.std.proofs.lemmas.List.{length-map}
use Rattle.vk_kinds.specs.declared.kinds.Isa.{Isa}
use Rattle.vk_kinds.specs.declared.kinds.Target.{Target}
use Rattle.vk_code.specs.Listing.{SimdSite, numbered_code}
use Rattle.vk_code.specs.Tests.{holds}
use Rattle.vk_code.proofs.Faults.{and_left, and_right}
use Rattle.vk_object.specs.declared.tables.EntryKind.{EntryKind}
use Rattle.vk_object.specs.declared.tables.LoopTargets.{LoopTargets}
use Rattle.vk_object.specs.Images.{are_entries, array_before, entry_before, has_body, has_lanes, is_array, is_letter, is_number_of, is_row, is_variant, is_vl}
use Rattle.vk_object.specs.Parameters.{are_kinds}
use Rattle.vk_object.specs.Tables.{Tables}
use Rattle.vk_object.specs.Texts.{ascend, ends_well, is_before, is_identifier}
use Rattle.vk_format.specs.Codec.{FitAfter}
use Rattle.vk_code_format.specs.declared.rows.BodyRow.{BodyRow}
use Rattle.vk_code_format.specs.declared.rows.BodyRow.TheVariants.{Inline, Number}
use Rattle.vk_code_format.specs.declared.rows.CodeRow.{CodeRow}
use Rattle.vk_code_format.specs.declared.rows.LoopRow.{LoopRow}
use Rattle.vk_code_format.specs.declared.rows.RoutineRow.{RoutineRow}
use Rattle.vk_code_format.specs.Codes.{body, code, in_image, loop_site}
use Rattle.vk_code_format.specs.Fields.{below, comes_after, last_of}
use Rattle.vk_code_format.specs.Parameters.{param_of}
use Rattle.vk_code_format.specs.Values.{body_of, listing_of, site_of}
use Rattle.vk_image_format.specs.declared.rows.EntryFront.{EntryFront}
use Rattle.vk_image_format.specs.declared.rows.EntryName.{EntryName}
use Rattle.vk_image_format.specs.declared.rows.RawArray.{RawArray}
use Rattle.vk_image_format.specs.declared.rows.RawEntry.{RawEntry}
use Rattle.vk_image_format.specs.declared.rows.RawImage.{RawImage}
use Rattle.vk_image_format.specs.Image.{array, entry, image_table, is_entry_text, isa, loop_targets, loops_of, name_before, params_of, slots_of, where_some}
use Rattle.vk_image_format.specs.Values.{array_of, entry_of, tables_of}
use Rattle.vk_object_laws.proofs.Elements.{elements_fit}
use Rattle.vk_object_laws.proofs.Lists.{all_ascend, all_fit, all_fit_here, and_true, ascend_map, comes_behind, passed}

-- ---- arrays

array_fits : (before : List RawArray) (a : RawArray) → (array {R = RawImage} before).fits a → is_array (array_of a) ≡ true
array_fits before a h =
    let f = h.0 in
    let elements = f.1.1.1.1.0 in
    and_true _ _ (passed is_identifier a.text a.text f.0.0.1)
    (and_true _ _
    (and_true _ _ (passed (λ n. nat_le n a.length) (length a.elements) (length a.elements) elements.0.0.1)
    (elements_fit a.ty a.elements elements.0.1.0.1))
    (passed (λ (x : RawArray). ends_well x.elements) a a h.1))

array_behind : (before : List RawArray) (y a : RawArray) → last_of before ≡ Some y → (array {R = RawImage} before).fits a → is_before y.text a.text ≡ true
array_behind before y a e h =
    comes_behind (λ (x : RawArray). x.text) is_before before y a.text e (passed (comes_after is_before (option_map (λ (x : RawArray). x.text) (last_of before))) a.text a.text h.0.0.1)

-- ---- entries

no_params : (kind : EntryKind) (c : Option CodeRow) → is_variant kind ≡ false → params_of kind c ≡ 0
no_params kind None h = refl
no_params kind (Some c) h = ap (λ b. cond b c.routine.front.params 0) h

kind_params : (b : Bool) (kind : EntryKind) (c : Option CodeRow) (e : RawEntry) → is_variant kind ≡ b → length e.front.params ≡ params_of kind c → are_kinds (map param_of e.front.params) ≡ true
    → cond b (are_kinds (map param_of e.front.params)) (length (map param_of e.front.params) == 0) ≡ true
kind_params true kind c e is count kinds = kinds
kind_params false kind c e is count kinds = eq-eqb _ _ (length-map e.front.params param_of ∙ count ∙ no_params kind c is)

-- a number below the number of members is one of the members that they stand for
pub number_of_map : {A B : Type 0} (f : A → B) (xs : List A) (n : ℕ) → nat_lt n (length xs) ≡ true → is_number_of (map f xs) n ≡ true
number_of_map f xs n h = ap (nat_lt n) (length-map xs f) ∙ h

module _ (i : RawImage) where
  below_fits : (n : ℕ) → (below {R = RawImage} (length i.entries)).fits n → is_number_of (tables_of i).entries n ≡ true
  below_fits n h = number_of_map entry_of i.entries n (passed (λ k. nat_lt k (length i.entries)) n n h.1)

  targets_fit : (t : LoopTargets) → (loop_targets {R = RawImage} (length i.entries)).fits t → are_entries (tables_of i) t ≡ true
  targets_fit t h = and_true _ _ (below_fits t.chunk h.0) (below_fits t.rest h.1.0)

  entry_fits : (before : List RawEntry) (e : RawEntry) → (entry {R = RawImage} i.codes (length i.entries) before).fits e → is_row (tables_of i) (entry_of e) ≡ true
  entry_fits before e h =
      let front = h.0.0 in
      let name = front.0.0 in
      let code = slice_get i.codes e.front.code in
      let kind = e.front.name.kind in
      and_true _ _
      (and_true _ _
      (and_true _ _
      (and_true _ _
      (and_true _ _ (passed is_entry_text e.front.name.text e.front.name.text name.0.0.1) (passed (has_lanes kind) e.front.name.lanes e.front.name.lanes name.1.1.0.1))
      (number_of_map listing_of i.codes e.front.code (passed (λ k. nat_lt k (length i.codes)) e.front.code e.front.code front.1.0.1)))
      (kind_params (is_variant kind) kind code e refl front.1.1.0.0.0 (passed (λ (x : EntryFront). are_kinds (map param_of x.params)) e.front e.front h.0.1)))
      (all_fit_here (λ b. below {R = RawImage} (length i.entries)) (is_number_of (tables_of i).entries) (λ b n. below_fits n) [] e.targets h.1.0.0.1))
      (all_fit_here (λ b. loop_targets {R = RawImage} (length i.entries)) (are_entries (tables_of i)) (λ b t. targets_fit t) [] e.loops h.1.1.0.0.1)

  entry_behind : (before : List RawEntry) (y e : RawEntry) → last_of before ≡ Some y → (entry {R = RawImage} i.codes (length i.entries) before).fits e
      → name_before y.front.name e.front.name ≡ true
  entry_behind before y e is h =
      subst (λ (o : Option RawEntry). where_some name_before (option_map (λ x. x.front.name) o) e.front.name ≡ true) is
      (passed (where_some name_before (option_map (λ (x : RawEntry). x.front.name) (last_of before))) e.front.name e.front.name h.0.0.0.1)

  -- ---- loops name codes

  body_fits : (captures : ℕ) (b : BodyRow) → (body {R = RawImage} (in_image (length i.codes)) captures).fits b → holds (is_number_of (tables_of i).codes) (numbered_code (body_of b)) ≡ true
  body_fits captures (Number n) h = number_of_map listing_of i.codes n (passed (λ k. nat_lt k (length i.codes)) n n h.0.0.1)
  body_fits captures (Inline r) h = absurd (no_number r h.0.1)
    where
      no_number : (r : RoutineRow) → Number 0 ≡ Inline r → ⊥
      no_number r e = cc

  loop_fits : (l : LoopRow) → (loop_site {R = RawImage} (in_image (length i.codes))).fits l → has_body (tables_of i) (site_of l) ≡ true
  loop_fits l h = body_fits (length l.captures) l.body h.1.1.1.1.1.0

  loops_fit : (c : CodeRow) → (code {R = RawImage} (in_image (length i.codes))).fits c → list_all (has_body (tables_of i)) (map site_of c.loops) ≡ true
  loops_fit c h = all_fit (λ b. loop_site {R = RawImage} (in_image (length i.codes))) site_of (has_body (tables_of i)) (λ b l. loop_fits l) [] c.loops h.1.0.0.1.0.1

-- ---- the whole

pub record HaveRows (i : RawImage) : Type 0 where
  pub letter : is_letter i.target i.isa ≡ true
  pub vl : is_vl i.isa i.vl ≡ true
  pub arrays : list_all is_array (tables_of i).arrays ≡ true
  pub arrays_ascend : ascend array_before (tables_of i).arrays ≡ true
  pub entries : list_all (is_row (tables_of i)) (tables_of i).entries ≡ true
  pub entries_ascend : ascend entry_before (tables_of i).entries ≡ true
  pub codes : FitAfter (λ before. code {R = RawImage} (in_image (length i.codes))) [] i.codes
  pub fits : FitAfter (entry {R = RawImage} i.codes (length i.entries)) [] i.entries

pub rows_fit : (i : RawImage) → (image_table {R = RawImage}).fits i → HaveRows i
rows_fit i h =
    let header = h.0.1.0.1 in
    let arrays = header.1.1.1.1.0.0.1.1 in
    let cs = header.1.1.1.1.1.0.0.1.1 in
    let es = header.1.1.1.1.1.1.0.0.1.1 in
    record {
      letter = passed (is_letter i.target) i.isa i.isa header.1.0.1;
      vl = passed (is_vl i.isa) i.vl i.vl header.1.1.0.1;
      arrays = all_fit {R = RawImage} array array_of is_array array_fits [] i.arrays arrays;
      arrays_ascend = ascend_map array_of array_before i.arrays ∙ all_ascend {R = RawImage} array (λ a b. array_before (array_of a) (array_of b)) array_behind i.arrays arrays;
      entries = all_fit {R = RawImage} (entry i.codes (length i.entries)) entry_of (is_row (tables_of i)) (entry_fits i) [] i.entries es;
      entries_ascend = ascend_map entry_of entry_before i.entries
          ∙ all_ascend {R = RawImage} (entry i.codes (length i.entries)) (λ a b. entry_before (entry_of a) (entry_of b)) (entry_behind i) i.entries es;
      codes = cs;
      fits = es;
    }

-- the loops of each code name codes
pub bodies : (i : RawImage) (before cs : List CodeRow) → FitAfter (λ b. code {R = RawImage} (in_image (length i.codes))) before cs
    → list_all (λ c. list_all (has_body (tables_of i)) (map site_of c.loops)) cs ≡ true
bodies i before cs h = all_fit_here (λ b. code {R = RawImage} (in_image (length i.codes))) (λ c. list_all (has_body (tables_of i)) (map site_of c.loops)) (λ b c. loops_fit i c) before cs h
