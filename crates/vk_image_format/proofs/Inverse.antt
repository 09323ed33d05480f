-- What is read of an image was written, and what is written is read.
use Rattle.std.proofs.Common.{◌≡◌, ℕ, Bool, true, false, cond, eqb, nat_le, List, [], ◌∷◌, length, Option, Some, None, refl, ap, slice_get}
use Rattle.std.specs.Prelude.{codes}
use Rattle.std.specs.Option.{option_map}
use Rattle.std.proofs.lemmas.Bool.{eqb-true}
use Rattle.vk_kinds.specs.declared.kinds.Isa.{Isa}
use Rattle.vk_kinds.specs.declared.kinds.Isa.TheVariants as isas
use Rattle.vk_kinds.specs.declared.kinds.Target.{Target}
use Rattle.vk_object.specs.Images.{has_lanes, is_vl}
use Rattle.vk_object.specs.Texts.{is_identifier}
use Rattle.vk_format.specs.declared.rules.ObjectRule.TheVariants.{O1, O2, O3, O6, O7}
use Rattle.vk_format.specs.Codec.{number, judged, many, repeated, list, text, exactly, exactly_number}
use Rattle.vk_format.proofs.Inverse.{IsCodec, number_law, field_law, meaning_law, judged_law, many_law, repeated_law, list_law, text_law, given_law, exactly_law, skip_law}
use Rattle.vk_code_format.specs.declared.rows.CodeRow.{CodeRow}
use Rattle.vk_code_format.specs.Codes.{in_image, code}
use Rattle.vk_code_format.specs.Fields.{coded, flag, below, target, int_type, element, last_of}
use Rattle.vk_code_format.specs.Parameters.{param}
use Rattle.vk_code_format.proofs.Codes.{code_law}
use Rattle.vk_code_format.proofs.Fields.{coded_law, flag_law, below_law, target_law, int_type_law, element_law, exactly_number_law}
use Rattle.vk_code_format.proofs.Parameters.{param_law}
use Rattle.vk_image_format.specs.declared.rows.EntryName.{EntryName}
use Rattle.vk_image_format.specs.declared.rows.RawArray.{RawArray}
use Rattle.vk_image_format.specs.declared.rows.RawEntry.{RawEntry}
use Rattle.vk_image_format.specs.Image.{letter, letter_among, isa_of, isa, array_text, array, entry_kinds, kind_number, is_entry_text, entry_name, params_of, entry_front, loop_targets, slots_of, loops_of, entry, image_table}

letter_at : (i : Isa) (rest : List Isa) (b : ℕ) (j : Isa) (same : Bool) → eqb (letter i) b ≡ same → (letter_among rest b ≡ Some j → letter j ≡ b)
    → cond same (Some i) (letter_among rest b) ≡ Some j → letter j ≡ b
letter_at i rest b j true e next h =
    let is : j ≡ i = cc in
    rw is (eqb-true (letter i) b e)
letter_at i rest b j false e next h = next h

letter_back : (letters : List Isa) (b : ℕ) (j : Isa) → letter_among letters b ≡ Some j → letter j ≡ b
letter_back [] b j h = absurd cc
letter_back (i ∷ rest) b j h = letter_at i rest b j (eqb (letter i) b) refl (letter_back rest b j) h

isa_law : {R : Type 0} (t : Target) → IsCodec (isa {R = R} t)
isa_law t = judged_law O3 _ _ (meaning_law O3 isa_of letter (number 1) (number_law 1) (λ b j fits h. letter_back (isas.B ∷ isas.C ∷ isas.D ∷ isas.E ∷ isas.N ∷ isas.S ∷ []) b j h))

array_text_law : {R : Type 0} (last : Option (List ℕ)) → IsCodec (array_text {R = R} last)
array_text_law last = judged_law O6 _ _ (judged_law O7 is_identifier text text_law)

array_law : {R : Type 0} (before : List RawArray) → IsCodec (array {R = R} before)
array_law before = judged_law O6 _ _ (
    field_law (λ a. a.text) (array_text (option_map (λ a. a.text) (last_of before))) _ (array_text_law _) (λ name.
    field_law (λ a. a.ty) int_type _ int_type_law (λ ty.
    field_law (λ a. a.fixed) flag _ flag_law (λ fixed.
    field_law (λ a. a.length) (number 4) _ (number_law 4) (λ count.
    field_law (λ a. a.elements) (list (judged O7 (λ given. nat_le given count) (number 4)) (element ty)) _ (list_law _ (element ty) (judged_law O7 (λ given. nat_le given count) (number 4) (number_law 4)) (element_law ty)) (λ elements.
    given_law (record { text = name; ty = ty; fixed = fixed; length = count; elements = elements }))
    (λ elements a f. ap (λ x. x.elements) f)) (λ count a f. ap (λ x. x.length) f.1)) (λ fixed a f. ap (λ x. x.fixed) f.1.1)) (λ ty a f. ap (λ x. x.ty) f.1.1.1)) (λ name a f. ap (λ x. x.text) f.1.1.1.1))

entry_name_law : {R : Type 0} (last : Option EntryName) → IsCodec (entry_name {R = R} last)
entry_name_law last = judged_law O6 _ _ (
    field_law (λ n. n.text) _ _ (judged_law O6 _ _ (judged_law O7 is_entry_text text text_law)) (λ name.
    field_law (λ n. n.kind) (coded O7 entry_kinds kind_number) _ (coded_law O7 entry_kinds kind_number (refl, (refl, (refl, (refl, (refl, (refl, tt))))))) (λ kind.
    field_law (λ n. n.lanes) (judged O7 (has_lanes kind) (number 2)) _ (judged_law O7 (has_lanes kind) (number 2) (number_law 2)) (λ lanes.
    given_law (record { text = name; kind = kind; lanes = lanes })) (λ lanes n f. ap (λ x. x.lanes) f)) (λ kind n f. ap (λ x. x.kind) f.1)) (λ name n f. ap (λ x. x.text) f.1.1))

entry_front_law : {R : Type 0} (cs : List CodeRow) (last : Option EntryName) → IsCodec (entry_front {R = R} cs last)
entry_front_law cs last = judged_law O7 _ _ (
    field_law (λ e. e.name) (entry_name last) _ (entry_name_law last) (λ name.
    field_law (λ e. e.code) (below (length cs)) _ (below_law (length cs)) (λ number.
    field_law (λ e. e.params) (repeated (params_of name.kind (slice_get cs number)) (param None)) _ (repeated_law (params_of name.kind (slice_get cs number)) (param None) (param_law None)) (λ params.
    given_law (record { name = name; code = number; params = params })) (λ params e f. ap (λ x. x.params) f)) (λ number e f. ap (λ x. x.code) f.1)) (λ name e f. ap (λ x. x.name) f.1.1))

loop_targets_law : {R : Type 0} (entries : ℕ) → IsCodec (loop_targets {R = R} entries)
loop_targets_law entries =
    field_law (λ t. t.chunk) (below entries) _ (below_law entries) (λ chunk.
    field_law (λ t. t.rest) (below entries) _ (below_law entries) (λ rest.
    given_law (record { chunk = chunk; rest = rest })) (λ rest t f. ap (λ x. x.rest) f)) (λ chunk t f. ap (λ x. x.chunk) f.1)

entry_law : {R : Type 0} (cs : List CodeRow) (entries : ℕ) (before : List RawEntry) → IsCodec (entry {R = R} cs entries before)
entry_law cs entries before =
    field_law (λ e. e.front) (entry_front cs (option_map (λ e. e.front.name) (last_of before))) _ (entry_front_law cs _) (λ front.
    field_law (λ e. e.targets) (repeated (slots_of (slice_get cs front.code)) (below entries)) _ (repeated_law (slots_of (slice_get cs front.code)) (below entries) (below_law entries)) (λ targets.
    field_law (λ e. e.loops) (repeated (loops_of (slice_get cs front.code)) (loop_targets entries)) _ (repeated_law (loops_of (slice_get cs front.code)) (loop_targets entries) (loop_targets_law entries)) (λ loops.
    given_law (record { front = front; targets = targets; loops = loops })) (λ loops e f. ap (λ x. x.loops) f)) (λ targets e f. ap (λ x. x.targets) f.1)) (λ front e f. ap (λ x. x.front) f.1.1)

pub image_law : {R : Type 0} → IsCodec (image_table {R = R})
image_law =
    skip_law (exactly O1 (codes "VKLINKED")) _ (exactly_law O1 (codes "VKLINKED")) (
    skip_law (exactly_number O2 2 1) _ (exactly_number_law O2 2 1) (
    field_law (λ i. i.target) target _ target_law (λ t.
    field_law (λ i. i.isa) (isa t) _ (isa_law t) (λ letter.
    field_law (λ i. i.vl) (judged O3 (is_vl letter) (number 2)) _ (judged_law O3 (is_vl letter) (number 2) (number_law 2)) (λ vl.
    field_law (λ i. i.main) (number 4) _ (number_law 4) (λ main.
    field_law (λ i. i.arrays) (many (number 4) (λ n. array)) _ (many_law (number 4) (λ n. array) (number_law 4) (λ n. array_law)) (λ arrays.
    field_law (λ i. i.codes) (many (number 4) (λ n before. code (in_image n))) _ (many_law (number 4) (λ n before. code (in_image n)) (number_law 4) (λ n before. code_law (in_image n))) (λ cs.
    field_law (λ i. i.entries) (many (number 4) (entry cs)) _ (many_law (number 4) (entry cs) (number_law 4) (entry_law cs)) (λ entries.
    given_law (record { target = t; isa = letter; vl = vl; main = main; arrays = arrays; codes = cs; entries = entries }))
    (λ entries i f. ap (λ x. x.entries) f)) (λ cs i f. ap (λ x. x.codes) f.1)) (λ arrays i f. ap (λ x. x.arrays) f.1.1)) (λ main i f. ap (λ x. x.main) f.1.1.1)) (λ vl i f. ap (λ x. x.vl) f.1.1.1.1)) (λ letter i f. ap (λ x. x.isa) f.1.1.1.1.1)) (λ t i f. ap (λ x. x.target) f.1.1.1.1.1.1)))
