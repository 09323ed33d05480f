-- What the code writes is what the table says.
use Rattle.std.proofs.Common.{◌≡◌, ℕ, None, List, [], ◌++◌, flat_map, length, map, ap, ◌∙◌, append-nil, append_assoc}
use Rattle.byteorder.specs.Endian.{little_bytes}
use Rattle.vk_types.specs.Formats.{type_number}
use Rattle.vk_object.specs.Tables.{ArrayLists, EntryLists, Tables}
use Rattle.vk_format.specs.Codec.{number, many}
use Rattle.vk_format.proofs.Inverse.{flat_all, many_written}
use Rattle.vk_code_format.specs.declared.rows.CodeRow.{CodeRow}
use Rattle.vk_code_format.specs.Codes.{in_image, code}
use Rattle.vk_code_format.specs.Fields.{bit}
use Rattle.vk_code_format.specs.Parameters.{param, param_row}
use Rattle.vk_code_format.specs.Values.{code_row}
use Rattle.vk_code_write.specs.declared.written.FileKind.TheVariants.{Image}
use Rattle.vk_code_write.specs.Inner.Bytes.{code_bytes, elements_bytes, param_bytes, text_bytes}
use Rattle.vk_code_write.proofs.Tables.{code_written, param_written}
use Rattle.vk_image_format.specs.declared.rows.RawArray.{RawArray}
use Rattle.vk_image_format.specs.declared.rows.RawEntry.{RawEntry}
use Rattle.vk_image_format.specs.declared.rows.RawImage.{RawImage}
use Rattle.vk_image_format.specs.Values.{main_number, raw_array, raw_entry}
use Rattle.vk_image_format.specs.Image.{array, entry, image_bytes, kind_number, loop_targets}
use Rattle.vk_image_write.specs.Inner.Bytes.{array_bytes, codes_bytes, entry_bytes, header_bytes, lists_bytes, loop_targets_bytes, magic_bytes}

array_written : (R : Type 0) (n : ℕ) (before : List RawArray) (a : ArrayLists) → (array {R = R} before).write (raw_array a) ≡ array_bytes a
unfolding array_bytes
array_written R n before a =
    ap (λ ys. text_bytes a.text ++ (little_bytes 1 (type_number a.ty) ++ (little_bytes 1 (bit a.fixed) ++ (little_bytes 4 a.length ++ (little_bytes 4 (length a.elements) ++ ys)))))
    (append-nil (elements_bytes a.ty a.elements))

regrouped : (t k c p q l : List ℕ) → ((t ++ k) ++ (c ++ (p ++ []))) ++ (q ++ (l ++ [])) ≡ t ++ (k ++ (c ++ (p ++ (q ++ l))))
regrouped t k c p q l =
    ap (λ ys. ((t ++ k) ++ (c ++ ys)) ++ (q ++ (l ++ []))) (append-nil p)
    ∙ ap (λ ys. ((t ++ k) ++ (c ++ p)) ++ (q ++ ys)) (append-nil l)
    ∙ append_assoc (t ++ k) (c ++ p) (q ++ l)
    ∙ append_assoc t k ((c ++ p) ++ (q ++ l))
    ∙ ap (λ ys. t ++ (k ++ ys)) (append_assoc c p (q ++ l))

entry_written : (R : Type 0) (cs : List CodeRow) (entries : ℕ) (before : List RawEntry) (e : EntryLists) → (entry {R = R} cs entries before).write (raw_entry e) ≡ entry_bytes e
unfolding entry_bytes loop_targets_bytes
entry_written R cs entries before e =
    let kind = little_bytes 1 (kind_number e.kind) ++ little_bytes 2 e.lanes in
    let params = flat_map (param {R = R} None).write (map param_row e.params) in
    let calls = flat_map (little_bytes 4) e.targets in
    let loops = flat_map (loop_targets {R = R} entries).write e.loops in
    ap (λ ys. little_bytes 2 (length e.text) ++ ys) (regrouped e.text kind (little_bytes 4 e.code) params calls loops)
    ∙ ap (λ ys. text_bytes e.text ++ (kind ++ (little_bytes 4 e.code ++ (ys ++ (calls ++ loops))))) (flat_all (param {R = R} None) param_row param_bytes (param_written R None) e.params)

pub image_written : (t : Tables) → image_bytes t ≡ lists_bytes t
unfolding magic_bytes
image_written t =
    let header = header_bytes t.target t.isa t.vl ++ little_bytes 4 (main_number t.main) in
    let codes = (many {R = RawImage} (number 4) (λ n before. code (in_image n))).write (map code_row t.codes) in
    let entries = (many {R = RawImage} (number 4) (entry (map code_row t.codes))).write (map raw_entry t.entries) in
    ap (λ xs. header ++ (xs ++ (codes ++ (entries ++ [])))) (many_written {R = RawImage} 4 (λ n. array) raw_array array_bytes (array_written RawImage) t.arrays)
    ∙ ap (λ xs. header ++ ((little_bytes 4 (length t.arrays) ++ flat_map array_bytes t.arrays) ++ (xs ++ (entries ++ [])))) (many_written {R = RawImage} 4 (λ n before. code (in_image n)) code_row (code_bytes Image) (λ n before c. code_written RawImage (in_image n) c) t.codes)
    ∙ ap (λ ys. header ++ ((little_bytes 4 (length t.arrays) ++ flat_map array_bytes t.arrays) ++ (codes_bytes t.codes ++ ys)))
    (append-nil entries ∙ many_written {R = RawImage} 4 (entry (map code_row t.codes)) raw_entry entry_bytes (entry_written RawImage (map code_row t.codes)) t.entries)
