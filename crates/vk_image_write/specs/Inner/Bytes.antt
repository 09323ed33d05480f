-- The bytes of each part, as the code writes them.
use Rattle.std.specs.Prelude.{ℕ, ◌++◌, List, codes, length}
use Rattle.std.specs.List.{flat_map}
use Rattle.byteorder.specs.Endian.{little_bytes}
use Rattle.vk_types.specs.Formats.{type_number}
use Rattle.vk_kinds.specs.declared.kinds.Isa.{Isa}
use Rattle.vk_kinds.specs.declared.kinds.Target.{Target}
use Rattle.vk_code.specs.Listing.{Listing}
use Rattle.vk_object.specs.declared.tables.LoopTargets.{LoopTargets}
use Rattle.vk_object.specs.Tables.{ArrayLists, EntryLists, Tables}
use Rattle.vk_code_format.specs.Fields.{bit, target_number}
use Rattle.vk_code_write.specs.declared.written.FileKind.TheVariants.{Image}
use Rattle.vk_code_write.specs.Inner.Bytes.{code_bytes, given_bytes, param_bytes, text_bytes}
use Rattle.vk_image_format.specs.Image.{kind_number, letter}
use Rattle.vk_image_format.specs.Values.{main_number}

-- the first bytes and the version
unfoldable pub magic_bytes : List ℕ
magic_bytes = codes "VKLINKED" ++ little_bytes 2 1

abbrev pub header_bytes : Target → Isa → ℕ → List ℕ
header_bytes target isa vl = magic_bytes ++ (little_bytes 1 (target_number target) ++ (little_bytes 1 (letter isa) ++ little_bytes 2 vl))

unfoldable pub array_bytes : ArrayLists → List ℕ
array_bytes a = text_bytes a.text ++ (little_bytes 1 (type_number a.ty) ++ (little_bytes 1 (bit a.fixed) ++ (little_bytes 4 a.length ++ given_bytes a.ty a.elements)))

abbrev pub arrays_bytes : List ArrayLists → List ℕ
arrays_bytes as_rows = little_bytes 4 (length as_rows) ++ flat_map array_bytes as_rows

abbrev pub codes_bytes : List Listing → List ℕ
codes_bytes cs = little_bytes 4 (length cs) ++ flat_map (code_bytes Image) cs

unfoldable pub loop_targets_bytes : LoopTargets → List ℕ
loop_targets_bytes t = little_bytes 4 t.chunk ++ little_bytes 4 t.rest

unfoldable pub entry_bytes : EntryLists → List ℕ
entry_bytes e =
    text_bytes e.text ++ (little_bytes 1 (kind_number e.kind) ++ (little_bytes 2 e.lanes ++ (little_bytes 4 e.code
    ++ (flat_map param_bytes e.params ++ (flat_map (little_bytes 4) e.targets ++ flat_map loop_targets_bytes e.loops)))))

abbrev pub entries_bytes : List EntryLists → List ℕ
entries_bytes es = little_bytes 4 (length es) ++ flat_map entry_bytes es

abbrev pub lists_bytes : Tables → List ℕ
lists_bytes i = header_bytes i.target i.isa i.vl ++ (little_bytes 4 (main_number i.main) ++ (arrays_bytes i.arrays ++ (codes_bytes i.codes ++ entries_bytes i.entries)))
