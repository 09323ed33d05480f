-- The bytes of each part, as the code writes them.
use Rattle.std.specs.Prelude.{ℕ, ◌+◌, ◌*◌, ◌++◌, Bool, List, codes, length, Option, Some, None}
use Rattle.std.specs.List.{flat_map}
use Rattle.byteorder.specs.Endian.{little_bytes}
use Rattle.vk_types.specs.Formats.{type_number}
use Rattle.vk_kinds.specs.declared.kinds.Target.{Target}
use Rattle.vk_kinds.specs.Sizes.{HeadTypes, SignatureTree}
use Rattle.vk_kinds.specs.Types.{ctype_number}
use Rattle.vk_object.specs.Objects.{CodeLists, DataLists, FunctionLists, ObjectLists}
use Rattle.vk_code_format.specs.Fields.{bit, or_none, target_number}
use Rattle.vk_code_write.specs.declared.written.FileKind.TheVariants.{Object}
use Rattle.vk_code_write.specs.Inner.Bytes.{code_bytes, given_bytes, param_bytes, text_bytes, type_bytes}
use Rattle.vk_object_format.specs.Object.{branch_number}

-- the first bytes and the version
unfoldable pub magic_bytes : List ℕ
magic_bytes = codes "VKOBJECT" ++ little_bytes 2 1

abbrev pub header_bytes : Target → List ℕ
header_bytes target = magic_bytes ++ (little_bytes 1 (target_number target) ++ little_bytes 1 0)

abbrev pub symbols_bytes : List (List ℕ) → List ℕ
symbols_bytes ts = little_bytes 4 (length ts) ++ flat_map text_bytes ts

abbrev pub flags_number : Bool → Bool → ℕ
flags_number fixed defined = bit fixed + 2 * bit defined

unfoldable pub data_bytes : DataLists → List ℕ
data_bytes d =
    little_bytes 4 d.symbol ++ (little_bytes 1 (type_number d.ty) ++ (little_bytes 1 (flags_number d.fixed d.defined) ++ (little_bytes 4 d.length
    ++ given_bytes d.ty d.elements)))

abbrev pub objects_bytes : List DataLists → List ℕ
objects_bytes ds = little_bytes 4 (length ds) ++ flat_map data_bytes ds

abbrev pub head_bytes : HeadTypes → List ℕ
head_bytes h = little_bytes 1 (ctype_number h.result) ++ (little_bytes 1 (length h.params) ++ flat_map type_bytes h.params)

abbrev pub directive_bytes : SignatureTree → List ℕ
directive_bytes s = little_bytes 1 (branch_number s.branch) ++ (little_bytes 2 (or_none 0 s.simdlen) ++ flat_map param_bytes s.params)

abbrev pub directives_bytes : List SignatureTree → List ℕ
directives_bytes ss = little_bytes 2 (length ss) ++ flat_map directive_bytes ss

abbrev pub codes_bytes : Option CodeLists → List ℕ
codes_bytes None = little_bytes 1 0
codes_bytes (Some c) = little_bytes 1 1 ++ (code_bytes Object c.scalar ++ flat_map (code_bytes Object) c.lanes)

abbrev pub function_bytes : FunctionLists → List ℕ
function_bytes f = little_bytes 4 f.symbol ++ (head_bytes f.head ++ (directives_bytes f.directives ++ codes_bytes f.codes))

abbrev pub functions_bytes : List FunctionLists → List ℕ
functions_bytes fs = little_bytes 4 (length fs) ++ flat_map function_bytes fs

abbrev pub lists_bytes : ObjectLists → List ℕ
lists_bytes o = header_bytes o.target ++ (symbols_bytes o.symbols ++ (objects_bytes o.objects ++ functions_bytes o.functions))
