-- What the code writes is what the table says.
use Rattle.std.proofs.Common.{◌≡◌, ℕ, Option, Some, None, List, [], ◌∷◌, ◌++◌, flat_map, length, map, refl, ap, ◌∙◌, append-nil, slice_get}
use Rattle.std.specs.Prelude.{is_some}
use Rattle.std.specs.Option.{option_map}
use Rattle.byteorder.specs.Endian.{little_bytes}
use Rattle.vk_types.specs.Formats.{type_number}
use Rattle.vk_kinds.specs.declared.kinds.Param.{Param}
use Rattle.vk_code.specs.Listing.{Listing}
use Rattle.vk_code_format.specs.Fields.{bit, or_none}
use Rattle.vk_object_format.specs.declared.rows.RawObject.{RawObject}
use Rattle.vk_kinds.specs.declared.kinds.Target.{Target}
use Rattle.vk_kinds.specs.Sizes.{HeadTypes, SignatureTree}
use Rattle.vk_object.specs.Objects.{CodeLists, DataLists, FunctionLists, ObjectLists}
use Rattle.vk_format.specs.Codec.{number, items, many, only_if, write_after}
use Rattle.vk_format.proofs.Inverse.{flat_all, many_written, write_all}
use Rattle.vk_code_format.specs.Codes.{in_object, code}
use Rattle.vk_code_format.specs.Parameters.{param, param_row}
use Rattle.vk_code_format.specs.Values.{code_row}
use Rattle.vk_code_write.specs.declared.written.FileKind.TheVariants.{Object}
use Rattle.vk_code_write.specs.Inner.Bytes.{code_bytes, elements_bytes, param_bytes, text_bytes}
use Rattle.vk_code_write.proofs.Tables.{code_written, param_written}
use Rattle.vk_object_format.specs.declared.rows.RawDirective.{RawDirective}
use Rattle.vk_object_format.specs.declared.rows.RawFunction.{RawFunction}
use Rattle.vk_object_format.specs.declared.rows.RawData.{RawData}
use Rattle.vk_object_format.specs.Values.{raw_codes, raw_data, raw_directive, raw_function}
use Rattle.vk_object_format.specs.Object.{branch_number, symbol, member, directive, function_codes, function, object_bytes}
use Rattle.vk_object_write.specs.Inner.Bytes.{codes_bytes, data_bytes, directive_bytes, flags_number, function_bytes, head_bytes, header_bytes, lists_bytes, magic_bytes}

data_written : (R : Type 0) (symbols : ℕ) (n : ℕ) (before : List RawData) (d : DataLists) → (member {R = R} symbols before).write (raw_data d) ≡ data_bytes d
unfolding data_bytes
data_written R symbols n before d =
    ap (λ ys. little_bytes 4 d.symbol ++ (little_bytes 1 (type_number d.ty) ++ (little_bytes 1 (flags_number d.fixed d.defined) ++ (little_bytes 4 d.length ++ (little_bytes 4 (length d.elements) ++ ys)))))
    (append-nil (elements_bytes d.ty d.elements))

params_written : (R : Type 0) (head : HeadTypes) (ps : List Param)
    → (items {R = R} (length head.params) (λ params. param (slice_get head.params (length params)))).write (map param_row ps) ++ [] ≡ flat_map param_bytes ps
params_written R head ps =
    append-nil ((items {R = R} (length head.params) (λ params. param (slice_get head.params (length params)))).write (map param_row ps))
    ∙ write_all {R = R} (λ params. param (slice_get head.params (length params))) param_row param_bytes (λ before p. param_written R (slice_get head.params (length before)) p) [] ps

directive_written : (R : Type 0) (target : Target) (head : HeadTypes) (n : ℕ) (before : List RawDirective) (s : SignatureTree) → (directive {R = R} target head before).write (raw_directive s) ≡ directive_bytes s
directive_written R target head n before s =
    ap (λ ys. little_bytes 1 (branch_number s.branch) ++ (little_bytes 2 (or_none 0 s.simdlen) ++ ys)) (params_written R head s.params)

lanes_written : (R : Type 0) (functions params : ℕ) (cs : List Listing) → flat_map (code {R = R} (in_object functions params)).write (map code_row cs) ++ [] ≡ flat_map (code_bytes Object) cs
lanes_written R functions params cs =
    append-nil (flat_map (code {R = R} (in_object functions params)).write (map code_row cs))
    ∙ flat_all (code {R = R} (in_object functions params)) code_row (code_bytes Object) (code_written R (in_object functions params)) cs

codes_written : (R : Type 0) (functions params directives : ℕ) (c : CodeLists) → (function_codes {R = R} (in_object functions params) directives).write (raw_codes c) ≡ code_bytes Object c.scalar ++ flat_map (code_bytes Object) c.lanes
codes_written R functions params directives c =
    ap (λ xs. xs ++ (flat_map (code {R = R} (in_object functions params)).write (map code_row c.lanes) ++ [])) (code_written R (in_object functions params) c.scalar)
    ∙ ap (λ ys. code_bytes Object c.scalar ++ ys) (lanes_written R functions params c.lanes)

codes_by : (R : Type 0) (functions params directives : ℕ) (o : Option CodeLists)
    → little_bytes 1 (bit (is_some (option_map raw_codes o))) ++ ((only_if (is_some (option_map raw_codes o)) (function_codes {R = R} (in_object functions params) directives)).write (option_map raw_codes o) ++ []) ≡ codes_bytes o
codes_by R functions params directives None = refl
codes_by R functions params directives (Some c) =
    ap (λ ys. little_bytes 1 1 ++ ys) (append-nil ((function_codes {R = R} (in_object functions params) directives).write (raw_codes c)) ∙ codes_written R functions params directives c)

function_written : (R : Type 0) (target : Target) (symbols functions : ℕ) (before : List RawFunction) (f : FunctionLists) → (function {R = R} target symbols functions before).write (raw_function f) ≡ function_bytes f
function_written R target symbols functions before f =
    let directives = map raw_directive f.directives in
    let last = codes_by R functions (length f.head.params) (length directives) f.codes in
    ap (λ xs. little_bytes 4 f.symbol ++ (head_bytes f.head ++ (xs ++ (little_bytes 1 (bit (is_some (option_map raw_codes f.codes)))
    ++ ((only_if (is_some (option_map raw_codes f.codes)) (function_codes {R = R} (in_object functions (length f.head.params)) (length directives))).write (option_map raw_codes f.codes) ++ [])))))
    (many_written {R = R} 2 (λ n. directive target f.head) raw_directive directive_bytes (directive_written R target f.head) f.directives)
    ∙ ap (λ ys. little_bytes 4 f.symbol ++ (head_bytes f.head ++ (little_bytes 2 (length f.directives) ++ (flat_map directive_bytes f.directives ++ ys)))) last

symbols_written : (R : Type 0) (before ts : List (List ℕ)) → write_after (symbol {R = R}) before ts ≡ flat_map text_bytes ts
symbols_written R before [] = refl
symbols_written R before (t ∷ ts) = ap (λ ys. text_bytes t ++ ys) (symbols_written R (before ++ t ∷ []) ts)

pub object_written : (o : ObjectLists) → object_bytes o ≡ lists_bytes o
unfolding magic_bytes
object_written o =
    let objects = (many {R = RawObject} (number 4) (λ n. member (length o.symbols))).write (map raw_data o.objects) in
    let functions = (many {R = RawObject} (number 4) (λ n. function o.target (length o.symbols) n)).write (map raw_function o.functions) in
    ap (λ xs. header_bytes o.target ++ ((little_bytes 4 (length o.symbols) ++ xs) ++ (objects ++ (functions ++ [])))) (symbols_written RawObject [] o.symbols)
    ∙ ap (λ xs. header_bytes o.target ++ ((little_bytes 4 (length o.symbols) ++ flat_map text_bytes o.symbols) ++ (xs ++ (functions ++ [])))) (many_written {R = RawObject} 4 (λ n. member (length o.symbols)) raw_data data_bytes (data_written RawObject (length o.symbols)) o.objects)
    ∙ ap (λ ys. header_bytes o.target ++ ((little_bytes 4 (length o.symbols) ++ flat_map text_bytes o.symbols) ++ ((little_bytes 4 (length o.objects) ++ flat_map data_bytes o.objects) ++ ys)))
    (append-nil functions ∙ many_written {R = RawObject} 4 (λ n. function o.target (length o.symbols) n) raw_function function_bytes (λ n before f. function_written RawObject o.target (length o.symbols) n before f) o.functions)
