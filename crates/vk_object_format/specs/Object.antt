-- An object: the table of its fields in order, and the first rule that bytes break.
use Rattle.std.specs.Prelude.{◌≡◌, ℕ, ◌+◌, ◌*◌, nat_lt, nat_le, Bool, true, false, not, ◌&&◌, ◌||◌, cond, codes, List, [], ◌∷◌, length, Option, Some, None, Err, is_some, slice_get}
use Rattle.std.specs.List.{list_any, sum_by}
use Rattle.std.specs.Option.{option_map}
use Rattle.vk_kinds.specs.declared.kinds.Branch.{Branch}
use Rattle.vk_kinds.specs.declared.kinds.Branch.TheVariants.{Both, Inside, Outside}
use Rattle.vk_kinds.specs.declared.kinds.Target.{Target}
use Rattle.vk_kinds.specs.Sizes.{HeadTypes, bytes_of}
use Rattle.vk_object.specs.Objects.{FunctionLists, ObjectLists, has_types, is_directive, is_simd, is_symbol, is_used_once, names_of, share_name}
use Rattle.vk_object.specs.Texts.{ends_well, is_before}
use Rattle.vk_format.specs.declared.rules.ObjectFault.{ObjectFault}
use Rattle.vk_format.specs.declared.rules.ObjectRule.TheVariants.{O1, O2, O6, O7, O9}
use Rattle.vk_format.specs.Format.{Format, fault, judge}
use Rattle.vk_format.specs.Codec.{Codec, number, ◌▹◌, field, given, judged, items, repeated, many, list, text, only_if, exactly, exactly_number, whole, Sound}
use Rattle.vk_code_format.specs.declared.rows.CodeRow.{CodeRow}
use Rattle.vk_code_format.specs.Codes.{Place, in_object, code}
use Rattle.vk_code_format.specs.Fields.{coded, flag, bit, below, simdlen, target, int_type, value_type, result_type, element, last_of, comes_after, or_else, unless, first_along}
use Rattle.vk_code_format.specs.Parameters.{param}
use Rattle.vk_code_format.specs.Places.{code_length, part_at}
use Rattle.vk_code_format.specs.Values.{bad_part, listing_of}
use Rattle.vk_object_format.specs.declared.rows.RawCodes.{RawCodes}
use Rattle.vk_object_format.specs.declared.rows.RawData.{RawData}
use Rattle.vk_object_format.specs.declared.rows.RawDirective.{RawDirective}
use Rattle.vk_object_format.specs.declared.rows.RawFunction.{RawFunction}
use Rattle.vk_object_format.specs.declared.rows.RawObject.{RawObject}
use Rattle.vk_object_format.specs.Values.{function_of, object_of, raw_object, signature_of}

-- ---- symbols

-- an identifier other than `print`; strictly ascending by bytes
abbrev pub symbol : {R : Type 0} → List (List ℕ) → Codec R (List ℕ)
symbol before = judged O6 (comes_after is_before (last_of before)) (judged O7 is_symbol text)

-- the number of a symbol; strictly ascending
abbrev pub symbol_number : {R : Type 0} → ℕ → Option ℕ → Codec R ℕ
symbol_number symbols last = judged O6 (comes_after nat_lt last) (below symbols)

-- ---- objects

-- whether it is const, whether it is defined
abbrev pub flags : {R : Type 0} → Codec R (Bool × Bool)
flags = coded O7 ((false, false) ∷ (true, false) ∷ (false, true) ∷ (true, true) ∷ []) (λ f. bit f.0 + 2 * bit f.1)

-- at most as many elements are given as there are, none where it is not defined; the last given one is not 0
abbrev pub member : {R : Type 0} → ℕ → List RawData → Codec R RawData
member symbols before = judged O6 (λ d. ends_well d.elements) (
    field (λ d. d.symbol) (symbol_number symbols (option_map (λ d. d.symbol) (last_of before))) λ symbol.
    field (λ d. d.ty) int_type λ ty.
    field (λ d. (d.fixed, d.defined)) flags λ flags.
    field (λ d. d.length) (number 4) λ count.
    field (λ d. d.elements) (list (judged O7 (λ given. nat_le given (cond flags.1 count 0)) (number 4)) (element ty)) λ elements.
    given (record { symbol = symbol; ty = ty; fixed = flags.0; defined = flags.1; length = count; elements = elements }))

-- ---- directives

abbrev pub branches : List Branch
branches = Both ∷ Inside ∷ Outside ∷ []

abbrev pub branch_number : Branch → ℕ
branch_number Both = 0
branch_number Inside = 1
branch_number Outside = 2

-- a directive of a function with these types, and no name that an earlier one gives
abbrev pub is_directive_after : Target → HeadTypes → List RawDirective → RawDirective → Bool
is_directive_after target head before d =
    is_directive target head (signature_of d) && not (list_any (λ e. share_name target head (signature_of e) (signature_of d)) before)

-- What fields don't show by themselves is judged where the directive begins, once its last field is complete: what its parameters
-- owe to one another, a position that names none, the width of SVE, the names.
abbrev pub directive : {R : Type 0} → Target → HeadTypes → List RawDirective → Codec R RawDirective
directive target head before = judged O7 (is_directive_after target head before) (
    field (λ d. d.branch) (coded O7 branches branch_number) λ branch.
    field (λ d. d.simdlen) simdlen λ simdlen.
    field (λ d. d.params) (items (length head.params) (λ params. param (slice_get head.params (length params)))) λ params.
    given (record { branch = branch; simdlen = simdlen; params = params }))

-- ---- functions

-- the scalar code, and one for each directive
abbrev pub function_codes : {R : Type 0} → Place → ℕ → Codec R RawCodes
function_codes place directives =
    field (λ c. c.scalar) (code place) λ scalar.
    field (λ c. c.lanes) (repeated directives (code place)) λ lanes.
    given (record { scalar = scalar; lanes = lanes })

abbrev pub function : {R : Type 0} → Target → ℕ → ℕ → List RawFunction → Codec R RawFunction
function target symbols functions before =
    field (λ f. f.symbol) (symbol_number symbols (option_map (λ f. f.symbol) (last_of before))) λ symbol.
    field (λ f. f.result) result_type λ result.
    field (λ f. f.params) (list (judged O7 (λ n. nat_le n 64) (number 1)) value_type) λ params.
    field (λ f. f.directives) (many (number 2) (λ n. directive target (record { result = result; params = params }))) λ directives.
    field (λ f. is_some f.codes) flag λ defined.
    field (λ f. f.codes) (only_if defined (function_codes (in_object functions (length params)) (length directives))) λ codes.
    given (record { symbol = symbol; result = result; params = params; directives = directives; codes = codes })

-- ---- the object

abbrev pub object_table : {R : Type 0} → Codec R RawObject
object_table =
    exactly O1 (codes "VKOBJECT") ▹
    exactly_number O2 2 1 ▹
    field (λ o. o.target) target λ target.
    exactly_number O7 1 0 ▹
    field (λ o. o.symbols) (many (number 4) (λ n. symbol)) λ symbols.
    field (λ o. o.objects) (many (number 4) (λ n. member (length symbols))) λ objects.
    field (λ o. o.functions) (many (number 4) (λ n. function target (length symbols) n)) λ functions.
    given (record { target = target; symbols = symbols; objects = objects; functions = functions })

-- ---- what is judged once the last field is complete: that each symbol is used once, then the codes

abbrev pub symbol_length : List ℕ → ℕ
symbol_length t = 2 + length t

abbrev pub data_length : RawData → ℕ
data_length d = 14 + length d.elements * bytes_of d.ty

-- the bytes of a function before its codes
abbrev pub front_length : RawFunction → ℕ
front_length f = 6 + length f.params + 2 + length f.directives * (3 + 9 * length f.params) + 1

abbrev pub codes_in : Option RawCodes → List CodeRow
codes_in None = []
codes_in (Some c) = c.scalar ∷ c.lanes

abbrev pub place_in : RawObject → RawFunction → Place
place_in o f = in_object (length o.functions) (length f.params)

abbrev pub function_length : RawObject → RawFunction → ℕ
function_length o f = front_length f + sum_by (code_length (place_in o f)) (codes_in f.codes)

-- the first symbol, and the first function
abbrev pub symbols_at : ℕ
symbols_at = 16

abbrev pub functions_at : RawObject → ℕ
functions_at o = symbols_at + sum_by symbol_length o.symbols + 4 + sum_by data_length o.objects + 4

abbrev pub symbol_fault : RawObject → ℕ → ℕ → List ℕ → Option ObjectFault
symbol_fault o n at t = unless (is_used_once (object_of o) n) (fault at O6)

-- the first bad part of a code: its head, types and kind are one
abbrev pub bad_part_of : ObjectLists → FunctionLists → CodeRow → Option ℕ
bad_part_of o f c =
    cond (has_types f.head (listing_of c) && (not (is_simd f) || c.routine.front.lane_code)) (bad_part (names_of o) (listing_of c)) (Some 0)

abbrev pub code_fault : RawObject → RawFunction → ℕ → ℕ → CodeRow → Option ObjectFault
code_fault o f n at c = option_map (λ part. fault (at + part_at (place_in o f) c part) O9) (bad_part_of (object_of o) (function_of f) c)

abbrev pub function_fault : RawObject → ℕ → ℕ → RawFunction → Option ObjectFault
function_fault o n at f = first_along (code_length (place_in o f)) (code_fault o f) 0 (at + front_length f) (codes_in f.codes)

abbrev pub object_faults : RawObject → ℕ → Option ObjectFault
object_faults o end =
    or_else (first_along symbol_length (symbol_fault o) 0 symbols_at o.symbols)
    (first_along (function_length o) (function_fault o) 0 (functions_at o) o.functions)

-- ---- what bytes are

abbrev pub object_format : Format RawObject
object_format = whole object_faults object_table

abbrev pub table_bytes : RawObject → List ℕ
table_bytes o = (object_table {R = RawObject}).write o

-- the one spelling of an object
abbrev pub object_bytes : ObjectLists → List ℕ
object_bytes o = table_bytes (raw_object o)

-- its fields are in their ranges, and no condition over the tables is broken
abbrev pub IsObject : RawObject → Type 0
IsObject o = Sound object_faults object_table o

-- the bytes are refused first by this rule at this place
abbrev pub ObjectRefused : List ℕ → ObjectFault → Type 0
ObjectRefused bytes f = judge object_format 0 bytes ≡ Err f
