-- What is still wanted of a function, by what has come.
use Rattle.std.specs.Prelude.{ℕ, nat_le, Bool, List, [], ◌∷◌, ◌++◌, length, Option, Some, None, slice_get}
use Rattle.vk_kinds.specs.declared.heads.CType.{CType}
use Rattle.vk_kinds.specs.declared.kinds.Target.{Target}
use Rattle.vk_format.specs.declared.rules.ObjectRule.TheVariants.{O7}
use Rattle.vk_format.specs.Format.{Format}
use Rattle.vk_format.specs.Codec.{Codec, number, items, judged, list, many, only_if, passing, repeated, wanted, read_after}
use Rattle.vk_code_format.specs.declared.rows.CodeRow.{CodeRow}
use Rattle.vk_code_format.specs.declared.rows.ParamKind.{ParamKind}
use Rattle.vk_code_format.specs.declared.rows.ParamRow.{ParamRow}
use Rattle.vk_code_format.specs.Codes.{Place, in_object, code}
use Rattle.vk_code_format.specs.Fields.{coded, flag, optional, result_type, simdlen, value_type}
use Rattle.vk_code_format.specs.Parameters.{align_fits, kind_fits, kind_number, param, param_kinds, value_fits}
use Rattle.vk_code_read.specs.Inner.Left.{Behind}
use Rattle.vk_code_read.specs.Inner.LeftCode.{code_left, code_width}
use Rattle.vk_code_read.specs.declared.code.CodeFeed.{CodeFeed}
use Rattle.vk_object_format.specs.declared.rows.RawCodes.{RawCodes}
use Rattle.vk_object_format.specs.declared.rows.RawDirective.{RawDirective}
use Rattle.vk_object_format.specs.declared.rows.RawFunction.{RawFunction}
use Rattle.vk_object_format.specs.Object.{branch_number, branches, directive, function_codes, is_directive_after, symbol_number}
use Rattle.vk_object_format.specs.Values.{head_of}
use Rattle.vk_object_read.specs.declared.function.FunctionFeed.{FunctionFeed}
use Rattle.vk_object_read.specs.declared.function.FunctionStage.{FunctionStage}
use Rattle.vk_object_read.specs.declared.function.FunctionStage.TheVariants.{Symbol, ResultType, ParamCount, Param, DirectiveCount, Branch, Simdlen, Kind, Value, Align, Defined, Scalar, Lane, Done}

-- ---- codes

-- where the codes of the function stand
abbrev pub place_of_codes : ℕ → RawFunction → Place
place_of_codes functions f = in_object functions (length f.params)

abbrev pub after_lanes : {R : Type 0} → RawFunction → CodeRow → Behind RawFunction R → Behind (List CodeRow) R
after_lanes f scalar next cs at = next (record f { codes = Some (record { scalar = scalar; lanes = cs }) }) at

abbrev pub after_scalar : {R : Type 0} → ℕ → RawFunction → Behind RawFunction R → Behind CodeRow R
after_scalar functions f next c at = (repeated (length f.directives) (code (place_of_codes functions f))).read at (after_lanes f c next)

-- a code of lanes, with so many after it
abbrev pub after_lane : {R : Type 0} → ℕ → RawFunction → CodeRow → List CodeRow → ℕ → Behind RawFunction R → Behind CodeRow R
after_lane functions f scalar before left next c at =
    read_after (λ b. code (place_of_codes functions f)) left (before ++ c ∷ []) at (after_lanes f scalar next)

abbrev pub after_codes : {R : Type 0} → RawFunction → Behind RawFunction R → Behind (Option RawCodes) R
after_codes f next c at = next (record f { codes = c }) at

abbrev pub from_defined : {R : Type 0} → ℕ → RawFunction → ℕ → Behind RawFunction R → Format R
from_defined functions f at next =
    flag.read at (λ defined end. (only_if defined (function_codes (place_of_codes functions f) (length f.directives))).read end (after_codes f next))

-- ---- directives

abbrev pub after_directives : {R : Type 0} → ℕ → RawFunction → Behind RawFunction R → Behind (List RawDirective) R
after_directives functions f next ds at = from_defined functions (record f { directives = ds }) at next

abbrev pub from_directives : {R : Type 0} → Target → ℕ → RawFunction → ℕ → Behind RawFunction R → Format R
from_directives target functions f at next = (many (number 2) (λ n. directive target (head_of f))).read at (after_directives functions f next)

-- a directive, with so many after it
abbrev pub after_directive : {R : Type 0} → Target → ℕ → RawFunction → ℕ → Behind RawFunction R → Behind RawDirective R
after_directive target functions f left next d at =
    read_after (directive target (head_of f)) left (f.directives ++ d ∷ []) at (after_directives functions f next)

-- one that begins at `start`, and its parameters
abbrev pub after_params : {R : Type 0} → Target → ℕ → RawFunction → ℕ → ℕ → RawDirective → Behind RawFunction R → Behind (List ParamRow) R
after_params target functions f start left d next ps at =
    wanted start O7 (passing (is_directive_after target (head_of f) f.directives) (record d { params = ps }))
    (λ e. after_directive target functions f left next e at)

abbrev pub param_after : {R : Type 0} → RawFunction → List ParamRow → Codec R ParamRow
param_after f before = param (slice_get f.params (length before))

abbrev pub from_simdlen : {R : Type 0} → Target → ℕ → RawFunction → ℕ → ℕ → RawDirective → ℕ → Behind RawFunction R → Format R
from_simdlen target functions f start left d at next =
    simdlen.read at (λ s end. (items (length f.params) (param_after f)).read end (after_params target functions f start left (record d { simdlen = s }) next))

abbrev pub from_branch : {R : Type 0} → Target → ℕ → RawFunction → ℕ → RawDirective → ℕ → Behind RawFunction R → Format R
from_branch target functions f left d at next =
    (coded O7 branches branch_number).read at (λ b end. from_simdlen target functions f at left (record d { branch = b }) end next)

-- ---- a parameter of a directive, with so many after it

abbrev pub after_param : {R : Type 0} → RawFunction → List ParamRow → ℕ → Behind (List ParamRow) R → Behind ParamRow R
after_param f before left next p at = read_after (param_after f) left (before ++ p ∷ []) at next

abbrev pub from_align : {R : Type 0} → Option CType → ParamKind → ℕ → ℕ → Behind ParamRow R → Format R
from_align t kind value at next = (judged O7 (align_fits t) (optional 4 0)).read at (λ align end. next (record { kind = kind; value = value; align = align }) end)

abbrev pub from_value : {R : Type 0} → Option CType → ParamKind → ℕ → Behind ParamRow R → Format R
from_value t kind at next = (judged O7 (value_fits t kind) (number 4)).read at (λ value end. from_align t kind value end next)

abbrev pub from_kind : {R : Type 0} → Option CType → ℕ → Behind ParamRow R → Format R
from_kind t at next = (judged O7 (kind_fits t) (coded O7 param_kinds kind_number)).read at (λ kind end. from_value t kind end next)

-- ---- the head

abbrev pub after_types : {R : Type 0} → Target → ℕ → RawFunction → Behind RawFunction R → Behind (List CType) R
after_types target functions f next ts at = from_directives target functions (record f { params = ts }) at next

abbrev pub from_types : {R : Type 0} → Target → ℕ → RawFunction → ℕ → Behind RawFunction R → Format R
from_types target functions f at next = (list (judged O7 (λ n. nat_le n 64) (number 1)) value_type).read at (after_types target functions f next)

abbrev pub from_result : {R : Type 0} → Target → ℕ → RawFunction → ℕ → Behind RawFunction R → Format R
from_result target functions f at next = result_type.read at (λ t end. from_types target functions (record f { result = t }) end next)

abbrev pub from_symbol : {R : Type 0} → Target → ℕ → ℕ → Option ℕ → RawFunction → ℕ → Behind RawFunction R → Format R
from_symbol target symbols functions last f at next =
    (symbol_number symbols last).read at (λ s end. from_result target functions (record f { symbol = s }) end next)

-- ---- by the stage

-- the type of the parameter that comes next
abbrev pub type_next : RawFunction → RawDirective → Option CType
type_next f d = slice_get f.params (length d.params)

-- what is wanted behind a parameter
abbrev pub param_next : {R : Type 0} → FunctionFeed → ℕ → ℕ → Behind RawFunction R → Behind ParamRow R
param_next s left params next =
    after_param s.function s.directive.params params (after_params s.target s.functions s.function s.start left s.directive next)

abbrev pub function_left_at : {R : Type 0} → FunctionStage → FunctionFeed → ℕ → Behind RawFunction R → Format R
function_left_at Symbol s at next = from_symbol s.target s.symbols s.functions s.last s.function at next
function_left_at ResultType s at next = from_result s.target s.functions s.function at next
function_left_at ParamCount s at next = from_types s.target s.functions s.function at next
function_left_at (Param left) s at next = value_type.read at (λ t end. read_after (λ before. value_type) left (s.function.params ++ t ∷ []) end (after_types s.target s.functions s.function next))
function_left_at DirectiveCount s at next = from_directives s.target s.functions s.function at next
function_left_at (Branch left) s at next = from_branch s.target s.functions s.function left s.directive at next
function_left_at (Simdlen left) s at next = from_simdlen s.target s.functions s.function s.start left s.directive at next
function_left_at (Kind left params) s at next = from_kind (type_next s.function s.directive) at (param_next s left params next)
function_left_at (Value left params kind) s at next = from_value (type_next s.function s.directive) kind at (param_next s left params next)
function_left_at (Align left params kind value) s at next = from_align (type_next s.function s.directive) kind value at (param_next s left params next)
function_left_at Defined s at next = from_defined s.functions s.function at next
function_left_at Scalar s at next = code_left s.code at (after_scalar s.functions s.function next)
function_left_at (Lane left) s at next = code_left s.code at (after_lane s.functions s.function s.scalar s.lanes left next)
function_left_at Done s at next = next s.function at

abbrev pub function_left : {R : Type 0} → FunctionFeed → ℕ → Behind RawFunction R → Format R
function_left s at next = function_left_at s.stage s at next

-- the bytes of the field that comes next
abbrev pub function_width_at : FunctionStage → CodeFeed → ℕ
function_width_at Symbol c = 4
function_width_at ResultType c = 1
function_width_at ParamCount c = 1
function_width_at (Param left) c = 1
function_width_at DirectiveCount c = 2
function_width_at (Branch left) c = 1
function_width_at (Simdlen left) c = 2
function_width_at (Kind left params) c = 1
function_width_at (Value left params kind) c = 4
function_width_at (Align left params kind value) c = 4
function_width_at Defined c = 1
function_width_at Scalar c = code_width c
function_width_at (Lane left) c = code_width c
function_width_at Done c = 0

abbrev pub function_width : FunctionFeed → ℕ
function_width s = function_width_at s.stage s.code
