-- A part is whole, and what is wanted behind it comes.
use Rattle.std.proofs.Common.{◌≡◌, ℕ, suc, ◌∙◌, List, [], length, Option, refl, ap}
use Rattle.std.specs.Option.{option_map}
use Rattle.vk_kinds.specs.declared.kinds.Target.{Target}
use Rattle.vk_format.specs.Format.{Format}
use Rattle.vk_format.specs.Codec.{read_after}
use Rattle.vk_code_format.specs.declared.rows.CodeRow.{CodeRow}
use Rattle.vk_code_format.specs.Codes.{code}
use Rattle.vk_code_format.specs.Fields.{last_of}
use Rattle.vk_code_read.specs.declared.code.CodeFeed.{CodeFeed}
use Rattle.vk_code_read.specs.declared.code.CodeStage.TheVariants as codes
use Rattle.vk_code_read.specs.Inner.Left.{Behind, taken}
use Rattle.vk_code_read.specs.Inner.LeftCode.{code_left, code_left_at, code_row}
use Rattle.vk_object_format.specs.declared.rows.RawFunction.{RawFunction}
use Rattle.vk_object_format.specs.declared.rows.RawObject.{RawObject}
use Rattle.vk_object_format.specs.Object.{function}
use Rattle.vk_object_read.specs.declared.function.FunctionFeed.{FunctionFeed}
use Rattle.vk_object_read.specs.declared.function.FunctionStage.TheVariants as functions
use Rattle.vk_object_read.specs.declared.object.ObjectFields.{ObjectFields}
use Rattle.vk_object_read.specs.declared.object.ObjectStage.TheVariants as objects
use Rattle.vk_object_read.specs.Inner.LeftFunction.{after_lanes, after_scalar, from_symbol, function_left, function_left_at, place_of_codes}
use Rattle.vk_object_read.specs.Inner.LeftObject.{after_function, after_functions, object_left, object_left_at}

-- a function begins behind the last one
pub function_begins : {R : Type 0} (target : Target) (symbols count : ℕ) (before : List RawFunction) (last : Option ℕ) (f : RawFunction) (at : ℕ) (next : Behind RawFunction R)
    → last ≡ option_map (λ f. f.symbol) (last_of before) → from_symbol target symbols count last f at next ≡ (function target symbols count before).read at next
function_begins target symbols count before last f at next e = ap (λ o. from_symbol target symbols count o f at next) e

-- the scalar code is whole
pub scalar_done : {R : Type 0} (s : FunctionFeed) (at : ℕ) (bytes : List ℕ) (next : Behind RawFunction R) (c : CodeFeed) (end : ℕ) (after : Format R)
    → s.stage ≡ functions.Scalar → taken (code_left s.code at (after_scalar s.functions s.function next)) bytes ≡ code_left c end (after_scalar s.functions s.function next)
    → c.stage ≡ codes.Done → after_scalar s.functions s.function next (code_row c.front.front c.loops c.instrs) end ≡ after
    → taken (function_left s at next) bytes ≡ after
scalar_done s at bytes next c end after e h d f =
    ap (λ st. taken (function_left_at st s at next) bytes) e ∙ h ∙ ap (λ st. code_left_at st c end (after_scalar s.functions s.function next)) d ∙ f

-- and the codes of the directives come
pub lanes_begin : {R : Type 0} (count : ℕ) (f : RawFunction) (row new : CodeRow) (n : ℕ) (none : List CodeRow) (at : ℕ) (next : Behind RawFunction R)
    → n ≡ length f.directives → none ≡ [] → new ≡ row
    → after_scalar count f next row at ≡ read_after (λ b. code (place_of_codes count f)) n none at (after_lanes f new next)
lanes_begin count f row new n none at next e1 e2 e3 = rw (e1, e2, e3) refl

-- a function is whole
pub function_done : {R : Type 0} (s : ObjectFields) (left at : ℕ) (bytes : List ℕ) (next : Behind RawObject R) (f : FunctionFeed) (end : ℕ) (after : Format R)
    → s.stage ≡ objects.Function left
    → taken (function_left s.function at (after_function s.object s.functions left next)) bytes ≡ function_left f end (after_function s.object s.functions left next)
    → f.stage ≡ functions.Done → after_function s.object s.functions left next f.function end ≡ after
    → taken (object_left s at next) bytes ≡ after
function_done s left at bytes next f end after e h d g =
    ap (λ st. taken (object_left_at st s at next) bytes) e ∙ h ∙ ap (λ st. function_left_at st f end (after_function s.object s.functions left next)) d ∙ g

-- and the next one comes
pub function_next : {R : Type 0} (o : RawObject) (count m n left at : ℕ) (next : Behind RawObject R) → n ≡ length o.symbols → suc m ≡ left
    → (function o.target n count o.functions).read at (after_function o count m next)
    ≡ read_after (function o.target (length o.symbols) count) left o.functions at (after_functions o next)
function_next o count m n left at next e1 e2 =
    ap (λ (k : ℕ). (function o.target k count o.functions).read at (after_function o count m next)) e1
    ∙ ap (λ (k : ℕ). read_after (function o.target (length o.symbols) count) k o.functions at (after_functions o next)) e2
