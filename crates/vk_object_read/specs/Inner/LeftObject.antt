-- What is still wanted of an object, by what has come.
use Rattle.std.specs.Prelude.{ℕ, ◌+◌, List, [], ◌∷◌, ◌++◌, length, codes}
use Rattle.vk_object.specs.Objects.{is_symbol}
use Rattle.vk_object.specs.Texts.{is_before}
use Rattle.vk_format.specs.declared.rules.ObjectRule.TheVariants.{O1, O2, O6, O7}
use Rattle.vk_format.specs.Format.{Format}
use Rattle.vk_format.specs.Codec.{number, many, passing, wanted, some_bytes, exactly, exactly_number, read_after}
use Rattle.vk_code_format.specs.Fields.{comes_after, last_of, target}
use Rattle.vk_code_read.specs.Inner.Left.{Behind}
use Rattle.vk_object_format.specs.declared.rows.RawData.{RawData}
use Rattle.vk_object_format.specs.declared.rows.RawFunction.{RawFunction}
use Rattle.vk_object_format.specs.declared.rows.RawObject.{RawObject}
use Rattle.vk_object_format.specs.Object.{function, member, symbol}
use Rattle.vk_object_read.specs.declared.object.ObjectFields.{ObjectFields}
use Rattle.vk_object_read.specs.declared.object.ObjectStage.{ObjectStage}
use Rattle.vk_object_read.specs.declared.object.ObjectStage.TheVariants.{Magic, Version, TargetOf, Zero, SymbolCount, SymbolLength, SymbolText, DataCount, Data, FunctionCount, Function, Done}
use Rattle.vk_object_read.specs.Inner.LeftData.{data_left, data_width}
use Rattle.vk_object_read.specs.Inner.LeftFunction.{function_left, function_width}

-- ---- functions

abbrev pub after_functions : {R : Type 0} → RawObject → Behind RawObject R → Behind (List RawFunction) R
after_functions o next fs at = next (record o { functions = fs }) at

abbrev pub from_functions : {R : Type 0} → RawObject → ℕ → Behind RawObject R → Format R
from_functions o at next = (many (number 4) (λ n. function o.target (length o.symbols) n)).read at (after_functions o next)

-- a function, with so many after it
abbrev pub after_function : {R : Type 0} → RawObject → ℕ → ℕ → Behind RawObject R → Behind RawFunction R
after_function o functions left next f at =
    read_after (function o.target (length o.symbols) functions) left (o.functions ++ f ∷ []) at (after_functions o next)

-- ---- objects

abbrev pub after_objects : {R : Type 0} → RawObject → Behind RawObject R → Behind (List RawData) R
after_objects o next ds at = from_functions (record o { objects = ds }) at next

abbrev pub from_objects : {R : Type 0} → RawObject → ℕ → Behind RawObject R → Format R
from_objects o at next = (many (number 4) (λ n. member (length o.symbols))).read at (after_objects o next)

-- an object, with so many after it
abbrev pub after_data : {R : Type 0} → RawObject → ℕ → Behind RawObject R → Behind RawData R
after_data o left next d at = read_after (member (length o.symbols)) left (o.objects ++ d ∷ []) at (after_objects o next)

-- ---- symbols

abbrev pub after_symbols : {R : Type 0} → RawObject → Behind RawObject R → Behind (List (List ℕ)) R
after_symbols o next ts at = from_objects (record o { symbols = ts }) at next

abbrev pub from_symbols : {R : Type 0} → RawObject → ℕ → Behind RawObject R → Format R
from_symbols o at next = (many (number 4) (λ n. symbol)).read at (after_symbols o next)

-- a text that begins at `start`, with so many after it
abbrev pub after_text : {R : Type 0} → RawObject → ℕ → ℕ → Behind RawObject R → Behind (List ℕ) R
after_text o start left next bytes end =
    wanted start O7 (passing is_symbol bytes)
    (λ t. wanted start O6 (passing (comes_after is_before (last_of o.symbols)) t)
    (λ s. read_after symbol left (o.symbols ++ s ∷ []) end (after_symbols o next)))

abbrev pub from_text : {R : Type 0} → RawObject → ℕ → ℕ → ℕ → ℕ → Behind RawObject R → Format R
from_text o start left len at next = some_bytes len (λ bytes. after_text o start left next bytes (at + len))

abbrev pub from_text_length : {R : Type 0} → RawObject → ℕ → ℕ → Behind RawObject R → Format R
from_text_length o left at next = (number 2).read at (λ len end. from_text o at left len end next)

-- ---- the header

abbrev pub from_zero : {R : Type 0} → RawObject → ℕ → Behind RawObject R → Format R
from_zero o at next = (exactly_number O7 1 0).read at (λ u end. from_symbols o end next)

abbrev pub from_target : {R : Type 0} → RawObject → ℕ → Behind RawObject R → Format R
from_target o at next = target.read at (λ t end. from_zero (record o { target = t }) end next)

abbrev pub from_version : {R : Type 0} → RawObject → ℕ → Behind RawObject R → Format R
from_version o at next = (exactly_number O2 2 1).read at (λ u end. from_target o end next)

abbrev pub from_magic : {R : Type 0} → RawObject → ℕ → Behind RawObject R → Format R
from_magic o at next = (exactly O1 (codes "VKOBJECT")).read at (λ u end. from_version o end next)

-- ---- by the stage

abbrev pub object_left_at : {R : Type 0} → ObjectStage → ObjectFields → ℕ → Behind RawObject R → Format R
object_left_at Magic s at next = from_magic s.object at next
object_left_at Version s at next = from_version s.object at next
object_left_at TargetOf s at next = from_target s.object at next
object_left_at Zero s at next = from_zero s.object at next
object_left_at SymbolCount s at next = from_symbols s.object at next
object_left_at (SymbolLength left) s at next = from_text_length s.object left at next
object_left_at (SymbolText left len) s at next = from_text s.object s.start left len at next
object_left_at DataCount s at next = from_objects s.object at next
object_left_at (Data left) s at next = data_left s.data at (after_data s.object left next)
object_left_at FunctionCount s at next = from_functions s.object at next
object_left_at (Function left) s at next = function_left s.function at (after_function s.object s.functions left next)
object_left_at Done s at next = next s.object at

abbrev pub object_left : {R : Type 0} → ObjectFields → ℕ → Behind RawObject R → Format R
object_left s at next = object_left_at s.stage s at next

-- the bytes of the field that comes next
abbrev pub object_width_at : ObjectStage → ObjectFields → ℕ
object_width_at Magic s = 8
object_width_at Version s = 2
object_width_at TargetOf s = 1
object_width_at Zero s = 1
object_width_at SymbolCount s = 4
object_width_at (SymbolLength left) s = 2
object_width_at (SymbolText left len) s = len
object_width_at DataCount s = 4
object_width_at (Data left) s = data_width s.data
object_width_at FunctionCount s = 4
object_width_at (Function left) s = function_width s.function
object_width_at Done s = 0

abbrev pub object_width : ObjectFields → ℕ
object_width s = object_width_at s.stage s
