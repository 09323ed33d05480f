-- The tables of an object, and what is judged once the last field is complete.
use Rattle.std.specs.Prelude.{ℕ, Bool, true, false, ◌&&◌, Option, is_none}
use Rattle.vk_format.specs.declared.rules.ObjectFault.{ObjectFault}
use Rattle.vk_format.specs.Format.{Format}
use Rattle.vk_format.specs.Codec.{last}
use Rattle.vk_object_format.specs.declared.rows.RawObject.{RawObject}
use Rattle.vk_object_format.specs.Object.{object_faults, object_format}
use Rattle.vk_object_read.specs.declared.object.ObjectFields.{ObjectFields}
use Rattle.vk_object_read.specs.declared.object.ObjectStage.{ObjectStage}
use Rattle.vk_object_read.specs.declared.object.ObjectStage.TheVariants.{Magic, Version, TargetOf, Zero, SymbolCount, SymbolLength, SymbolText, DataCount, Data, FunctionCount, Function, Done}
use Rattle.vk_object_read.specs.Inner.LeftObject.{object_left, object_width}

-- what bytes are, by the format of objects
unfoldable pub rows_format : Format RawObject
rows_format = object_format

-- the first condition over the tables that is broken
unfoldable pub faults_of : RawObject → Option ObjectFault
faults_of o = object_faults o 0

-- tables are an object's where no condition over them is broken
unfoldable pub judged : RawObject → ℕ → Format RawObject
judged o end = last (object_faults o end) o

-- what is still wanted
unfoldable pub rows_left : ObjectFields → ℕ → Format RawObject
rows_left s at = object_left s at judged

-- the bytes of the field that comes next
unfoldable pub rows_width : ObjectFields → ℕ
rows_width s = object_width s

-- whether all fields have come
abbrev pub is_done : ObjectStage → Bool
is_done Magic = false
is_done Version = false
is_done TargetOf = false
is_done Zero = false
is_done SymbolCount = false
is_done (SymbolLength left) = false
is_done (SymbolText left len) = false
is_done DataCount = false
is_done (Data left) = false
is_done FunctionCount = false
is_done (Function left) = false
is_done Done = true

-- whether all fields have come, and no condition over the tables is broken
abbrev pub is_judged : ObjectFields → Bool
is_judged s = is_done s.stage && is_none (faults_of s.object)
