-- What bytes are.
use Rattle.std.specs.Prelude.{◌≡◌, ℕ, List, Result, Ok, Err}
use Rattle.vk_format.specs.declared.rules.ObjectFail.{ObjectFail}
use Rattle.vk_format.specs.declared.rules.ObjectFail.TheVariants as fails
use Rattle.vk_format.specs.Format.{judge}
use Rattle.vk_object.specs.declared.object.Object.{Object}
use Rattle.vk_object_format.specs.declared.rows.RawObject.{RawObject}
use Rattle.vk_object_codec.specs.Objects.{StandsFor}
use Rattle.vk_object_codec.specs.Rows.{rows_format}

-- the answer is the object that these bytes spell, or their first fault; or want of memory
abbrev pub IsRead : Result Object ObjectFail → List ℕ → Type 0
IsRead (Ok object) bytes = (tables : RawObject) × (judge rows_format 0 bytes ≡ Ok tables) × StandsFor tables object
IsRead (Err (fails.Fault e)) bytes = judge rows_format 0 bytes ≡ Err e
IsRead (Err fails.Memory) bytes = Unit {0}
