-- What is still wanted of an object of file scope, by what has come.
use Rattle.std.specs.Prelude.{◌≡◌, ℕ, nat_le, Bool, cond, List, [], ◌∷◌, ◌++◌, Option, Some, None, Result, Ok, Err}
use Rattle.vk_types.specs.declared.types.Word.{Word}
use Rattle.vk_kinds.specs.Sizes.{bytes_of}
use Rattle.vk_object.specs.Texts.{ends_well}
use Rattle.vk_format.specs.declared.rules.ObjectFail.{ObjectFail}
use Rattle.vk_format.specs.declared.rules.ObjectRule.TheVariants.{O6, O7}
use Rattle.vk_format.specs.Format.{Format}
use Rattle.vk_format.specs.Codec.{number, judged, list, passing, wanted, read_after}
use Rattle.vk_code_format.specs.Fields.{element, int_type}
use Rattle.vk_code_read.specs.Inner.Left.{Behind, Fails}
use Rattle.vk_object_format.specs.declared.rows.RawData.{RawData}
use Rattle.vk_object_format.specs.Object.{flags, symbol_number}
use Rattle.vk_object_read.specs.declared.data.DataFeed.{DataFeed}
use Rattle.vk_object_read.specs.declared.data.DataStage.{DataStage}
use Rattle.vk_object_read.specs.declared.data.DataStage.TheVariants.{Symbol, TypeOf, Flags, Length, Given, Element, Done}

-- what is wanted is this now, or it is refused, or memory ran out
abbrev pub Settles : {R T : Type 0} → Result T ObjectFail → Format R → Format R → Type 0
Settles (Ok u) wanted now = wanted ≡ now
Settles (Err e) wanted now = Fails e wanted

-- it is whole: its last given element is not 0
abbrev pub after_elements : {R : Type 0} → ℕ → RawData → Behind RawData R → Behind (List Word) R
after_elements start d next es at = wanted start O6 (passing (λ e. ends_well e.elements) (record d { elements = es })) (λ e. next e at)

abbrev pub from_given : {R : Type 0} → ℕ → RawData → ℕ → Behind RawData R → Format R
from_given start d at next =
    (list (judged O7 (λ given. nat_le given (cond d.defined d.length 0)) (number 4)) (element d.ty)).read at (after_elements start d next)

abbrev pub from_length : {R : Type 0} → ℕ → RawData → ℕ → Behind RawData R → Format R
from_length start d at next = (number 4).read at (λ n end. from_given start (record d { length = n }) end next)

abbrev pub from_flags : {R : Type 0} → ℕ → RawData → ℕ → Behind RawData R → Format R
from_flags start d at next = flags.read at (λ f end. from_length start (record d { fixed = f.0; defined = f.1 }) end next)

abbrev pub from_type : {R : Type 0} → ℕ → RawData → ℕ → Behind RawData R → Format R
from_type start d at next = int_type.read at (λ t end. from_flags start (record d { ty = t }) end next)

abbrev pub from_symbol : {R : Type 0} → ℕ → Option ℕ → RawData → ℕ → Behind RawData R → Format R
from_symbol symbols last d at next = (symbol_number symbols last).read at (λ s end. from_type at (record d { symbol = s }) end next)

-- ---- by the stage

abbrev pub data_left_at : {R : Type 0} → DataStage → DataFeed → ℕ → Behind RawData R → Format R
data_left_at Symbol s at next = from_symbol s.symbols s.last s.data at next
data_left_at TypeOf s at next = from_type s.start s.data at next
data_left_at Flags s at next = from_flags s.start s.data at next
data_left_at Length s at next = from_length s.start s.data at next
data_left_at Given s at next = from_given s.start s.data at next
data_left_at (Element left) s at next = (element s.data.ty).read at (λ e end. read_after (λ before. element s.data.ty) left (s.data.elements ++ e ∷ []) end (after_elements s.start s.data next))
data_left_at Done s at next = next s.data at

abbrev pub data_left : {R : Type 0} → DataFeed → ℕ → Behind RawData R → Format R
data_left s at next = data_left_at s.stage s at next

-- the bytes of the field that comes next
abbrev pub data_width_at : DataStage → RawData → ℕ
data_width_at Symbol d = 4
data_width_at TypeOf d = 1
data_width_at Flags d = 1
data_width_at Length d = 4
data_width_at Given d = 4
data_width_at (Element left) d = bytes_of d.ty
data_width_at Done d = 0

abbrev pub data_width : DataFeed → ℕ
data_width s = data_width_at s.stage s.data
