-- What is still wanted of an array, by what has come.
use Rattle.std.specs.Prelude.{ℕ, ◌+◌, nat_le, List, [], ◌∷◌, ◌++◌}
use Rattle.vk_types.specs.declared.types.Word.{Word}
use Rattle.vk_kinds.specs.Sizes.{bytes_of}
use Rattle.vk_object.specs.Texts.{ends_well, is_before, is_identifier}
use Rattle.vk_format.specs.declared.rules.ObjectRule.TheVariants.{O6, O7}
use Rattle.vk_format.specs.Format.{Format}
use Rattle.vk_format.specs.Codec.{number, judged, list, passing, some_bytes, wanted, read_after}
use Rattle.vk_code_format.specs.Fields.{comes_after, element, flag, int_type}
use Rattle.vk_code_read.specs.Inner.Left.{Behind}
use Rattle.vk_image_fields.specs.Names.{last_text}
use Rattle.vk_image_format.specs.declared.rows.RawArray.{RawArray}
use Rattle.vk_image_read.specs.declared.array.ArrayFeed.{ArrayFeed}
use Rattle.vk_image_read.specs.declared.array.ArrayStage.{ArrayStage}
use Rattle.vk_image_read.specs.declared.array.ArrayStage.TheVariants.{TextLength, Text, TypeOf, Fixed, Length, Given, Element, Done}

-- it is whole: its last given element is not 0
abbrev pub after_elements : {R : Type 0} → ℕ → RawArray → Behind RawArray R → Behind (List Word) R
after_elements start a next es at = wanted start O6 (passing (λ b. ends_well b.elements) (record a { elements = es })) (λ b. next b at)

abbrev pub from_given : {R : Type 0} → ℕ → RawArray → ℕ → Behind RawArray R → Format R
from_given start a at next = (list (judged O7 (λ given. nat_le given a.length) (number 4)) (element a.ty)).read at (after_elements start a next)

abbrev pub from_length : {R : Type 0} → ℕ → RawArray → ℕ → Behind RawArray R → Format R
from_length start a at next = (number 4).read at (λ n end. from_given start (record a { length = n }) end next)

abbrev pub from_fixed : {R : Type 0} → ℕ → RawArray → ℕ → Behind RawArray R → Format R
from_fixed start a at next = flag.read at (λ f end. from_length start (record a { fixed = f }) end next)

abbrev pub from_type : {R : Type 0} → ℕ → RawArray → ℕ → Behind RawArray R → Format R
from_type start a at next = int_type.read at (λ t end. from_fixed start (record a { ty = t }) end next)

-- the text of one that begins at `start`, behind others
abbrev pub after_text : {R : Type 0} → List RawArray → ℕ → RawArray → Behind RawArray R → Behind (List ℕ) R
after_text before start a next bytes end =
    wanted start O7 (passing is_identifier bytes)
    (λ t. wanted start O6 (passing (comes_after is_before (last_text before)) t)
    (λ s. from_type start (record a { text = s }) end next))

abbrev pub from_text : {R : Type 0} → List RawArray → ℕ → ℕ → RawArray → ℕ → Behind RawArray R → Format R
from_text before start len a at next = some_bytes len (λ bytes. after_text before start a next bytes (at + len))

abbrev pub from_text_length : {R : Type 0} → List RawArray → RawArray → ℕ → Behind RawArray R → Format R
from_text_length before a at next = (number 2).read at (λ len end. from_text before at len a end next)

-- ---- by the stage

abbrev pub array_left_at : {R : Type 0} → ArrayStage → List RawArray → ArrayFeed → ℕ → Behind RawArray R → Format R
array_left_at TextLength before s at next = from_text_length before s.array at next
array_left_at (Text len) before s at next = from_text before s.start len s.array at next
array_left_at TypeOf before s at next = from_type s.start s.array at next
array_left_at Fixed before s at next = from_fixed s.start s.array at next
array_left_at Length before s at next = from_length s.start s.array at next
array_left_at Given before s at next = from_given s.start s.array at next
array_left_at (Element left) before s at next =
    (element s.array.ty).read at (λ e end. read_after (λ b. element s.array.ty) left (s.array.elements ++ e ∷ []) end (after_elements s.start s.array next))
array_left_at Done before s at next = next s.array at

abbrev pub array_left : {R : Type 0} → List RawArray → ArrayFeed → ℕ → Behind RawArray R → Format R
array_left before s at next = array_left_at s.stage before s at next

-- the bytes of the field that comes next
abbrev pub array_width_at : ArrayStage → RawArray → ℕ
array_width_at TextLength a = 2
array_width_at (Text len) a = len
array_width_at TypeOf a = 1
array_width_at Fixed a = 1
array_width_at Length a = 4
array_width_at Given a = 4
array_width_at (Element left) a = bytes_of a.ty
array_width_at Done a = 0

abbrev pub array_width : ArrayFeed → ℕ
array_width s = array_width_at s.stage s.array
