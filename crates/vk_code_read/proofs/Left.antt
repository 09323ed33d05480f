-- What is left of calls.
use Rattle.std.proofs.Common.{◌≡◌, ℕ, ◌+◌, suc, refl}
use Rattle.vk_format.specs.Codec.{read_after}
use Rattle.vk_code_format.specs.declared.rows.FrontRow.{FrontRow}
use Rattle.vk_code_format.specs.declared.rows.SlotRow.{SlotRow}
use Rattle.vk_code_format.specs.Codes.{Place, in_object, in_image, slot}
use Rattle.vk_code_format.specs.declared.rows.BodyRow.{BodyRow}
use Rattle.vk_code_format.specs.Codes.{body}
use Rattle.vk_code_read.specs.declared.front.FrontStage.TheVariants.{Lane}
use Rattle.vk_code_read.specs.Inner.Left.{Behind, after_slots, from_start, left_at}
use Rattle.vk_code_read.specs.Inner.LeftCode.{after_body_front}

-- a call begins, with so many after it
pub start_reads : {R : Type 0} (p : Place) (c : FrontRow) (s : SlotRow) (left at : ℕ) (next : Behind FrontRow R)
    → from_start p c left s at next ≡ read_after (λ before. slot p) (suc left) c.slots at (after_slots c next)
start_reads (in_object functions params) c s left at next = refl
start_reads (in_image codes) c s left at next = refl

-- the body of a loop begins
pub body_starts : {R : Type 0} (functions params captures : ℕ) (c : FrontRow) (s : SlotRow) (at : ℕ) (next : Behind BodyRow R)
    → left_at Lane (in_object functions (1 + captures)) c s at (after_body_front next) ≡ (body (in_object functions params) captures).read at next
body_starts functions params captures c s at next = refl
