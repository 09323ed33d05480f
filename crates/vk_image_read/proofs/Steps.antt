-- A code is whole, and what is wanted behind it comes.
use Rattle.std.proofs.Common.{◌≡◌, ℕ, ◌∙◌, List, ap}
use Rattle.vk_format.specs.Format.{Format}
use Rattle.vk_code_read.specs.declared.code.CodeFeed.{CodeFeed}
use Rattle.vk_code_read.specs.declared.code.CodeStage.TheVariants as codes
use Rattle.vk_code_read.specs.Inner.Left.{Behind, taken}
use Rattle.vk_code_read.specs.Inner.LeftCode.{code_left, code_left_at, code_row}
use Rattle.vk_image_format.specs.declared.rows.RawImage.{RawImage}
use Rattle.vk_image_read.specs.declared.image.ImageFields.{ImageFields}
use Rattle.vk_image_read.specs.declared.image.ImageStage.TheVariants as images
use Rattle.vk_image_read.specs.Inner.LeftImage.{after_code, image_left, image_left_at}

pub code_done : {R : Type 0} (s : ImageFields) (left at : ℕ) (bytes : List ℕ) (next : Behind RawImage R) (c : CodeFeed) (end : ℕ) (after : Format R)
    → s.stage ≡ images.Code left → taken (code_left s.code at (after_code s.image s.count left next)) bytes ≡ code_left c end (after_code s.image s.count left next)
    → c.stage ≡ codes.Done → after_code s.image s.count left next (code_row c.front.front c.loops c.instrs) end ≡ after
    → taken (image_left s at next) bytes ≡ after
code_done s left at bytes next c end after e h d f =
    ap (λ st. taken (image_left_at st s at next) bytes) e ∙ h ∙ ap (λ st. code_left_at st c end (after_code s.image s.count left next)) d ∙ f
