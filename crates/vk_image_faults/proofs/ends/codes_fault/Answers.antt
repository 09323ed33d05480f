use Rattle.std.proofs.Common.{List, length, ap, ap₂, ◌∙◌, arith}
use Rattle.vk_code_format.specs.declared.rows.CodeRow.{CodeRow}
use Rattle.vk_code_format.specs.Codes.{Place}
use Rattle.vk_code_format.specs.Fields.{first_along}
use Rattle.vk_image_format.specs.Image.{codes_at}
use Rattle.vk_object_faults.specs.Inner.Told.{place_told}
use Rattle.vk_image.specs.Inner.Rounds.{is_told}
use Rattle.vk_image_faults.specs.Inner.Told.{code_size, fault_in_code}
use Rattle.vk_image_faults.proofs.Rules.{codes_are}
use Rattle.vk_image_faults.proofs.ends.codes_fault.Goals as goal

pub returns : goal.returns
returns c =
    let i = c.args.image.now in
    let rows = c.as_slice.ensures.items in
    let count = ap length rows in
    c.in_ok-told.ensures i (codes_at i) c.in_ok-env.ensures
    (λ k inside. ap (λ a. is_told a k) c.deref.ensures.value ∙ c.in_ok-asked.ensures k (omega (arith, inside, count))) c.codes_at.ensures
    ∙ ap₂ (λ (place : Place) (cs : List CodeRow). place_told (first_along (code_size place) (fault_in_code i place) 0 (codes_at i) cs)) c.in_ok-place.ensures rows
    ∙ ap place_told (codes_are i)
