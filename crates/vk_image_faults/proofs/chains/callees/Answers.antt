use Rattle.std.proofs.Common.{◌≡◌, ◌∙◌, ap, ap₂, map, arith}
use Rattle.vk_object.specs.Images.{calls_within, is_within}
use Rattle.vk_image_format.specs.Values.{entry_of, tables_of}
use Rattle.vk_image.specs.Inner.Rounds.{is_told}
use Rattle.vk_image_faults.proofs.Rounds.{told_next}
use Rattle.vk_image_faults.proofs.chains.callees.Goals as goal

pub loop-depth-preserved : goal.loop-depth-preserved
loop-depth-preserved c =
    told_next c.args.image.now c.loop-depth.row.items c.in_ok-row.row.items c.loop-depth.depth c.loop-depth.invariant
    (c.in_ok-row.ensures ∙ ap₂ (λ entries row. map (λ e. calls_within (is_told row) (entry_of e)) entries) c.as_slice.ensures.items c.deref.ensures.value)

pub returns : goal.returns
returns c =
    let last : c.loop-depth.depth ≡ 63 = omega arith in
    c.loop-depth.invariant ∙ ap (is_within (tables_of c.args.image.now)) last
