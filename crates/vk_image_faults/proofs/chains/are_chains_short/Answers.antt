use Rattle.std.proofs.Common.{◌∙◌, ap₂}
use Rattle.std.specs.List.{list_all}
use Rattle.vk_object.specs.Images.{calls_within}
use Rattle.vk_image_format.specs.Values.{entry_of}
use Rattle.vk_image.specs.Inner.Rounds.{is_told}
use Rattle.vk_image_faults.specs.Inner.Told.{has_short_chains}
use Rattle.vk_image_faults.proofs.Rounds.{all_within}
use Rattle.vk_image_faults.proofs.chains.are_chains_short.Goals as goal

pub returns : goal.returns
unfolding has_short_chains
returns c =
    c.are_within.ensures ∙ (ap₂ (λ entries row. list_all (λ e. calls_within (is_told row) (entry_of e)) entries) c.as_slice.ensures.items c.deref.ensures.value
    ∙ all_within c.args.image.now c.in_ok-row.row.items c.in_ok-row.ensures)
