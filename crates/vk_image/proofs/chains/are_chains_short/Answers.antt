use Rattle.std.proofs.Common.{◌∙◌, ap₂}
use Rattle.std.specs.List.{list_all}
use Rattle.vk_object.specs.Images.{calls_within}
use Rattle.vk_object.specs.Tables.{entry_list_of}
use Rattle.vk_image.specs.Inner.Rounds.{is_told}
use Rattle.vk_image.proofs.Rounds.{all_within}
use Rattle.vk_image.proofs.chains.are_chains_short.Goals as goal

pub returns : goal.returns
returns c =
    c.are_within.ensures ∙ (ap₂ (λ entries row. list_all (λ e. calls_within (is_told row) (entry_list_of e)) entries) c.deref.ensures.value c.deref-2.ensures.value
    ∙ all_within c.args.tables.now c.in_ok-row.row.items c.in_ok-row.ensures)
