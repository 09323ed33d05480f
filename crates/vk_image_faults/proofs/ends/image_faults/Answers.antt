use Rattle.std.proofs.Common.{sym, ◌∙◌}
use Rattle.vk_object_faults.proofs.FirstFault.{exact_none, exact_some}
use Rattle.vk_image_faults.specs.Inner.Told.{all_faults}
use Rattle.vk_image_faults.proofs.Rules.{whole}
use Rattle.vk_image_faults.proofs.ends.image_faults.Goals as goal

pub returns-in-None : goal.returns-in-None
returns-in-None c =
    let i = c.args.image.now in
    exact_none (all_faults i c.args.end) (sym c.in-None.is ∙ c.in_ok-told.ensures) ∙ whole i c.args.end

pub returns-else-fault : goal.returns-else-fault
returns-else-fault c =
    let i = c.args.image.now in
    exact_some (all_faults i c.args.end) c.in-Some.fault (sym c.in-Some.is ∙ c.in_ok-told.ensures) c.if-fault.false ∙ whole i c.args.end
