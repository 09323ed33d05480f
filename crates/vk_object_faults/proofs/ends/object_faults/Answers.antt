use Rattle.std.proofs.Common.{◌≡◌, ap, sym, ◌∙◌}
use Rattle.std.specs.Option.{option_map}
use Rattle.vk_object_format.specs.Object.{object_faults}
use Rattle.vk_object_faults.proofs.FirstFault.{exact_none, exact_some}
use Rattle.vk_object_faults.proofs.ends.object_faults.Goals as goal

pub returns-in-None : goal.returns-in-None
returns-in-None c = λ end. exact_none (object_faults c.args.object.now end) (sym c.in-None.is ∙ c.in_ok-first_fault.ensures end)

pub returns-else-fault : goal.returns-else-fault
returns-else-fault c = λ end. exact_some (object_faults c.args.object.now end) c.in-Some.fault (sym c.in-Some.is ∙ c.in_ok-first_fault.ensures end) c.if-fault.false
