use Rattle.vk_promises.proofs.Ends.{agrees_from, agrees_on_lanes_from}
use Rattle.vk_promises.proofs.laws.promises_are_agreement.Goals as goal

pub returns-clause-alone : goal.returns-clause-alone
returns-clause-alone c units image turns e text d s array h = agrees_from units image turns e text d s array (c.depth_is_of_no_matter.ensures.unfolds units turns text h)

pub returns-clause-on_lanes : goal.returns-clause-on_lanes
returns-clause-on_lanes c units image turns e lanes kinds text d s array h = agrees_on_lanes_from units image turns e lanes kinds text d s array (c.depth_is_of_no_matter.ensures.unfolds units turns text h)
