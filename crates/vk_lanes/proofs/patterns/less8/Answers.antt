use Rattle.std.proofs.Common.{nat_lt}
use Rattle.vk_lanes.proofs.Vectors.{truth_eight}
use Rattle.vk_lanes.proofs.patterns.less8.Goals as goal

pub returns : goal.returns
returns c = truth_eight nat_lt c.args.x c.args.y c.requires.left c.requires.right
