use Rattle.std.proofs.Common.{◌==◌, not}
use Rattle.vk_lanes.proofs.Vectors.{truth_eight}
use Rattle.vk_lanes.proofs.patterns.unequal8.Goals as goal

pub returns : goal.returns
returns c = truth_eight (λ x y. not (x == y)) c.args.x c.args.y c.requires.left c.requires.right
