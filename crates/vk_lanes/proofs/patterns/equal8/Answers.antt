use Rattle.std.proofs.Common.{◌==◌}
use Rattle.vk_lanes.proofs.Vectors.{truth_eight}
use Rattle.vk_lanes.proofs.patterns.equal8.Goals as goal

pub returns : goal.returns
returns c = truth_eight (λ x y. x == y) c.args.x c.args.y c.requires.left c.requires.right
