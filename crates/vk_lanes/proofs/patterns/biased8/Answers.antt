use Rattle.std.proofs.Common.{ap, ◌∙◌, map}
use Rattle.vk_lanes.specs.Inner.Patterns.{wrap_add}
use Rattle.vk_lanes.proofs.Vectors.{with_constant}
use Rattle.vk_lanes.proofs.patterns.biased8.Goals as goal

pub returns : goal.returns
returns c = with_constant wrap_add c.bias.result c.args.p c.requires ∙ ap (λ k. map (λ x. wrap_add x k) c.args.p) c.bias.ensures
