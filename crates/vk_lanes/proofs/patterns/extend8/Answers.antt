use Rattle.std.proofs.Common.{ap₂, ◌∙◌, map, bit_and}
use Rattle.vk_lanes.specs.Inner.Patterns.{wrap_add, wrap_sub}
use Rattle.vk_lanes.proofs.Vectors.{extended_eight}
use Rattle.vk_lanes.proofs.patterns.extend8.Goals as goal

pub returns : goal.returns
returns c = extended_eight c.half-half.result c.ones.result c.args.p c.requires
    ∙ ap₂ (λ h m. map (λ x. wrap_sub (bit_and (wrap_add x h) m) h) c.args.p) c.half-half.ensures c.ones.ensures
