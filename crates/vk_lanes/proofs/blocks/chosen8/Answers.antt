use Rattle.std.proofs.Common.{◌∙◌, ap, cond, eqb, get_or}
use Rattle.std.specs.Int.{bit_at}
use Rattle.vk_lanes.proofs.Written.{chosen_eight}
use Rattle.vk_lanes.proofs.blocks.chosen8.Goals as goal

pub returns-clause-lanes : goal.returns-clause-lanes
returns-clause-lanes c i h =
    chosen_eight c.from.result c.args.new c.args.old c.requires.new c.requires.old i h
    ∙ ap (λ b. cond (eqb (bit_at b i) 1) (get_or c.args.new i 0) (get_or c.args.old i 0)) c.from.ensures
