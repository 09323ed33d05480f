use Rattle.std.proofs.Common.{ap, ◌∙◌, ℤ, rules}
use Rattle.vk_meaning.specs.Data.{got, number}
use Rattle.vk_reading.specs.Cells.{memory_in}
use Rattle.vk_reading.proofs.Loads.{loads}
use Rattle.vk_reading.proofs.cells.Cells.load.Goals as goal

pub returns-clause-value : goal.returns-clause-value
returns-clause-value c arrays events h =
    ap (λ (z : ℤ). got (number z) (record { memory = memory_in c.args.self.now.rows.items; events = events })) c.convert.ensures.number
    ∙ loads c.args.self.now.rows.items arrays events c.args.p.to c.args.p.array c.args.p.offset c.in-Some.row.now c.in-Some-word_at.word h (search rules) (search rules)
