use Rattle.std.proofs.Common.{map}
use Rattle.vk_rules.specs.Verdicts.{judged}
use Rattle.vk_reading_programs.proofs.Ending.{nothing_read}
use Rattle.vk_reading_programs.proofs.reading.read_program.Goals as goal

pub returns-in_default : goal.returns-in_default
returns-in_default g c = nothing_read (map judged c.args.units.now) c.args.turns (g.O.Sink.state c.args.out.now)
