use Rattle.std.proofs.Common.{ap, sym, subst, Result}
use Rattle.vk_meaning.specs.declared.reading.Reading.{Reading}
use Rattle.vk_meaning.specs.declared.reading.RunFail.{RunFail}
use Rattle.vk_reading.specs.Reading.{ReadsProgram}
use Rattle.vk_reading_calls.specs.Views.{units_in}
use Rattle.vk_reading_programs.proofs.Ending.{reads}
use Rattle.vk_reading_programs.proofs.reading.read_units.Goals as goal

pub returns : goal.returns
returns g c =
    let p = c.args.program.now in
    subst (λ (r : Result Reading RunFail). ReadsProgram (units_in p) p.turns (g.O.Sink.state c.args.out.now) (g.O.Sink.state c.call_deep.new.out) r) (sym c.answer_of.ensures)
    (reads p c.args.main c.args.cells.now.rows.items (g.O.Sink.state c.args.out.now) _ c.call_deep.result c.requires.main c.requires.rows c.requires.memory c.call_deep.ensures.does)
