use Rattle.std.proofs.Common.{ap, Err}
use Rattle.vk_reading.specs.Held.{datum_of}
use Rattle.vk_types.specs.Numbers.{number_of}
use Rattle.vk_reading_calls.proofs.Printing.{does_print, fails_print}
use Rattle.vk_reading_calls.proofs.prints.print_held.Goals as goal

pub returns-in-Ok-clause-does : goal.returns-in-Ok-clause-does
returns-in-Ok-clause-does g c arrays rows =
    does_print arrays rows (g.O.Sink.state c.args.out.now) (g.O.Sink.state c.print_number.new.out) (datum_of c.args.held) (number_of c.number_in.result.ty c.number_in.result.word.0)
    c.number_in.ensures.number c.in-Ok.ensures.stays c.in-Ok.ensures.put

pub returns-in-Err-clause-does : goal.returns-in-Err-clause-does
returns-in-Err-clause-does g c arrays rows =
    fails_print arrays rows (g.O.Sink.state c.args.out.now) (g.O.Sink.state c.print_number.new.out) (datum_of c.args.held) (number_of c.number_in.result.ty c.number_in.result.word.0)
    c.number_in.ensures.number c.in-Err.ensures.stays c.in-Err.fail c.in-Err.ensures.put (λ e. c.in-Err.ensures.failed (ap Err e))
