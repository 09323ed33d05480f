use Rattle.std.proofs.Common.{drop}
use Rattle.vk_io.proofs.Sofar.{HasPut}
use Rattle.vk_io.proofs.lines.put_lines.Given as goal

abbrev pub invariant-loop-length : goal.invariant-loop-length
invariant-loop-length g l =
    HasPut (g.O.Sink.state l.initial.out) (g.O.Sink.state l.out) l.length-items l.initial.rest (drop l.length-index l.length-items) l.rest
