-- The lines so far, and the bytes that are left.
use Rattle.std.proofs.Common.{length}
use Rattle.std.specs.List.{concat}
use Rattle.vk_cmd_demangle.proofs.NameLines.{HaveRead}
use Rattle.vk_cmd_demangle.proofs.names.demangled.Given as goal

abbrev pub invariant-loop-line : goal.invariant-loop-line
invariant-loop-line l = HaveRead l.bytes l.rest (concat l.texts) l.number

abbrev pub decreases-loop-line : goal.decreases-loop-line
decreases-loop-line l = length l.rest
