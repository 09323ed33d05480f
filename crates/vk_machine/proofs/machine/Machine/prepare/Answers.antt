use Rattle.vk_machine.proofs.Programs.{none_told}
use Rattle.vk_machine.proofs.machine.Machine.prepare.Goals as goal

pub invariant_of-result-clause-fits : goal.invariant_of-result-clause-fits
invariant_of-result-clause-fits c = c.in_ok-memory.ensures.fits

pub invariant_of-result-clause-roomy : goal.invariant_of-result-clause-roomy
invariant_of-result-clause-roomy c = c.in_ok-frames.ensures

pub returns-clause-fresh : goal.returns-clause-fresh
returns-clause-fresh c = record { cells_first = c.in_ok-memory.ensures.cells; counts_none = none_told c.in_ok-memory.memory.counts.items _ c.in_ok-memory.ensures.counts }
