-- The files that were read so far.
use Rattle.std.proofs.Common.{map}
use Rattle.vk_files.proofs.Readings.{HasRead}
use Rattle.vk_files.proofs.reading.read_inputs.Given as goal

abbrev pub invariant-loop-input : goal.invariant-loop-input
invariant-loop-input g l = HasRead l.limit (map (λ file. file.now) l.files) (g.S.Store.state l.initial.store) (g.S.Store.state l.store) l.input l.inputs
