use Rattle.std.proofs.Common.{take}
use Rattle.vk_flat_functions.specs.Params.{AreParams}
use Rattle.vk_flat_functions.proofs.params.locals_of.Given as goal

abbrev pub invariant-loop-register : goal.invariant-loop-register
invariant-loop-register l = AreParams 0 (take l.register l.params) l.locals.items
