use Rattle.std.proofs.Common.{◌≡◌, drop}
use Rattle.vk_code.specs.Tests.{pairs}
use Rattle.vk_object.specs.Inner.Fit.{is_fit}
use Rattle.vk_object.proofs.parameters.are_typed.Given as goal

-- the parameters so far are fit
abbrev pub invariant-loop-at : goal.invariant-loop-at
invariant-loop-at l = pairs (is_fit l.types) l.types l.params ≡ pairs (is_fit l.types) (drop l.at l.types) (drop l.at l.params)
