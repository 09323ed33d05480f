-- The active lanes below the index fit.
use Rattle.std.proofs.Common.{◌≡◌, ℕ, ◌<◌, get_or, true}
use Rattle.vk_kinds.specs.declared.kinds.Kind.TheVariants.{Vector}
use Rattle.vk_lanes.specs.Masks.{is_on}
use Rattle.vk_meaning.specs.Types.{type_at}
use Rattle.vk_meaning.specs.Lanes.{FitsFrom}
use Rattle.vk_arguments.specs.Arguments.{kinds_of, passed}
use Rattle.vk_arguments.proofs.fitting.misfit_of.Given as goal

abbrev pub invariant-loop-lane : goal.invariant-loop-lane
invariant-loop-lane l = (j : ℕ) → j < l.lane → is_on l.fn.mask j ≡ true →
    FitsFrom (get_or (kinds_of l.fn.callee.params.now) l.fn.parameter Vector) (type_at l.fn.callee.types.now l.fn.parameter) l.fn.callee.types.now
    (passed l.fn.callee.lanes l.fn.words) l.fn.parameter l.fn.first j
