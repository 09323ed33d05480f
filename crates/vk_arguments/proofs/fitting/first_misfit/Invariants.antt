-- The arguments of the parameters before the index fit.
use Rattle.std.proofs.Common.{◌≡◌, ℕ, ◌<◌, get_or, true}
use Rattle.vk_kinds.specs.declared.kinds.Kind.TheVariants.{Vector}
use Rattle.vk_lanes.specs.Masks.{is_on}
use Rattle.vk_meaning.specs.Types.{type_at}
use Rattle.vk_meaning.specs.Lanes.{FitsFrom}
use Rattle.vk_arguments.specs.Arguments.{kinds_of, passed}
use Rattle.vk_arguments.proofs.fitting.first_misfit.Given as goal

abbrev pub invariant-loop-parameter : goal.invariant-loop-parameter
invariant-loop-parameter l = (p lane : ℕ) → p < l.parameter → lane < l.fn.callee.lanes → is_on l.fn.mask lane ≡ true →
    FitsFrom (get_or (kinds_of l.fn.callee.params.now) p Vector) (type_at l.fn.callee.types.now p) l.fn.callee.types.now (passed l.fn.callee.lanes l.fn.words) p l.first lane
