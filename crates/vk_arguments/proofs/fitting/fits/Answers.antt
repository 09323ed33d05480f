-- A linear argument is moved by so many steps.
use Rattle.std.proofs.Common.{◌∙◌, ap, rules, sym, get_or, pos, ◌-ℤ◌, ◌*ℤ◌}
use Rattle.std.proofs.lemmas.Int.{to_z-of_z}
use mir.Val.{of_z, to_z}
use mir.Syntax.{w128}
use Rattle.vk_kinds.specs.declared.kinds.Kind.TheVariants.{Vector}
use Rattle.vk_meaning.specs.Types.{type_at}
use Rattle.vk_arguments.specs.Arguments.{kinds_of, passed}
use Rattle.vk_arguments.proofs.Numbers.{linear_fits}
use Rattle.vk_arguments.proofs.fitting.fits.Goals as goal

pub returns-in-Linear : goal.returns-in-Linear
returns-in-Linear c =
    linear_fits c.is_moved.result (get_or (kinds_of c.args.callee.now.params.now) c.args.parameter Vector) (type_at c.args.callee.now.types.now c.args.parameter) c.type_of-ty.result
    c.args.callee.now.types.now (passed c.args.callee.now.lanes c.args.words.now) c.args.parameter c.args.first c.args.lane c.in-Linear.step (to_z w128 (of_z w128 c.times.result))
    c.step_of-by.result c.word_of-from.result.0 c.word_of-to.result.0 (sym c.kind_of.ensures ∙ c.in-Linear.is) c.type_of-ty.ensures c.step_of-by.ensures.step
    (to_z-of_z w128 c.times.result (search rules) ∙ c.times.ensures.product ∙ ap (λ n. (pos c.args.lane -ℤ pos c.args.first) *ℤ n) (to_z-of_z w128 c.step_of-by.result (search rules)))
    c.word_of-from.ensures c.word_of-to.ensures c.is_moved.ensures
