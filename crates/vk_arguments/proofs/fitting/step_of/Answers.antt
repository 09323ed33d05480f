use Rattle.std.proofs.Common.{◌∙◌, ℕ, ℤ, ap, sym, rules}
use Rattle.std.proofs.lemmas.Int.{to_z-of_z}
use mir.Syntax.{w32, w128}
use Rattle.vk_kinds.specs.declared.kinds.Step.TheVariants.{By}
use Rattle.vk_meaning.specs.Types.{type_at}
use Rattle.vk_meaning.specs.Lanes.{number_as, step_of}
use Rattle.vk_arguments.specs.Arguments.{passed}
use Rattle.vk_arguments.proofs.Numbers.{one_step}
use Rattle.vk_arguments.proofs.fitting.step_of.Goals as goal

pub returns-in-One-clause-step : goal.returns-in-One-clause-step
returns-in-One-clause-step c =
    let numbers : ℕ → ℤ = λ q. number_as (type_at c.args.callee.now.types.now q) (passed c.args.callee.now.lanes c.args.words.now q c.args.first) in
    to_z-of_z w128 c.constant_step.result (search rules) ∙ c.constant_step.ensures.step numbers ∙ one_step c.args.ty numbers ∙ ap (λ s. step_of c.args.ty s numbers) (sym c.in-One.is)

pub returns-in-By-clause-step : goal.returns-in-By-clause-step
returns-in-By-clause-step c =
    let numbers : ℕ → ℤ = λ q. number_as (type_at c.args.callee.now.types.now q) (passed c.args.callee.now.lanes c.args.words.now q c.args.first) in
    to_z-of_z w128 c.constant_step-in-By.result (search rules) ∙ c.constant_step-in-By.ensures.step numbers
    ∙ ap (λ n. step_of c.args.ty (By n) numbers) (to_z-of_z w32 c.in-By.number (search rules)) ∙ ap (λ s. step_of c.args.ty s numbers) (sym c.in-By.is)
