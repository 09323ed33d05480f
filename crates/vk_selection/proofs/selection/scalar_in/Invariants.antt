-- No function before the index is it.
use Rattle.std.proofs.Common.{ℕ, ◌<◌}
use Rattle.vk_rules.specs.Verdicts.{judged}
use Rattle.vk_selection.specs.Selection.{IsScalar}
use Rattle.vk_selection.proofs.selection.scalar_in.Given as goal

abbrev pub invariant-loop-function : goal.invariant-loop-function
invariant-loop-function l = (number : ℕ) → number < l.function → IsScalar (judged l.fn.unit) l.fn.name number → ⊥
