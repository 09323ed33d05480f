-- No directive before the index gives it.
use Rattle.std.proofs.Common.{◌≡◌, ℕ, ◌<◌, slice_get, Some}
use Rattle.vk_ast.specs.Units.{FunctionTree}
use Rattle.vk_rules.specs.Functions.{functions_of}
use Rattle.vk_rules.specs.Verdicts.{judged}
use Rattle.vk_selection.specs.Inner.{IsGiven}
use Rattle.vk_selection.proofs.selection.directive_of.Given as goal

abbrev pub invariant-loop-directive : goal.invariant-loop-directive
invariant-loop-directive l = (g : FunctionTree) → slice_get (functions_of (judged l.fn.unit)) l.fn.function ≡ Some g → (directive lanes : ℕ) → directive < l.directive →
    IsGiven (judged l.fn.unit) g l.fn.scalar l.fn.params l.fn.front l.fn.vl directive lanes → ⊥
