-- No function before the index has the variant.
use Rattle.std.proofs.Common.{ℕ, ◌<◌}
use Rattle.vk_rules.specs.Verdicts.{judged}
use Rattle.vk_selection.specs.Inner.{IsPart}
use Rattle.vk_selection.specs.declared.selection.Variant.{Variant}
use Rattle.vk_selection.proofs.selection.variant_of.Given as goal

abbrev pub invariant-loop-function : goal.invariant-loop-function
invariant-loop-function l = (v : Variant) (lanes : ℕ) → v.function < l.function → IsPart (judged l.fn.unit) l.fn.scalar l.fn.params l.fn.front l.fn.vl v lanes → ⊥
