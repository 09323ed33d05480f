-- Words of the code's contracts.
use Rattle.std.specs.Prelude.{ℕ, ◌≤◌}
use Rattle.vk_rules_book.specs.Signatures.{StepTree, constant, by_parameter, no_step}
use Rattle.vk_rules_signatures.specs.declared.steps.DirectiveStep.{DirectiveStep}
use Rattle.vk_rules_signatures.specs.declared.steps.DirectiveStep.TheVariants.{Constant, Parameter, None}

abbrev pub step_seen : DirectiveStep → StepTree
step_seen (Constant z) = constant z
step_seen (Parameter n) = by_parameter n
step_seen None = no_step

-- a step by a parameter is one of so many, or the number that they have
abbrev pub FitsStep : (count : ℕ) → DirectiveStep → Type 0
FitsStep count (Constant z) = Unit
FitsStep count (Parameter n) = n ≤ count
FitsStep count None = Unit
