-- What is said of a unit: its first fault, or that it breaks no rule.
use Rattle.std.specs.Prelude.{◌≡◌, ℕ, [], Option, Some, None}
use Rattle.vk_kinds.specs.declared.kinds.Target.{Target}
use Rattle.vk_unit_rules.specs.declared.rules.UnitRule.{UnitRule}
use Rattle.vk_ast.specs.declared.items.Unit.{Unit as UnitOfNames}
use Rattle.vk_ast.specs.Units.{items_of}
use Rattle.vk_rules_book.specs.declared.faults.Fault.{Fault}
use Rattle.vk_rules.specs.declared.accepted.Source.{Source}
use Rattle.vk_rules_book.specs.Rules.{Subject, IsFirst, faults_of}

-- a unit and its target as they are judged
abbrev pub subject_of : UnitOfNames → Target → Subject
subject_of unit target = record { items = items_of unit; texts = unit.names; target = target }

abbrev pub judged : Source → Subject
judged source = subject_of source.unit source.target

abbrev pub IsVerdict : Subject → Option Fault → Type 0
IsVerdict unit None = faults_of unit ≡ []
IsVerdict unit (Some fault) = IsFirst unit fault

-- the first fault of the unit is told so
pub record IsRefused (unit : Subject) (line directive : ℕ) (rule : UnitRule) : Type 0 where
  pub fault : Fault
  pub first : IsFirst unit fault
  pub line_is : line ≡ fault.line
  pub directive_is : directive ≡ fault.directive
  pub rule_is : rule ≡ fault.rule
