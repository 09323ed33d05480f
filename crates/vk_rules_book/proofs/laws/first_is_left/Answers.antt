use Rattle.vk_rules_book.specs.Rules.{faults_of}
use Rattle.vk_rules_book.proofs.First.{first_fault, none_list}
use Rattle.vk_rules_book.proofs.laws.first_is_left.Goals as goal

pub returns-clause-first : goal.returns-clause-first
returns-clause-first c = first_fault

pub returns-clause-none : goal.returns-clause-none
returns-clause-none c = λ unit. none_list (faults_of unit)
