use Rattle.vk_ast.specs.Tree.{name}
use Rattle.vk_rules_book.specs.Scopes.{meaning_of}
use Rattle.vk_rules_book.specs.Visits.{called, expression}
use Rattle.vk_rules_laws.proofs.Visited.{called_quiet, name_quiet, nothing_at, there}
use Rattle.vk_rules_laws.proofs.laws.names_are_declared.Goals as goal

pub returns-clause-expressions : goal.returns-clause-expressions
returns-clause-expressions c = λ unit quiet around scope r l k id is_in.
    there (meaning_of scope id) (name_quiet unit.texts around scope r l k id (nothing_at unit quiet (expression around scope r (name l k id)) is_in)).0

pub returns-clause-calls : goal.returns-clause-calls
returns-clause-calls c = λ unit quiet around scope l k id arguments is_in.
    there (meaning_of scope id) (called_quiet unit.texts around scope l k id arguments (nothing_at unit quiet (called around scope l k id arguments) is_in))
