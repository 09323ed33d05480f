use Rattle.vk_ast.specs.Tree.{name}
use Rattle.vk_rules_book.specs.Expressions.{is_simd, is_written_parameter, lets_written}
use Rattle.vk_rules_book.specs.Scopes.{meaning_of}
use Rattle.vk_rules_book.specs.Visits.{expression}
use Rattle.vk_rules_laws.proofs.Visited.{let_there, name_quiet, nothing_at}
use Rattle.vk_rules_laws.proofs.laws.written_pointers_are_direct.Goals as goal

pub returns : goal.returns
returns c = λ unit quiet around scope r l k id is_in simd written.
    let_there (is_simd around) (is_written_parameter (meaning_of scope id)) (lets_written r)
    (name_quiet unit.texts around scope r l k id (nothing_at unit quiet (expression around scope r (name l k id)) is_in)).1 simd written
