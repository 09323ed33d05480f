use Rattle.vk_rules_book.specs.Directives.{has_signature}
use Rattle.vk_rules_book.specs.Visits.{directive}
use Rattle.vk_rules_laws.proofs.Visited.{directive_quiet, nothing_at, second_false}
use Rattle.vk_rules_laws.proofs.laws.directives_fit.Goals as goal

pub returns-clause-width : goal.returns-clause-width
returns-clause-width c = λ unit quiet f earlier d is_in signed.
    second_false (has_signature f d) _ (directive_quiet unit f earlier d (nothing_at unit quiet (directive f earlier d) is_in)).0 signed

pub returns-clause-names : goal.returns-clause-names
returns-clause-names c = λ unit quiet f earlier d is_in signed.
    second_false (has_signature f d) _ (directive_quiet unit f earlier d (nothing_at unit quiet (directive f earlier d) is_in)).1 signed
