use Rattle.vk_ast.specs.Units.{function, object}
use Rattle.vk_rules_book.specs.Visits.{directives, item}
use Rattle.vk_rules_laws.proofs.Declarations.{agrees_again, defined_once, object_again, same_directives}
use Rattle.vk_rules_laws.proofs.Sizes.{quiet_function}
use Rattle.vk_rules_laws.proofs.Visited.{nothing_at}
use Rattle.vk_rules_laws.proofs.laws.declarations_agree.Goals as goal

pub returns-clause-functions : goal.returns-clause-functions
returns-clause-functions c = λ unit quiet before f is_in.
    agrees_again before f.name (function f) (quiet_function unit before f (nothing_at unit quiet (item before (function f)) is_in)).again

pub returns-clause-objects : goal.returns-clause-objects
returns-clause-objects c = λ unit quiet before o is_in.
    agrees_again before o.name (object o) (object_again unit before o (nothing_at unit quiet (item before (object o)) is_in))

pub returns-clause-once : goal.returns-clause-once
returns-clause-once c = λ unit quiet before f is_in.
    defined_once before f (quiet_function unit before f (nothing_at unit quiet (item before (function f)) is_in)).again

pub returns-clause-directives : goal.returns-clause-directives
returns-clause-directives c = λ unit quiet before f is_in. same_directives before f (nothing_at unit quiet (directives before f) is_in)
