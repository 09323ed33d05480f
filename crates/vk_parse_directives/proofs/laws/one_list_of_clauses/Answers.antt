use Rattle.vk_parse_directives.proofs.Known.{all_found, all_only}
use Rattle.vk_parse_directives.proofs.laws.one_list_of_clauses.Goals as goal

pub returns-clause-some : goal.returns-clause-some
returns-clause-some c = λ names w. all_found names w

pub returns-clause-only : goal.returns-clause-only
returns-clause-only c = λ names w cs all. all_only names all
