use Rattle.vk_parse_directives.proofs.Told.{found, only}
use Rattle.vk_parse_directives.proofs.directives.read_clauses.Goals as goal

pub returns-clause-found : goal.returns-clause-found
returns-clause-found c = found c.args.names.now c.args.line.now c.clauses_of.result c.clauses_of.ensures

pub returns-clause-only : goal.returns-clause-only
returns-clause-only c = only c.args.names.now c.args.line.now c.clauses_of.result c.clauses_of.ensures
