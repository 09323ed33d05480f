use Rattle.std.proofs.Common.{ap, ◌∙◌}
use Rattle.vk_ast.specs.Directives.{directive_of}
use Rattle.vk_rules_directives.specs.Inner.Tables.{lists_uniform}
use Rattle.vk_rules_directives.proofs.Listed.{uniform_by}
use Rattle.vk_rules_directives.proofs.directives.judge_read.Goals as goal

pub judge_clauses-right-requires-clause-uniform : goal.judge_clauses-right-requires-clause-uniform
judge_clauses-right-requires-clause-uniform c =
    λ id. c.in_ok-mark_uniform.ensures id ∙ ap (λ es. lists_uniform es id) c.requires.entries ∙ uniform_by (directive_of c.args.at.now.d.now) id
