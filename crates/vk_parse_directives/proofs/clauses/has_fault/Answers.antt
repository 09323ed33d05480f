use Rattle.std.proofs.Common.{◌∙◌}
use Rattle.vk_parse_directives.proofs.Conds.{has_fault_is}
use Rattle.vk_parse_directives.proofs.clauses.has_fault.Goals as goal

pub returns : goal.returns
returns c = c.is_some.ensures ∙ has_fault_is c.args.syms.now c.first_word_fault.result c.first_word_fault.ensures.found c.first_word_fault.ensures.none
