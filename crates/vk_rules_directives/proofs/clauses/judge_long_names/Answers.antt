use Rattle.std.proofs.Common.{sym}
use Rattle.vk_rules_book.proofs.Noting.{among_none}
use Rattle.vk_rules_directives.proofs.Said.{long_step}
use Rattle.vk_rules_directives.proofs.clauses.judge_long_names.Goals as goal

pub loop-n-init : goal.loop-n-init
loop-n-init c = sym (among_none _)

pub loop-n-preserved : goal.loop-n-preserved
loop-n-preserved c = long_step _ _ _ _ _ _ _ c.loop-n-test.true c.loop-n.invariant c.judge_long_name.ensures
