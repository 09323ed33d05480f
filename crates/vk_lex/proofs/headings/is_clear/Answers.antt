use Rattle.std.proofs.Common.{sym, ◌∙◌}
use Rattle.vk_lex.proofs.Gaps.{not_clear}
use Rattle.vk_lex.proofs.headings.is_clear.Goals as goal

pub returns-clause-other : goal.returns-clause-other
returns-clause-other c = λ no_end clear. not_clear c.args.text.now c.past_gap-rest.result.now c.past_gap-rest.ensures.gap (sym c.ends_line.ensures ∙ no_end) clear
