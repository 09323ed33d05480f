use Rattle.std.proofs.Common.{sym, ◌∙◌}
use Rattle.vk_parse_directives.proofs.Cutting.{closed, not_closed}
use Rattle.vk_parse_directives.proofs.cuts.inside.Goals as goal

pub returns-then-is_close : goal.returns-then-is_close
returns-then-is_close c = closed c.args.syms.now _ _ c.in-len2-up.len_at_least (sym c.is_open.ensures ∙ c.if-not-is_open.false) (sym c.is_close.ensures ∙ c.if-is_close.true)

pub returns-else-is_close : goal.returns-else-is_close
returns-else-is_close c = not_closed c.args.syms.now _ _ c.in-len2-up.len_at_least (sym c.is_open.ensures ∙ c.if-not-is_open.false) (sym c.is_close.ensures ∙ c.if-is_close.false)
