use Rattle.std.proofs.Common.{sym, ◌∙◌}
use Rattle.vk_parse_directives.proofs.Lists.{ids_next}
use Rattle.vk_parse_directives.proofs.clauses.ids.Goals as goal

pub loop-rest-preserved : goal.loop-rest-preserved
loop-rest-preserved c =
    rw c.in_ok-push-in-Ok.ensures.items
    (ids_next c.loop-rest.rest.now c.loop-rest.list.items _ _ c.in-Ok.item c.in-len2-up.len_at_least (sym c.is_comma.ensures ∙ c.if-not-is_comma.false) c.in-Ok.ensures ∙ c.loop-rest.invariant)
