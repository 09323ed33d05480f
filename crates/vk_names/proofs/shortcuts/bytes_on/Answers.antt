use Rattle.std.proofs.Common.{rules, ◌∙◌, sym}
use Rattle.vk_names.proofs.ManyBytes.{from_nil, from_next, settled_stays}
use Rattle.vk_names.proofs.shortcuts.bytes_on.Goals as goal

pub loop-rest-preserved : goal.loop-rest-preserved
loop-rest-preserved c = sym (from_next c.loop-rest.state c.state_on-state.result c.loop-rest.params.items c.state_on-state.new.params.items c.loop-rest.rest.now c.in-len1-up.len_at_least (sym c.state_on-state.ensures)) ∙ c.loop-rest.invariant

pub returns-then-rest-lt1 : goal.returns-then-rest-lt1
returns-then-rest-lt1 c = sym (from_nil c.loop-rest.state c.loop-rest.params.items c.loop-rest.rest.now (search rules)) ∙ c.loop-rest.invariant

pub returns-else-not-is_settled : goal.returns-else-not-is_settled
returns-else-not-is_settled c = sym (settled_stays c.loop-rest.state c.loop-rest.params.items c.loop-rest.rest.now (sym c.is_settled.ensures ∙ c.if-not-is_settled.false)) ∙ c.loop-rest.invariant
