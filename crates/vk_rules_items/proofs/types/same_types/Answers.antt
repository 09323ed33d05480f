use Rattle.std.proofs.Common.{sym, ◌∙◌}
use Rattle.vk_rules_items.proofs.Parameters.{end_same, next_same, other_length}
use Rattle.vk_rules_items.proofs.types.same_types.Goals as goal

pub returns-then-a-b : goal.returns-then-a-b
returns-then-a-b c = other_length _ _ c.if-a-b.true

pub returns-then-not-same_ctype : goal.returns-then-not-same_ctype
returns-then-not-same_ctype c =
    sym (c.loop-i.invariant ∙ next_same _ _ _ _ _ _ _ c.loop-i-test.true c.if-a-b.false c.same_ctype.ensures c.if-not-same_ctype.true)

pub loop-i-preserved : goal.loop-i-preserved
loop-i-preserved c = c.loop-i.invariant ∙ next_same _ _ _ _ _ _ _ c.loop-i-test.true c.if-a-b.false c.same_ctype.ensures c.if-not-same_ctype.false

pub returns : goal.returns
returns c = sym (c.loop-i.invariant ∙ end_same _ _ _ c.loop-i-test.false c.if-a-b.false)
