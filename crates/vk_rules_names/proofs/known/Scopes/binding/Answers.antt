use Rattle.std.proofs.Common.{arith}
use Rattle.vk_rules_names.proofs.Bindings.{last_here, last_left, last_end}
use Rattle.vk_rules_names.proofs.known.Scopes.binding.Goals as goal

pub returns-then-has_name : goal.returns-then-has_name
returns-then-has_name c =
    last_here _ _ _ _ _ _ (omega (arith, c.loop-count-test.true)) c.loop-count.invariant.within c.loop-count.invariant.left c.has_name.ensures c.if-has_name.true

pub loop-count-preserved : goal.loop-count-preserved
loop-count-preserved c = record {
  within = omega (arith, c.loop-count.invariant.within);
  left = last_left _ _ _ _ _ _ (omega (arith, c.loop-count-test.true)) c.loop-count.invariant.within c.loop-count.invariant.left c.has_name.ensures c.if-has_name.false;
}

pub returns : goal.returns
returns c = last_end _ _ _ _ (omega (arith, c.loop-count-test.false)) c.loop-count.invariant.left
