use Rattle.std.proofs.Common.{refl, sym, ◌∙◌}
use Rattle.vk_rules_directives.proofs.Types.{learn_more, none_typed}
use Rattle.vk_rules_directives.proofs.params.learn.Goals as goal

pub loop-p-init : goal.loop-p-init
loop-p-init c = λ id. c.requires id ∙ sym (none_typed id)

pub loop-p-preserved : goal.loop-p-preserved
loop-p-preserved c = learn_more c.args.params.now c.loop-p.p-index _ _ c.loop-p.types.items c.learn_one.new.types.items c.loop-p-test.true refl c.loop-p.invariant c.in_ok-learn_one.ensures
