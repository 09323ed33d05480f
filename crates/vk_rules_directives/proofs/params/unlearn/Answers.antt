use Rattle.std.proofs.Common.{refl}
use Rattle.vk_rules_directives.proofs.Types.{unlearn_more, unlearned}
use Rattle.vk_rules_directives.proofs.params.unlearn.Goals as goal

pub loop-p-preserved : goal.loop-p-preserved
loop-p-preserved c =
    unlearn_more c.args.params.now c.loop-p.p-index _ _ c.args.types.now.items c.loop-p.types.items c.unlearn_one.new.types.items c.loop-p-test.true refl c.loop-p.invariant c.in_ok-unlearn_one.ensures

pub returns : goal.returns
returns c = unlearned c.args.params.now c.loop-p.p-index c.args.types.now.items c.loop-p.types.items c.loop-p-test.false c.requires c.loop-p.invariant
