use Rattle.std.proofs.Common.{◌∙◌}
use Rattle.vk_kinds.specs.Sizes.{head_types, signature_tree}
use Rattle.vk_variants.proofs.Lists.{all_pushed, one_fits}
use Rattle.vk_variants.proofs.list.NameList.add.Goals as goal

pub push-requires : goal.push-requires
push-requires c = one_fits c.args.target c.args.scalar.now (head_types c.args.h.now) (signature_tree c.args.s.now) c.as_slice-fronts.result.now c.loop-front.front-index _
    c.requires.scalar c.requires.in_range (c.as_slice-fronts.ensures.value ∙ c.lengths-variants.ensures) c.loop-front-test.true

pub returns-clause-ok : goal.returns-clause-ok
returns-clause-ok c = all_pushed c.args.target c.args.scalar.now (head_types c.args.h.now) (signature_tree c.args.s.now) c.args.self.now c.loop-front.self c.as_slice-fronts.result.now c.loop-front.front-index
    (c.as_slice-fronts.ensures.value ∙ c.lengths-variants.ensures) c.loop-front-test.false c.loop-front.invariant
