use Rattle.std.proofs.Common.{◌||◌, ap, ◌∙◌}
use Rattle.vk_kinds.specs.Sizes.{head_types, signature_tree}
use Rattle.vk_rules_directives.specs.Inner.Signed.{gives_too, seen}
use Rattle.vk_rules_directives.proofs.Pushes.{any_more}
use Rattle.vk_rules_directives.proofs.whole.repeats.Goals as goal

pub loop-s-preserved : goal.loop-s-preserved
loop-s-preserved c =
    any_more seen (gives_too c.args.target (head_types c.args.h.now) (signature_tree c.args.t.now)) c.args.earlier.now c.loop-s.s-index _ _ _ c.loop-s-test.true c.s-item.is c.loop-s.invariant
    (c.either-given.ensures ∙ ap (λ b. c.loop-s.given || b) c.gives_too.ensures)
