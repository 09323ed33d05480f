use Rattle.std.proofs.Common.{[], ap, refl, ◌∙◌}
use Rattle.vk_rules_names.specs.Seen.{scope_at}
use Rattle.vk_reading_calls.proofs.Scopes.{params_none, one_bound}
use Rattle.vk_reading_calls.proofs.starting.bindings_of.Goals as goal

pub loop-p-init : goal.loop-p-init
loop-p-init c place = ap (λ bs. scope_at place bs 0) c.new-bindings.ensures.items ∙ params_none (scope_at place [] 0)

pub loop-p-preserved : goal.loop-p-preserved
loop-p-preserved c place =
    one_bound (scope_at place [] 0) c.args.params.now c.loop-p.p-index _ _ (scope_at place c.loop-p.bindings.items 0) (scope_at place c.bind.new.bindings.items 0) c.loop-p-test.true refl
    (c.loop-p.invariant place) (c.in_ok-bind.ensures place)
