use Rattle.std.proofs.Common.{List, [], ap, sym, ◌∙◌}
use Rattle.vk_rules_book.specs.declared.contexts.Binding.{Binding}
use Rattle.vk_rules_book.proofs.Noting.{found_none}
use Rattle.vk_rules_names.specs.Seen.{scope_at}
use Rattle.vk_rules_functions.proofs.Params.{one_more, params_none}
use Rattle.vk_rules_functions.proofs.functions.judge_params.Goals as goal

pub loop-number-init : goal.loop-number-init
loop-number-init c = record {
  scope = ap (λ (xs : List Binding). scope_at c.args.place.now xs 0) c.requires ∙ params_none _;
  noted = sym (found_none _ _);
}

pub loop-number-preserved : goal.loop-number-preserved
loop-number-preserved c =
    let step = one_more c.args.place.now (scope_at c.args.place.now [] 0) c.args.params.now c.loop-number.number _ c.loop-number.inner.items c.bind.new.inner.items _ _ _
    c.loop-number-test.true c.judge_param.ensures c.loop-number.invariant.scope c.loop-number.invariant.noted c.in_ok-bind.ensures in
    record { scope = step.0; noted = step.1 }
