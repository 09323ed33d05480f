use Rattle.std.proofs.Common.{◌≡◌, true, arith, refl, rules}
use Rattle.vk_rules.specs.Functions.{functions_of}
use Rattle.vk_rules.specs.Verdicts.{judged}
use Rattle.vk_selection.specs.Selection.{is_defined}
use Rattle.vk_selection.proofs.Lists.{there}
use Rattle.vk_selection.proofs.Parts.{function_more, function_none}
use Rattle.vk_selection.proofs.selection.variant_of.Goals as goal

pub returns-in-Some : goal.returns-in-Some
returns-in-Some c =
    let unit = judged c.args.unit.now in
    let at = there (functions_of unit) c.loop-function.function (omega arith) in
    let defined : is_defined unit.texts unit.items c.args.scalar.now ≡ true = search rules in
    record { tree = at.0; function_is = at.1; defined = defined; front_is = refl; given = c.in-Some.ensures at.0 at.1 }

pub loop-function-preserved : goal.loop-function-preserved
loop-function-preserved c =
    function_more (judged c.args.unit.now) c.args.scalar.now c.args.params.now c.args.front c.args.vl c.loop-function.function c.loop-function.invariant
    (λ g at. rw c.in_default.is at (c.directive_of.ensures g at))

pub returns : goal.returns
returns c =
    function_none (judged c.args.unit.now) c.args.scalar.now c.args.params.now c.args.front c.args.vl c.loop-function.function (omega arith) c.loop-function.invariant
