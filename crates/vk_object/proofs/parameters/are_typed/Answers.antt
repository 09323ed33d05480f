use Rattle.std.proofs.Common.{◌∙◌, ◌&&◌, ◌+◌, ap, drop, map, sym, arith}
use Rattle.vk_kinds.specs.Types.{ctype_number}
use Rattle.vk_code.specs.Tests.{pairs}
use Rattle.vk_code.proofs.Pairs.{pairs-drop, pairs_past}
use Rattle.vk_object.specs.Parameters.{is_param_at}
use Rattle.vk_object.specs.Inner.Fit.{is_fit}
use Rattle.vk_object.proofs.Pairs.{pairs-map_first}
use Rattle.vk_object.proofs.parameters.are_typed.Goals as goal

pub returns-then-not-is_fit : goal.returns-then-not-is_fit
returns-then-not-is_fit c =
    let p = is_fit c.args.types.now in
    sym (pairs-map_first (is_param_at (map ctype_number c.args.types.now)) ctype_number c.args.types.now c.args.params.now
    ∙ (c.loop-at.invariant ∙ (pairs-drop p c.args.types.now c.args.params.now c.loop-at.at _ _ (omega arith) (omega arith)
    ∙ ap (λ b. b && pairs p (drop (c.loop-at.at + 1) c.args.types.now) (drop (c.loop-at.at + 1) c.args.params.now)) (sym c.is_fit.ensures ∙ c.if-not-is_fit.true))))

pub returns : goal.returns
returns c =
    sym (pairs-map_first (is_param_at (map ctype_number c.args.types.now)) ctype_number c.args.types.now c.args.params.now
    ∙ (c.loop-at.invariant ∙ pairs_past (is_fit c.args.types.now) c.args.types.now c.args.params.now c.loop-at.at (omega arith) (omega arith)))

pub loop-at-preserved : goal.loop-at-preserved
loop-at-preserved c =
    let p = is_fit c.args.types.now in
    c.loop-at.invariant ∙ (pairs-drop p c.args.types.now c.args.params.now c.loop-at.at _ _ (omega arith) (omega arith)
    ∙ ap (λ b. b && pairs p (drop (c.loop-at.at + 1) c.args.types.now) (drop (c.loop-at.at + 1) c.args.params.now)) (sym c.is_fit.ensures ∙ c.if-not-is_fit.false))
