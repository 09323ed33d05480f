use Rattle.std.proofs.Common.{◌∙◌, ◌&&◌, ◌+◌, ap, sym, arith, drop}
use Rattle.vk_code.specs.Listing.{routine_of}
use Rattle.vk_code.specs.Tests.{pairs}
use Rattle.vk_code.specs.Valid.{is_arg_for}
use Rattle.vk_code.proofs.Pairs.{pairs-drop, pairs_past}
use Rattle.vk_code.proofs.parts.are_args_for.Goals as goal

pub loop-at-preserved : goal.loop-at-preserved
loop-at-preserved c =
    let p = is_arg_for (routine_of c.args.code.now) in
    c.loop-at.invariant ∙ (pairs-drop p c.args.args.now c.args.params.now c.loop-at.at _ _ (omega arith) (omega arith)
    ∙ ap (λ b. b && pairs p (drop (c.loop-at.at + 1) c.args.args.now) (drop (c.loop-at.at + 1) c.args.params.now)) (sym c.is_arg_for.ensures ∙ c.if-not-is_arg_for.false))

pub returns-then-not-is_arg_for : goal.returns-then-not-is_arg_for
returns-then-not-is_arg_for c =
    let p = is_arg_for (routine_of c.args.code.now) in
    sym (c.loop-at.invariant ∙ (pairs-drop p c.args.args.now c.args.params.now c.loop-at.at _ _ (omega arith) (omega arith)
    ∙ ap (λ b. b && pairs p (drop (c.loop-at.at + 1) c.args.args.now) (drop (c.loop-at.at + 1) c.args.params.now)) (sym c.is_arg_for.ensures ∙ c.if-not-is_arg_for.true)))

pub returns : goal.returns
returns c = sym (c.loop-at.invariant ∙ pairs_past (is_arg_for (routine_of c.args.code.now)) c.args.args.now c.args.params.now c.loop-at.at (omega arith) (omega arith))
