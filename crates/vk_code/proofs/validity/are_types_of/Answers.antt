use Rattle.std.proofs.Common.{◌∙◌, ◌&&◌, ◌+◌, ap, sym, arith, drop}
use Rattle.vk_code.specs.Listing.{routine_of}
use Rattle.vk_code.specs.Tests.{pairs}
use Rattle.vk_code.specs.Valid.{is_type_of}
use Rattle.vk_code.proofs.Pairs.{pairs-drop, pairs_past}
use Rattle.vk_code.proofs.validity.are_types_of.Goals as goal

pub loop-at-preserved : goal.loop-at-preserved
loop-at-preserved c =
    let p = is_type_of (routine_of c.args.code.now) in
    c.loop-at.invariant ∙ (pairs-drop p c.args.types.now c.args.registers.now c.loop-at.at _ _ (omega arith) (omega arith)
    ∙ ap (λ b. b && pairs p (drop (c.loop-at.at + 1) c.args.types.now) (drop (c.loop-at.at + 1) c.args.registers.now)) (sym c.is_type_of.ensures ∙ c.if-not-is_type_of.false))

pub returns-then-not-is_type_of : goal.returns-then-not-is_type_of
returns-then-not-is_type_of c =
    let p = is_type_of (routine_of c.args.code.now) in
    sym (c.loop-at.invariant ∙ (pairs-drop p c.args.types.now c.args.registers.now c.loop-at.at _ _ (omega arith) (omega arith)
    ∙ ap (λ b. b && pairs p (drop (c.loop-at.at + 1) c.args.types.now) (drop (c.loop-at.at + 1) c.args.registers.now)) (sym c.is_type_of.ensures ∙ c.if-not-is_type_of.true)))

pub returns : goal.returns
returns c = sym (c.loop-at.invariant ∙ pairs_past (is_type_of (routine_of c.args.code.now)) c.args.types.now c.args.registers.now c.loop-at.at (omega arith) (omega arith))
