use Rattle.std.proofs.Common.{◌≡◌, ◌∙◌, ◌+◌, ap, sym, arith, drop}
use Rattle.std.specs.Option.{option_map}
use Rattle.vk_code.specs.Inner.Blocks.{bad_among}
use Rattle.vk_code.specs.Listing.{routine_of}
use Rattle.vk_code.specs.Tests.{first_bad}
use Rattle.vk_code.specs.Valid.{environment_of}
use Rattle.vk_code.proofs.Nesting.{passes_block, passes_next, stops_within, verdicts_none}
use Rattle.vk_code.proofs.blocks.+bad_instruction.Goals as goal

pub loop-left-preserved-in-Next : goal.loop-left-preserved-in-Next
loop-left-preserved-in-Next t c = record {
  left = omega (arith, c.loop-left.invariant.left);
  good = c.loop-left.invariant.good ∙ passes_next (environment_of c.args.env.now) (routine_of c.args.code.now) c.args.room (routine_of c.args.code.now).instrs c.loop-left.at c.loop-left.left c.in-Next.ensures;
}

pub returns-in-Some : goal.returns-in-Some
returns-in-Some t c =
    stops_within (environment_of c.args.env.now) (routine_of c.args.code.now) c.args.room (routine_of c.args.code.now).instrs c.loop-left.at c.loop-left.left c.in-Block.size c.in-Some.bad c.in-Block.ensures.2 c.in-Some.ensures
    ∙ sym c.loop-left.invariant.good

pub loop-left-preserved : goal.loop-left-preserved
loop-left-preserved t c = record {
  left = omega (arith, c.loop-left.invariant.left, c.in-Block.ensures.0);
  good = c.loop-left.invariant.good ∙ passes_block (environment_of c.args.env.now) (routine_of c.args.code.now) c.args.room (routine_of c.args.code.now).instrs c.loop-left.at c.loop-left.left c.in-Block.size
      (omega (arith, c.requires, c.loop-left.invariant.left)) c.in-Block.ensures.0 c.in-Block.ensures.2 c.in-None.ensures;
}

pub returns : goal.returns
returns t c =
    let e = environment_of c.args.env.now in
    let r = routine_of c.args.code.now in
    let z : c.loop-left.left ≡ 0 = omega (arith, c.loop-left-test.false) in
    sym (c.loop-left.invariant.good
    ∙ (ap (λ k. option_map (λ n. c.loop-left.at + n) (bad_among e r c.args.room (drop c.loop-left.at r.instrs) k)) z
    ∙ ap (λ l. option_map (λ n. c.loop-left.at + n) (first_bad l)) (verdicts_none e r c.args.room (drop c.loop-left.at r.instrs))))
