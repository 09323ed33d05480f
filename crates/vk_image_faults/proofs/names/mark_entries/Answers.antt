use Rattle.std.proofs.Common.{◌<◌, length, ◌∙◌, arith}
use Rattle.vk_image.specs.Inner.Rounds.{is_told}
use Rattle.vk_image_faults.proofs.Asked.{both_told}
use Rattle.vk_image_faults.proofs.names.mark_entries.Goals as goal

pub loop-at-preserved : goal.loop-at-preserved
loop-at-preserved c =
    let xs = c.args.entries.now in
    let k = c.loop-at.at in
    let inside : k < length xs = omega (arith, c.loop-at-test.true) in
    let same = c.loop-at.invariant.0 in
    let first = c.mark_code.ensures.same in
    let second = c.mark_loops.ensures.same in (
      second ∙ first ∙ same,
      λ n lt.
          both_told c.args.codes.now n xs k c.index-entries-at.result c.index-entries-at-in-loop-at.result (is_told c.args.asked.now n) (is_told c.loop-at.asked n) (is_told c.mark_code.new.asked n) (is_told c.mark_loops.new.asked n)
          inside c.index-entries-at.is c.index-entries-at-in-loop-at.is (c.loop-at.invariant.1 n lt) (c.mark_code.ensures.told n (omega (arith, lt, same))) (c.mark_loops.ensures.told n (omega (arith, lt, same, first))),
    )
