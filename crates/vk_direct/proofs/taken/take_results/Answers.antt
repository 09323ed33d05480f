use Rattle.std.proofs.Common.{ℕ, ◌+◌, ◌&&◌, ap, arith, is_none, refl}
use Rattle.vk_lanes.specs.Masks.{is_on}
use Rattle.vk_lanes.proofs.Bits.{on_past}
use Rattle.vk_lanes.proofs.Written.{joins, writes_all}
use Rattle.vk_object.specs.Machine.{word_in}
use Rattle.vk_frames.specs.Frames.{lanes_of}
use Rattle.vk_direct.specs.Given.{ends_on}
use Rattle.vk_direct.proofs.taken.take_results.Goals as goal

pub loop-lane-preserved : goal.loop-lane-preserved
loop-lane-preserved c =
    let value : ℕ → ℕ = λ j. word_in c.args.register (lanes_of c.args.frame.now j) in
    joins 0 c.loop-lane.lane (c.loop-lane.lane + 1) (ends_on (is_on c.args.mask.now) (lanes_of c.args.frame.now)) value value c.args.results.now c.loop-lane.results c.take_result.new.results
    (omega arith) (omega arith) c.loop-lane.invariant c.take_result.ensures (λ j l h. refl)

pub returns : goal.returns
returns c =
    writes_all c.loop-lane.lane (ends_on (is_on c.args.mask.now) (lanes_of c.args.frame.now)) (λ j. word_in c.args.register (lanes_of c.args.frame.now j)) c.args.results.now c.loop-lane.results
    (λ j h. ap (λ b. b && is_none (lanes_of c.args.frame.now j).stop) (on_past c.args.mask.now j (omega arith))) c.loop-lane.invariant
