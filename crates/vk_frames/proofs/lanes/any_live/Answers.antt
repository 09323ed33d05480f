use Rattle.std.proofs.Common.{arith, sym, ◌∙◌}
use Rattle.vk_frames.specs.Frames.{lanes_of}
use Rattle.vk_frames.proofs.Live.{any_of}
use Rattle.vk_frames.proofs.lanes.any_live.Goals as goal

pub returns-then-is_live : goal.returns-then-is_live
returns-then-is_live c = sym (any_of c.args.frame.now.lanes c.args.m c.loop-lane.lane (lanes_of c.args.frame.now) (sym c.is_live.ensures ∙ c.if-is_live.true) (omega arith))
