use Rattle.std.proofs.Common.{◌≡◌, drop}
use Rattle.vk_object.specs.Machine.{guard_holds}
use Rattle.vk_frames.specs.Frames.{lanes_of}
use Rattle.vk_args.proofs.bounds.guard_holds.Given as goal

abbrev pub invariant-loop-guard : goal.invariant-loop-guard
invariant-loop-guard l = guard_holds (lanes_of l.frame 0) (drop l.guard-index l.site.guards.items) ≡ guard_holds (lanes_of l.frame 0) l.site.guards.items
