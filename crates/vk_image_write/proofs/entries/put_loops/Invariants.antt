use Rattle.std.proofs.Common.{◌≡◌, ◌++◌, take}
use Rattle.std.specs.List.{flat_map}
use Rattle.vk_image_write.specs.Inner.Bytes.{loop_targets_bytes}
use Rattle.vk_image_write.proofs.entries.put_loops.Given as goal

abbrev pub invariant-loop-targets : goal.invariant-loop-targets
invariant-loop-targets l = l.out.items ≡ l.fn.out.items ++ flat_map (loop_targets_bytes) (take l.targets-index l.loops)
