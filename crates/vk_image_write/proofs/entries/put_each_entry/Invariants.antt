use Rattle.std.proofs.Common.{◌≡◌, ◌++◌, take}
use Rattle.std.specs.List.{flat_map}
use Rattle.vk_object.specs.Tables.{entry_list_of}
use Rattle.vk_image_write.specs.Inner.Bytes.{entry_bytes}
use Rattle.vk_image_write.proofs.entries.put_each_entry.Given as goal

abbrev pub invariant-loop-entry : goal.invariant-loop-entry
invariant-loop-entry l = l.out.items ≡ l.fn.out.items ++ flat_map (λ e. entry_bytes (entry_list_of e)) (take l.entry-index l.entries)
