use Rattle.std.proofs.Common.{◌≡◌, map, take}
use Rattle.vk_object.specs.Images.{calls_within}
use Rattle.vk_image_format.specs.Values.{entry_of}
use Rattle.vk_image.specs.Inner.Rounds.{is_told}
use Rattle.vk_image_faults.proofs.chains.callers.Given as goal

-- the entries so far
abbrev pub invariant-loop-entry : goal.invariant-loop-entry
invariant-loop-entry l = l.next.items ≡ map (λ e. calls_within (is_told l.row) (entry_of e)) (take l.entry-index l.entries)
