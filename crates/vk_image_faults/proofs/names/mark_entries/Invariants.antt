use Rattle.std.proofs.Common.{◌≡◌, ℕ, ◌<◌, ◌||◌, length, take}
use Rattle.std.specs.List.{list_any}
use Rattle.vk_image.specs.Inner.Rounds.{is_told}
use Rattle.vk_image_faults.specs.Inner.Told.{asks}
use Rattle.vk_image_faults.proofs.names.mark_entries.Given as goal

-- the codes that the entries so far ask for
abbrev pub invariant-loop-at : goal.invariant-loop-at
invariant-loop-at l = (length l.asked ≡ length l.initial.asked) × ((n : ℕ) → n < length l.initial.asked → is_told l.asked n ≡ (is_told l.initial.asked n || list_any (asks l.codes n) (take l.at l.entries)))
