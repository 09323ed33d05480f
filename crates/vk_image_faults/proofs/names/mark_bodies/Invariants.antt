use Rattle.std.proofs.Common.{◌≡◌, ℕ, ◌<◌, ◌||◌, length, take}
use Rattle.std.specs.List.{list_any}
use Rattle.vk_code.specs.Listing.{numbered_code}
use Rattle.vk_code.specs.Tests.{holds}
use Rattle.vk_code_format.specs.Values.{site_of}
use Rattle.vk_object.specs.Images.{is_equal}
use Rattle.vk_image.specs.Inner.Rounds.{is_told}
use Rattle.vk_image_faults.proofs.names.mark_bodies.Given as goal

-- the codes of the loops so far
abbrev pub invariant-loop-at : goal.invariant-loop-at
invariant-loop-at l = (length l.asked ≡ length l.initial.asked) × ((n : ℕ) → n < length l.initial.asked → is_told l.asked n ≡ (is_told l.initial.asked n || list_any (λ s. holds (is_equal n) (numbered_code (site_of s).body)) (take l.at l.sites)))
