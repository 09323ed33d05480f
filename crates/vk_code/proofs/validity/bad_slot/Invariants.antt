use Rattle.std.proofs.Common.{◌≡◌, true, take}
use Rattle.std.specs.List.{list_all}
use Rattle.vk_code.specs.Listing.{call_site_of, routine_of}
use Rattle.vk_code.specs.Valid.{environment_of, is_good_slot}
use Rattle.vk_code.proofs.validity.bad_slot.Given as goal

-- the slots so far are good
abbrev pub invariant-loop-at : goal.invariant-loop-at
invariant-loop-at l = list_all (λ s. is_good_slot (environment_of l.env) (routine_of l.code) (call_site_of s)) (take l.at l.slots) ≡ true
