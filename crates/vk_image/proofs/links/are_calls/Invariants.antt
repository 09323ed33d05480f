use Rattle.std.proofs.Common.{◌≡◌, drop}
use Rattle.vk_code.specs.Listing.{call_site_of, listing_of}
use Rattle.vk_code.specs.Tests.{pairs}
use Rattle.vk_object.specs.Images.{is_call}
use Rattle.vk_object.specs.Tables.{entry_list_of, tables_of}
use Rattle.vk_image.proofs.links.are_calls.Given as goal

-- the slots so far have their targets
abbrev pub invariant-loop-at : goal.invariant-loop-at
invariant-loop-at l = pairs (λ s n. is_call (tables_of l.tables) (entry_list_of l.entry) (listing_of l.code) (call_site_of s) n) l.slots l.targets ≡ pairs (λ s n. is_call (tables_of l.tables) (entry_list_of l.entry) (listing_of l.code) (call_site_of s) n) (drop l.at l.slots) (drop l.at l.targets)
