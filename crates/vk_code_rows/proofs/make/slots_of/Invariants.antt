use Rattle.std.proofs.Common.{◌≡◌, map, take}
use Rattle.vk_code.specs.Listing.{call_site_of}
use Rattle.vk_code_rows.specs.Made.{made_call}
use Rattle.vk_code_rows.proofs.make.slots_of.Given as goal

abbrev pub invariant-loop-row : goal.invariant-loop-row
invariant-loop-row l = map call_site_of l.slots.items ≡ map made_call (take l.row-index l.rows)
