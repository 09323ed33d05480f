use Rattle.std.proofs.Common.{◌≡◌, map, take}
use Rattle.vk_code.specs.Listing.{listing_of}
use Rattle.vk_code_format.specs.Values.{listing_of as listing_of_row}
use Rattle.vk_image_rows.proofs.image.codes_of.Given as goal

abbrev pub invariant-loop-row : goal.invariant-loop-row
invariant-loop-row l = map listing_of l.codes.items ≡ map listing_of_row (take l.row-index l.rows)
