use Rattle.std.proofs.Common.{◌≡◌, map, take}
use Rattle.vk_code.specs.Listing.{simd_site_of}
use Rattle.vk_code_rows.specs.Made.{made_site}
use Rattle.vk_code_rows.proofs.make.sites_of.Given as goal

abbrev pub invariant-loop-row : goal.invariant-loop-row
invariant-loop-row l = map simd_site_of l.sites.items ≡ map made_site (take l.row-index l.rows)
