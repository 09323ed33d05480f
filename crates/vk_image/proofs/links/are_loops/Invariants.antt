use Rattle.std.proofs.Common.{◌≡◌, drop}
use Rattle.vk_code.specs.Listing.{listing_of, simd_site_of}
use Rattle.vk_code.specs.Tests.{pairs}
use Rattle.vk_object.specs.Images.{is_loop}
use Rattle.vk_object.specs.Tables.{tables_of}
use Rattle.vk_image.proofs.links.are_loops.Given as goal

-- the loops so far have their targets
abbrev pub invariant-loop-at : goal.invariant-loop-at
invariant-loop-at l = pairs (λ s t. is_loop (tables_of l.tables) (listing_of l.code) (simd_site_of s) t) l.sites l.loops ≡ pairs (λ s t. is_loop (tables_of l.tables) (listing_of l.code) (simd_site_of s) t) (drop l.at l.sites) (drop l.at l.loops)
