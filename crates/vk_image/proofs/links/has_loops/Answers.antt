use Rattle.std.proofs.Common.{◌∙◌, ap₂, sym}
use Rattle.vk_code.specs.declared.code.Code.{out-Code}
use Rattle.vk_code.specs.Listing.{listing_of, simd_site_of}
use Rattle.vk_code.specs.Tests.{pairs}
use Rattle.vk_object.specs.Images.{is_loop}
use Rattle.vk_object.specs.Tables.{tables_of}
use Rattle.vk_object.proofs.Pairs.{pairs-map_first}
use Rattle.vk_image.proofs.links.has_loops.Goals as goal

pub returns : goal.returns
returns c =
    c.are_loops.ensures
    ∙ (ap₂ (pairs (λ l t. is_loop (tables_of c.args.tables.now) (listing_of c.args.code.now) (simd_site_of l) t)) c.deref.ensures.value c.deref-2.ensures.value
    ∙ sym (pairs-map_first (is_loop (tables_of c.args.tables.now) (listing_of c.args.code.now)) simd_site_of (out-Code c.args.code.now).loops.items c.args.entry.now.loops.items))
