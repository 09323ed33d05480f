use Rattle.std.proofs.Common.{◌∙◌, ap₂, sym}
use Rattle.vk_code.specs.declared.code.Code.{out-Code}
use Rattle.vk_code.specs.Listing.{call_site_of, listing_of}
use Rattle.vk_code.specs.Tests.{pairs}
use Rattle.vk_object.specs.Images.{is_call}
use Rattle.vk_object.specs.Tables.{entry_list_of, tables_of}
use Rattle.vk_object.proofs.Pairs.{pairs-map_first}
use Rattle.vk_image.proofs.links.has_calls.Goals as goal

pub returns : goal.returns
returns c =
    c.are_calls.ensures
    ∙ (ap₂ (pairs (λ s n. is_call (tables_of c.args.tables.now) (entry_list_of c.args.entry.now) (listing_of c.args.code.now) (call_site_of s) n)) c.deref.ensures.value c.deref-2.ensures.value
    ∙ sym (pairs-map_first (is_call (tables_of c.args.tables.now) (entry_list_of c.args.entry.now) (listing_of c.args.code.now)) call_site_of (out-Code c.args.code.now).slots.items c.args.entry.now.targets.items))
