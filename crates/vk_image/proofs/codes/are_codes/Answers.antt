use Rattle.std.proofs.Common.{◌∙◌, ap, sym}
use Rattle.std.specs.List.{list_all}
use Rattle.std.proofs.lemmas.List.Folds.{list_all-map}
use Rattle.vk_code.specs.Listing.{listing_of}
use Rattle.vk_object.specs.Images.{is_code}
use Rattle.vk_object.specs.Tables.{tables_of}
use Rattle.vk_image.proofs.codes.are_codes.Goals as goal

pub returns : goal.returns
returns c =
    let image = tables_of c.args.tables.now in
    c.are_codes_among.ensures ∙ (ap (list_all (λ code. is_code image (listing_of code))) c.deref.ensures.value
    ∙ sym (list_all-map (is_code image) listing_of c.args.tables.now.codes.items))
