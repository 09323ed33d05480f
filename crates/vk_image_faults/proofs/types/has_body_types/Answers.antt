use Rattle.std.proofs.Common.{◌∙◌, ap, map, sym, List}
use Rattle.vk_kinds.specs.declared.heads.CType.{CType}
use Rattle.vk_kinds.specs.Types.{ctype_number}
use Rattle.vk_code.specs.Listing.{reg_type}
use Rattle.vk_code.specs.Tests.{pairs}
use Rattle.vk_code.specs.Valid.{body_regs}
use Rattle.vk_code_format.specs.Values.{site_of}
use Rattle.vk_object.specs.Images.{is_equal}
use Rattle.vk_image_faults.specs.Inner.Types.{has_reg_type}
use Rattle.vk_image.proofs.Lists.{pairs-map}
use Rattle.vk_image_faults.proofs.types.has_body_types.Goals as goal

pub returns : goal.returns
returns c =
    let regs = c.args.code.now.routine.front.regs in
    let types = c.param_types.result.now in
    c.have_body_types.ensures
    ∙ ap (λ (r : List CType). pairs (has_reg_type r) (body_regs (site_of c.args.site.now)) types) c.as_slice.ensures.items
    ∙ sym (pairs-map is_equal (reg_type regs) ctype_number (body_regs (site_of c.args.site.now)) types)
    ∙ ap (pairs is_equal (map (reg_type regs) (body_regs (site_of c.args.site.now)))) c.param_types.ensures
