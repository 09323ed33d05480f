use Rattle.std.proofs.Common.{◌∙◌, ap, map, sym}
use Rattle.vk_kinds.specs.Types.{ctype_number}
use Rattle.vk_code.specs.Listing.{reg_type, routine_of, simd_site_of}
use Rattle.vk_code.specs.Tests.{pairs}
use Rattle.vk_code.specs.Valid.{body_regs}
use Rattle.vk_object.specs.Images.{is_equal}
use Rattle.vk_image.proofs.Lists.{pairs-map}
use Rattle.vk_image.proofs.types.has_body_types.Goals as goal

pub returns : goal.returns
returns c =
    c.have_body_types.ensures
    ∙ (sym (pairs-map is_equal (reg_type (routine_of c.args.code.now).regs) ctype_number (body_regs (simd_site_of c.args.site.now)) c.param_types.result.now)
    ∙ ap (pairs is_equal (map (reg_type (routine_of c.args.code.now).regs) (body_regs (simd_site_of c.args.site.now)))) c.param_types.ensures)
