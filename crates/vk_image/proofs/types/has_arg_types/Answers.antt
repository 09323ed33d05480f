use Rattle.std.proofs.Common.{◌∙◌, ap, sym}
use Rattle.vk_kinds.specs.Types.{ctype_number}
use Rattle.vk_code.specs.declared.code.SlotArg.{SlotArg}
use Rattle.vk_code.specs.Listing.{call_site_of, listing_of, reg_type, routine_of}
use Rattle.vk_code.specs.Tests.{pairs}
use Rattle.vk_object.specs.Images.{arg_types, is_equal}
use Rattle.vk_image.specs.Inner.Types.{has_arg_type}
use Rattle.vk_image.proofs.Lists.{pairs-map}
use Rattle.vk_image.proofs.types.has_arg_types.Goals as goal

pub returns : goal.returns
returns c =
    c.have_types.ensures
    ∙ (ap (λ args. pairs (has_arg_type (routine_of c.args.code.now)) args c.param_types.result.now) c.deref.ensures.value
    ∙ (sym (pairs-map is_equal (λ (a : SlotArg). reg_type (routine_of c.args.code.now).regs a.reg) ctype_number c.args.slot.now.args.items c.param_types.result.now)
    ∙ ap (pairs is_equal (arg_types (listing_of c.args.code.now) (call_site_of c.args.slot.now))) c.param_types.ensures))
