use Rattle.std.proofs.Common.{◌∙◌, ap, ap₂, sym, List, map}
use Rattle.vk_kinds.specs.declared.heads.CType.{CType}
use Rattle.vk_kinds.specs.Types.{ctype_number}
use Rattle.vk_code.specs.declared.code.SlotArg.{SlotArg}
use Rattle.vk_code.specs.Listing.{reg_type}
use Rattle.vk_code.specs.Tests.{pairs}
use Rattle.vk_code_format.specs.declared.rows.ArgRow.{ArgRow}
use Rattle.vk_code_format.specs.Values.{arg_of, call_of, listing_of}
use Rattle.vk_object.specs.Images.{arg_types, is_equal}
use Rattle.vk_image_faults.specs.Inner.Types.{has_arg_type}
use Rattle.vk_image.proofs.Lists.{map_map, pairs-map}
use Rattle.vk_image_faults.proofs.types.has_arg_types.Goals as goal

pub returns : goal.returns
returns c =
    let regs = c.args.code.now.routine.front.regs in
    let types = c.param_types.result.now in
    c.have_types.ensures
    ∙ ap₂ (λ (r : List CType) (args : List ArgRow). pairs (has_arg_type r) args types) c.as_slice.ensures.items c.as_slice-2.ensures.items
    ∙ sym (pairs-map is_equal (λ (a : ArgRow). reg_type regs a.reg) ctype_number c.args.slot.now.args types)
    ∙ ap (λ l. pairs is_equal l (map ctype_number types)) (sym (map_map (λ (a : SlotArg). reg_type regs a.reg) arg_of c.args.slot.now.args))
    ∙ ap (pairs is_equal (arg_types (listing_of c.args.code.now) (call_of c.args.slot.now))) c.param_types.ensures
