use Rattle.std.proofs.Common.{◌∙◌, ap, map}
use Rattle.vk_object.specs.Images.{object_of}
use Rattle.vk_object.specs.Tables.{array_list_of}
use Rattle.vk_image.proofs.Lists.{names_made}
use Rattle.vk_image.proofs.codes.names_of.Goals as goal

pub returns : goal.returns
returns c =
    names_made c.args.tables.now c.new.result.items c.in_ok-objects_of.field-0.items c.new.ensures.items
    (c.in_ok-objects_of.ensures ∙ ap (map (λ a. object_of (array_list_of a))) c.deref.ensures.value)
