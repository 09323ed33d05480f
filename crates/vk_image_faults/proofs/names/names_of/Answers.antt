use Rattle.std.proofs.Common.{◌∙◌, ap, map}
use Rattle.vk_object.specs.Images.{object_of}
use Rattle.vk_image_format.specs.Values.{array_of}
use Rattle.vk_image_faults.proofs.Asked.{names_made}
use Rattle.vk_image_faults.proofs.names.names_of.Goals as goal

pub returns : goal.returns
returns c =
    names_made c.args.image.now c.new.result.items c.in_ok-objects.objects.items c.new.ensures.items
    (c.in_ok-objects.ensures ∙ ap (map (λ a. object_of (array_of a))) c.as_slice.ensures.items)
