use Rattle.std.proofs.Common.{◌≡◌, map, take}
use Rattle.vk_image_format.specs.Values.{array_of}
use Rattle.vk_object.specs.Images.{object_of}
use Rattle.vk_image_faults.proofs.names.objects_of.Given as goal

-- the arrays so far
abbrev pub invariant-loop-array : goal.invariant-loop-array
invariant-loop-array l = l.objects.items ≡ map (λ a. object_of (array_of a)) (take l.array-index l.arrays)
