-- Arrays of which the heads are known.
use Rattle.std.specs.Prelude.{List, [], map}
use Rattle.vk_meaning.specs.World.{Array}
use Rattle.vk_pointer_texts.specs.declared.heads.ArrayHead.{ArrayHead}

-- the array with this head; that all its elements begin as 0 is of no matter for pointers
abbrev pub array_of : ArrayHead → Array
array_of h = record { text = h.text.now; ty = h.ty; fixed = h.fixed; length = h.length; given = [] }

abbrev pub arrays_of : List ArrayHead → List Array
arrays_of heads = map array_of heads
