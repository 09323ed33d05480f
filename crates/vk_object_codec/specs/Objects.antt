-- Tables and objects.
use Rattle.std.specs.Prelude.{◌≡◌, Bool}
use Rattle.vk_object.specs.declared.object.Object.{Object}
use Rattle.vk_object.specs.Objects.{is_object}
use Rattle.vk_object_format.specs.declared.rows.RawObject.{RawObject}
use Rattle.vk_object_format.specs.Values.{object_of}
use Rattle.vk_object_write.specs.Lists.{object_lists}

-- the tables stand for an object
unfoldable pub are_valid : RawObject → Bool
are_valid o = is_object (object_of o)

-- they stand for this one
unfoldable pub StandsFor : RawObject → Object → Type 0
StandsFor o object = object_of o ≡ object_lists object
