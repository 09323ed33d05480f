-- Whether a field is left.
use Rattle.std.specs.Prelude.{Bool, true, false}
use Rattle.vk_image_read.specs.declared.image.ImageStage.{ImageStage}
use Rattle.vk_image_read.specs.declared.image.ImageStage.TheVariants.{Magic, Version, TargetOf, Letter, Vl, Main, ArrayCount, Array, CodeCount, Code, EntryCount, Entry, Done}

-- no field is left
abbrev pub is_done : ImageStage → Bool
is_done Magic = false
is_done Version = false
is_done TargetOf = false
is_done Letter = false
is_done Vl = false
is_done Main = false
is_done ArrayCount = false
is_done (Array left) = false
is_done CodeCount = false
is_done (Code left) = false
is_done EntryCount = false
is_done (Entry left) = false
is_done Done = true
