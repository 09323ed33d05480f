-- What a machine's memory is for its image.
use Rattle.std.specs.Prelude.{◌≡◌, ℕ, ◌<◌, true, List, length, map, Some, slice_get}
use Rattle.vk_code.specs.Valid.{is_canonical}
use Rattle.vk_object.specs.declared.image.Image.{Image}
use Rattle.vk_object.specs.Machine.{extent_of}
use Rattle.vk_object.specs.Memory.{Extent}
use Rattle.vk_steps.specs.Places.{image_tables}
use Rattle.vk_access.specs.declared.store.CellPlace.{CellPlace}
use Rattle.vk_access.specs.declared.store.Store.{Store}
use Rattle.vk_access.specs.Cells.{cells_in, length_in}

abbrev pub extents : Image → List Extent
extents image = map extent_of (image_tables image).arrays

-- a count for each entry, and for each array as many elements as it has, each a word of its type
pub record FitsStore (image : Image) (store : Store) : Type 0 where
  pub counts : length store.counts.items ≡ length image.entries.items
  pub lengths : (a : ℕ) (x : Extent) → slice_get (extents image) a ≡ Some x → length_in store.cells.items a ≡ x.length
  pub words : (a i : ℕ) (x : Extent) → slice_get (extents image) a ≡ Some x → is_canonical x.ty (cells_in store.cells.items a i) ≡ true

-- the element stands in an array of its type
pub record IsInside (image : Image) (c : CellPlace) : Type 0 where
  pub extent : Extent
  pub found : slice_get (extents image) c.array ≡ Some extent
  pub index : c.index < extent.length
  pub type : c.ty ≡ extent.ty
