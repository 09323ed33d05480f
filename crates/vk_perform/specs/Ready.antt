-- What is there where code runs, and what stays of it.
use Rattle.std.specs.Prelude.{◌≤◌, List, length}
use Rattle.vk_types.specs.declared.types.Word.{Word}
use Rattle.vk_frames.specs.declared.frame.Frame.{Frame}
use Rattle.vk_steps.specs.declared.place.Place.{Place}
use Rattle.vk_steps.specs.Places.{FitsPlace, IsSound, called_cells, entry, tables}
use Rattle.vk_access.specs.declared.store.Store.{Store}
use Rattle.vk_access.specs.Stores.{FitsStore}

-- a sound place, a frame and a memory for it, and cells for the frames of all that its code calls
pub record IsReady (p : Place) (frame : Frame) (memory : Store) (cells : List Word) : Type 0 where
  pub sound : IsSound p
  pub fits : FitsPlace p frame
  pub store : FitsStore p.image.now memory
  pub room : called_cells (tables p) p.depth (entry p) ≤ length cells

-- the frame and the memory still fit
pub record Keeps (p : Place) (frame : Frame) (memory : Store) : Type 0 where
  pub fits : FitsPlace p frame
  pub store : FitsStore p.image.now memory
