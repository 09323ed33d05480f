-- Where an entry runs that is called from outside.
use Rattle.std.specs.Prelude.{◌≡◌, ◌+◌, Some}
use Rattle.vk_object.specs.Images.{chain_cells, frame_cells}
use Rattle.vk_object.specs.Machine.{enters, runs}
use Rattle.vk_steps.specs.declared.place.Place.{Place}
use Rattle.vk_steps.specs.Places.{IsSound, called_cells, entry, listing, site, tables}

-- the entry does there what the image says, and has the cells of its frame and its calls
pub record IsOutermost (p : Place) : Type 0 where
  pub sound : IsSound p
  pub does : runs (tables p) p.turns p.number ≡ enters p.number (site p)
  pub cells : chain_cells (tables p) 64 p.number ≡ frame_cells (entry p) (Some (listing p)) + called_cells (tables p) p.depth (entry p)
