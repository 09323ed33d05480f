-- What a machine holds, and what a call gives on it.
use Rattle.std.specs.Prelude.{◌≡◌, ℕ, List, [], None, Some, slice_get, slice_index}
use Rattle.vk_types.specs.declared.types.Word.{Word}
use Rattle.vk_lanes.specs.declared.mask.LaneMask.{LaneMask}
use Rattle.vk_lanes.specs.Masks.{is_on, lane_count}
use Rattle.vk_io.specs.Sink.{SinkState}
use Rattle.vk_object.specs.Machine.{Given, first_memory, runs}
use Rattle.vk_object.specs.Tables.{Tables}
use Rattle.vk_steps.specs.Places.{image_tables}
use Rattle.vk_access.specs.Cells.{cells_in}
use Rattle.vk_access.specs.Outer.{Outer, outer_of, told}
use Rattle.vk_direct.specs.Calls.{given_words}
use Rattle.vk_machine.specs.declared.machine.Machine.{Machine}

-- the tables of its image
abbrev pub tables : Machine → Tables
tables m = image_tables m.image

-- how many elements an array has
abbrev pub array_length : Tables → ℕ → ℕ
array_length image a = elim (slice_get image.arrays a) as (λ _. ℕ) [ None ↦ 0 | Some x ↦ x.length ]

-- the pattern in each cell of each array
abbrev pub cells : Machine → ℕ → ℕ → ℕ
cells m = cells_in m.memory.cells.items

-- how often each entry was called; a count stays at its last value
abbrev pub count : Machine → ℕ → ℕ
count m e = told (slice_index m.memory.counts.items e)

-- its cells and counts, and a sink
abbrev pub outer : Machine → SinkState → Outer
outer m sink = outer_of m.memory sink

-- it has not run: its cells are the image's first ones, and its counts 0
pub record IsFresh (m : Machine) : Type 0 where
  pub cells_first : cells m ≡ (first_memory (tables m)).cells
  pub counts_none : (e : ℕ) → count m e ≡ 0

-- what a call of an entry gives by the image's run, from its cells and with an empty log
unfoldable pub called : Machine → ℕ → ℕ → LaneMask → List Word → Given
called m turns e mask args = runs (tables m) turns e (is_on mask) (given_words (lane_count mask) args) (record { cells = cells m; log = [] })
