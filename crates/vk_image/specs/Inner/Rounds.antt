-- Rows of what is known of each entry after some rounds over the entries.
use Rattle.std.specs.Prelude.{ℕ, ◌+◌, max, min, Bool, false, List, length, map, slice_get}
use Rattle.std.specs.Option.{unwrap_or}
use Rattle.vk_code.specs.Listing.{Listing}
use Rattle.vk_object.specs.declared.tables.LoopTargets.{LoopTargets}
use Rattle.vk_object.specs.Images.{chain_cells, code_of, frame_cells, greatest}
use Rattle.vk_object.specs.Tables.{EntryLists, Tables}

-- ---- chains

abbrev pub is_told : List Bool → ℕ → Bool
is_told row n = unwrap_or (slice_get row n) false

-- ---- cells, which stay at the greatest number of 64 bits

abbrev pub capped : ℕ → ℕ
capped n = min n 18446744073709551615

abbrev pub cells_at : List ℕ → ℕ → ℕ
cells_at row n = unwrap_or (slice_get row n) 0

abbrev pub chain_at : Tables → ℕ → ℕ → ℕ
chain_at image depth n = capped (chain_cells image depth n)

abbrev pub row_count : Listing → ℕ
row_count c = capped (length c.routine.regs + c.routine.masks)

abbrev pub called_cells : (ℕ → ℕ) → List ℕ → ℕ
called_cells cells targets = greatest (map cells targets)

abbrev pub loop_cells : (ℕ → ℕ) → List LoopTargets → ℕ
loop_cells cells loops = greatest (map (λ (t : LoopTargets). max (cells t.chunk) (cells t.rest)) loops)

-- the greatest chain from an entry on, where those of the entries that it calls are known
abbrev pub entry_cells : Tables → (ℕ → ℕ) → EntryLists → ℕ
entry_cells image cells e = capped (frame_cells e (code_of image e) + max (called_cells cells e.targets) (loop_cells cells e.loops))
