-- Which lanes of a mask are on.
use Rattle.std.specs.Prelude.{ℕ, ◌/◌, ◌%◌, ◌==◌, nat_lt, Bool, ◌&&◌, slice_index_or}
use Rattle.std.specs.Int.{bit_at}
use Rattle.vk_lanes.specs.declared.mask.LaneMask.{LaneMask}

-- how many lanes it has
abbrev pub lane_count : LaneMask → ℕ
lane_count m = m.lanes

-- whether a lane is on: past the last lane none is
unfoldable pub is_on : LaneMask → ℕ → Bool
is_on m i = nat_lt i m.lanes && (bit_at (slice_index_or m.bytes (i / 8) 0) (i % 8) == 1)
