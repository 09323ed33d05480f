-- The registers and masks of a call as rows of words: first a row for each register, then one for each mask, in which a word that
-- is not 0 says that the lane is on. A row has a word for each lane.
use Rattle.std.specs.Prelude.{ℕ, ◌+◌, ◌*◌, ◌==◌, nat_lt, false, not, ◌&&◌, cond, List, Option, None, slice_index_or}
use Rattle.vk_types.specs.declared.types.Stop.{Stop}
use Rattle.vk_types.specs.declared.types.Word.{Word}
use Rattle.vk_object.specs.Lane.{LaneState}

-- the pattern at a place, 0 where there is none
abbrev pub pattern_at : List Word → ℕ → ℕ
pattern_at words k = (slice_index_or words k (record { 0 = 0 })).0

-- the place of row r in lane j
abbrev pub place_of : ℕ → ℕ → ℕ → ℕ
place_of lanes r j = r * lanes + j

-- a lane; past the lanes all is 0
abbrev pub lane_of : ℕ → ℕ → List Word → List (Option Stop) → ℕ → LaneState
lane_of lanes registers words stops j = record {
  reg = λ r. cond (nat_lt j lanes && nat_lt r registers) (pattern_at words (place_of lanes r j)) 0;
  on = λ m. nat_lt j lanes && not (pattern_at words (place_of lanes (registers + m) j) == 0);
  stop = slice_index_or stops j None;
}

-- registers are 0, masks are off, and no lane has stopped
abbrev pub no_lanes : ℕ → LaneState
no_lanes j = record { reg = λ r. 0; on = λ m. false; stop = None }
