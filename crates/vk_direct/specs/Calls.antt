-- The words of a call from outside, and what it gives.
use Rattle.std.specs.Prelude.{◌≡◌, ℕ, ◌*◌, List, [], length}
use Rattle.vk_types.specs.declared.types.Word.{Word}
use Rattle.vk_lanes.specs.Masks.{is_on, lane_count}
use Rattle.vk_frames.specs.Rows.{pattern_at, place_of}
use Rattle.vk_object.specs.Machine.{Given, runs}
use Rattle.vk_runs.specs.Words.{AreArguments}
use Rattle.vk_steps.specs.Places.{entry, listing, tables}
use Rattle.vk_direct.specs.declared.call.DirectCall.{DirectCall}
use Rattle.vk_direct.specs.Places.{IsOutermost}

-- for each parameter a word for each lane, one parameter after another
abbrev pub given_words : ℕ → List Word → ℕ → ℕ → ℕ
given_words lanes words p j = pattern_at words (place_of lanes p j)

-- as many words as the code has parameters, for each lane
abbrev pub HasWordsFor : DirectCall → Type 0
HasWordsFor call = length call.words.now ≡ (listing call.place).routine.params * lane_count call.mask.now

-- the call of an entry in its lanes, on words of its parameters' types
pub record IsEntry (call : DirectCall) : Type 0 where
  pub place : IsOutermost call.place
  pub lanes : lane_count call.mask.now ≡ (entry call.place).lanes
  pub words : HasWordsFor call
  pub typed : AreArguments (entry call.place).lanes (listing call.place) (given_words (lane_count call.mask.now) call.words.now)

-- what the call gives by the image's run, from these cells and with an empty log
unfoldable pub entered : DirectCall → (ℕ → ℕ → ℕ) → Given
entered call cells = runs (tables call.place) call.place.turns call.place.number (is_on call.mask.now) (given_words (lane_count call.mask.now) call.words.now) (record { cells = cells; log = [] })
