-- The frame of a call as a function of the lane.
use Rattle.std.specs.Prelude.{◌≡◌, ℕ, ◌+◌, ◌*◌, ◌≤◌, length}
use Rattle.vk_object.specs.Lane.{LaneState}
use Rattle.vk_frames.specs.declared.frame.Frame.{Frame}
use Rattle.vk_frames.specs.Rows.{lane_of}

-- the lanes of a frame
abbrev pub lanes_of : Frame → ℕ → LaneState
lanes_of frame = lane_of frame.lanes frame.registers frame.words.now frame.stops

-- a frame of so many registers, masks and lanes: a word for each row and lane
pub record Fits (registers masks lanes : ℕ) (frame : Frame) : Type 0 where
  pub registers_are : frame.registers ≡ registers
  pub masks_are : frame.masks ≡ masks
  pub lanes_are : frame.lanes ≡ lanes
  pub short : registers ≤ 65536
  pub few : lanes ≤ 256
  pub words : length frame.words.now ≡ (registers + masks) * lanes

-- a frame of its own registers, masks and lanes
abbrev pub IsFrame : Frame → Type 0
IsFrame frame = Fits frame.registers frame.masks frame.lanes frame

-- another frame of as many
abbrev pub FitsAs : Frame → Frame → Type 0
FitsAs old new = Fits old.registers old.masks old.lanes new
