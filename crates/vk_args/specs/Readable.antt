-- When the words of a call can be read from the caller's frame.
use Rattle.std.specs.Prelude.{◌≡◌, ℕ, ◌<◌, ◌≤◌, List, Some, slice_get}
use Rattle.vk_kinds.specs.declared.kinds.Kind.TheVariants.{Linear}
use Rattle.vk_kinds.specs.declared.kinds.Step.TheVariants.{Arg}
use Rattle.vk_code.specs.Listing.{CallSite}
use Rattle.vk_frames.specs.declared.frame.Frame.{Frame}
use Rattle.vk_frames.specs.Frames.{IsFrame}
use Rattle.vk_object.specs.Machine.{arg_reg, kind_at}
use Rattle.vk_object.specs.Tables.{EntryLists}

-- each argument of a call of so many parameters is a register of the frame
abbrev pub HasArguments : Frame → CallSite → ℕ → Type 0
HasArguments frame slot params = (p : ℕ) → p < params → arg_reg slot p < frame.registers

-- each step argument is one of the parameters
abbrev pub HasSteps : EntryLists → ℕ → Type 0
HasSteps e params = (p q : ℕ) → kind_at e p ≡ Linear (Arg q) → q < params

-- the words of a call for all lanes, of which one is the first live one
pub record CanPass (frame : Frame) (slot : CallSite) (e : EntryLists) (params lanes m first : ℕ) : Type 0 where
  pub fits : IsFrame frame
  pub registers : HasArguments frame slot params
  pub steps : HasSteps e params
  pub inside : lanes ≤ frame.lanes
  pub mask : m < frame.masks
  pub first_inside : first < frame.lanes

-- the words of a call for one lane
pub record CanPassOne (frame : Frame) (slot : CallSite) (params lane : ℕ) : Type 0 where
  pub fits : IsFrame frame
  pub registers : HasArguments frame slot params
  pub inside : lane < frame.lanes

-- the words of a call of a loop's body: its low and its captures are registers of the frame
pub record CanPassBody (frame : Frame) (low : ℕ) (captures : List ℕ) : Type 0 where
  pub fits : IsFrame frame
  pub some : 0 < frame.lanes
  pub low_there : low < frame.registers
  pub captures_there : (p r : ℕ) → slice_get captures p ≡ Some r → r < frame.registers
