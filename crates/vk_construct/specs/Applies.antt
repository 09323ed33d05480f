-- Code that computes with numbers in registers, in one lane.
use Rattle.std.specs.Prelude.{◌≡◌, ℕ, true, ℤ, None, Result, Ok, Err}
use Rattle.vk_types.specs.declared.types.Ty.{Ty}
use Rattle.vk_types.specs.declared.types.Stop.{Stop}
use Rattle.vk_types.specs.Numbers.{number_of}
use Rattle.vk_lane.specs.Places.{Share}
use Rattle.vk_lane.specs.Pieces.{Stays}
use Rattle.vk_construct.specs.Computes.{Idles, Keeps}

-- the word has the number, as one of the type, or the stops are the same
abbrev pub IsResult : Ty → Result ℕ Stop → Result ℤ Stop → Type 0
IsResult t (Ok w) (Ok z) = number_of t w ≡ z
IsResult t (Err x) (Err y) = x ≡ y
IsResult t _ _ = ⊥

-- the lane goes on with the number in register d, or stops
abbrev pub Comes : Result ℤ Stop → Ty → (d k f : ℕ) → (before after : Share) → Type 0
Comes (Ok z) t d k f h h' = Keeps k f h.world h h' × (number_of t (h'.lane.reg d) ≡ z)
Comes (Err x) t d k f h h' = Stays x h.world h'

-- under mask m what `result` tells of the lane comes into register d, of type t; registers below k and masks below f stay
pub record Applies (result : Share → Result ℤ Stop) (t : Ty) (d m k f j : ℕ) (h h' : Share) : Type 0 where
  pub idles : Idles m f h h'
  pub runs : h.lane.stop ≡ None → h.lane.on m ≡ true → Comes (result h) t d k f h h'

-- the number in a register of this type
abbrev pub number_at : Ty → (register : ℕ) → Share → ℤ
number_at t a h = number_of t (h.lane.reg a)

-- a function of one number, and of two
abbrev pub one : (ℤ → Result ℤ Stop) → Ty → (a : ℕ) → Share → Result ℤ Stop
one g s a h = g (number_at s a h)

abbrev pub two : (ℤ → ℤ → Result ℤ Stop) → Ty → (a : ℕ) → Ty → (b : ℕ) → Share → Result ℤ Stop
two g s a t b h = g (number_at s a h) (number_at t b h)
