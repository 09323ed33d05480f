-- No public contract's meaning rests on this: what many bytes of a name make of a state.
use Rattle.std.specs.Prelude.{◌≡◌, ℕ, ◌+◌, ◌==◌, Bool, true, false, not, ◌&&◌, List, [], ◌∷◌, None, Ok, if◌then◌else◌}
use Rattle.std.specs.Char.{is_ascii_digit}
use Rattle.std.specs.List.{fold}
use Rattle.vk_kinds.specs.declared.kinds.Param.{Param}
use Rattle.vk_names.specs.declared.steps.Run.{Run}
use Rattle.vk_names.specs.declared.steps.Item.{Item}
use Rattle.vk_names.specs.declared.states.Found.{Found}
use Rattle.vk_names.specs.declared.states.State.{State}
use Rattle.vk_names.specs.declared.states.State.TheVariants.{Mark, AtIsa, AtMask, AtLen, LenDigits, Next, Inside, Scalar, Done, Fault}
use Rattle.vk_names.specs.Spelling.{is_name_byte}
use Rattle.vk_names.specs.Pieces.{told_at}
use Rattle.vk_names.specs.Inner.Steps.{with_byte, item_with, param_of, state_on}

-- the state and the parameters after these bytes
unfoldable pub from : State → List Param → List ℕ → State × List Param
from state params bytes = fold (λ so_far b. state_on so_far.0 so_far.1 b) (state, params) bytes

-- the state stays, whatever follows
abbrev pub is_settled : State → Bool
is_settled (Mark n) = false
is_settled AtIsa = false
is_settled (AtMask isa) = false
is_settled (AtLen isa masked) = false
is_settled (LenDigits isa masked run) = false
is_settled (Next front at) = false
is_settled (Inside front at item) = false
is_settled (Scalar found) = false
is_settled (Done found) = true
is_settled (Fault fault) = true

-- the byte goes on with the scalar name
abbrev pub scalar_goes_on : Found → ℕ → Bool
scalar_goes_on found b = is_name_byte b && (not ((found.used == found.scalar_at) && is_ascii_digit b) && not (found.used == found.scalar_at + 1024))

-- the place and the run after the digits in front, and what follows them
abbrev pub digits_of : ℕ → Run → List ℕ → ℕ × Run × List ℕ
digits_of at run [] = (at, run, [])
digits_of at run (b ∷ bs) = if is_ascii_digit b then digits_of (told_at (at + 1)) (with_byte run b) bs else (at, run, b ∷ bs)

-- the item is this parameter, and a byte of the name follows that does not go on with its digits
pub record IsBefore (item : Item) (at b : ℕ) (param : Param) : Type 0 where
  pub in_name : is_name_byte b ≡ true
  pub ends : item_with item at b ≡ None
  pub param_is : param_of item ≡ Ok param
