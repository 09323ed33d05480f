-- No public contract's meaning rests on this: which state of the code a feed of some bytes has, and what that state answers. Of
-- `Stands` a caller needs only that `NameFeed::new` stands for no bytes and that `NameFeed::feed` adds its piece.
use Rattle.std.specs.Prelude.{◌≡◌, ℕ, List, [], take, drop, Result, Ok, Err, IsOkAnd, IsErrAnd}
use Rattle.vk_kinds.specs.declared.kinds.Param.{Param}
use Rattle.vk_names.specs.declared.rules.NameFault.{NameFault}
use Rattle.vk_names.specs.declared.names.ReadName.{ReadName}
use Rattle.vk_names.specs.declared.states.Found.{Found}
use Rattle.vk_names.specs.declared.states.State.{State}
use Rattle.vk_names.specs.declared.states.State.TheVariants.{Mark, AtIsa, AtMask, AtLen, LenDigits, Next, Inside, Scalar, Done, Fault}
use Rattle.vk_names.specs.declared.feed.NameFeed.{NameFeed}
use Rattle.vk_names.specs.declared.feed.Progress.{Progress}
use Rattle.vk_names.specs.declared.feed.Progress.TheVariants.{More}
use Rattle.vk_names.specs.Spelling.{Name, name_in}
use Rattle.vk_names.specs.Pieces.{IsDoneAnd, IsFaultAnd}
use Rattle.vk_names.specs.Inner.Many.{from}

-- the state and the parameters after these bytes, from the first one on
abbrev pub after : List ℕ → State × List Param
after bytes = from (Mark 0) [] bytes

-- The feed stands for these bytes: it is what they make of a new one. `NameFeed::new` gives one that stands for no bytes,
-- and `NameFeed::feed` one that stands for the bytes before and then the piece.
unfoldable pub Stands : NameFeed → List ℕ → Type 0
Stands feed bytes = (feed.state, feed.params.items) ≡ after bytes

-- ---- what a state answers

abbrev pub found_name : Found → List Param → List ℕ → Name
found_name found params fed = record { front = found.front; params = params; scalar = drop found.scalar_at (take found.used fed) }

-- the name that was read is the one that was found
pub record IsRead (found : Found) (params : List Param) (name : ReadName) : Type 0 where
  pub scalar_at : name.scalar_at ≡ found.scalar_at
  pub used : name.used ≡ found.used
  pub name_is : (bytes : List ℕ) → name_in name.head name.scalar_at name.used bytes ≡ found_name found params bytes

abbrev pub IsProgress : List Param → State → Progress → Type 0
IsProgress params (Mark n) answer = answer ≡ More
IsProgress params AtIsa answer = answer ≡ More
IsProgress params (AtMask isa) answer = answer ≡ More
IsProgress params (AtLen isa masked) answer = answer ≡ More
IsProgress params (LenDigits isa masked run) answer = answer ≡ More
IsProgress params (Next front at) answer = answer ≡ More
IsProgress params (Inside front at item) answer = answer ≡ More
IsProgress params (Scalar found) answer = answer ≡ More
IsProgress params (Done found) answer = IsDoneAnd answer (λ name. IsRead found params name)
IsProgress params (Fault f) answer = IsFaultAnd answer (λ told. told ≡ f)

abbrev pub IsEnd : List Param → Result Found NameFault → Result ReadName NameFault → Type 0
IsEnd params (Ok found) answer = IsOkAnd answer (λ name. IsRead found params name)
IsEnd params (Err f) answer = IsErrAnd answer (λ told. told ≡ f)
