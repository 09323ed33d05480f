-- Reading the input files of a command, one after another. `file` gives the bytes of each name's file, `names` are the inputs.
use Rattle.std.specs.Prelude.{◌≡◌, ℕ, ◌<◌, ◌≤◌, List, length, map, take, All, Option, Some}
use Rattle.vk_io.specs.Whole.{IsTooLong}
use Rattle.vk_ends.specs.Ends.{file_at}
use Rattle.vk_ends.specs.Inputs.{IsUnread}
use Rattle.vk_ends.specs.declared.ends.End.{End}

-- each of these files is there, and these are their bytes in the order of the names
abbrev pub AreFiles : (file : List ℕ → Option (List ℕ)) → (names contents : List (List ℕ)) → Type 0
AreFiles file names contents = map file names ≡ map Some contents

-- none has more bytes than the limit
abbrev pub AreWithin : (limit : ℕ) → (contents : List (List ℕ)) → Type 0
AreWithin limit contents = All (λ bytes. length bytes ≤ limit) contents

-- each of these files is there and has no more bytes than the limit
abbrev pub AreReadable : (file : List ℕ → Option (List ℕ)) → (limit : ℕ) → (names : List (List ℕ)) → Type 0
AreReadable file limit names = (contents : List (List ℕ)) × AreFiles file names contents × AreWithin limit contents

-- the input of this number is too long, and each one before it can be read
pub record IsFirstTooLong (file : List ℕ → Option (List ℕ)) (limit : ℕ) (names : List (List ℕ)) (input : ℕ) : Type 0 where
  pub inside : input < length names
  pub before : AreReadable file limit (take input names)
  pub long : IsTooLong (file (file_at names input)) limit

-- the end of a command that has not read one of so many inputs
abbrev pub IsUnreadOf : (count : ℕ) → End → Type 0
IsUnreadOf count end = (input : ℕ) × (input < count) × IsUnread input end
