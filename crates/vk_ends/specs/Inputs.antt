-- Reading the input files of a command.
use Rattle.std.specs.Prelude.{◌≡◌, ℕ, ◌<◌, ⊤, List, length}
use Rattle.vk_io.specs.Counts.{Rose}
use Rattle.vk_io.specs.Store.{StoreState}
use Rattle.vk_ends.specs.Ends.{file_at}
use Rattle.vk_ends.specs.declared.ends.End.{End}
use Rattle.vk_ends.specs.declared.ends.End.TheVariants.{Refused, ReadFault, Memory}
use Rattle.vk_ends.specs.declared.ends.Refusal.TheVariants.{Size}

-- the end of a command that has not read its input of this number: a fault of reading, too many bytes, or want of memory
abbrev pub IsUnread : ℕ → End → Type 0
IsUnread number (ReadFault input) = input ≡ number
IsUnread number (Refused (Size input)) = input ≡ number
IsUnread number Memory = ⊤
IsUnread number _ = ⊥

-- the read count of the input file of this number rose
abbrev pub HasFailed : List (List ℕ) → ℕ → StoreState → StoreState → Type 0
HasFailed files input before now = (input < length files) × Rose (before.reads (file_at files input)) (now.reads (file_at files input))
