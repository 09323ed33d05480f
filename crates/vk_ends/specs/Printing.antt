-- What was written with each end of printing a text.
use Rattle.std.specs.Prelude.{◌≡◌, ⊤, ℕ, List, ◌++◌}
use Rattle.vk_io.specs.Sink.{GrowsWithin}
use Rattle.vk_ends.specs.declared.ends.End.{End}
use Rattle.vk_ends.specs.declared.ends.End.TheVariants.{Done, WriteFault, Memory}

abbrev pub IsPrinted : End → Type 0
IsPrinted Done = ⊤
IsPrinted WriteFault = ⊤
IsPrinted Memory = ⊤
IsPrinted _ = ⊥

abbrev pub Prints : (text old new : List ℕ) → End → Type 0
Prints text old new Done = new ≡ old ++ text
Prints text old new WriteFault = GrowsWithin old new text
Prints text old new Memory = GrowsWithin old new text
Prints text old new _ = ⊥
