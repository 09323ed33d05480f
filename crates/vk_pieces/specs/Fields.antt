-- Fields that are wanted.
use Rattle.std.specs.Prelude.{◌≡◌, ℕ}
use Rattle.vk_format.specs.Format.{Format, Field}
use Rattle.vk_code_read.specs.Inner.Left.{taken}

-- a field of so many bytes is wanted
abbrev pub IsField : {R : Type 0} → Format R → ℕ → Type 0
IsField f width = f ≡ Field width (taken f)
