-- Types of parameters, and lists of them.
use Rattle.std.specs.Prelude.{ℕ, Bool, true, false, List, [], ◌∷◌, get_or}
use Rattle.vk_kinds.specs.declared.heads.CType.{CType}
use Rattle.vk_kinds.specs.declared.heads.CType.TheVariants.{Void, Int, Ptr}

-- a pointer (C17 6.2.5)
abbrev pub is_pointer_type : CType → Bool
is_pointer_type Void = false
is_pointer_type (Int t) = false
is_pointer_type (Ptr to written) = true

-- a pointer to elements that may be written
abbrev pub is_written_type : CType → Bool
is_written_type Void = false
is_written_type (Int t) = false
is_written_type (Ptr to written) = written

-- the type of the parameter with this number, from 0; void where there is none
abbrev pub type_at : List CType → (parameter : ℕ) → CType
type_at ts p = get_or ts p Void

-- the first type of a list, and those behind it
abbrev pub next_type : List CType → CType
next_type [] = Void
next_type (t ∷ ts) = t

abbrev pub next_types : List CType → List CType
next_types [] = []
next_types (t ∷ ts) = ts
