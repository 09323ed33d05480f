-- The vector names that the directives of a function give, by the spelling of names and by the two vector function ABIs.
use Rattle.std.specs.Prelude.{◌≡◌, ℕ, ◌≤◌, true, List, length, map, Option, Some, None}
use Rattle.std.specs.List.{flat_map, list_all, AllByRecursion}
use Rattle.vk_kinds.specs.declared.kinds.Length.{Length}
use Rattle.vk_kinds.specs.declared.kinds.Param.{Param}
use Rattle.vk_kinds.specs.declared.kinds.Target.{Target}
use Rattle.vk_kinds.specs.Lengths.{lengths}
use Rattle.vk_kinds.specs.Sizes.{HeadTypes, SignatureTree}
use Rattle.vk_names.specs.Spelling.{Name, IsWritten, in_decimal, is_placed, name_text}

-- a name with what stands before the parameters
abbrev pub name_with : (scalar : List ℕ) → List Param → Length → Name
name_with scalar params front = record { front = front; params = params; scalar = scalar }

-- the names that a directive gives: one for each of its variants, by letter, length and mask
abbrev pub names_given : Target → (scalar : List ℕ) → HeadTypes → SignatureTree → List Name
names_given target scalar h s = map (name_with scalar s.params) (lengths target h s)

-- their texts
unfoldable pub directive_names : Target → (scalar : List ℕ) → HeadTypes → SignatureTree → List (List ℕ)
directive_names target scalar h s = map name_text (names_given target scalar h s)

-- the texts of all directives of a function, in their order
abbrev pub function_names : Target → (scalar : List ℕ) → HeadTypes → List SignatureTree → List (List ℕ)
function_names target scalar h signatures = flat_map (directive_names target scalar h) signatures

-- a length that a directive asks for has 1 to 65535 lanes
abbrev pub IsSimdlen : Option ℕ → Type 0
IsSimdlen None = Unit {0}
IsSimdlen (Some n) = (1 ≤ n) × (n ≤ 65535)

-- what a directive says is within the ranges of names
pub record IsNamed (s : SignatureTree) : Type 0 where
  pub params : AllByRecursion IsWritten (map in_decimal s.params)
  pub count : length s.params ≤ 64
  -- each step that is an argument's is a uniform parameter's
  pub placed : list_all (is_placed s.params) s.params ≡ true
  pub lanes : IsSimdlen s.simdlen
