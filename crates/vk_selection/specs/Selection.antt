-- What a NAME selects in a unit that is called with a letter: a variant with that name which the image for the letter has, else the
-- scalar code of the function of that text that has directives.
use Rattle.std.specs.Prelude.{◌≡◌, ◌&&◌, ℕ, Bool, true, false, List, Contains, Some, is_some, slice_get}
use Rattle.std.specs.List.{list_any}
use Rattle.std.specs.Str.{bytes_eq}
use Rattle.vk_kinds.specs.declared.kinds.Isa.{Isa}
use Rattle.vk_kinds.specs.Lengths.{lanes_at, lengths}
use Rattle.vk_kinds.specs.Sizes.{SignatureTree, wds}
use Rattle.vk_names.specs.Spelling.{Spells, text_of as word_of}
use Rattle.vk_variants.specs.Directives.{name_with}
use Rattle.vk_ast.specs.Units.{FunctionTree, ItemTree, function, object, lost_line}
use Rattle.vk_rules_book.specs.Scopes.{has_directives, text_of}
use Rattle.vk_rules_book.specs.Signatures.{head_of}
use Rattle.vk_rules_book.specs.Directives.{signatures}
use Rattle.vk_rules_book.specs.Rules.{Subject}
use Rattle.vk_rules.specs.Functions.{functions_of}
use Rattle.vk_selection.specs.Letters.{uses}
use Rattle.vk_selection.specs.declared.selection.Variant.{Variant}
use Rattle.vk_selection.specs.declared.selection.Selected.{Selected}
use Rattle.vk_selection.specs.declared.selection.Selected.TheVariants.{Vector, Scalar}

-- ---- functions that are there

-- the item defines a function with this name
abbrev pub is_definition : (texts : List (List ℕ)) → (name : List ℕ) → ItemTree → Bool
is_definition texts name (function f) = is_some f.body && bytes_eq (text_of texts f.name) name
is_definition texts name (object o) = false
is_definition texts name (lost_line d) = false

-- one of the items does
abbrev pub is_defined : (texts : List (List ℕ)) → List ItemTree → (name : List ℕ) → Bool
is_defined texts items name = list_any (is_definition texts name) items

-- ---- variants

-- a directive of a function that the unit defines gives this variant, whose name is the text
pub record IsNamed (unit : Subject) (text : List ℕ) (v : Variant) : Type 0 where
  pub tree : FunctionTree
  pub signature : SignatureTree
  pub function_is : slice_get (functions_of unit) v.function ≡ Some tree
  pub directive_is : slice_get (signatures tree) v.directive ≡ Some signature
  pub given : Contains (lengths unit.target (head_of tree) signature) v.front
  pub spelled : Spells (name_with (text_of unit.texts tree.name) signature.params v.front) text
  pub whole : word_of text ≡ text
  pub defined : is_defined unit.texts unit.items (text_of unit.texts tree.name) ≡ true

-- the image for a letter, and for vectors of so many bits, has it with so many lanes
pub record IsVector (unit : Subject) (image : Isa) (vl : ℕ) (text : List ℕ) (v : Variant) (lanes : ℕ) : Type 0 where
  pub named : IsNamed unit text v
  pub used : uses image v.front.isa ≡ true
  pub lanes_are : lanes_at v.front.isa v.front.len (wds (head_of named.tree) named.signature) vl ≡ Some lanes

-- ---- scalar code

-- the function has directives and the text as its name, and the unit defines it
pub record IsScalar (unit : Subject) (text : List ℕ) (number : ℕ) : Type 0 where
  pub tree : FunctionTree
  pub function_is : slice_get (functions_of unit) number ≡ Some tree
  pub name : bytes_eq (text_of unit.texts tree.name) text ≡ true
  pub simd : has_directives tree.directives ≡ true
  pub defined : is_defined unit.texts unit.items text ≡ true

-- ---- both

abbrev pub IsSelected : Subject → (image : Isa) → (vl : ℕ) → (text : List ℕ) → Selected → Type 0
IsSelected unit image vl text (Vector v lanes) = IsVector unit image vl text v lanes
IsSelected unit image vl text (Scalar number) = IsScalar unit text number × ((v : Variant) (lanes : ℕ) → IsVector unit image vl text v lanes → ⊥)
