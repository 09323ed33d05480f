-- What the code's own functions tell each other.
use Rattle.std.specs.Prelude.{◌≡◌, ℕ, true, List, Contains, Option, Some, None, slice_get}
use Rattle.std.specs.Str.{bytes_eq}
use Rattle.vk_kinds.specs.declared.kinds.Isa.{Isa}
use Rattle.vk_kinds.specs.declared.kinds.Length.{Length}
use Rattle.vk_kinds.specs.declared.kinds.Param.{Param}
use Rattle.vk_kinds.specs.declared.kinds.Target.{Target}
use Rattle.vk_kinds.specs.Lengths.{lanes_at, lengths}
use Rattle.vk_kinds.specs.Sizes.{SignatureTree, wds}
use Rattle.vk_ast.specs.Units.{FunctionTree}
use Rattle.vk_rules_book.specs.Directives.{signatures}
use Rattle.vk_rules_book.specs.Rules.{Subject}
use Rattle.vk_rules_book.specs.Scopes.{text_of}
use Rattle.vk_rules_book.specs.Signatures.{head_of}
use Rattle.vk_rules.specs.Functions.{functions_of}
use Rattle.vk_selection.specs.Selection.{IsScalar, IsVector, is_defined}
use Rattle.vk_selection.specs.declared.selection.Variant.{Variant}
use Rattle.vk_selection.specs.declared.selection.Selected.{Selected}
use Rattle.vk_selection.specs.declared.selection.Selected.TheVariants.{Vector, Scalar}

-- the directive gives a variant with these parameters and this front, with so many lanes
pub record IsWith (target : Target) (g : FunctionTree) (s : SignatureTree) (params : List Param) (front : Length) (vl lanes : ℕ) : Type 0 where
  pub same : s.params ≡ params
  pub given : Contains (lengths target (head_of g) s) front
  pub lanes_are : lanes_at front.isa front.len (wds (head_of g) s) vl ≡ Some lanes

-- how many lanes it has, or it gives none
abbrev pub HasLanes : Target → FunctionTree → SignatureTree → List Param → Length → (vl : ℕ) → Option ℕ → Type 0
HasLanes target g s params front vl (Some lanes) = IsWith target g s params front vl lanes
HasLanes target g s params front vl None = (lanes : ℕ) → IsWith target g s params front vl lanes → ⊥

-- a directive of the function, which has this name, gives it
pub record IsGiven (unit : Subject) (g : FunctionTree) (scalar : List ℕ) (params : List Param) (front : Length) (vl directive lanes : ℕ) : Type 0 where
  pub name : bytes_eq (text_of unit.texts g.name) scalar ≡ true
  pub signature : SignatureTree
  pub directive_is : slice_get (signatures g) directive ≡ Some signature
  pub gives : IsWith unit.target g signature params front vl lanes

abbrev pub IsAt : Subject → FunctionTree → (scalar : List ℕ) → List Param → Length → (vl : ℕ) → Option (ℕ × ℕ) → Type 0
IsAt unit g scalar params front vl (Some at) = IsGiven unit g scalar params front vl at.0 at.1
IsAt unit g scalar params front vl None = (directive lanes : ℕ) → IsGiven unit g scalar params front vl directive lanes → ⊥

-- the unit, which defines the function, has the variant with these parts of a name
pub record IsPart (unit : Subject) (scalar : List ℕ) (params : List Param) (front : Length) (vl : ℕ) (v : Variant) (lanes : ℕ) : Type 0 where
  pub tree : FunctionTree
  pub function_is : slice_get (functions_of unit) v.function ≡ Some tree
  pub defined : is_defined unit.texts unit.items scalar ≡ true
  pub front_is : v.front ≡ front
  pub given : IsGiven unit tree scalar params front vl v.directive lanes

abbrev pub IsFound : Subject → (scalar : List ℕ) → List Param → Length → (vl : ℕ) → Option (Variant × ℕ) → Type 0
IsFound unit scalar params front vl (Some at) = IsPart unit scalar params front vl at.0 at.1
IsFound unit scalar params front vl None = (v : Variant) (lanes : ℕ) → IsPart unit scalar params front vl v lanes → ⊥

-- what is selected, or nothing
abbrev pub IsVectorOf : Subject → Isa → (vl : ℕ) → (text : List ℕ) → Option (Variant × ℕ) → Type 0
IsVectorOf unit image vl text (Some at) = IsVector unit image vl text at.0 at.1
IsVectorOf unit image vl text None = (v : Variant) (lanes : ℕ) → IsVector unit image vl text v lanes → ⊥

abbrev pub IsScalarAs : Subject → (text : List ℕ) → Selected → Type 0
IsScalarAs unit text (Scalar number) = IsScalar unit text number
IsScalarAs unit text (Vector v lanes) = ⊥

abbrev pub IsScalarOf : Subject → (text : List ℕ) → Option Selected → Type 0
IsScalarOf unit text (Some selected) = IsScalarAs unit text selected
IsScalarOf unit text None = (number : ℕ) → IsScalar unit text number → ⊥
