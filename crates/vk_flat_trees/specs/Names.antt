-- Names of numbers and pointers in registers, and expressions over them.
use Rattle.std.specs.Prelude.{◌≡◌, ◌==◌, cond, Bool, true, false, ◌&&◌, List, Option, Some, None, is_some}
use Rattle.vk_kinds.specs.declared.heads.CType.TheVariants.{Ptr}
use Rattle.vk_ast.specs.declared.names.NameId.{NameId}
use Rattle.vk_ast.specs.Tree.{Tree, addr, binary, cast, choice, deref, index, int, name, unary}
use Rattle.vk_rules_book.specs.Scopes.{Scope}
use Rattle.vk_rules_book.specs.Typings.{is_plus}
use Rattle.vk_meaning.specs.Points.{Variable, variable_named}
use Rattle.vk_lane.specs.Entries.{LaneCall, place_of}
use Rattle.vk_construct.specs.Adds.{HasWritten, Written}
use Rattle.vk_construct.specs.Computes.{Table}
use Rattle.vk_construct.specs.Trees.{AreVariables}
use Rattle.vk_construct_places.specs.Places.{MayMove}
use Rattle.vk_flat.specs.Emitters.{IsPlace}
use Rattle.vk_flat.specs.Locals.{IsVariable}
use Rattle.vk_flat_pointers.specs.declared.homes.Home.{Home}
use Rattle.vk_flat_pointers.specs.declared.homes.Home.TheVariants.{Number, Pointer as Pointing}
use Rattle.vk_flat_pointers.specs.declared.homes.Named.{Named}
use Rattle.vk_flat_pointers.specs.declared.homes.Pointer.{Pointer}
use Rattle.vk_flat_pointers.specs.Homes.{home_named}
use Rattle.vk_flat_pointers.specs.Pieces.{IsPointerPlace}

-- ---- homes

-- The register has the pointer's type, the pointer may be used as it is wherever the code runs, and moved where it says so.
pub record IsUsable (w : Written) (p : Pointer) : Type 0 where
  pub typed : IsPointerPlace w p
  pub usable : (q : LaneCall) → HasWritten q w → (place_of q).usable p.register ≡ true
  pub moving : p.moves ≡ true → MayMove w p.to p.written

abbrev pub IsHome : Written → Home → Type 0
IsHome w (Number x) = IsPlace w x
IsHome w (Pointing p) = IsUsable w p

abbrev pub AreHomes : Written → List Named → Type 0
AreHomes w names = (id : NameId) (h : Home) → home_named names id ≡ Some h → IsHome w h

-- a variable of the scope that is a pointer, which the table has in this register
pub record IsPointerVariable (scope : Scope) (tb : Table) (id : NameId) (p : Pointer) : Type 0 where
  pub variable : Variable
  pub named : variable_named scope id ≡ Some variable
  pub ctype : variable.ctype ≡ Ptr p.to p.written
  pub register : tb.reg variable.number ≡ p.register

abbrev pub StandsFor : Scope → Table → NameId → Home → Type 0
StandsFor scope tb id (Number x) = IsVariable scope tb id x
StandsFor scope tb id (Pointing p) = IsPointerVariable scope tb id p

-- what the names mean in a scope whose variables have this table
pub record AreNames (names : List Named) (scope : Scope) (tb : Table) : Type 0 where
  pub each : (id : NameId) (h : Home) → home_named names id ≡ Some h → StandsFor scope tb id h
  pub variables : AreVariables scope tb

-- ---- expressions

abbrev pub is_number_home : Option Home → Bool
is_number_home (Some (Number x)) = true
is_number_home h = false

-- of a pointer, whether it may be moved
abbrev pub moves_of : Option Home → Option Bool
moves_of (Some (Pointing p)) = Some p.moves
moves_of h = None

-- the literal 0
abbrev pub is_zero : Tree → Bool
is_zero (int l k t n) = n == 0
is_zero e = false

-- an element: any of a pointer that may be moved, else the first one
abbrev pub element : Option Bool → (zero numeric : Bool) → Option Bool
element None zero numeric = None
element (Some true) zero numeric = cond numeric (Some true) None
element (Some false) zero numeric = cond zero (Some false) None

-- a sum with a pointer that may be moved
abbrev pub summed : Bool → Option Bool → (numeric : Bool) → Option Bool
summed true (Some true) true = Some true
summed plus moves numeric = None

abbrev mutual
  -- an expression that gives a number: of literals, numbers by name, casts, operators, `?:`, and elements of memory
  pub is_numeric : List Named → Tree → Bool
  is_numeric names (int l k t n) = true
  is_numeric names (name l k id) = is_number_home (home_named names id)
  is_numeric names (index l k base subscript) = is_some (element (pointing names base) (is_zero subscript) (is_numeric names subscript))
  is_numeric names (deref l k operand) = is_some (pointing names operand)
  is_numeric names (unary l k op e) = is_numeric names e
  is_numeric names (binary l k op a b) = is_numeric names a && is_numeric names b
  is_numeric names (choice l k c a b) = is_numeric names c && is_numeric names a && is_numeric names b
  is_numeric names (cast l k t e) = is_numeric names e
  is_numeric names e = false

  -- an expression that gives a pointer, and whether that may be moved: a pointer by name, the address of a place, and `P + E`
  pub pointing : List Named → Tree → Option Bool
  pointing names (name l k id) = moves_of (home_named names id)
  pointing names (addr l k place) = placing names place
  pointing names (binary l k op base e) = summed (is_plus op) (pointing names base) (is_numeric names e)
  pointing names e = None

  -- a place in memory: `P[E]` and `*P`
  pub placing : List Named → Tree → Option Bool
  placing names (index l k base subscript) = element (pointing names base) (is_zero subscript) (is_numeric names subscript)
  placing names (deref l k operand) = pointing names operand
  placing names e = None
