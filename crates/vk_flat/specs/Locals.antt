-- Names of integers in registers, and expressions over them.
use Rattle.std.specs.Prelude.{◌≡◌, cond, Bool, true, false, ◌&&◌, List, [], ◌∷◌, length, Option, Some, None, is_some}
use Rattle.std.specs.Option.{option_or}
use Rattle.vk_kinds.specs.declared.heads.CType.TheVariants.{Int}
use Rattle.vk_ast.specs.declared.names.NameId.{NameId}
use Rattle.vk_ast.specs.Tree.{Tree, binary, cast, choice, int, name, unary}
use Rattle.vk_rules_book.specs.Scopes.{Scope, same_name}
use Rattle.vk_meaning.specs.Points.{Variable, variable_named}
use Rattle.vk_construct.specs.Adds.{IsTableOf, Written}
use Rattle.vk_construct.specs.Computes.{Table}
use Rattle.vk_construct.specs.Trees.{AddsTree, AreVariables, HasNumber}
use Rattle.vk_flat.specs.declared.emitter.Place.{Place}
use Rattle.vk_flat.specs.declared.emitter.Under.{Under}
use Rattle.vk_flat.specs.declared.locals.Local.{Local}
use Rattle.vk_flat.specs.Emitters.{IsPlace}

-- the last one with this name
abbrev pub local_named : List Local → NameId → Option Local
local_named [] id = None
local_named (x ∷ xs) id = option_or (local_named xs id) (cond (same_name x.name id) (Some x) None)

-- each has a register of its type
abbrev pub ArePlaces : Written → List Local → Type 0
ArePlaces w locals = (id : NameId) (x : Local) → local_named locals id ≡ Some x → IsPlace w x.place

-- a variable of the scope, which the table has in this place
pub record IsVariable (scope : Scope) (tb : Table) (id : NameId) (place : Place) : Type 0 where
  pub variable : Variable
  pub named : variable_named scope id ≡ Some variable
  pub ctype : variable.ctype ≡ Int place.ty
  pub register : tb.reg variable.number ≡ place.register

-- what the names mean in a scope whose variables have this table
pub record AreLocals (locals : List Local) (scope : Scope) (tb : Table) : Type 0 where
  pub each : (id : NameId) (x : Local) → local_named locals id ≡ Some x → IsVariable scope tb id x.place
  pub variables : AreVariables scope tb

-- an expression of literals, these names, casts, operators on numbers and `?:`
abbrev pub is_numeric : List Local → Tree → Bool
is_numeric locals (int l k t n) = true
is_numeric locals (name l k id) = is_some (local_named locals id)
is_numeric locals (cast l k t e) = is_numeric locals e
is_numeric locals (unary l k op e) = is_numeric locals e
is_numeric locals (binary l k op a b) = is_numeric locals a && is_numeric locals b
is_numeric locals (choice l k c a b) = is_numeric locals c && is_numeric locals a && is_numeric locals b
is_numeric locals e = false

-- the code of the expression has come behind, wherever the names are variables; its number is in place d
pub record Emits (old new : Written) (locals : List Local) (e : Tree) (d : Place) (u : Under) : Type 0 where
  pub code : (scope : Scope) (tb : Table) → AreLocals locals scope tb → IsTableOf old tb (length old.regs) → AddsTree old new scope tb e d.ty d.register u.mask u.free
  pub typed : (scope : Scope) (tb : Table) → AreLocals locals scope tb → HasNumber scope e d.ty
  pub place : IsPlace new d
  pub kept : (x : Place) → IsPlace old x → IsPlace new x
