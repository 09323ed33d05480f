-- What emitters of expressions need, and what they add.
use Rattle.std.specs.Prelude.{◌≡◌, ℕ, ◌+◌, ◌≤◌, ◌<◌, Bool, true, List, length, Some, slice_get}
use Rattle.vk_types.specs.declared.types.Ty.{Ty}
use Rattle.vk_kinds.specs.declared.heads.CType.{CType}
use Rattle.vk_ast.specs.Tree.{Tree, nodes_of}
use Rattle.vk_rules_book.specs.declared.typings.Typing.TheVariants.{Cell, Pointer as PointerTo}
use Rattle.vk_rules_book.specs.Scopes.{Scope}
use Rattle.vk_rules_book.specs.Typings.{typing_of}
use Rattle.vk_meaning.specs.Data.{and_then, loaded}
use Rattle.vk_meaning.specs.Expressions.{Context, Variables, address_of, value_of}
use Rattle.vk_meaning.specs.World.{World}
use Rattle.vk_lane.specs.Entries.{LaneCall}
use Rattle.vk_construct.specs.Adds.{HasWritten, IsTableOf, Written}
use Rattle.vk_construct.specs.Computes.{Table}
use Rattle.vk_construct.specs.Trees.{AddsTree, HasNumber}
use Rattle.vk_construct_memory.specs.Pointers.{AddsPointerTree}
use Rattle.vk_construct_places.specs.Places.{AddsPlace, MayMove, part_nodes}
use Rattle.vk_flat.specs.declared.emitter.Emitter.{Emitter}
use Rattle.vk_flat.specs.declared.emitter.Place.{Place}
use Rattle.vk_flat.specs.declared.emitter.Under.{Under}
use Rattle.vk_flat.specs.Emitters.{IsPlace, written_of}
use Rattle.vk_flat_pointers.specs.declared.homes.Named.{Named}
use Rattle.vk_flat_pointers.specs.declared.homes.Pointer.{Pointer}
use Rattle.vk_flat_pointers.specs.Pieces.{IsPointerPlace}
use Rattle.vk_flat_trees.specs.Names.{AreHomes, AreNames}

-- ---- what has been written

-- registers keep their types, and what runs the new code runs the old one
pub record Grows (old new : Written) : Type 0 where
  pub kept : (r : ℕ) (t : CType) → slice_get old.regs r ≡ Some t → slice_get new.regs r ≡ Some t
  pub less : (q : LaneCall) → HasWritten q new → HasWritten q old

-- code with so many registers and masks may come
pub record CanEmit (e : Emitter) (names : List Named) (u : Under) (more : ℕ) : Type 0 where
  pub homes : AreHomes (written_of e) names
  pub params : e.params ≤ length e.regs.items
  pub running : u.mask < u.free
  pub masks : u.free ≤ e.masks
  pub room : length e.regs.items + e.masks + more < 65536

-- as many parameters, the same calls, and at most so many registers and masks more
pub record HasGrown (old new : Emitter) (more : ℕ) : Type 0 where
  pub params : new.params ≡ old.params
  pub slots : (written_of new).slots ≡ (written_of old).slots
  pub masks : old.masks ≤ new.masks
  pub registers : length old.regs.items ≤ length new.regs.items
  pub count : length new.regs.items + new.masks ≤ length old.regs.items + old.masks + more

-- ---- expressions

-- the code of the expression has come behind, wherever the names are variables; its number is in place d
pub record EmitsNumber (old new : Written) (names : List Named) (e : Tree) (d : Place) (u : Under) : Type 0 where
  pub code : (scope : Scope) (tb : Table) → AreNames names scope tb → IsTableOf old tb (length old.regs) → AddsTree old new scope tb e d.ty d.register u.mask u.free
  pub typed : (scope : Scope) (tb : Table) → AreNames names scope tb → HasNumber scope e d.ty
  pub place : IsPlace new d
  pub grows : Grows old new

-- the same for an expression that gives a pointer
pub record EmitsPointer (old new : Written) (names : List Named) (e : Tree) (d : Pointer) (u : Under) : Type 0 where
  pub code : (scope : Scope) (tb : Table) → AreNames names scope tb → IsTableOf old tb (length old.regs) →
      AddsPointerTree old new scope tb e d.to d.written d.register u.mask u.free
  pub typed : (scope : Scope) (tb : Table) → AreNames names scope tb → typing_of scope e ≡ PointerTo d.to d.written
  pub place : IsPointerPlace new d
  pub moving : d.moves ≡ true → MayMove old d.to d.written
  pub grows : Grows old new

-- The same for a pointer to a place in memory. The value of the place is what is loaded from there.
pub record EmitsPlace (old new : Written) (names : List Named) (e : Tree) (d : Pointer) (u : Under) : Type 0 where
  pub code : (scope : Scope) (tb : Table) → AreNames names scope tb → IsTableOf old tb (length old.regs) →
      AddsPlace old new scope tb e d.to d.written d.register u.mask u.free
  pub typed : (scope : Scope) (tb : Table) → AreNames names scope tb → typing_of scope e ≡ Cell d.to d.written
  pub value : (scope : Scope) (tb : Table) → AreNames names scope tb → (c : Context) (vs : Variables) (w : World) →
      value_of c scope vs e w ≡ and_then (address_of c scope vs e) (loaded c.arrays d.to) w
  pub parts : 1 + part_nodes e ≤ nodes_of e
  pub place : IsPointerPlace new d
  pub moving : d.moves ≡ true → MayMove old d.to d.written
  pub grows : Grows old new

-- a pointer to elements of this type
pub record IsPointerTo (scope : Scope) (e : Tree) (to : Ty) : Type 0 where
  pub written : Bool
  pub is : typing_of scope e ≡ PointerTo to written

-- a place that has an element of this type
pub record IsElementOf (scope : Scope) (e : Tree) (to : Ty) : Type 0 where
  pub written : Bool
  pub is : typing_of scope e ≡ Cell to written
