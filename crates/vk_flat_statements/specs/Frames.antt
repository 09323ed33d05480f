-- What an emitter of statements needs, and what it leaves.
use Rattle.std.specs.Prelude.{◌≡◌, ℕ, ◌+◌, ◌*◌, ◌≤◌, ◌<◌, List, [], ◌∷◌, ◌++◌, length, Option, Some, None}
use Rattle.vk_types.specs.declared.types.Ty.{Ty}
use Rattle.vk_ast.specs.declared.names.NameId.{NameId}
use Rattle.vk_ast.specs.Statements.{StmtTree, local}
use Rattle.vk_kinds.specs.declared.heads.CType.TheVariants.{Int, Void}
use Rattle.vk_construct_statements.specs.Follows.{AreApart, Guards, ReturnPlace}
use Rattle.vk_flat.specs.declared.emitter.Emitter.{Emitter}
use Rattle.vk_flat.specs.declared.emitter.Place.{Place}
use Rattle.vk_flat.specs.declared.locals.Local.{Local}
use Rattle.vk_flat.specs.Emitters.{IsPlace, written_of}
use Rattle.vk_flat.specs.Locals.{ArePlaces}
use Rattle.vk_flat_statements.specs.declared.guards.Guards as code

-- the masks
abbrev pub guards_of : code.Guards → Guards
guards_of g = record { running = g.running; looping = g.looping; staying = g.staying; free = g.free }

-- where the result goes; functions of no result leave none
abbrev pub return_place : Option Place → ReturnPlace
return_place None = record { reg = 0; ty = Void }
return_place (Some d) = record { reg = d.register; ty = Int d.ty }

-- the result has a register of its type
abbrev pub HasPlace : Emitter → Option Place → Type 0
HasPlace e v = (d : Place) → v ≡ Some d → IsPlace (written_of e) d

-- code of so many nodes may come
pub record IsReady (e : Emitter) (locals : List Local) (m : Guards) (nodes : ℕ) : Type 0 where
  pub places : ArePlaces (written_of e) locals
  pub params : e.params ≤ length e.regs.items
  pub apart : AreApart m
  pub some_run : 0 < m.running
  pub some_loop : 0 < m.looping
  pub some_stay : 0 < m.staying
  pub masks : m.free ≤ e.masks
  pub room : length e.regs.items + e.masks + 4 * nodes < 65536

-- as many parameters, the same calls, and at most four registers and masks a node
pub record HasGrown (old new : Emitter) (nodes : ℕ) : Type 0 where
  pub params : new.params ≡ old.params
  pub slots : (written_of new).slots ≡ (written_of old).slots
  pub masks : old.masks ≤ new.masks
  pub registers : length old.regs.items ≤ length new.regs.items
  pub count : length new.regs.items + new.masks ≤ length old.regs.items + old.masks + 4 * nodes

-- the names, and one more of this type
pub record HasName (old : List Local) (id : NameId) (t : Ty) (new : List Local) : Type 0 where
  pub place : Place
  pub ty : place.ty ≡ t
  pub names : new ≡ old ++ record { name = id; place = place } ∷ []

-- the names behind a statement, which may declare one
abbrev pub AreBehind : List Local → StmtTree → List Local → Type 0
AreBehind old (local l k t fixed id init) new = HasName old id t new
AreBehind old s new = new ≡ old
