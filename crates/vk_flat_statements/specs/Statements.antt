-- The code of statements on integer variables.
use Rattle.std.specs.Prelude.{◌≡◌, ℕ, ◌+◌, ◌*◌, ◌≤◌, false, List, length, Option}
use Rattle.vk_kinds.specs.declared.heads.CType.{CType}
use Rattle.vk_ast.specs.Statements.{StmtTree, StmtTrees, stmt_nodes, all_stmt_nodes}
use Rattle.vk_ast.specs.Tree.{Tree, nodes_of}
use Rattle.vk_rules_book.specs.Scopes.{Scope}
use Rattle.vk_meaning.specs.Expressions.{Context}
use Rattle.vk_meaning.specs.Points.{Point}
use Rattle.vk_meaning.specs.Statements.{Effect, run, run_all}
use Rattle.vk_rules_book.specs.Visits.{after, after_all}
use Rattle.vk_construct.specs.Adds.{Adds, IsTableOf, Splits, Written}
use Rattle.vk_construct.specs.Computes.{Table}
use Rattle.vk_construct_statements.specs.Follows.{Guards, IsFront, ReturnPlace}
use Rattle.vk_construct_statements.specs.Statements.{AddsStatement}
use Rattle.vk_flat.specs.declared.emitter.Emitter.{Emitter}
use Rattle.vk_flat.specs.declared.emitter.Place.{Place}
use Rattle.vk_flat.specs.declared.locals.Local.{Local}
use Rattle.vk_flat.specs.Emitters.{IsPlace, written_of}
use Rattle.vk_flat.specs.Locals.{AreLocals, ArePlaces, Emits}
use Rattle.vk_flat_statements.specs.Frames.{AreBehind, HasGrown, return_place}

-- a program as a function of this result sees it
abbrev pub returning : CType → Context → Context
returning t c = record c { result = t }

-- a point in a block
abbrev pub inner_point : Scope → (loops : ℕ) → Point
inner_point scope loops = record { scope = scope; shares = false; loops = loops }

-- the names are variables of the scope, each of which has a register of its own
pub record StandFor (w : Written) (locals : List Local) (scope : Scope) (tb : Table) : Type 0 where
  pub names : AreLocals locals scope tb
  pub count : tb.count ≡ length scope.inner
  pub registers : IsTableOf w tb (length w.regs)

-- code of this effect has come behind, with these names in the scope behind it
pub record Leaves (old new : Written) (behind : List Local) (scope' : Scope) (v : ReturnPlace) (tb : Table) (effect : Context → Effect) (m : Guards) (size depth : ℕ) : Type 0 where
  pub table : Table
  pub front : IsFront tb table
  pub code : AddsStatement old new v tb table effect m size depth
  pub stand : StandFor new behind scope' table

-- The code of the statement has come behind, wherever the names stand for the variables; behind it the second ones do.
pub record EmitsStatement (old new : Written) (locals behind : List Local) (v : ReturnPlace) (s : StmtTree) (m : Guards) (depth : ℕ) : Type 0 where
  pub code : (scope : Scope) (loops : ℕ) (tb : Table) → StandFor old locals scope tb →
      Leaves old new behind (after false scope s) v tb (λ c. run (returning v.ty c) (inner_point scope loops) s) m (16 * stmt_nodes s) depth
  pub kept : (x : Place) → IsPlace old x → IsPlace new x

-- the same for statements one after another
pub record EmitsAll (old new : Written) (locals behind : List Local) (v : ReturnPlace) (ss : StmtTrees) (m : Guards) (depth : ℕ) : Type 0 where
  pub code : (scope : Scope) (loops : ℕ) (tb : Table) → StandFor old locals scope tb →
      Leaves old new behind (after_all scope ss) v tb (λ c. run_all (returning v.ty c) (inner_point scope loops) ss) m (16 * all_stmt_nodes ss) depth
  pub kept : (x : Place) → IsPlace old x → IsPlace new x

-- ---- what has come behind, with all that is needed to go on

-- a statement's code; the names behind it have registers
pub record Compiles (old new : Emitter) (locals behind : List Local) (returned : Option Place) (s : StmtTree) (m : Guards) : Type 0 where
  pub code : EmitsStatement (written_of old) (written_of new) locals behind (return_place returned) s m 0
  pub places : ArePlaces (written_of new) behind
  pub names : AreBehind locals s behind
  pub grown : HasGrown old new (stmt_nodes s)

-- the number of a condition, and the masks of two branches: the lanes where it is not 0, and the others
pub record Divides (old new : Emitter) (locals : List Local) (e : Tree) (m : Guards) : Type 0 where
  pub between : Written
  pub place : Place
  pub value : Emits (written_of old) between locals e place (record { mask = m.running; free = m.free })
  pub split : Adds between (written_of new) (Splits m.running m.free place.register) 2 0
  pub params : new.params ≡ old.params
  pub slots : (written_of new).slots ≡ (written_of old).slots
  pub free : m.free + 2 ≤ new.masks
  pub masks : old.masks ≤ new.masks
  pub registers : length old.regs.items ≤ length new.regs.items
  pub count : length new.regs.items + new.masks ≤ length old.regs.items + old.masks + 4 * nodes_of e + 2
