-- The code of a function's body.
use Rattle.std.specs.Prelude.{◌≡◌, ◌+◌, ◌*◌, ◌≤◌, List, length, Some}
use Rattle.vk_kinds.specs.declared.heads.CType.TheVariants.{Int}
use Rattle.vk_ast.specs.Statements.{StmtTrees, all_stmt_nodes}
use Rattle.vk_rules_book.specs.Scopes.{Scope}
use Rattle.vk_meaning.specs.Statements.{run_all}
use Rattle.vk_construct.specs.Adds.{Adds, Written}
use Rattle.vk_construct.specs.Computes.{Table}
use Rattle.vk_construct_statements.specs.Statements.{AddsFunction, Meets}
use Rattle.vk_flat.specs.declared.emitter.Emitter.{Emitter}
use Rattle.vk_flat.specs.declared.emitter.Place.{Place}
use Rattle.vk_flat.specs.declared.locals.Local.{Local}
use Rattle.vk_flat.specs.Emitters.{IsPlace, written_of}
use Rattle.vk_flat_statements.specs.Statements.{StandFor, inner_point, returning}

-- the three masks of a body have come
pub record Begins (old new : Emitter) : Type 0 where
  pub one : Written
  pub two : Written
  pub first : Adds (written_of old) one (Meets 1 0 0) 1 0
  pub second : Adds one two (Meets 2 0 0) 1 0
  pub third : Adds two (written_of new) (Meets 3 0 0) 1 0
  pub params : new.params ≡ old.params
  pub slots : (written_of new).slots ≡ (written_of old).slots
  pub least : 4 ≤ new.masks
  pub most : new.masks ≤ old.masks + 3
  pub fewer : length old.regs.items ≤ length new.regs.items
  pub registers : length new.regs.items ≤ length old.regs.items

-- The statements of a body have come behind, wherever the names stand for its first variables: called on lanes, each does what a
-- function of this body does, with its result in place d.
pub record EmitsBody (old new : Written) (locals : List Local) (d : Place) (ss : StmtTrees) : Type 0 where
  pub code : (scope : Scope) (tb : Table) → StandFor old locals scope tb →
      AddsFunction old new tb (Int d.ty) (Some d.register) (λ c. run_all (returning (Int d.ty) c) (inner_point scope 0) ss) (16 * all_stmt_nodes ss + 4) 0
  pub place : IsPlace new d
