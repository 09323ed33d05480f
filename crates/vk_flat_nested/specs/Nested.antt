-- The code of branches, and of statements one after another.
use Rattle.std.specs.Prelude.{◌≡◌, ℕ, ◌*◌, List, ◌++◌, Option}
use Rattle.vk_ast.specs.Statements.{StmtTree, StmtTrees, all_stmt_nodes, stmt_nodes}
use Rattle.vk_rules_book.specs.Scopes.{Scope, inside}
use Rattle.vk_meaning.specs.Statements.{run}
use Rattle.vk_construct.specs.Computes.{Table}
use Rattle.vk_construct_statements.specs.Follows.{Guards}
use Rattle.vk_construct_statements.specs.Statements.{AddsStatement}
use Rattle.vk_flat.specs.declared.emitter.Emitter.{Emitter}
use Rattle.vk_flat.specs.declared.emitter.Place.{Place}
use Rattle.vk_flat.specs.declared.locals.Local.{Local}
use Rattle.vk_flat.specs.Emitters.{IsPlace, written_of}
use Rattle.vk_flat_statements.specs.Frames.{HasGrown, return_place}
use Rattle.vk_flat_statements.specs.Statements.{EmitsAll, StandFor, inner_point, returning}

-- A branch's code has come behind; the names before it are those behind it.
pub record CompilesBranch (old new : Emitter) (locals : List Local) (returned : Option Place) (s : StmtTree) (m : Guards) : Type 0 where
  pub code : (scope : Scope) (loops : ℕ) (tb : Table) → StandFor (written_of old) locals scope tb →
      AddsStatement (written_of old) (written_of new) (return_place returned) tb tb (λ c. run (returning (return_place returned).ty c) (inner_point (inside scope) loops) s) m (16 * stmt_nodes s) 0
  pub kept : (x : Place) → IsPlace (written_of old) x → IsPlace (written_of new) x
  pub grown : HasGrown old new (stmt_nodes s)

-- The code of statements has come behind; what they declare comes behind the names before them.
pub record CompilesAll (old new : Emitter) (locals behind : List Local) (returned : Option Place) (ss : StmtTrees) (m : Guards) : Type 0 where
  pub code : EmitsAll (written_of old) (written_of new) locals behind (return_place returned) ss m 0
  pub more : List Local
  pub front : behind ≡ locals ++ more
  pub grown : HasGrown old new (all_stmt_nodes ss)
