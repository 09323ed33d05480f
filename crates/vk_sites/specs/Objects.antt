-- The objects of file scope that a text names.
use Rattle.std.specs.Prelude.{List, [], ◌∷◌, ◌++◌, Option, Some, None}
use Rattle.vk_kinds.specs.declared.heads.CType.TheVariants.{Int}
use Rattle.vk_ast.specs.declared.names.NameId.{NameId}
use Rattle.vk_ast.specs.Tree.{Tree, Trees, int, name, index, deref, addr, unary, binary, choice, cast, call, no_trees, more_trees}
use Rattle.vk_ast.specs.Statements.{StmtTree, StmtTrees, block, local, assign, value, if_only, if_else, while_loop, do_loop, for_loop, return_value, simd, no_stmts, more_stmts}
use Rattle.vk_rules_book.specs.Scopes.{Scope, Meaning, an_object, meaning_of, with_binding}
use Rattle.vk_meaning.specs.Points.{Point, past, branch_point, head_point, block_point, behind, loops_in}

abbrev pub object_name : Option Meaning → NameId → List NameId
object_name (Some (an_object t is_array fixed)) id = id ∷ []
object_name _ id = []

abbrev mutual
  pub objects_in : Scope → Tree → List NameId
  objects_in scope (int l k t n) = []
  objects_in scope (name l k id) = object_name (meaning_of scope id) id
  objects_in scope (index l k base subscript) = objects_in scope base ++ objects_in scope subscript
  objects_in scope (deref l k operand) = objects_in scope operand
  objects_in scope (addr l k operand) = objects_in scope operand
  objects_in scope (unary l k op operand) = objects_in scope operand
  objects_in scope (binary l k op left right) = objects_in scope left ++ objects_in scope right
  objects_in scope (choice l k condition first second) = objects_in scope condition ++ (objects_in scope first ++ objects_in scope second)
  objects_in scope (cast l k t operand) = objects_in scope operand
  objects_in scope (call l k id arguments) = objects_in_all scope arguments

  pub objects_in_all : Scope → Trees → List NameId
  objects_in_all scope no_trees = []
  objects_in_all scope (more_trees e es) = objects_in scope e ++ objects_in_all scope es

abbrev pub objects_in_optional : Scope → Option Tree → List NameId
objects_in_optional scope None = []
objects_in_optional scope (Some e) = objects_in scope e

-- those of a statement, the bodies of its simd loops included
abbrev mutual
  pub objects_of : Point → StmtTree → List NameId
  objects_of p (block l k ss) = objects_of_all (block_point p) ss
  objects_of p (local l k t fixed id init) = objects_in_optional (with_binding p.scope id (Int t) fixed) init
  objects_of p (assign l k op place e) = objects_in p.scope place ++ objects_in p.scope e
  objects_of p (value l k e) = objects_in p.scope e
  objects_of p (if_only l k test first) = objects_in p.scope test ++ objects_of (branch_point p) first
  objects_of p (if_else l k test first second) =
      objects_in p.scope test ++ (objects_of (branch_point p) first ++ objects_of (branch_point (past (loops_in first) p)) second)
  objects_of p (while_loop l k test body) = objects_in p.scope test ++ objects_of (branch_point p) body
  objects_of p (do_loop l k body test) = objects_of (branch_point p) body ++ objects_in p.scope test
  objects_of p (for_loop l k first test third body) =
      objects_of (head_point p) first
      ++ (objects_in_optional (behind (head_point p) first).scope test
      ++ (objects_of (behind (head_point p) first) third ++ objects_of (branch_point (behind (head_point p) first)) body))
  objects_of p (return_value l k e) = objects_in_optional p.scope e
  objects_of p (simd l k d body) = objects_of_simd (branch_point (past 1 p)) body
  objects_of p _ = []

  pub objects_of_all : Point → StmtTrees → List NameId
  objects_of_all p no_stmts = []
  objects_of_all p (more_stmts s ss) = objects_of p s ++ objects_of_all (behind p s) ss

  -- those of the loop behind a `simd` line
  pub objects_of_simd : Point → StmtTree → List NameId
  objects_of_simd p (for_loop l k first test third body) =
      objects_of (head_point p) first
      ++ (objects_in_optional (behind (head_point p) first).scope test
      ++ (objects_of (behind (head_point p) first) third ++ objects_of (branch_point (behind (head_point p) first)) body))
  objects_of_simd p _ = []
