-- The calls that stand in a text, in the order of the text.
use Rattle.std.specs.Prelude.{Bool, true, false, not, ◌&&◌, ◌||◌, List, [], ◌∷◌, ◌++◌, Option, Some, None}
use Rattle.vk_kinds.specs.declared.heads.CType.TheVariants.{Int}
use Rattle.vk_ast.specs.declared.names.NameId.{NameId}
use Rattle.vk_ast.specs.declared.expressions.BinOp.{BinOp}
use Rattle.vk_ast.specs.declared.expressions.BinOp.TheVariants.{LogAnd, LogOr}
use Rattle.vk_ast.specs.Tree.{Tree, Trees, int, name, index, deref, addr, unary, binary, choice, cast, call, no_trees, more_trees}
use Rattle.vk_ast.specs.Statements.{StmtTree, StmtTrees, block, local, assign, value, if_only, if_else, while_loop, do_loop, for_loop, continue_loop, return_value, simd, no_stmts, more_stmts}
use Rattle.vk_rules_book.specs.Scopes.{Scope, with_binding}
use Rattle.vk_meaning.specs.Points.{Point, past, branch_point, head_point, block_point, behind, loops_in}

-- a call: what is visible where it stands, whether it is made whenever its text is run, the function and the arguments
pub record CallText : Type 0 where
  pub scope : Scope
  pub always : Bool
  pub callee : NameId
  pub arguments : Trees

-- ---- expressions

-- the right operand of `&&` and `||` is not always evaluated (C17 6.5.13, 6.5.14)
abbrev pub skips : BinOp → Bool
skips LogAnd = true
skips LogOr = true
skips _ = false

-- The calls of an expression that is always evaluated, or isn't. A call stands before those in its arguments.
abbrev mutual
  pub calls_in : Scope → (always : Bool) → Tree → List CallText
  calls_in scope b (int l k t n) = []
  calls_in scope b (name l k id) = []
  calls_in scope b (index l k base subscript) = calls_in scope b base ++ calls_in scope b subscript
  calls_in scope b (deref l k operand) = calls_in scope b operand
  calls_in scope b (addr l k operand) = calls_in scope b operand
  calls_in scope b (unary l k op operand) = calls_in scope b operand
  calls_in scope b (binary l k op left right) = calls_in scope b left ++ calls_in scope (b && not (skips op)) right
  calls_in scope b (choice l k condition first second) =
      calls_in scope b condition ++ (calls_in scope false first ++ calls_in scope false second)
  calls_in scope b (cast l k t operand) = calls_in scope b operand
  calls_in scope b (call l k id arguments) = record { scope = scope; always = b; callee = id; arguments = arguments } ∷ calls_in_all scope b arguments

  pub calls_in_all : Scope → (always : Bool) → Trees → List CallText
  calls_in_all scope b no_trees = []
  calls_in_all scope b (more_trees e es) = calls_in scope b e ++ calls_in_all scope b es

abbrev pub calls_in_optional : Scope → (always : Bool) → Option Tree → List CallText
calls_in_optional scope b None = []
calls_in_optional scope b (Some e) = calls_in scope b e

-- ---- jumps

-- a `return` stands in the statement
abbrev mutual
  pub returns : StmtTree → Bool
  returns (block l k ss) = any_returns ss
  returns (if_only l k c first) = returns first
  returns (if_else l k c first second) = returns first || returns second
  returns (while_loop l k c body) = returns body
  returns (do_loop l k body c) = returns body
  returns (for_loop l k first c third body) = returns body
  returns (return_value l k e) = true
  returns _ = false

  pub any_returns : StmtTrees → Bool
  any_returns no_stmts = false
  any_returns (more_stmts s ss) = returns s || any_returns ss

-- a `continue` stands in the statement that belongs to a loop around it (C17 6.8.6.2)
abbrev mutual
  pub continues : StmtTree → Bool
  continues (block l k ss) = any_continues ss
  continues (if_only l k c first) = continues first
  continues (if_else l k c first second) = continues first || continues second
  continues (continue_loop l k) = true
  continues _ = false

  pub any_continues : StmtTrees → Bool
  any_continues no_stmts = false
  any_continues (more_stmts s ss) = continues s || any_continues ss

-- what stands behind this statement is still always run
abbrev pub goes_on : Bool → StmtTree → Bool
goes_on b s = b && not (returns s || continues s)

-- ---- statements

-- The calls of a statement. The condition of an `if` is no branch; all that stands in a loop may be left out or repeated. Of a simd
-- loop only the head counts: its body is a text of its own.
abbrev mutual
  pub calls_of : Point → (always : Bool) → StmtTree → List CallText
  calls_of p b (block l k ss) = calls_of_all (block_point p) b ss
  calls_of p b (local l k t fixed id init) = calls_in_optional (with_binding p.scope id (Int t) fixed) b init
  calls_of p b (assign l k op place e) = calls_in p.scope b place ++ calls_in p.scope b e
  calls_of p b (value l k e) = calls_in p.scope b e
  calls_of p b (if_only l k test first) = calls_in p.scope b test ++ calls_of (branch_point p) false first
  calls_of p b (if_else l k test first second) =
      calls_in p.scope b test ++ (calls_of (branch_point p) false first ++ calls_of (branch_point (past (loops_in first) p)) false second)
  calls_of p b (while_loop l k test body) = calls_in p.scope false test ++ calls_of (branch_point p) false body
  calls_of p b (do_loop l k body test) = calls_of (branch_point p) false body ++ calls_in p.scope false test
  calls_of p b (for_loop l k first test third body) =
      calls_of (head_point p) false first
      ++ (calls_in_optional (behind (head_point p) first).scope false test
      ++ (calls_of (behind (head_point p) first) false third ++ calls_of (branch_point (behind (head_point p) first)) false body))
  calls_of p b (return_value l k e) = calls_in_optional p.scope b e
  calls_of p b (simd l k d body) = calls_of_simd (branch_point (past 1 p)) body
  calls_of p b _ = []

  pub calls_of_all : Point → (always : Bool) → StmtTrees → List CallText
  calls_of_all p b no_stmts = []
  calls_of_all p b (more_stmts s ss) = calls_of p b s ++ calls_of_all (behind p s) (goes_on b s) ss

  -- those of the head of the loop behind a `simd` line
  pub calls_of_simd : Point → StmtTree → List CallText
  calls_of_simd p (for_loop l k first test third body) =
      calls_of (head_point p) false first
      ++ (calls_in_optional (behind (head_point p) first).scope false test ++ calls_of (behind (head_point p) first) false third)
  calls_of_simd p _ = []
