-- Statements on integer variables, and the names behind them.
use Rattle.std.specs.Prelude.{Bool, true, false, not, ◌&&◌, List, [], ◌∷◌, ◌++◌, Option, Some, None, is_some}
use Rattle.vk_types.specs.declared.types.Ty.{Ty}
use Rattle.vk_ast.specs.declared.expressions.BinOp.{BinOp}
use Rattle.vk_ast.specs.declared.names.NameId.{NameId}
use Rattle.vk_ast.specs.Statements.{StmtTree, StmtTrees, empty, block, local, assign, value, if_only, if_else, while_loop, do_loop, for_loop, break_loop, continue_loop, return_value, simd, no_stmts, more_stmts}
use Rattle.vk_ast.specs.Tree.{Tree, name}
use Rattle.vk_numbers.specs.Laws.{is_logical}
use Rattle.vk_flat.specs.declared.locals.Local.{Local}
use Rattle.vk_flat.specs.Locals.{is_numeric, local_named}

-- with a name more; what it is does not depend on its register
abbrev pub with_name : List Local → NameId → Ty → List Local
with_name locals id t = locals ++ record { name = id; place = record { register = 0; ty = t } } ∷ []

-- the names behind a statement
abbrev pub names_behind : List Local → StmtTree → List Local
names_behind locals (local l k t fixed id init) = with_name locals id t
names_behind locals s = locals

-- a variable
abbrev pub is_variable : List Local → Tree → Bool
is_variable locals (name l k id) = is_some (local_named locals id)
is_variable locals e = false

-- `=`, or an operator before it
abbrev pub is_assigning : Option BinOp → Bool
is_assigning None = true
is_assigning (Some op) = not (is_logical op)

-- a numeric expression, where there is one
abbrev pub is_numeric_or_none : List Local → Option Tree → Bool
is_numeric_or_none locals None = true
is_numeric_or_none locals (Some e) = is_numeric locals e

-- what `return` has behind it, where functions have a result, and where they have none
abbrev pub is_returned : List Local → (valued : Bool) → Option Tree → Bool
is_returned locals valued None = not valued
is_returned locals valued (Some e) = valued && is_numeric locals e

-- a statement without statements in it
abbrev pub is_leaf : StmtTree → Bool
is_leaf (block l k ss) = false
is_leaf (if_only l k test first) = false
is_leaf (if_else l k test first second) = false
is_leaf (while_loop l k test body) = false
is_leaf (do_loop l k body test) = false
is_leaf (for_loop l k first test third body) = false
is_leaf (simd l k d body) = false
is_leaf s = true

-- a statement on these names, without loops, memory and calls
abbrev mutual
  pub is_flat : (valued : Bool) → List Local → StmtTree → Bool
  is_flat valued locals (empty l k) = true
  is_flat valued locals (block l k ss) = are_flat valued locals ss
  is_flat valued locals (local l k t fixed id init) = is_numeric_or_none (with_name locals id t) init
  is_flat valued locals (assign l k op place e) = is_assigning op && is_variable locals place && is_numeric locals e
  is_flat valued locals (value l k e) = is_numeric locals e
  is_flat valued locals (if_only l k test first) = is_numeric locals test && is_flat valued locals first
  is_flat valued locals (if_else l k test first second) = is_numeric locals test && is_flat valued locals first && is_flat valued locals second
  is_flat valued locals (break_loop l k) = true
  is_flat valued locals (continue_loop l k) = true
  is_flat valued locals (return_value l k e) = is_returned locals valued e
  is_flat valued locals s = false

  pub are_flat : (valued : Bool) → List Local → StmtTrees → Bool
  are_flat valued locals no_stmts = true
  are_flat valued locals (more_stmts s ss) = is_flat valued locals s && are_flat valued (names_behind locals s) ss
