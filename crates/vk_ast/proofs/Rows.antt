-- What trees see of rows of expressions and statements is what they see of lists.
use Rattle.std.proofs.Common.{◌≡◌, ℕ, ◌+◌, ◌<◌, List, [], ◌∷◌, ◌++◌, length, take, get_or, refl, sym, ap, ◌∙◌, arith}
use Rattle.std.proofs.lemmas.List.{take_more}
use Rattle.std.specs.Global.{Vec}
use Rattle.vk_ast.specs.declared.names.NameId.{NameId}
use Rattle.vk_ast.specs.declared.expressions.Expr.{Expr}
use Rattle.vk_ast.specs.declared.expressions.ExprKind.{Row_of-Expr, end_of-Expr, more_of-Expr, items-the_row-Expr, items_hidden-the_row-Expr-0}
use Rattle.vk_ast.specs.declared.expressions.ExprKind.TheBlock.{hidden-the_row-Expr-0}
use Rattle.vk_ast.specs.declared.expressions.ExprKind.TheVariants.{Call}
use Rattle.vk_ast.specs.declared.statements.Stmt.{Stmt}
use Rattle.vk_ast.specs.declared.statements.StmtKind.{Row_of-Stmt, end_of-Stmt, more_of-Stmt, items-the_row-Stmt, items_hidden-the_row-Stmt-0}
use Rattle.vk_ast.specs.declared.statements.StmtKind.TheBlock.{hidden-the_row-Stmt-0}
use Rattle.vk_ast.specs.declared.statements.StmtKind.TheVariants.{Block}
use Rattle.vk_ast.specs.Statements.{block, more_stmts, stmt_kind_of, stmts_of, stmt_of, list_stmts, stmt_nodes, all_stmt_nodes}
use Rattle.vk_ast.specs.Tree.{call, more_trees, kind_of, trees_of, exprs_of, expr_of, nodes_of, all_nodes}

row_trees : {m : _} (row : Row_of-Expr m) → trees_of row ≡ exprs_of (items-the_row-Expr m row)
row_trees end_of-Expr = refl
row_trees (more_of-Expr l k kind rest) = ap (more_trees (kind_of kind l k)) (row_trees rest)

-- a call is seen with the trees of its list of arguments
pub call_seen : (id : NameId) (line token : ℕ) (es : Vec Expr) → kind_of (Call id es) line token ≡ call line token id (exprs_of es.items)
call_seen id line token es = ap (call line token id) (row_trees (hidden-the_row-Expr-0 es) ∙ ap exprs_of (items_hidden-the_row-Expr-0 es))

-- ---- counts of nodes

one_more : (es : List Expr) (e : Expr) → all_nodes (exprs_of (es ++ e ∷ [])) ≡ all_nodes (exprs_of es) + nodes_of (expr_of e)
one_more [] e = omega arith
one_more (x ∷ es) e = omega (arith, one_more es e)

-- the nodes of one expression more of a list
pub next_nodes : (es : List Expr) (i : ℕ) (e : Expr) → i < length es → e ≡ get_or es i e
    → all_nodes (exprs_of (take (i + 1) es)) ≡ all_nodes (exprs_of (take i es)) + nodes_of (expr_of e)
next_nodes es i e below is =
    ap (λ xs. all_nodes (exprs_of xs)) (take_more es i e below ∙ ap (λ x. take i es ++ x ∷ []) (sym is)) ∙ one_more (take i es) e

-- the nodes of a call
pub call_nodes : (id : NameId) (line token : ℕ) (es : Vec Expr) → nodes_of (kind_of (Call id es) line token) ≡ 1 + all_nodes (exprs_of es.items)
call_nodes id line token es = ap nodes_of (call_seen id line token es)

-- ---- statements

row_stmts : {m : _} (row : Row_of-Stmt m) → stmts_of row ≡ list_stmts (items-the_row-Stmt m row)
row_stmts end_of-Stmt = refl
row_stmts (more_of-Stmt l k kind rest) = ap (more_stmts (stmt_kind_of kind l k)) (row_stmts rest)

-- a block is seen with the trees of its list of statements
pub block_seen : (line token : ℕ) (ss : Vec Stmt) → stmt_kind_of (Block ss) line token ≡ block line token (list_stmts ss.items)
block_seen line token ss = ap (block line token) (row_stmts (hidden-the_row-Stmt-0 ss) ∙ ap list_stmts (items_hidden-the_row-Stmt-0 ss))

one_more_stmt : (ss : List Stmt) (s : Stmt) → all_stmt_nodes (list_stmts (ss ++ s ∷ [])) ≡ all_stmt_nodes (list_stmts ss) + stmt_nodes (stmt_of s)
one_more_stmt [] s = omega arith
one_more_stmt (x ∷ ss) s = omega (arith, one_more_stmt ss s)

-- the nodes of one statement more of a list
pub next_stmt_nodes : (ss : List Stmt) (i : ℕ) (s : Stmt) → i < length ss → s ≡ get_or ss i s
    → all_stmt_nodes (list_stmts (take (i + 1) ss)) ≡ all_stmt_nodes (list_stmts (take i ss)) + stmt_nodes (stmt_of s)
next_stmt_nodes ss i s below is =
    ap (λ xs. all_stmt_nodes (list_stmts xs)) (take_more ss i s below ∙ ap (λ x. take i ss ++ x ∷ []) (sym is)) ∙ one_more_stmt (take i ss) s

-- the nodes of a block
pub block_nodes : (line token : ℕ) (ss : Vec Stmt) → stmt_nodes (stmt_kind_of (Block ss) line token) ≡ 1 + all_stmt_nodes (list_stmts ss.items)
block_nodes line token ss = ap stmt_nodes (block_seen line token ss)
