-- Statements as trees without pointers, each node with the line and the number of its first token or of the declared name.
use Rattle.std.specs.Prelude.{ℕ, ◌+◌, Bool, Option, Some, None, List, [], ◌∷◌}
use Rattle.std.specs.Option.{option_map}
use Rattle.vk_types.specs.declared.types.Ty.{Ty}
use Rattle.vk_ast.specs.declared.names.NameId.{NameId}
use Rattle.vk_ast.specs.declared.expressions.BinOp.{BinOp}
use Rattle.vk_ast.specs.declared.statements.Stmt.{Stmt}
use Rattle.vk_ast.specs.declared.statements.StmtKind.{StmtKind, Empty, Block', Local, Assign, Value, If', While', Do', For', Break, Continue, Return, Simd', Lost, Row_of-Stmt, end_of-Stmt, more_of-Stmt, Held-StmtKind-If-2, None', Some'}
use Rattle.vk_ast.specs.Tree.{Tree, expr_of, nodes_of}
use Rattle.vk_ast.specs.Directives.{DirectiveTree, directive_of}

mutual
  pub data StmtTree : Type 0 where
    empty : (line token : ℕ) → StmtTree
    block : (line token : ℕ) → StmtTrees → StmtTree
    local : (line token : ℕ) → Ty → (fixed : Bool) → NameId → Option Tree → StmtTree
    assign : (line token : ℕ) → Option BinOp → (place operand : Tree) → StmtTree
    value : (line token : ℕ) → Tree → StmtTree
    if_only : (line token : ℕ) → (condition : Tree) → (first : StmtTree) → StmtTree
    if_else : (line token : ℕ) → (condition : Tree) → (first second : StmtTree) → StmtTree
    while_loop : (line token : ℕ) → (condition : Tree) → (body : StmtTree) → StmtTree
    do_loop : (line token : ℕ) → (body : StmtTree) → (condition : Tree) → StmtTree
    for_loop : (line token : ℕ) → (first : StmtTree) → (condition : Option Tree) → (third body : StmtTree) → StmtTree
    break_loop : (line token : ℕ) → StmtTree
    continue_loop : (line token : ℕ) → StmtTree
    return_value : (line token : ℕ) → Option Tree → StmtTree
    simd : (line token : ℕ) → DirectiveTree → StmtTree → StmtTree
    lost : (line token : ℕ) → DirectiveTree → StmtTree

  -- a list of statements
  pub data StmtTrees : Type 0 where
    no_stmts : StmtTrees
    more_stmts : StmtTree → StmtTrees → StmtTrees

-- the tree of a statement, and those of a row of statements
abbrev mutual
  pub stmt_kind_of : StmtKind → ℕ → ℕ → StmtTree
  stmt_kind_of Empty l k = empty l k
  stmt_kind_of (Block' shape row) l k = block l k (stmts_of row)
  stmt_kind_of (Local t fixed id init) l k = local l k t fixed id (option_map expr_of init)
  stmt_kind_of (Assign op place operand) l k = assign l k op (expr_of place) (expr_of operand)
  stmt_kind_of (Value e) l k = value l k (expr_of e)
  stmt_kind_of (If' c p l1 k1 first second) l k = with_else l k (expr_of c) (stmt_kind_of first l1 k1) second
  stmt_kind_of (While' c p l1 k1 body) l k = while_loop l k (expr_of c) (stmt_kind_of body l1 k1)
  stmt_kind_of (Do' p l1 k1 body c) l k = do_loop l k (stmt_kind_of body l1 k1) (expr_of c)
  stmt_kind_of (For' p l1 k1 first c q l2 k2 third r l3 k3 body) l k =
      for_loop l k (stmt_kind_of first l1 k1) (option_map expr_of c) (stmt_kind_of third l2 k2) (stmt_kind_of body l3 k3)
  stmt_kind_of Break l k = break_loop l k
  stmt_kind_of Continue l k = continue_loop l k
  stmt_kind_of (Return e) l k = return_value l k (option_map expr_of e)
  stmt_kind_of (Simd' d p l1 k1 body) l k = simd l k (directive_of d) (stmt_kind_of body l1 k1)
  stmt_kind_of (Lost d) l k = lost l k (directive_of d)

  pub with_else : ℕ → ℕ → Tree → StmtTree → Held-StmtKind-If-2 → StmtTree
  with_else l k c first None' = if_only l k c first
  with_else l k c first (Some' p l1 k1 second) = if_else l k c first (stmt_kind_of second l1 k1)

  pub stmts_of : {m : _} → Row_of-Stmt m → StmtTrees
  stmts_of end_of-Stmt = no_stmts
  stmts_of (more_of-Stmt l k kind rest) = more_stmts (stmt_kind_of kind l k) (stmts_of rest)

abbrev pub stmt_of : Stmt → StmtTree
stmt_of s = stmt_kind_of s.kind s.line s.token

-- the trees of a list of statements
abbrev pub list_stmts : List Stmt → StmtTrees
list_stmts [] = no_stmts
list_stmts (s ∷ ss) = more_stmts (stmt_of s) (list_stmts ss)

abbrev pub optional_nodes : Option Tree → ℕ
optional_nodes None = 0
optional_nodes (Some e) = nodes_of e

-- How many nodes a statement has: each statement and each expression in it is one, but for those of directives. A local
-- variable is one more.
abbrev mutual
  pub stmt_nodes : StmtTree → ℕ
  stmt_nodes (empty l k) = 1
  stmt_nodes (block l k ss) = 1 + all_stmt_nodes ss
  stmt_nodes (local l k t fixed id init) = 2 + optional_nodes init
  stmt_nodes (assign l k op place operand) = 1 + nodes_of place + nodes_of operand
  stmt_nodes (value l k e) = 1 + nodes_of e
  stmt_nodes (if_only l k c first) = 1 + nodes_of c + stmt_nodes first
  stmt_nodes (if_else l k c first second) = 1 + nodes_of c + stmt_nodes first + stmt_nodes second
  stmt_nodes (while_loop l k c body) = 1 + nodes_of c + stmt_nodes body
  stmt_nodes (do_loop l k body c) = 1 + stmt_nodes body + nodes_of c
  stmt_nodes (for_loop l k first c third body) = 1 + stmt_nodes first + optional_nodes c + stmt_nodes third + stmt_nodes body
  stmt_nodes (break_loop l k) = 1
  stmt_nodes (continue_loop l k) = 1
  stmt_nodes (return_value l k e) = 1 + optional_nodes e
  stmt_nodes (simd l k d body) = 1 + stmt_nodes body
  stmt_nodes (lost l k d) = 1

  pub all_stmt_nodes : StmtTrees → ℕ
  all_stmt_nodes no_stmts = 0
  all_stmt_nodes (more_stmts s ss) = stmt_nodes s + all_stmt_nodes ss
