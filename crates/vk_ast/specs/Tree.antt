-- Expressions as trees without pointers, each node with the line and the number of its first token.
use Rattle.std.specs.Prelude.{ℕ, ◌+◌, List, [], ◌∷◌}
use Rattle.vk_types.specs.declared.types.Ty.{Ty}
use Rattle.vk_ast.specs.declared.names.NameId.{NameId}
use Rattle.vk_ast.specs.declared.expressions.UnOp.{UnOp}
use Rattle.vk_ast.specs.declared.expressions.BinOp.{BinOp}
use Rattle.vk_ast.specs.declared.expressions.Expr.{Expr}
use Rattle.vk_ast.specs.declared.expressions.ExprKind.{ExprKind, Int, Name, Index', Deref', Addr', Unary', Binary', Cond', Cast', Call', Row_of-Expr, end_of-Expr, more_of-Expr}

mutual
  pub data Tree : Type 0 where
    int : (line token : ℕ) → Ty → (value : ℕ) → Tree
    name : (line token : ℕ) → NameId → Tree
    index : (line token : ℕ) → (base subscript : Tree) → Tree
    deref : (line token : ℕ) → Tree → Tree
    addr : (line token : ℕ) → Tree → Tree
    unary : (line token : ℕ) → UnOp → Tree → Tree
    binary : (line token : ℕ) → BinOp → (left right : Tree) → Tree
    choice : (line token : ℕ) → (condition first second : Tree) → Tree
    cast : (line token : ℕ) → Ty → Tree → Tree
    call : (line token : ℕ) → NameId → Trees → Tree

  -- a list of trees
  pub data Trees : Type 0 where
    no_trees : Trees
    more_trees : Tree → Trees → Trees

-- the tree of an expression, and those of a row of expressions
abbrev mutual
  pub kind_of : ExprKind → ℕ → ℕ → Tree
  kind_of (Int t value) l k = int l k t value
  kind_of (Name id) l k = name l k id
  kind_of (Index' p l1 k1 base q l2 k2 subscript) l k = index l k (kind_of base l1 k1) (kind_of subscript l2 k2)
  kind_of (Deref' p l1 k1 operand) l k = deref l k (kind_of operand l1 k1)
  kind_of (Addr' p l1 k1 operand) l k = addr l k (kind_of operand l1 k1)
  kind_of (Unary' op p l1 k1 operand) l k = unary l k op (kind_of operand l1 k1)
  kind_of (Binary' op p l1 k1 left q l2 k2 right) l k = binary l k op (kind_of left l1 k1) (kind_of right l2 k2)
  kind_of (Cond' p l1 k1 c q l2 k2 a r l3 k3 b) l k = choice l k (kind_of c l1 k1) (kind_of a l2 k2) (kind_of b l3 k3)
  kind_of (Cast' t p l1 k1 operand) l k = cast l k t (kind_of operand l1 k1)
  kind_of (Call' id shape row) l k = call l k id (trees_of row)

  pub trees_of : {m : _} → Row_of-Expr m → Trees
  trees_of end_of-Expr = no_trees
  trees_of (more_of-Expr l k kind rest) = more_trees (kind_of kind l k) (trees_of rest)

abbrev pub expr_of : Expr → Tree
expr_of e = kind_of e.kind e.line e.token

-- the trees of a list of expressions
abbrev pub exprs_of : List Expr → Trees
exprs_of [] = no_trees
exprs_of (e ∷ es) = more_trees (expr_of e) (exprs_of es)

-- how many nodes a tree has, and those of a list
abbrev mutual
  pub nodes_of : Tree → ℕ
  nodes_of (int l k t value) = 1
  nodes_of (name l k id) = 1
  nodes_of (index l k base subscript) = 1 + nodes_of base + nodes_of subscript
  nodes_of (deref l k operand) = 1 + nodes_of operand
  nodes_of (addr l k operand) = 1 + nodes_of operand
  nodes_of (unary l k op operand) = 1 + nodes_of operand
  nodes_of (binary l k op left right) = 1 + nodes_of left + nodes_of right
  nodes_of (choice l k condition first second) = 1 + nodes_of condition + nodes_of first + nodes_of second
  nodes_of (cast l k t operand) = 1 + nodes_of operand
  nodes_of (call l k id arguments) = 1 + all_nodes arguments

  pub all_nodes : Trees → ℕ
  all_nodes no_trees = 0
  all_nodes (more_trees e es) = nodes_of e + all_nodes es
