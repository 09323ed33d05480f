-- Trees of statements as the grammar makes them, and what it asks of them.
use Rattle.std.specs.Prelude.{ℕ, suc, max, Bool, true, false, List, [], ◌∷◌, ◌++◌}
use Rattle.vk_types.specs.declared.types.Ty.TheVariants.{I32}
use Rattle.vk_ast.specs.Tree.{Tree}
use Rattle.vk_ast.specs.Statements.{StmtTree, StmtTrees}
use Rattle.vk_ast.specs.Directives.{ClauseTree, DirectiveTree}
use Rattle.vk_grammar_expr.specs.declared.symbols.Sym.{Sym}

-- the clauses of each directive, by its number
abbrev pub Clauses : Type 0
Clauses = ℕ → List ClauseTree

-- the directive of a line, by the token that stands for it
abbrev pub directive_at : Clauses → Sym → ℕ → DirectiveTree
directive_at clauses t n = record { line = t.line; token = t.at; number = n; clauses = clauses n }

abbrev pub stmts_in : List StmtTree → StmtTrees
stmts_in [] = StmtTrees.no_stmts
stmts_in (s ∷ rest) = StmtTrees.more_stmts s (stmts_in rest)

-- lists one after the other
abbrev pub joined : List (List StmtTree) → List StmtTree
joined [] = []
joined (list ∷ rest) = list ++ joined rest

-- The statement that several are where one is wanted: a block of them that begins at line `l` and token `k`.
abbrev pub single : (l k : ℕ) → List StmtTree → StmtTree
single l k [] = StmtTree.block l k StmtTrees.no_stmts
single l k (s ∷ []) = s
single l k (s ∷ (next ∷ rest)) = StmtTree.block l k (stmts_in (s ∷ (next ∷ rest)))

-- the 1 that `++` and `--` add or take away
abbrev pub unit_at : Sym → Tree
unit_at t = Tree.int t.line t.at I32 1

-- Whether an `else` behind the statement would belong to an `if` at its end.
abbrev pub is_open : StmtTree → Bool
is_open (StmtTree.if_only l k c first) = true
is_open (StmtTree.if_else l k c first second) = is_open second
is_open (StmtTree.while_loop l k c body) = is_open body
is_open (StmtTree.for_loop l k first c third body) = is_open body
is_open (StmtTree.simd l k d body) = is_open body
is_open (StmtTree.empty l k) = false
is_open (StmtTree.block l k list) = false
is_open (StmtTree.local l k t fixed id init) = false
is_open (StmtTree.assign l k op place operand) = false
is_open (StmtTree.value l k e) = false
is_open (StmtTree.do_loop l k body c) = false
is_open (StmtTree.break_loop l k) = false
is_open (StmtTree.continue_loop l k) = false
is_open (StmtTree.return_value l k e) = false
is_open (StmtTree.lost l k d) = false

-- How many statements stand one in the other, at most, the outermost counted.
abbrev mutual
  pub levels_of : StmtTree → ℕ
  levels_of (StmtTree.block l k list) = suc (all_levels list)
  levels_of (StmtTree.if_only l k c first) = suc (levels_of first)
  levels_of (StmtTree.if_else l k c first second) = suc (max (levels_of first) (levels_of second))
  levels_of (StmtTree.while_loop l k c body) = suc (levels_of body)
  levels_of (StmtTree.do_loop l k body c) = suc (levels_of body)
  levels_of (StmtTree.for_loop l k first c third body) = suc (max (levels_of first) (max (levels_of third) (levels_of body)))
  levels_of (StmtTree.simd l k d body) = suc (levels_of body)
  levels_of (StmtTree.empty l k) = 1
  levels_of (StmtTree.local l k t fixed id init) = 1
  levels_of (StmtTree.assign l k op place operand) = 1
  levels_of (StmtTree.value l k e) = 1
  levels_of (StmtTree.break_loop l k) = 1
  levels_of (StmtTree.continue_loop l k) = 1
  levels_of (StmtTree.return_value l k e) = 1
  levels_of (StmtTree.lost l k d) = 1

  pub all_levels : StmtTrees → ℕ
  all_levels StmtTrees.no_stmts = 0
  all_levels (StmtTrees.more_stmts s list) = max (levels_of s) (all_levels list)
