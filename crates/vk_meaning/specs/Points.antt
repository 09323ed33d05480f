-- Points of a function's text: what is visible there, as the rules of units have it (C17 6.2.1), and which simd loop comes next.
use Rattle.std.specs.Prelude.{ℕ, ◌+◌, Bool, true, false, cond, List, [], ◌∷◌, Option, Some, None}
use Rattle.std.specs.Option.{option_or}
use Rattle.vk_kinds.specs.declared.heads.CType.{CType}
use Rattle.vk_ast.specs.declared.names.NameId.{NameId}
use Rattle.vk_ast.specs.Statements.{StmtTree, StmtTrees, block, if_only, if_else, while_loop, do_loop, for_loop, simd, no_stmts, more_stmts}
use Rattle.vk_rules_book.specs.declared.contexts.Binding.{Binding}
use Rattle.vk_rules_book.specs.Scopes.{Scope, same_name, inside}
use Rattle.vk_rules_book.specs.Visits.{after, block_scope}

-- ---- variables

-- A parameter or a local variable: its number among those that are visible, from 0 in the order of their declarations, and its
-- type. Variables that are visible together have different numbers.
pub record Variable : Type 0 where
  pub number : ℕ
  pub ctype : CType

-- The variable that a name means (C17 6.2.1): the last declaration of it among these, which are numbered from `first` on. None
-- where the name means something of file scope.
abbrev pub variable_among : (first : ℕ) → List Binding → NameId → Option Variable
variable_among first [] id = None
variable_among first (b ∷ bs) id =
    option_or (variable_among (first + 1) bs id) (cond (same_name b.name id) (Some (record { number = first; ctype = b.ctype })) None)

-- the variable that a name means in a scope
abbrev pub variable_named : Scope → NameId → Option Variable
variable_named scope id = variable_among 0 scope.inner id

-- ---- simd loops

-- how many simd loops stand in a statement
abbrev mutual
  pub loops_in : StmtTree → ℕ
  loops_in (block l k ss) = loops_in_all ss
  loops_in (if_only l k c first) = loops_in first
  loops_in (if_else l k c first second) = loops_in first + loops_in second
  loops_in (while_loop l k c body) = loops_in body
  loops_in (do_loop l k body c) = loops_in body
  loops_in (for_loop l k first c third body) = loops_in body
  loops_in (simd l k d body) = loops_in body + 1
  loops_in _ = 0

  pub loops_in_all : StmtTrees → ℕ
  loops_in_all no_stmts = 0
  loops_in_all (more_stmts s ss) = loops_in s + loops_in_all ss

-- ---- points

-- A point before a statement: what is visible there, whether a block that stands there shares that scope, and how many simd loops
-- of the function stand before it in the text.
pub record Point : Type 0 where
  pub scope : Scope
  pub shares : Bool
  pub loops : ℕ

-- behind so many simd loops
abbrev pub past : ℕ → Point → Point
past n p = record p { loops = p.loops + n }

-- a branch, and the body of a loop: scopes of their own (C17 6.8.4, 6.8.5)
abbrev pub branch_point : Point → Point
branch_point p = record { scope = inside p.scope; shares = false; loops = p.loops }

-- the first part of a `for` (C17 6.8.5.3): several variables that are declared there are visible in the whole `for`, as one is
abbrev pub head_point : Point → Point
head_point p = record { scope = inside p.scope; shares = true; loops = p.loops }

-- the statements of a block (C17 6.8.2)
abbrev pub block_point : Point → Point
block_point p = record { scope = block_scope p.shares p.scope; shares = false; loops = p.loops }

-- behind a statement: what it declares is visible there
abbrev pub behind : Point → StmtTree → Point
behind p s = record { scope = after p.shares p.scope s; shares = false; loops = p.loops + loops_in s }
