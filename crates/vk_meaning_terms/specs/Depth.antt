-- Which functions a body calls, and how long chains of calls are.
use Rattle.std.specs.Prelude.{◌≡◌, ◌⊎◌, ℕ, zero, suc, true, List, Option, Some, None}
use Rattle.vk_ast.specs.declared.names.NameId.{NameId}
use Rattle.vk_ast.specs.Tree.{Tree, Trees, int, name, index, deref, addr, unary, binary, choice, cast, call, no_trees, more_trees}
use Rattle.vk_ast.specs.Statements.{StmtTree, StmtTrees, block, local, assign, value, if_only, if_else, while_loop, do_loop, for_loop, return_value, simd, no_stmts, more_stmts}
use Rattle.vk_rules_book.specs.Scopes.{text_of, is_print}
use Rattle.vk_rules_book.specs.Rules.{Subject}
use Rattle.vk_meaning.specs.Programs.{Definition, definition_of}

-- P holds of each function that is called
module _ (P : NameId → Type 0) where
  abbrev mutual
    pub EachCall : Tree → Type 0
    EachCall (int l k t n) = Unit {0}
    EachCall (name l k id) = Unit {0}
    EachCall (index l k base subscript) = EachCall base × EachCall subscript
    EachCall (deref l k operand) = EachCall operand
    EachCall (addr l k operand) = EachCall operand
    EachCall (unary l k op operand) = EachCall operand
    EachCall (binary l k op left right) = EachCall left × EachCall right
    EachCall (choice l k condition first second) = EachCall condition × EachCall first × EachCall second
    EachCall (cast l k t operand) = EachCall operand
    EachCall (call l k id arguments) = P id × EachCallOf arguments

    pub EachCallOf : Trees → Type 0
    EachCallOf no_trees = Unit {0}
    EachCallOf (more_trees e es) = EachCall e × EachCallOf es

  abbrev pub EachCallMaybe : Option Tree → Type 0
  EachCallMaybe None = Unit {0}
  EachCallMaybe (Some e) = EachCall e

  abbrev mutual
    pub EachCallIn : StmtTree → Type 0
    EachCallIn (block l k ss) = EachCallInAll ss
    EachCallIn (local l k t fixed id init) = EachCallMaybe init
    EachCallIn (assign l k op place e) = EachCall place × EachCall e
    EachCallIn (value l k e) = EachCall e
    EachCallIn (if_only l k test first) = EachCall test × EachCallIn first
    EachCallIn (if_else l k test first second) = EachCall test × EachCallIn first × EachCallIn second
    EachCallIn (while_loop l k test body) = EachCall test × EachCallIn body
    EachCallIn (do_loop l k body test) = EachCallIn body × EachCall test
    EachCallIn (for_loop l k first test third body) = EachCallIn first × EachCallMaybe test × EachCallIn third × EachCallIn body
    EachCallIn (return_value l k e) = EachCallMaybe e
    EachCallIn (simd l k d body) = EachCallInLoop body
    EachCallIn _ = Unit {0}

    -- what stands behind a `simd` line is a `for`
    pub EachCallInLoop : StmtTree → Type 0
    EachCallInLoop (for_loop l k first test third body) = EachCallIn first × EachCallMaybe test × EachCallIn third × EachCallIn body
    EachCallInLoop _ = Unit {0}

    pub EachCallInAll : StmtTrees → Type 0
    EachCallInAll no_stmts = Unit {0}
    EachCallInAll (more_stmts s ss) = EachCallIn s × EachCallInAll ss

-- the calls of a definition are of the built-in function and of functions of which P holds
abbrev pub EachCallee : (List ℕ → Type 0) → Option Definition → Type 0
EachCallee P None = Unit {0}
EachCallee P (Some d) = EachCallIn (λ id. (is_print d.unit.texts id ≡ true) ⊎ P (text_of d.unit.texts id)) d.body

-- each chain of calls from this function has at most so many functions
abbrev pub IsShallow : ℕ → List Subject → (text : List ℕ) → Type 0
IsShallow zero units text = ⊥
IsShallow (suc n) units text = EachCallee (IsShallow n units) (definition_of units text)
