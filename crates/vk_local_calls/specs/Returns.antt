-- The `return` statements of functions with directives (C17 6.8.6.4).
use Rattle.std.specs.Prelude.{◌≡◌, ℕ, Bool, false, List, Option, Some, None}
use Rattle.vk_kinds.specs.declared.heads.CType.{CType}
use Rattle.vk_kinds.specs.declared.heads.CType.TheVariants.{Void}
use Rattle.vk_ast.specs.Tree.{Tree}
use Rattle.vk_ast.specs.Statements.{StmtTree, StmtTrees, block, if_only, if_else, while_loop, do_loop, for_loop, return_value, no_stmts, more_stmts}
use Rattle.vk_rules_book.specs.Rules.{Subject}
use Rattle.vk_meaning.specs.Types.{is_pointer_type}
use Rattle.vk_meaning.specs.Programs.{Definition}
use Rattle.vk_meaning_laws.specs.Tame.{IsLaneFunction}

-- without a value only where the function is void
abbrev pub IsRightReturn : CType → Option Tree → Type 0
IsRightReturn result None = result ≡ Void
IsRightReturn result (Some e) = Unit {0}

-- each `return` outside simd loops is right
abbrev mutual
  pub HasRightReturns : CType → StmtTree → Type 0
  HasRightReturns result (block l k ss) = AllHaveRightReturns result ss
  HasRightReturns result (if_only l k test first) = HasRightReturns result first
  HasRightReturns result (if_else l k test first second) = HasRightReturns result first × HasRightReturns result second
  HasRightReturns result (while_loop l k test body) = HasRightReturns result body
  HasRightReturns result (do_loop l k body test) = HasRightReturns result body
  HasRightReturns result (for_loop l k first test third body) =
      HasRightReturns result first × HasRightReturns result third × HasRightReturns result body
  HasRightReturns result (return_value l k e) = IsRightReturn result e
  HasRightReturns result _ = Unit {0}

  pub AllHaveRightReturns : CType → StmtTrees → Type 0
  AllHaveRightReturns result no_stmts = Unit {0}
  AllHaveRightReturns result (more_stmts s ss) = HasRightReturns result s × AllHaveRightReturns result ss

-- the functions of which `lane` holds return no pointers, and have right returns
pub record HaveRightReturns (units : List Subject) (lane : List ℕ → Bool) : Type 0 where
  pub no_pointer : (text : List ℕ) (d : Definition) → IsLaneFunction units lane text d → is_pointer_type d.function.result ≡ false
  pub body : (text : List ℕ) (d : Definition) → IsLaneFunction units lane text d → HasRightReturns d.function.result d.body
