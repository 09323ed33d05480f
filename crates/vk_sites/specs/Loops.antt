-- The simd loops of a text, in the order of the text.
use Rattle.std.specs.Prelude.{ℕ, List, [], ◌∷◌, ◌++◌, length, Option}
use Rattle.vk_ast.specs.Statements.{StmtTree, StmtTrees, block, if_only, if_else, while_loop, do_loop, for_loop, simd, no_stmts, more_stmts}
use Rattle.vk_rules_book.specs.Signatures.{simdlen_in}
use Rattle.vk_meaning.specs.Points.{Point, past, branch_point, head_point, block_point, behind, loops_in}

-- a simd loop
pub record LoopText : Type 0 where
  -- how many lanes its line asks for
  pub simdlen : Option ℕ
  -- the point before the loop, which counts it already, so that it tells the loop's number; and that of its body
  pub outside : Point
  pub inside : Point
  pub body : StmtTree

-- the number of the loop's variable: the first one behind those that are visible outside
abbrev pub variable_number : LoopText → ℕ
variable_number l = length l.outside.scope.inner

abbrev mutual
  pub loops_of : Point → StmtTree → List LoopText
  loops_of p (block l k ss) = loops_of_all (block_point p) ss
  loops_of p (if_only l k test first) = loops_of (branch_point p) first
  loops_of p (if_else l k test first second) = loops_of (branch_point p) first ++ loops_of (branch_point (past (loops_in first) p)) second
  loops_of p (while_loop l k test body) = loops_of (branch_point p) body
  loops_of p (do_loop l k body test) = loops_of (branch_point p) body
  loops_of p (for_loop l k first test third body) =
      loops_of (head_point p) first
      ++ (loops_of (behind (head_point p) first) third ++ loops_of (branch_point (behind (head_point p) first)) body)
  loops_of p (simd l k d body) = loops_of_simd (branch_point (past 1 p)) (simdlen_in d.clauses) body
  loops_of p _ = []

  pub loops_of_all : Point → StmtTrees → List LoopText
  loops_of_all p no_stmts = []
  loops_of_all p (more_stmts s ss) = loops_of p s ++ loops_of_all (behind p s) ss

  -- the loop behind a `simd` line
  pub loops_of_simd : Point → Option ℕ → StmtTree → List LoopText
  loops_of_simd p n (for_loop l k first test third body) =
      record { simdlen = n; outside = p; inside = branch_point (behind (head_point p) first); body = body }
      ∷ (loops_of (head_point p) first
      ++ (loops_of (behind (head_point p) first) third ++ loops_of (branch_point (behind (head_point p) first)) body))
  loops_of_simd p n _ = []
