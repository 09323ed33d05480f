-- How long a code may be, by its text: loops, instructions, calls, registers and masks. No number of lanes occurs in these bounds.
use Rattle.std.specs.Prelude.{◌≡◌, ℕ, ◌+◌, ◌*◌, ◌<◌, ◌≤◌, ◌==◌, Bool, true, false, cond, List, [], ◌∷◌, length, Option, Some}
use Rattle.vk_ast.specs.Tree.{nodes_of}
use Rattle.vk_ast.specs.Statements.{StmtTree, StmtTrees, block, if_only, if_else, while_loop, do_loop, for_loop, simd, no_stmts, more_stmts, stmt_nodes, optional_nodes}
use Rattle.vk_ast.specs.Units.{function_nodes}
use Rattle.vk_meaning.specs.Guards.{named_bases}
use Rattle.vk_meaning.specs.Programs.{Definition, first_point}
use Rattle.vk_code.specs.declared.instruction.Instr.{Instr}
use Rattle.vk_code.specs.declared.instruction.Operation.{Operation}
use Rattle.vk_code.specs.declared.instruction.Operation.TheVariants.{Loop, Call, SimdLoop}
use Rattle.vk_code.specs.Instruction.{operation_of}
use Rattle.vk_code.specs.Listing.{Routine}
use Rattle.vk_sites.specs.Loops.{LoopText, loops_of}

-- ---- a text

-- its loops outside the bodies of simd loops, which aren't counted themselves
abbrev mutual
  pub plain_loops : StmtTree → ℕ
  plain_loops (block l k ss) = plain_loops_all ss
  plain_loops (if_only l k test first) = plain_loops first
  plain_loops (if_else l k test first second) = plain_loops first + plain_loops second
  plain_loops (while_loop l k test body) = 1 + plain_loops body
  plain_loops (do_loop l k body test) = 1 + plain_loops body
  plain_loops (for_loop l k first test third body) = 1 + plain_loops body
  plain_loops _ = 0

  pub plain_loops_all : StmtTrees → ℕ
  plain_loops_all no_stmts = 0
  plain_loops_all (more_stmts s ss) = plain_loops s + plain_loops_all ss

-- its nodes outside the bodies of simd loops
abbrev mutual
  pub outer_nodes : StmtTree → ℕ
  outer_nodes (block l k ss) = 1 + outer_nodes_all ss
  outer_nodes (if_only l k test first) = 1 + nodes_of test + outer_nodes first
  outer_nodes (if_else l k test first second) = 1 + nodes_of test + outer_nodes first + outer_nodes second
  outer_nodes (while_loop l k test body) = 1 + nodes_of test + outer_nodes body
  outer_nodes (do_loop l k body test) = 1 + outer_nodes body + nodes_of test
  outer_nodes (for_loop l k first test third body) = 1 + outer_nodes first + optional_nodes test + outer_nodes third + outer_nodes body
  outer_nodes (simd l k d body) = 1 + head_nodes body
  outer_nodes s = stmt_nodes s

  pub outer_nodes_all : StmtTrees → ℕ
  outer_nodes_all no_stmts = 0
  outer_nodes_all (more_stmts s ss) = outer_nodes s + outer_nodes_all ss

  -- the head of the loop behind a `simd` line
  pub head_nodes : StmtTree → ℕ
  head_nodes (for_loop l k first test third body) = 1 + stmt_nodes first + optional_nodes test + stmt_nodes third
  head_nodes s = stmt_nodes s

-- the bases of simd loops
abbrev pub base_count : List LoopText → ℕ
base_count [] = 0
base_count (l ∷ ls) = length (named_bases l.inside l.body) + base_count ls

-- ---- a code

abbrev pub is_loop : Option Operation → Bool
is_loop (Some (Loop count)) = true
is_loop _ = false

abbrev pub is_simd_loop : Option Operation → Bool
is_simd_loop (Some (SimdLoop number)) = true
is_simd_loop _ = false

abbrev pub is_call : (slot : ℕ) → Option Operation → Bool
is_call k (Some (Call slot)) = slot == k
is_call k _ = false

-- how many instructions are such
abbrev pub count_of : (Option Operation → Bool) → List Instr → ℕ
count_of p [] = 0
count_of p (i ∷ is) = cond (p (operation_of i)) 1 0 + count_of p is

-- each slot stands in a call
abbrev pub AreCalled : Routine → Type 0
AreCalled c = (k : ℕ) → k < length c.slots → 0 < count_of (is_call k) c.instrs

-- what a text has: loops, simd loops and their bases, nodes outside the bodies of simd loops, and nodes in all
pub record Size : Type 0 where
  pub loops : ℕ
  pub simd_loops : ℕ
  pub bases : ℕ
  pub outer : ℕ
  pub nodes : ℕ

-- the code of a text of this size
pub record IsShort (c : Routine) (s : Size) : Type 0 where
  pub loops : count_of is_loop c.instrs ≡ s.loops
  pub simd_loops : count_of is_simd_loop c.instrs ≡ s.simd_loops
  pub instructions : length c.instrs ≤ 16 * s.outer + s.bases
  pub called : AreCalled c
  pub registers : length c.regs + c.masks ≤ 192 + 4 * s.nodes

-- a simd loop's body has no simd loops
abbrev pub body_size : StmtTree → Size
body_size body = record { loops = plain_loops body; simd_loops = 0; bases = 0; outer = stmt_nodes body; nodes = stmt_nodes body }

-- the simd loops of a definition
abbrev pub own_loops : Definition → List LoopText
own_loops d = loops_of (first_point d) d.body

-- a definition; its parameters count as nodes
abbrev pub function_size : Definition → Size
function_size d = record {
  loops = plain_loops d.body;
  simd_loops = length (own_loops d);
  bases = base_count (own_loops d);
  outer = length d.function.params + outer_nodes d.body;
  nodes = function_nodes d.function;
}
