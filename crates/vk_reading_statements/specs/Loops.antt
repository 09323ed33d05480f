-- The parts of a loop.
use Rattle.std.specs.Prelude.{Option, Some, None}
use Rattle.vk_ast.specs.Tree.{Tree, binary}
use Rattle.vk_ast.specs.Statements.{StmtTree, local, while_loop, do_loop, for_loop}
use Rattle.vk_ast.specs.declared.expressions.BinOp.TheVariants.{Lt}
use Rattle.vk_meaning.specs.Points.{Point, branch_point}
use Rattle.vk_meaning.specs.Expressions.{Context}
use Rattle.vk_meaning.specs.Statements.{Effect, fell, with_third, run}

-- the condition of a loop
abbrev pub test_in : StmtTree → Option Tree
test_in (while_loop l k test body) = Some test
test_in (do_loop l k body test) = Some test
test_in (for_loop l k first test third body) = test
test_in _ = None

-- one turn of a loop: its body, and the third part of a `for`
abbrev pub turn_of : Context → Point → StmtTree → Effect
turn_of c p (while_loop l k test body) = run c (branch_point p) body
turn_of c p (do_loop l k body test) = run c (branch_point p) body
turn_of c p (for_loop l k first test third body) = with_third (run c (branch_point p) body) (run c p third)
turn_of c p _ = fell

-- the upper bound of a loop with the head `for (T i = LO; i < HI; ..)`
abbrev pub upper_bound : (first : StmtTree) → (test : Option Tree) → Option Tree
upper_bound (local l k t fixed id init) (Some (binary l1 k1 Lt left high)) = Some high
upper_bound first test = None
