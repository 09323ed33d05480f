use Rattle.std.proofs.Common.{◌≡◌, min, ◌+◌, take}
use Rattle.vk_ast.specs.Tree.{exprs_of, all_nodes}
use Rattle.vk_ast.proofs.nodes.+expr_nodes.Given as goal

abbrev pub invariant-loop-argument : goal.invariant-loop-argument
invariant-loop-argument l = l.nodes ≡ min (1 + all_nodes (exprs_of (take l.argument-index l.argument-items))) 4294967295
