-- Counts that the code keeps up to a limit.
use Rattle.std.specs.Prelude.{ℕ, min, Option, None}
use Rattle.vk_ast.specs.Units.{FunctionTree, ItemTree, function, object, lost_line, function_nodes}
use Rattle.vk_rules_book.specs.Items.{length_of}

-- a sum of which only matters whether it passes 40000
abbrev pub up_to_limit : ℕ → ℕ
up_to_limit n = min n 40001

-- the nodes of a function, or 4294967295 where there are more
abbrev pub nodes_told : FunctionTree → ℕ
nodes_told f = min (function_nodes f) 4294967295

-- the length of an item that is an array and has one
abbrev pub length_of_item : ItemTree → Option ℕ
length_of_item (function f) = None
length_of_item (object o) = length_of o
length_of_item (lost_line d) = None
