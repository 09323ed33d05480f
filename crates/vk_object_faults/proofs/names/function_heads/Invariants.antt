use Rattle.std.proofs.Common.{◌≡◌, ℕ, ◌+◌, ◌<◌, ◌==◌, count_by, get_or, length, map, take}
use Rattle.std.specs.List.{sum_by}
use Rattle.vk_code.specs.Valid.{callee_of as callee_of_head}
use Rattle.vk_object.specs.Objects.{callee_of}
use Rattle.vk_object_format.specs.Values.{function_of}
use Rattle.vk_object_faults.proofs.names.function_heads.Given as goal

abbrev pub invariant-loop-function : goal.invariant-loop-function
invariant-loop-function l = map callee_of_head l.heads.items ≡ map callee_of (map function_of (take l.function-index l.functions))
