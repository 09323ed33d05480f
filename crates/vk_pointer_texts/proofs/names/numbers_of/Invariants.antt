use Rattle.std.proofs.Common.{◌≡◌, ℕ, List, bytes_eq, map, position, take}
use Rattle.vk_pointer_texts.specs.Heads.{array_of}
use Rattle.vk_pointer_texts.specs.Inner.Noted.{noted}
use Rattle.vk_pointer_texts.proofs.names.numbers_of.Given as goal

abbrev pub invariant-loop-number : goal.invariant-loop-number
invariant-loop-number l = (t : List ℕ) → noted l.table t ≡ position (λ a. bytes_eq a.text t) (map array_of (take l.number l.heads))
