use Rattle.std.proofs.Common.{◌≡◌, ℕ, List, bytes_eq, map, position, take}
use Rattle.vk_reading_rows.specs.Objects.{array_seen}
use Rattle.vk_reading_rows.specs.Inner.Noted.{noted}
use Rattle.vk_reading_rows.proofs.numbers.numbers_of.Given as goal

abbrev pub invariant-loop-number : goal.invariant-loop-number
invariant-loop-number l = (t : List ℕ) → noted l.table t ≡ position (λ a. bytes_eq a.text t) (map array_seen (take l.number l.objects))
