-- Counts up to a limit.
use Rattle.std.proofs.Common.{◌≡◌, ℕ, ◌+◌, ◌&&◌, min, nat_le, nat_lt, arith}
use Rattle.std.proofs.lemmas.Bool.Decides.{nat_tests}

pub told_nodes : (n : ℕ) → min (min n 4294967295) 40001 ≡ min n 40001
told_nodes n = omega arith

pub told_weight : (n : ℕ) → min (min n 4294967295 + 16) 40001 ≡ min (n + 16) 40001
told_weight n = omega arith

pub passes_told : (a b : ℕ) → (nat_le (min a 40001) 40000 && nat_lt 40000 (min a 40001 + min b 40001)) ≡ (nat_le a 40000 && nat_lt 40000 (a + b))
passes_told a b = grind (arith, nat_tests)

pub sum_told : (a b : ℕ) → min (min a 40001 + min b 40001) 40001 ≡ min (a + b) 40001
sum_told a b = omega arith
