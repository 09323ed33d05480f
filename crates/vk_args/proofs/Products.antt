-- Bounds of a product.
use Rattle.std.proofs.Common.{◌≡◌, ℕ, ◌*◌, ◌^◌, ◌≤◌, ℤ, pos, neg_ℤ, ◌*ℤ◌, ◌≤ℤ◌, FitsSigned, to_z, of_z, to_z-of_z, ap₂, ◌∙◌, arith, rules, subst, sym}
use Rattle.std.specs.Prelude.{unsigned_abs}
use Rattle.std.specs.Int.{w128}
use Rattle.std.proofs.Math.Nat.{mul-le-mul}
use Rattle.std.proofs.lemmas.Int.{unsigned_abs-mul}
use Rattle.std.proofs.lemmas.Int.{ints}

within : (z : ℤ) (n : ℕ) → neg_ℤ (pos n) ≤ℤ z → z ≤ℤ pos n → unsigned_abs z ≤ n
within z n h k = omega (arith, ints, h, k)

-- the sizes of the factors bound that of the product
pub product_within : (a b : ℤ) (m n : ℕ) → neg_ℤ (pos m) ≤ℤ a → a ≤ℤ pos m → neg_ℤ (pos n) ≤ℤ b → b ≤ℤ pos n → unsigned_abs (a *ℤ b) ≤ m * n
product_within a b m n h k i j = subst (λ x. x ≤ m * n) (sym (unsigned_abs-mul a b)) (mul-le-mul (within a m h k) (within b n i j))

-- a product of small factors within 128 bits
pub small_product : (a b : ℤ) → neg_ℤ (pos (2 ^ 8)) ≤ℤ a → a ≤ℤ pos (2 ^ 8) → neg_ℤ (pos (2 ^ 64)) ≤ℤ b → b ≤ℤ pos (2 ^ 64) → (neg_ℤ (pos (2 ^ 72)) ≤ℤ (a *ℤ b)) × ((a *ℤ b) ≤ℤ pos (2 ^ 72))
small_product a b h k i j = let s : unsigned_abs (a *ℤ b) ≤ 2 ^ 72 = product_within a b (2 ^ 8) (2 ^ 64) h k i j in (omega (arith, ints, s), omega (arith, ints, s))

pub product_fits : (a b : ℤ) → neg_ℤ (pos (2 ^ 8)) ≤ℤ a → a ≤ℤ pos (2 ^ 8) → neg_ℤ (pos (2 ^ 64)) ≤ℤ b → b ≤ℤ pos (2 ^ 64) → FitsSigned w128 (a *ℤ b)
product_fits a b h k i j = let s = small_product a b h k i j in let l = s.0 in let m = s.1 in search (rules, l, m)

pub product_back : (a b : ℤ) → FitsSigned w128 a → FitsSigned w128 b → neg_ℤ (pos (2 ^ 8)) ≤ℤ a → a ≤ℤ pos (2 ^ 8) → neg_ℤ (pos (2 ^ 64)) ≤ℤ b → b ≤ℤ pos (2 ^ 64) → to_z w128 (of_z w128 (to_z w128 (of_z w128 a) *ℤ to_z w128 (of_z w128 b))) ≡ a *ℤ b
product_back a b f g h k i j =
    ap₂ (λ x y. to_z w128 (of_z w128 (x *ℤ y))) (to_z-of_z f) (to_z-of_z g) ∙ to_z-of_z (product_fits a b h k i j)
