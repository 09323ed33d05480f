-- Where each number of one type is one of the other, so are its least and its greatest.
use Rattle.std.proofs.Common.{◌≡◌, true, ◌&&◌, ℤ, ◌≤ℤ◌, int_le, arith, rules, ap₂}
use Rattle.std.proofs.lemmas.Int.{ints}
use Rattle.vk_types.specs.declared.types.Ty.{Ty}
use Rattle.vk_types.specs.Conversions.{greatest_of, least_of}
use Rattle.vk_types.specs.Numbers.{IsInRange}
use Rattle.vk_types.proofs.laws.ranges.Goals as goal

least_in : (t : Ty) → IsInRange t (least_of t)
least_in t = search rules

greatest_in : (t : Ty) → IsInRange t (greatest_of t)
greatest_in t = search rules

lower : (t : Ty) (z : ℤ) → IsInRange t z → least_of t ≤ℤ z
lower t z h = search rules

upper : (t : Ty) (z : ℤ) → IsInRange t z → z ≤ℤ greatest_of t
upper t z h = search rules

int_le-true : (x y : ℤ) → x ≤ℤ y → int_le x y ≡ true
int_le-true x y h = grind (arith, ints)

pub returns-clause-all : goal.returns-clause-all
returns-clause-all c = λ t s all. ap₂ (λ a b. a && b) (int_le-true (least_of t) (least_of s) (lower t (least_of s) (all (least_of s) (least_in s))))
    (int_le-true (greatest_of s) (greatest_of t) (upper t (greatest_of s) (all (greatest_of s) (greatest_in s))))
