-- A result is the number that is made of its bits.
use Rattle.std.proofs.Common.{◌≡◌, ℕ, ◌+◌, ◌-◌, ◌%◌, ◌<◌, min, max, ℤ, Result, Ok, ap, refl, sym, ◌∙◌, arith, lit<}
use Rattle.std.proofs.Math.Nat.{mod-lt}
use Rattle.vk_types.specs.declared.types.Stop.{Stop}
use Rattle.vk_types.specs.Operators.{bit_of}
use Rattle.vk_types.proofs.Patterns.{bit_of-lt, bit_of_made}
use Rattle.vk_types.proofs.laws.bits.Goals as goal

less : (a : ℕ) → 1 - a < 2
less a = omega arith

lesser : (a b : ℕ) → a < 2 → min a b < 2
lesser a b h = omega arith

larger : (a b : ℕ) → a < 2 → b < 2 → max a b < 2
larger a b h i = omega arith

the_value : (x z : ℤ) (r s : Result ℤ Stop) → r ≡ Ok x → s ≡ Ok z → r ≡ s → x ≡ z
the_value x z r s e f g = cc

pub returns-clause-not : goal.returns-clause-not
returns-clause-not c = λ t x k h. bit_of_made t (λ i. 1 - bit_of x i) (λ i. less (bit_of x i)) k h

pub returns-clause-and : goal.returns-clause-and
returns-clause-and c = λ t x y z e k h. ap (λ n. bit_of n k) (sym (the_value _ z _ _ refl refl e))
    ∙ bit_of_made t (λ i. min (bit_of x i) (bit_of y i)) (λ i. lesser (bit_of x i) (bit_of y i) (bit_of-lt x i)) k h

pub returns-clause-or : goal.returns-clause-or
returns-clause-or c = λ t x y z e k h. ap (λ n. bit_of n k) (sym (the_value _ z _ _ refl refl e))
    ∙ bit_of_made t (λ i. max (bit_of x i) (bit_of y i)) (λ i. larger (bit_of x i) (bit_of y i) (bit_of-lt x i) (bit_of-lt y i)) k h

pub returns-clause-xor : goal.returns-clause-xor
returns-clause-xor c = λ t x y z e k h. ap (λ n. bit_of n k) (sym (the_value _ z _ _ refl refl e))
    ∙ bit_of_made t (λ i. (bit_of x i + bit_of y i) % 2) (λ i. mod-lt (bit_of x i + bit_of y i) (lit< tt)) k h
