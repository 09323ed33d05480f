-- Bounds of steps, and what a linear argument's step is.
use Rattle.std.proofs.Common.{◌≡◌, ℕ, ◌+◌, ◌*◌, ◌^◌, ◌<◌, ◌≤◌, Bool, List, ℤ, pos, negsuc, neg_ℤ, ◌-ℤ◌, ◌+ℤ◌, ◌*ℤ◌, ◌≤ℤ◌, unsigned_abs, arith, refl, sym, subst, ap, ◌∙◌, Decides}
use Rattle.std.specs.Ordering.{int_eq}
use Rattle.std.proofs.lemmas.Bool.Decides.{Decides-int_eq}
use Rattle.std.proofs.lemmas.Int.{fits_signed_mul, ints, unsigned_abs-mul}
use mir.Val.{SFits}
use mir.Syntax.{w128}
use Rattle.std.proofs.lemmas.Nat.{mul-lt}
use Rattle.vk_types.specs.declared.types.Ty.{Ty}
use Rattle.vk_types.specs.Numbers.{wrap_number}
use Rattle.vk_kinds.specs.declared.heads.CType.{CType}
use Rattle.vk_kinds.specs.declared.heads.CType.TheVariants.{Void, Int, Ptr}
use Rattle.vk_kinds.specs.declared.kinds.Kind.{Kind}
use Rattle.vk_kinds.specs.declared.kinds.Kind.TheVariants.{Linear}
use Rattle.vk_kinds.specs.declared.kinds.Step.{Step}
use Rattle.vk_kinds.specs.declared.kinds.Step.TheVariants.{One, By}
use Rattle.vk_meaning.specs.Types.{type_at}
use Rattle.vk_meaning.specs.Lanes.{FitsFrom, IsMoved, Words, number_as, step_of}

abs_within : (z : ℤ) → neg_ℤ (pos (2 ^ 64)) ≤ℤ z → z ≤ℤ pos (2 ^ 64) → unsigned_abs z ≤ 2 ^ 64
abs_within (pos a) low high = omega (arith, ints)
abs_within (negsuc a) low high = omega (arith, ints)

abs_few : (z : ℤ) → neg_ℤ (pos 256) ≤ℤ z → z ≤ℤ pos 256 → unsigned_abs z ≤ 256
abs_few (pos a) low high = omega (arith, ints)
abs_few (negsuc a) low high = omega (arith, ints)

within_abs : (z : ℤ) → unsigned_abs z ≤ 2 ^ 73 → (neg_ℤ (pos (2 ^ 73)) ≤ℤ z) × (z ≤ℤ pos (2 ^ 73))
within_abs (pos a) h = (omega (arith, ints), omega (arith, ints))
within_abs (negsuc a) h = (omega (arith, ints), omega (arith, ints))

distance : (j k : ℕ) → j < 256 → k < 256 → unsigned_abs (pos j -ℤ pos k) ≤ 256
distance j k a b = omega (arith, ints)

product : (m n : ℕ) → m ≤ 256 → n ≤ 2 ^ 64 → m * n ≤ 2 ^ 73
product m n a b = let less : m * n < 257 * (2 ^ 64 + 1) = mul-lt m n 257 (2 ^ 64 + 1) (omega arith) (omega arith) in omega arith

-- they have 128 bits
pub product_fits : (a b : ℤ) → neg_ℤ (pos 256) ≤ℤ a → a ≤ℤ pos 256 → neg_ℤ (pos (2 ^ 64)) ≤ℤ b → b ≤ℤ pos (2 ^ 64) → SFits w128 (a *ℤ b)
product_fits a b low high least most = fits_signed_mul w128 a b 256 (2 ^ 64) (abs_few a low high) (abs_within b least most) (omega arith)

-- so many steps are in bounds
pub times_within : (j k : ℕ) (s : ℤ) → j < 256 → k < 256 → neg_ℤ (pos (2 ^ 64)) ≤ℤ s → s ≤ℤ pos (2 ^ 64) →
    (neg_ℤ (pos (2 ^ 73)) ≤ℤ ((pos j -ℤ pos k) *ℤ s)) × (((pos j -ℤ pos k) *ℤ s) ≤ℤ pos (2 ^ 73))
times_within j k s a b low high =
    within_abs ((pos j -ℤ pos k) *ℤ s)
    (subst (λ n. n ≤ 2 ^ 73) (sym (unsigned_abs-mul (pos j -ℤ pos k) s)) (product (unsigned_abs (pos j -ℤ pos k)) (unsigned_abs s) (distance j k a b) (abs_within s low high)))

-- a number is another one moved
pub moved_number : (r : Bool) (t : Ty) (to from by s m : ℤ) → s ≡ (from +ℤ by) → m ≡ wrap_number t s → r ≡ int_eq to m → Decides r (to ≡ wrap_number t (from +ℤ by))
moved_number r t to from by s m sum wraps equal =
    subst (λ b. Decides b (to ≡ wrap_number t (from +ℤ by))) (sym equal)
    (subst (λ n. Decides (int_eq to m) (to ≡ n)) (wraps ∙ ap (wrap_number t) sum) (Decides-int_eq to m))

-- a step of 1
pub one_step : (t : CType) (number_at : ℕ → ℤ) → step_of t (By (pos 1)) number_at ≡ step_of t One number_at
one_step Void number_at = refl
one_step (Int t) number_at = refl
one_step (Ptr to written) number_at = refl

-- a linear argument fits where its word is moved by so many steps
pub linear_fits : (r : Bool) (kind : Kind) (t u : CType) (ts : List CType) (words : Words) (p k j : ℕ) (step : Step) (by s : ℤ) (from to : ℕ) → kind ≡ Linear step → u ≡ t →
    s ≡ step_of u step (λ q. number_as (type_at ts q) (words q k)) → by ≡ ((pos j -ℤ pos k) *ℤ s) → from ≡ words p k → to ≡ words p j → Decides r (IsMoved u by from to) →
    Decides r (FitsFrom kind t ts words p k j)
linear_fits r kind t u ts words p k j step by s from to is same stepped product first second moved =
    let far : by ≡ ((pos j -ℤ pos k) *ℤ step_of t step (λ q. number_as (type_at ts q) (words q k))) =
    product ∙ ap (λ n. (pos j -ℤ pos k) *ℤ n) (stepped ∙ ap (λ v. step_of v step (λ q. number_as (type_at ts q) (words q k))) same) in
    subst (λ m. Decides r (FitsFrom m t ts words p k j)) (sym is)
    (subst (λ n. Decides r (IsMoved t n (words p k) (words p j))) far
    (subst (λ w. Decides r (IsMoved t by w (words p j))) first
    (subst (λ w. Decides r (IsMoved t by from w)) second
    (subst (λ v. Decides r (IsMoved v by from to)) same moved))))
