-- Pairs of lanes that meet, as tests.
use Rattle.std.specs.Prelude.{◌≡◌, ℕ, suc, zero, ◌+◌, ◌<◌, ◌≤◌, Bool, true, false, ◌&&◌, ◌||◌, List, length, Option, Some, None}
use Rattle.vk_kinds.specs.declared.heads.CType.{CType}
use Rattle.vk_meaning.specs.World.{Array}
use Rattle.vk_meaning.specs.Lanes.{Words}
use Rattle.vk_apart.specs.declared.reach.Reach.{Reach}
use Rattle.vk_apart.specs.Inner.Reaches.{meet, reach}

-- a test passes for some number below n
abbrev pub any_below : (n : ℕ) → (ℕ → Bool) → Bool
any_below zero f = false
any_below (suc n) f = any_below n f || f n

-- something is met by an argument of a lane
abbrev pub is_met : List CType → List Array → Words → Reach → (lane : ℕ) → Bool
is_met ts arrays words r lane = any_below (length ts) (λ q. meet r (reach ts arrays words q lane))

-- two lanes meet
abbrev pub lanes_meet : List CType → List Array → Words → (first second : ℕ) → Bool
lanes_meet ts arrays words first second = any_below (length ts) (λ p. is_met ts arrays words (reach ts arrays words p first) second)

-- and both are active
abbrev pub active_meet : List CType → List Array → Words → (mask : ℕ → Bool) → (first second : ℕ) → Bool
active_meet ts arrays words mask first second = mask first && (mask second && lanes_meet ts arrays words first second)

-- the first number from here on below n for which a test passes, or none
abbrev pub IsNext : (from n : ℕ) → (ℕ → Bool) → Option ℕ → Type 0
IsNext from n f None = (k : ℕ) → from ≤ k → k < n → f k ≡ false
IsNext from n f (Some j) = (from ≤ j) × (j < n) × (f j ≡ true) × ((k : ℕ) → from ≤ k → k < j → f k ≡ false)

-- no pair of numbers below n, the lesser first, passes a test, if the lesser is below i
abbrev pub NoneBefore : (i n : ℕ) → (ℕ → ℕ → Bool) → Type 0
NoneBefore i n f = (k l : ℕ) → k < i → k < l → l < n → f k l ≡ false

-- the least pair that passes a test, or none
abbrev pub IsLeast : (n : ℕ) → (ℕ → ℕ → Bool) → Option (ℕ × ℕ) → Type 0
IsLeast n f None = NoneBefore n n f
IsLeast n f (Some at) = (at.0 < n) × NoneBefore at.0 n f × IsNext (at.0 + 1) n (f at.0) (Some at.1)
