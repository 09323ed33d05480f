-- Which words of a row a part of the work has written.
use Rattle.std.specs.Prelude.{ℕ, ◌≡◌, Bool, not, ◌&&◌, ◌||◌, ◌==◌, cond, List, nat_le, nat_lt}
use Rattle.vk_types.specs.declared.types.Word.{Word}
use Rattle.vk_lanes.specs.declared.mask.LaneMask.{LaneMask}
use Rattle.vk_lanes.specs.Masks.{is_on}
use Rattle.vk_lanes.specs.Words.{word_in}

abbrev pub is_between : ℕ → ℕ → ℕ → Bool
is_between low high i = nat_le low i && nat_lt i high

-- place i has `value i` from low on and below high, and what it had elsewhere
abbrev pub WritesFrom : ℕ → ℕ → (ℕ → ℕ) → List Word → List Word → Type 0
WritesFrom low high value old new = (i : ℕ) → word_in new i ≡ cond (is_between low high i) (value i) (word_in old i)

-- the same in the lanes that are on
abbrev pub chosen : (ℕ → Bool) → (ℕ → ℕ) → List Word → ℕ → ℕ
chosen on value old i = cond (on i) (value i) (word_in old i)

abbrev pub WritesOn : ℕ → ℕ → (ℕ → Bool) → (ℕ → ℕ) → List Word → List Word → Type 0
WritesOn low high on value old new = WritesFrom low high (chosen on value old) old new

-- a lane is on as well, where the flag is set
abbrev pub Marks : ℕ → Bool → LaneMask → LaneMask → Type 0
Marks lane flag old new = (j : ℕ) → is_on new j ≡ (is_on old j || (j == lane && flag))

-- lanes from low on and below high are set to whether their words are not 0, where the mask is on
abbrev pub picked : LaneMask → List Word → LaneMask → ℕ → Bool
picked mask a old i = cond (is_on mask i) (not (word_in a i == 0)) (is_on old i)

abbrev pub SetsOn : ℕ → ℕ → LaneMask → List Word → LaneMask → LaneMask → Type 0
SetsOn low high mask a old new = (i : ℕ) → is_on new i ≡ cond (is_between low high i) (picked mask a old i) (is_on old i)
