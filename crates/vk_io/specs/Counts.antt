-- Counts of faults. A name without a count has the count 0, and a count stays at 2 ^ 64 - 1 once there.
use Rattle.std.specs.Prelude.{◌≡◌, ◌≢◌, ℕ, ◌+◌, ◌-◌, ◌^◌, ◌≤◌, ◌⊎◌, zero, suc, List, [], ◌∷◌, Result, Ok, Err, min}
use Rattle.vk_io.specs.declared.outside.Outside.{Outside}
use Rattle.vk_io.specs.declared.outside.Outside.TheVariants.{Failed, Memory}

-- the next value of a count
abbrev pub next_count : ℕ → ℕ
next_count n = min (n + 1) (2 ^ 64 - 1)

-- the value of a count after so many more
abbrev pub count_after : ℕ → ℕ → ℕ
count_after n zero = n
count_after n (suc more) = next_count (count_after n more)

-- the count rose, or stands at its last value
abbrev pub Rose : ℕ → ℕ → Type 0
Rose before now = next_count before ≤ now

-- the name is one of these
abbrev pub IsOneOf : List (List ℕ) → List ℕ → Type 0
IsOneOf [] q = ⊥
IsOneOf (name ∷ names) q = (q ≡ name) ⊎ IsOneOf names q

-- no count fell, and only those of these names may have changed
pub record CountsOf (names : List (List ℕ)) (before now : List ℕ → ℕ) : Type 0 where
  pub later : (q : List ℕ) → before q ≤ now q
  pub others : (q : List ℕ) → (IsOneOf names q → ⊥) → now q ≡ before q

-- no count changed
abbrev pub SameCounts : (List ℕ → ℕ) → (List ℕ → ℕ) → Type 0
SameCounts before now = (q : List ℕ) → now q ≡ before q

-- the count of this name is the next one where the call failed, and no other count changed
abbrev pub CountsFailure : {T : Type 0} → Result T Outside → List ℕ → (List ℕ → ℕ) → (List ℕ → ℕ) → Type 0
CountsFailure (Ok x) name before now = SameCounts before now
CountsFailure (Err Failed) name before now = (now name ≡ next_count (before name)) × ((q : List ℕ) → q ≢ name → now q ≡ before q)
CountsFailure (Err Memory) name before now = SameCounts before now

-- the same of a lone count
abbrev pub CountsFault : {T : Type 0} → Result T Outside → ℕ → ℕ → Type 0
CountsFault (Ok x) before now = now ≡ before
CountsFault (Err Failed) before now = now ≡ next_count before
CountsFault (Err Memory) before now = now ≡ before
