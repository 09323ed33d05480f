-- What a store holds, and what its calls do to it. A file is the list of its bytes, and an absent one is None.
use Rattle.std.specs.Prelude.{◌≡◌, ◌≢◌, ℕ, ◌-◌, ◌<◌, ◌≤◌, ◌⊎◌, Bool, List, [], ◌∷◌, ◌++◌, length, take, drop, Option, None, Some, Result, IsErr, IsTrue, IfOk, MatchResult}
use Rattle.vk_io.specs.Counts.{CountsOf, SameCounts}
use Rattle.vk_io.specs.declared.outside.Outside.{Outside}

-- what a store holds: whether it tells its files, the bytes of each name's file where it does, for each name how often
-- reading and writing failed, and whether it is sound: reading fails only where a file is absent
pub record StoreState : Type 0 where
  pub tells : Bool
  pub file : List ℕ → Option (List ℕ)
  pub reads : List ℕ → ℕ
  pub writes : List ℕ → ℕ
  pub is_sound : Bool

-- no file changed
abbrev pub SameFiles : (List ℕ → Option (List ℕ)) → (List ℕ → Option (List ℕ)) → Type 0
SameFiles old new = (q : List ℕ) → new q ≡ old q

-- no file changed but this name's
abbrev pub OtherFilesStay : List ℕ → (List ℕ → Option (List ℕ)) → (List ℕ → Option (List ℕ)) → Type 0
OtherFilesStay name old new = (q : List ℕ) → q ≢ name → new q ≡ old q

-- no count of a name with a file changed
abbrev pub PresentStay : StoreState → StoreState → Type 0
PresentStay before now = (q : List ℕ) → before.file q ≢ None → now.reads q ≡ before.reads q

-- what stays where these names are read: all but their read counts, which do not fall, and which rise in a sound store only
-- where there is no file
pub record Reads (names : List (List ℕ)) (before now : StoreState) : Type 0 where
  pub tells : now.tells ≡ before.tells
  pub is_sound : now.is_sound ≡ before.is_sound
  pub file : SameFiles before.file now.file
  pub reads : CountsOf names before.reads now.reads
  pub present : IsTrue before.is_sound → PresentStay before now
  pub writes : SameCounts before.writes now.writes

-- what stays where this name is written: all but its file and its write count, which does not fall
pub record Writes (name : List ℕ) (before now : StoreState) : Type 0 where
  pub tells : now.tells ≡ before.tells
  pub is_sound : now.is_sound ≡ before.is_sound
  pub file : OtherFilesStay name before.file now.file
  pub reads : SameCounts before.reads now.reads
  pub writes : CountsOf (name ∷ []) before.writes now.writes

-- the first n bytes of a buffer are those of a file from `at` on, and none only at the file's end
pub record GivesFrom (bytes : List ℕ) (at n : ℕ) (into : List ℕ) : Type 0 where
  pub given : take n into ≡ take n (drop at bytes)
  pub within : n ≤ length bytes - at
  pub end : n ≡ 0 → 0 < length into → length bytes ≤ at

-- a `fill` gives bytes of the file, and fails where there is none
abbrev pub Fills : Option (List ℕ) → ℕ → Result ℕ Outside → List ℕ → Type 0
Fills None at r into = IsErr r
Fills (Some bytes) at r into = IfOk r (λ n. GivesFrom bytes at n into)

-- a `start` leaves an empty file, or where it does not answer Ok perhaps the file as it was
abbrev pub Starts : Option (List ℕ) → Option (List ℕ) → Result (Unit {0}) Outside → Type 0
Starts old new r = MatchResult r (λ _. new ≡ Some []) (λ _. (new ≡ old) ⊎ (new ≡ Some []))

-- the bytes of a file, none where it is absent
abbrev pub text_of : Option (List ℕ) → List ℕ
text_of None = []
text_of (Some bytes) = bytes

-- an `append` adds all of the bytes, or where it does not answer Ok a front of them or nothing
abbrev pub AppendsTo : Option (List ℕ) → Option (List ℕ) → Result (Unit {0}) Outside → List ℕ → Type 0
AppendsTo old new r bytes = MatchResult r
    (λ _. new ≡ Some (text_of old ++ bytes))
    (λ _. (new ≡ old) ⊎ ((k : ℕ) × (new ≡ Some (text_of old ++ take k bytes))))
