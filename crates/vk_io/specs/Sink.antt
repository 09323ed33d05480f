-- What a sink holds, and what a `put` does to it.
use Rattle.std.specs.Prelude.{◌≡◌, ℕ, ◌≤◌, Bool, List, ◌++◌, Result, MatchResult}
use Rattle.vk_io.specs.declared.outside.Outside.{Outside}

-- what a sink holds: whether it tells its bytes, the bytes where it does, how many calls there were and how many failed, and
-- whether it needs no memory
pub record SinkState : Type 0 where
  pub tells : Bool
  pub bytes : List ℕ
  pub calls : ℕ
  pub faults : ℕ
  pub is_lean : Bool

-- what stays where bytes are put
pub record Stays (before now : SinkState) : Type 0 where
  pub tells : now.tells ≡ before.tells
  pub is_lean : now.is_lean ≡ before.is_lean
  pub faults : before.faults ≤ now.faults

-- some front of the text was added, perhaps all of it and perhaps nothing
pub record GrowsWithin (old new text : List ℕ) : Type 0 where
  pub front : List ℕ
  pub rest : List ℕ
  pub parts : text ≡ front ++ rest
  pub grown : new ≡ old ++ front

-- Ok adds all of the bytes, an error a front of them
abbrev pub Puts : List ℕ → List ℕ → Result (Unit {0}) Outside → List ℕ → Type 0
Puts old new r bytes = MatchResult r (λ _. new ≡ old ++ bytes) (λ _. GrowsWithin old new bytes)
