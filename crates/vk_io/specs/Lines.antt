-- Putting many texts, each with a call of its own.
use Rattle.std.specs.Prelude.{◌≡◌, ℕ, ◌+◌, List, ◌∷◌, ◌++◌, length, IsTrue}
use Rattle.std.specs.List.{concat}
use Rattle.vk_io.specs.Counts.{count_after}
use Rattle.vk_io.specs.Sink.{GrowsWithin, SinkState}

-- the call for one of these texts failed: each one before it was put by a call, and then a front of this one
pub record StopsAt (lines : List (List ℕ)) (before now : SinkState) : Type 0 where
  pub done : List (List ℕ)
  pub line : List ℕ
  pub rest : List (List ℕ)
  pub parts : lines ≡ done ++ (line ∷ rest)
  pub calls : now.calls ≡ count_after before.calls (length done + 1)
  pub grown : IsTrue before.tells → GrowsWithin (before.bytes ++ concat done) now.bytes line
