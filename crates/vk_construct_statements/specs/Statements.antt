-- Code of a statement, as it is appended.
use Rattle.std.specs.Prelude.{◌≡◌, ℕ, true, false, ◌&&◌, ◌||◌, Option, None}
use Rattle.vk_kinds.specs.declared.heads.CType.{CType}
use Rattle.vk_meaning.specs.Expressions.{Context}
use Rattle.vk_meaning.specs.Statements.{Effect, State, run}
use Rattle.vk_meaning.specs.Programs.{Definition, first_point}
use Rattle.vk_meaning.specs.Meaning.{ended}
use Rattle.vk_lane.specs.Places.{Share}
use Rattle.vk_lane.specs.Pieces.{Change}
use Rattle.vk_lane.specs.Writes.{Masks}
use Rattle.vk_lane.specs.Entries.{EndsAs, LaneCall, place_of}
use Rattle.vk_construct.specs.Computes.{Holds, Table}
use Rattle.vk_construct.specs.Adds.{Adds, Written}
use Rattle.vk_construct_statements.specs.Follows.{Follows, Guards, ReturnPlace}

-- A piece has come behind that does what the statement does in each lane that runs; variables stand as in the first table, behind
-- it as in the second.
abbrev pub AddsStatement : (old new : Written) → ReturnPlace → (before behind : Table) → (Context → Effect) → Guards → (size depth : ℕ) → Type 0
AddsStatement old new v tb tb' effect m size depth = Adds old new (λ q. Follows (place_of q) v tb tb' (effect q.context) m) size depth

-- mask d has the lanes of both masks, or of one of them
abbrev pub Meets : (d a b : ℕ) → LaneCall → Change
Meets d a b q = Masks d (λ h. h.lane.on a && h.lane.on b)

abbrev pub Unites : (d a b : ℕ) → LaneCall → Change
Unites d a b q = Masks d (λ h. h.lane.on a || h.lane.on b)

-- ---- whole functions

-- Code has run that does what a function of this result does: lanes of mask 0 have ended as the function does, the others have no stop.
pub record HasRun (tb : Table) (rt : CType) (result : Option ℕ) (effect : Effect) (j : ℕ) (h h' : Share) : Type 0 where
  pub ends : h.lane.stop ≡ None → h.lane.on 0 ≡ true → (s : State) → Holds tb s h → EndsAs rt result h' (ended rt (effect s))
  pub idle : h.lane.stop ≡ None → h.lane.on 0 ≡ false → h'.lane.stop ≡ None

-- it has been appended
abbrev pub AddsFunction : (old new : Written) → Table → (rt : CType) → (result : Option ℕ) → (Context → Effect) → (size depth : ℕ) → Type 0
AddsFunction old new tb rt result effect size depth = Adds old new (λ q. HasRun tb rt result (effect q.context)) size depth

-- what the body of a definition does
abbrev pub body_effect : Definition → Context → Effect
body_effect d c = run c (first_point d) d.body
