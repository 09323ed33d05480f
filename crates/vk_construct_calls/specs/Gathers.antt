-- Code of the arguments of a call, in one lane.
use Rattle.std.specs.Prelude.{◌≡◌, ℕ, true, List, [], ◌∷◌, ◌++◌, None, ◌⊎◌}
use Rattle.vk_types.specs.declared.types.Stop.{Stop}
use Rattle.vk_kinds.specs.declared.heads.CType.{CType}
use Rattle.vk_meaning.specs.World.{World}
use Rattle.vk_meaning.specs.Data.{Action, Datum, halts}
use Rattle.vk_meaning.specs.Types.{next_type, next_types}
use Rattle.vk_meaning.specs.Expressions.{Variables}
use Rattle.vk_meaning.specs.Statements.{State}
use Rattle.vk_lane.specs.Places.{Place, Share}
use Rattle.vk_lane.specs.Pieces.{Stays}
use Rattle.vk_construct.specs.Computes.{Has, Holds, Idles, Keeps, Table}

-- the evaluation of arguments, before what is done with them
abbrev pub Gathering : Type 0
Gathering = Variables → (List Datum → Action) → Action

-- the registers have the data, a value of the next type each
abbrev pub HaveAll : Place → ℕ → List CType → List ℕ → List Datum → Share → Type 0
HaveAll x j ts [] [] h = Unit {0}
HaveAll x j ts [] (d ∷ ds) h = ⊥
HaveAll x j ts (r ∷ rs) [] h = ⊥
HaveAll x j ts (r ∷ rs) (d ∷ ds) h = Has x j (next_type ts) d (h.lane.reg r) × HaveAll x j (next_types ts) rs ds h

-- behind the data that were there before, whatever comes next
abbrev pub Ends : Gathering → Place → ℕ → List CType → List ℕ → (d f : ℕ) → (before : List Datum) → (h h' : Share) → State → Type 0
Ends E x j ts rs d f before h h' s =
    ((ds : List Datum) × (w : World) × ((next : List Datum → Action) → E s.variables next s.world ≡ next (before ++ ds) w) × Keeps d f w h h' × HaveAll x j ts rs ds h') ⊎
    ((z : Stop) × (w : World) × ((next : List Datum → Action) → E s.variables next s.world ≡ halts z w) × Stays z w h')

pub record Gathers (x : Place) (tb : Table) (E : Gathering) (ts : List CType) (rs : List ℕ) (before : List Datum) (m d f j : ℕ) (h h' : Share) : Type 0 where
  pub idle : Idles m f h h'
  pub runs : (s : State) → h.lane.stop ≡ None → h.lane.on m ≡ true → Holds tb s h → Ends E x j ts rs d f before h h' s
