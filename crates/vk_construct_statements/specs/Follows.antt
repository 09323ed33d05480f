-- Code of a statement, in one lane.
use Rattle.std.specs.Prelude.{◌≡◌, ◌≢◌, ℕ, ◌+◌, ◌<◌, ◌==◌, Bool, true, false, cond, Some, None}
use Rattle.vk_types.specs.declared.types.Stop.{Stop}
use Rattle.vk_kinds.specs.declared.heads.CType.{CType}
use Rattle.vk_numbers.specs.Operators.{is_on}
use Rattle.vk_meaning.specs.Data.{number_in, Value, got, halts}
use Rattle.vk_meaning.specs.Statements.{State, at_world, Evaluation, Outcome, fell, broke, continued, returned, stopped, Effect}
use Rattle.vk_lane.specs.Places.{Share, Place}
use Rattle.vk_construct.specs.Computes.{Table, Holds, Keeps, Has}
use Rattle.vk_lane.specs.Pieces.{Stays}

-- the mask of the lanes that run, that of the loop, that of the lanes that have not returned, and the first free one
pub record Guards : Type 0 where
  pub running : ℕ
  pub looping : ℕ
  pub staying : ℕ
  pub free : ℕ

pub record AreApart (m : Guards) : Type 0 where
  pub running_in : m.running < m.free
  pub looping_in : m.looping < m.free
  pub staying_in : m.staying < m.free
  pub running_looping : m.running ≢ m.looping
  pub running_staying : m.running ≢ m.staying
  pub looping_staying : m.looping ≢ m.staying

-- where the result goes
pub record ReturnPlace : Type 0 where
  pub reg : ℕ
  pub ty : CType

-- the lane goes on, is in the three masks so, and in each other one below the first free one as before
pub record Exits (m : Guards) (r l n : Bool) (h h' : Share) : Type 0 where
  pub going : h'.lane.stop ≡ None
  pub runs : h'.lane.on m.running ≡ r
  pub loops : h'.lane.on m.looping ≡ l
  pub stays : h'.lane.on m.staying ≡ n
  pub others : (k : ℕ) → k < m.free → k ≢ m.running → k ≢ m.looping → k ≢ m.staying → h'.lane.on k ≡ h.lane.on k

-- the table behind a statement has more variables, where it declares some
abbrev pub After : Place → ℕ → ReturnPlace → (tb tb' : Table) → Guards → (h h' : Share) → Outcome → Type 0
After x j v tb tb' m h h' (fell s) = Exits m true true true h h' × Holds tb' s h'
After x j v tb tb' m h h' (broke s) = Exits m false false true h h' × Holds tb s h'
After x j v tb tb' m h h' (continued s) = Exits m false true true h h' × Holds tb s h'
After x j v tb tb' m h h' (returned dt w) = Exits m false true false h h' × Has x j v.ty dt (h'.lane.reg v.reg) × (h'.world ≡ w)
After x j v tb tb' m h h' (stopped z w) = Stays z w h'

pub record Follows (x : Place) (v : ReturnPlace) (tb tb' : Table) (effect : Effect) (m : Guards) (j : ℕ) (h h' : Share) : Type 0 where
  pub gone : (z : Stop) → h.lane.stop ≡ Some z → Stays z h.world h'
  pub off : h.lane.stop ≡ None → h.lane.on m.running ≡ false → (dk : ℕ) → Keeps dk m.free h.world h h'
  pub runs : (s : State) → h.lane.stop ≡ None → h.lane.on m.running ≡ true → h.lane.on m.looping ≡ true → h.lane.on m.staying ≡ true → Holds tb s h → After x j v tb tb' m h h' (effect s)

-- one more variable
abbrev pub pushed : Table → ℕ → CType → Table
pushed tb r t = record { count = tb.count + 1; reg = λ k. cond (k == tb.count) r (tb.reg k); ty = λ k. cond (k == tb.count) t (tb.ty k) }

-- the first variables of another table
pub record IsFront (tb tb' : Table) : Type 0 where
  pub fewer : (k : ℕ) → k < tb.count → k < tb'.count
  pub reg : (k : ℕ) → k < tb.count → tb'.reg k ≡ tb.reg k
  pub ty : (k : ℕ) → k < tb.count → tb'.ty k ≡ tb.ty k

-- the masks of a loop's body: the loop's mask is the first free one
abbrev pub inner : ℕ → ℕ → Guards
inner f nr = record { running = f + 1; looping = f; staying = nr; free = f + 2 }

-- a turn's work, from the loop's mask f on
pub record Works (x : Place) (v : ReturnPlace) (tb : Table) (effect : Effect) (f nr : ℕ) (j : ℕ) (h h' : Share) : Type 0 where
  pub gone : (z : Stop) → h.lane.stop ≡ Some z → Stays z h.world h'
  pub off : h.lane.stop ≡ None → h.lane.on f ≡ false → (dk : ℕ) → Keeps dk (f + 1) h.world h h'
  pub runs : (s : State) → h.lane.stop ≡ None → h.lane.on f ≡ true → h.lane.on nr ≡ true → Holds tb s h → After x j v tb tb (inner f nr) h h' (effect s)

-- the lane goes on, in the loop's mask f or out of it
pub record Round (f nr : ℕ) (p n : Bool) (h h' : Share) : Type 0 where
  pub going : h'.lane.stop ≡ None
  pub itself : h'.lane.on f ≡ p
  pub stays : h'.lane.on nr ≡ n
  pub others : (k : ℕ) → k < f → k ≢ nr → h'.lane.on k ≡ h.lane.on k

-- how a loop ends
abbrev pub LoopEnds : Place → ℕ → ReturnPlace → Table → (f nr : ℕ) → (h h' : Share) → Outcome → Type 0
LoopEnds x j v tb f nr h h' (fell s) = Round f nr false true h h' × Holds tb s h'
LoopEnds x j v tb f nr h h' (broke s) = ⊥
LoopEnds x j v tb f nr h h' (continued s) = ⊥
LoopEnds x j v tb f nr h h' (returned dt w) = Round f nr false false h h' × Has x j v.ty dt (h'.lane.reg v.reg) × (h'.world ≡ w)
LoopEnds x j v tb f nr h h' (stopped z w) = Stays z w h'

-- a turn and the condition behind it
abbrev pub TestEnds : Place → ℕ → Table → (f nr : ℕ) → (h h' : Share) → State → Value → Type 0
TestEnds x j tb f nr h h' s (got dt w) = Round f nr (is_on (number_in dt)) true h h' × Holds tb (at_world s w) h'
TestEnds x j tb f nr h h' s (halts z w) = Stays z w h'

abbrev pub TurnEnds : Place → ℕ → ReturnPlace → Table → Evaluation → (f nr : ℕ) → (h h' : Share) → Outcome → Type 0
TurnEnds x j v tb e f nr h h' (fell s) = TestEnds x j tb f nr h h' s (e s.variables s.world)
TurnEnds x j v tb e f nr h h' (broke s) = Round f nr false true h h' × Holds tb s h'
TurnEnds x j v tb e f nr h h' (continued s) = TestEnds x j tb f nr h h' s (e s.variables s.world)
TurnEnds x j v tb e f nr h h' (returned dt w) = Round f nr false false h h' × Has x j v.ty dt (h'.lane.reg v.reg) × (h'.world ≡ w)
TurnEnds x j v tb e f nr h h' (stopped z w) = Stays z w h'

pub record Turn (x : Place) (v : ReturnPlace) (tb : Table) (e : Evaluation) (effect : Effect) (f nr : ℕ) (j : ℕ) (h h' : Share) : Type 0 where
  pub gone : (z : Stop) → h.lane.stop ≡ Some z → Stays z h.world h'
  pub off : h.lane.stop ≡ None → h.lane.on f ≡ false → (dk : ℕ) → Keeps dk (f + 1) h.world h h'
  pub runs : (s : State) → h.lane.stop ≡ None → h.lane.on f ≡ true → h.lane.on nr ≡ true → Holds tb s h → TurnEnds x j v tb e f nr h h' (effect s)

-- a condition that is evaluated behind a turn, under the mask f of the loop
pub record IsTested (x : Place) (tb : Table) (e : Evaluation) (f nr j : ℕ) (h h' : Share) : Type 0 where
  pub gone : (z : Stop) → h.lane.stop ≡ Some z → Stays z h.world h'
  pub off : h.lane.stop ≡ None → h.lane.on f ≡ false → (dk : ℕ) → Keeps dk (f + 1) h.world h h'
  pub runs : (s : State) → h.lane.stop ≡ None → h.lane.on f ≡ true → h.lane.on nr ≡ true → Holds tb s h → TestEnds x j tb f nr h h' s (e s.variables s.world)

-- the masks of a function's body: behind mask 0, that of the call
abbrev pub body_masks : Guards
body_masks = record { running = 1; looping = 2; staying = 3; free = 4 }

-- the masks of the two branches of an `if`
abbrev pub first_branch : Guards → Guards
first_branch m = record { running = m.free; looping = m.looping; staying = m.staying; free = m.free + 2 }

abbrev pub second_branch : Guards → Guards
second_branch m = record { running = m.free + 1; looping = m.looping; staying = m.staying; free = m.free + 2 }
