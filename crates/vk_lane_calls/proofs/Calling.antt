-- Calls.
use Rattle.std.proofs.Common.{arith, sym, ◌≡◌, ◌≢◌, ℕ, zero, ◌+◌, ◌<◌, ◌==◌, Bool, true, false, cond, ◌&&◌, List, [], ◌∷◌, ◌++◌, length, Option, Some, None, refl, subst, ap, ◌∙◌, ◌⊎◌, inl, inr, true≢false, append-nil}
use Rattle.std.specs.Prelude.{is_none}
use Rattle.vk_types.specs.declared.types.Stop.{Stop}
use Rattle.vk_kinds.specs.declared.heads.CType.{CType}
use Rattle.vk_kinds.specs.declared.heads.CType.TheVariants.{Void, Int, Ptr}
use Rattle.vk_meaning.specs.World.{Memory as Cells, World, Event}
use Rattle.vk_meaning.specs.Data.{Value, got, halts}
use Rattle.vk_meaning.specs.Meaning.{memory_of}
use Rattle.vk_meaning.specs.Lanes.{datum_of, IsWord}
use Rattle.vk_code.specs.declared.instruction.Instr.{Instr}
use Rattle.vk_code.specs.declared.instruction.Operation.TheVariants.{Call}
use Rattle.vk_code.specs.Instruction.{operation_of}
use Rattle.vk_object.specs.Memory.{Memory}
use Rattle.vk_object.specs.Lane.{LaneState, is_live}
use Rattle.vk_object.specs.Machine.{World as Machine, Given, Target, takes, target_of, calls_target, call_all, call_one, lane_args, first_live, any_live, run, sweep}
use Rattle.vk_lane.specs.Places.{Share, Shares, machine_of, Place, lanes_of, IsSound, IsVisible, Agree, reg_type}
use Rattle.vk_lane.specs.Pieces.{Before, Change, EachSound, Does}
use Rattle.vk_lane_calls.specs.Callable.{IsResultRegister}
use Rattle.vk_lane_calls.specs.Callees.{SameEnding, IsLocal, IsTaken, world_behind, value_behind, Takes, TakesIf}
use Rattle.vk_lane.proofs.Rules.{run_plain, none_live, same_number, other_number}

same_memory : (Seen : ℕ → ℕ → Type 0) (u v : Value) → SameEnding Seen u v → (a i : ℕ) → Seen a i → memory_of u a i ≡ memory_of v a i
same_memory Seen (got d w) (got d' w') s a i h = s.1 a i h
same_memory Seen (got d w) (halts z w') s a i h = absurd s
same_memory Seen (halts z w) (got d' w') s a i h = absurd s
same_memory Seen (halts z w) (halts z' w') s a i h = s.1 a i h

-- some lanes call a function: each on its own arguments, and the memory afterwards has in each lane's own cells what its call
-- leaves there, and is as before in all others
pub record HaveCalled (x : Place) (calls : ℕ → Bool) (owned : ℕ → ℕ → ℕ → Type 0) (scalar : ℕ → Cells → Value) (m m' : Memory) : Type 0 where
  pub own : (j : ℕ) → j < lanes_of x → calls j ≡ true → (a i : ℕ) → owned j a i → m'.cells a i ≡ memory_of (scalar j m.cells) a i
  pub others : (a i : ℕ) → ((j : ℕ) → j < lanes_of x → calls j ≡ true → owned j a i → ⊥) → m'.cells a i ≡ m.cells a i
  pub told : (es : List Event) → x.Told m.log es → x.Told m'.log es
  pub counted : (es : List Event) → x.Counted m.log es → x.Counted m'.log es
  pub local : (j : ℕ) → j < lanes_of x → calls j ≡ true → IsLocal x j (owned j) (scalar j)

pub agree_called : (x : Place) (calls : ℕ → Bool) (owned : ℕ → ℕ → ℕ → Type 0) (scalar : ℕ → Cells → Value) (hs hs' : Shares) (m m' : Memory) → x.Cares None → Agree x hs m → HaveCalled x calls owned scalar m m' →
    ((j : ℕ) → j < lanes_of x → calls j ≡ true → ((hs j).lane.stop ≡ None) × ((hs' j).world ≡ world_behind (hs j).world (scalar j (hs j).world.memory))) →
    ((j : ℕ) → j < lanes_of x → calls j ≡ false → hs' j ≡ hs j) → Agree x hs' m'
agree_called x calls owned scalar hs hs' m m' cares g c in_ out = record {
  cells = λ j l ca a i v. cells_at j l ca a i v (calls j) refl;
  others = λ a i none. c.others a i (λ j l cj o. none j l ((c.local j l cj).own a i o)) ∙ g.others a i none;
  told = λ j l. told_at j l (calls j) refl;
  counted = λ j l ca. counted_at j l ca (calls j) refl;
}
  where
    -- no other lane's call writes a cell that lane j sees
    not_others : (j : ℕ) (a i : ℕ) → IsVisible x j a i → (calls j ≡ true → owned j a i → ⊥) → (k : ℕ) → k < lanes_of x → calls k ≡ true → owned k a i → ⊥
    not_others j a i v mine k l ck o = at (k == j) refl
      where
        at : (b : Bool) → (k == j) ≡ b → ⊥
        at true e = let ek : k ≡ j = same_number k j e in mine (ap calls (sym ek) ∙ ck) (subst (λ q. owned q a i) ek o)
        at false e = v k l (other_number k j e) ((c.local k l ck).own a i o)

    cells_at : (j : ℕ) → j < lanes_of x → x.Cares (hs' j).lane.stop → (a i : ℕ) → IsVisible x j a i → (b : Bool) → calls j ≡ b → m'.cells a i ≡ (hs' j).world.memory a i
    cells_at j l ca a i v false cj = c.others a i (not_others j a i v (λ t. absurd (true≢false (sym t ∙ cj))))
        ∙ (g.cells j l (subst (λ (h : Share). x.Cares h.lane.stop) (out j l cj) ca) a i v ∙ ap (λ (h : Share). h.world.memory a i) (sym (out j l cj)))
    cells_at j l ca a i v true cj = at (lo.decides a i) ∙ ap (λ (w : World). w.memory a i) (sym (in_ j l cj).1)
      where
        lo : IsLocal x j (owned j) (scalar j)
        lo = c.local j l cj

        seen : (b n : ℕ) → IsVisible x j b n → m.cells b n ≡ (hs j).world.memory b n
        seen = g.cells j l (subst x.Cares (sym (in_ j l cj).0) cares)

        at : owned j a i ⊎ (owned j a i → ⊥) → m'.cells a i ≡ memory_of (scalar j (hs j).world.memory) a i
        at (inl o) = c.own j l cj a i o ∙ same_memory (IsVisible x j) (scalar j m.cells) (scalar j (hs j).world.memory) (lo.same m.cells (hs j).world.memory seen) a i v
        at (inr n) = c.others a i (not_others j a i v (λ t o. n o)) ∙ (seen a i v ∙ sym (lo.keeps (hs j).world.memory a i n))

    counted_at : (j : ℕ) → j < lanes_of x → x.Cares (hs' j).lane.stop → (b : Bool) → calls j ≡ b → x.Counted m'.log (hs' j).world.events
    counted_at j l ca false cj = subst (λ (h : Share). x.Counted m'.log h.world.events) (sym (out j l cj)) (c.counted (hs j).world.events (g.counted j l (subst (λ (h : Share). x.Cares h.lane.stop) (out j l cj) ca)))
    counted_at j l ca true cj = subst (x.Counted m'.log)
        (sym (ap (λ (w : World). w.events) (in_ j l cj).1 ∙ (ap (λ es. (hs j).world.events ++ es) ((c.local j l cj).silent (hs j).world.memory) ∙ append-nil (hs j).world.events)))
        (c.counted (hs j).world.events (g.counted j l (subst x.Cares (sym (in_ j l cj).0) cares)))

    told_at : (j : ℕ) → j < lanes_of x → (b : Bool) → calls j ≡ b → x.Told m'.log (hs' j).world.events
    told_at j l false cj = subst (λ (h : Share). x.Told m'.log h.world.events) (sym (out j l cj)) (c.told (hs j).world.events (g.told j l))
    told_at j l true cj = subst (x.Told m'.log)
        (sym (ap (λ (w : World). w.events) (in_ j l cj).1 ∙ (ap (λ es. (hs j).world.events ++ es) ((c.local j l cj).silent (hs j).world.memory) ∙ append-nil (hs j).world.events)))
        (c.told (hs j).world.events (g.told j l))

-- ---- lanes that call

-- what a lane has of its call
abbrev pub called_share : Option ℕ → Share → ℕ → Option Stop → World → Share
called_share result h w s u = record { lane = takes result h.lane w s; world = u }

-- the machine's value and stop are those of the scalar call
abbrev pub Answered : CType → Value → (word : ℕ) → Option Stop → Type 0
Answered rt (got d w) word s = (s ≡ None) × (d ≡ datum_of rt word) × IsTaken rt word
Answered rt (halts z w) word s = s ≡ Some z

pub takes_of : (rt : CType) (result : Option ℕ) (h : Share) (u : World) (v : Value) (word : ℕ) (s : Option Stop) → Answered rt v word s → Takes rt result h (called_share result h word s (world_behind u v)) (value_behind u v)
takes_of rt result h u (got d w) word s a = (word, a.1, a.2, ap (λ q. called_share result h word q (world_behind u (got d w))) a.0)
takes_of rt result h u (halts z w) word s a = ap (λ q. called_share result h word q (world_behind u (halts z w))) a

-- locality, of answers
pub answered_local : (x : Place) (j : ℕ) (rt : CType) (u v : Value) (word : ℕ) (s : Option Stop) → SameEnding (IsVisible x j) u v → Answered rt u word s → Answered rt v word s
answered_local x j rt (got d w) (got d' w') word s e a = (a.0, sym e.0 ∙ a.1, a.2)
answered_local x j rt (got d w) (halts z w') word s e a = absurd e
answered_local x j rt (halts z w) (got d' w') word s e a = absurd e
answered_local x j rt (halts z w) (halts z' w') word s e a = a ∙ ap Some e.0

taken_word : (t : CType) (w : ℕ) → t ≢ Void → IsTaken t w → IsWord t w
taken_word Void w ne h = absurd (ne refl)
taken_word (Int t) w ne h = h
taken_word (Ptr to written) w ne h = h

pub word_taken : (t : CType) (w : ℕ) → IsWord t w → IsTaken t w
word_taken Void w h = tt
word_taken (Int t) w h = h
word_taken (Ptr to written) w h = h

pub takes_sound : (x : Place) (j : ℕ) (rt : CType) (result : Option ℕ) (h h' : Share) (v : Value) → ((r : ℕ) → result ≡ Some r → IsResultRegister x rt r) → IsSound x j h → Takes rt result h h' v → IsSound x j h'
takes_sound x j rt result h h' (halts z w) ok s e = subst (IsSound x j) (sym e) (record { typed = s.typed; kept = s.kept; idle = s.idle })
takes_sound x j rt None h h' (got d w) ok s e = subst (IsSound x j) (sym e.3) (record { typed = s.typed; kept = s.kept; idle = s.idle })
takes_sound x j rt (Some r) h h' (got d w) ok s e = subst (IsSound x j) (sym e.3) (record { typed = λ k. typed_at k (k == r) refl; kept = λ k f. kept_at k f (k == r) refl; idle = s.idle })
  where
    typed_at : (k : ℕ) (c : Bool) → (k == r) ≡ c → IsWord (reg_type x k) (cond c e.0 (h.lane.reg k))
    typed_at k true q = subst (λ i. IsWord (reg_type x i) e.0) (sym (same_number k r q)) (subst (λ t. IsWord t e.0) (sym (ok r refl).typed) (taken_word rt e.0 (ok r refl).some e.2))
    typed_at k false q = s.typed k

    kept_at : (k : ℕ) → x.fixed k ≡ true → (c : Bool) → (k == r) ≡ c → cond c e.0 (h.lane.reg k) ≡ x.words k j
    kept_at k f true q = absurd (true≢false (sym f ∙ (ap x.fixed (same_number k r q) ∙ (ok r refl).free)))
    kept_at k f false q = s.kept k f

-- what the call of the slot's entry has to do, for each lane that is live: scalar j is the function on the lane's arguments
pub record IsCallee (x : Place) (P : Before) (m : ℕ) (rt : CType) (owned : Shares → ℕ → ℕ → ℕ → Type 0) (scalar : Shares → ℕ → Cells → Value) (call : Shares → Memory → Given) : Type 0 where
  pub does : (hs : Shares) (mem : Memory) → Agree x hs mem → EachSound x hs → ((j : ℕ) → j < lanes_of x → P j (hs j)) → HaveCalled x (λ j. is_live m (hs j).lane) (owned hs) (scalar hs) mem (call hs mem).mem
  pub answers : (hs : Shares) (mem : Memory) → Agree x hs mem → EachSound x hs → ((j : ℕ) → j < lanes_of x → P j (hs j)) → (j : ℕ) → j < lanes_of x → is_live m (hs j).lane ≡ true → Answered rt (scalar hs j mem.cells) ((call hs mem).value j) ((call hs mem).stop j)

pub does_call_all : (x : Place) (P : Before) (i : Instr) (k : ℕ) (t : Target) (rt : CType) (owned : Shares → ℕ → ℕ → ℕ → Type 0) (scalar : Share → ℕ → Cells → Value) → x.Cares None →
    operation_of i ≡ Some (Call k) → target_of x.site k ≡ Some t → (t.entry.lanes == 1) ≡ false → ((r : ℕ) → t.slot.result ≡ Some r → IsResultRegister x rt r) →
    IsCallee x P i.m rt owned (λ hs j. scalar (hs j) j)
    (λ hs mem. x.site.calls t.number (λ j. is_live i.m (hs j).lane) (lane_args x.site t.slot t.entry (λ j. (hs j).lane) (first_live x.site.entry.lanes i.m (λ j. (hs j).lane))) mem) →
    Does x P (i ∷ []) (λ j h h'. TakesIf (is_live i.m h.lane) rt t.slot.result h h' (value_behind h.world (scalar h j h.world.memory)))
does_call_all x P i k t rt owned scalar cares e te wide ok callee = record { by = by }
  where
    F : Change
    F j h h' = TakesIf (is_live i.m h.lane) rt t.slot.result h h' (value_behind h.world (scalar h j h.world.memory))

    given : Shares → Memory → Given
    given hs mem = x.site.calls t.number (λ j. is_live i.m (hs j).lane) (lane_args x.site t.slot t.entry (λ j. (hs j).lane) (first_live x.site.entry.lanes i.m (λ j. (hs j).lane))) mem

    new : Shares → Memory → Shares
    new hs mem j = cond (is_live i.m (hs j).lane) (called_share t.slot.result (hs j) ((given hs mem).value j) ((given hs mem).stop j) (world_behind (hs j).world (scalar (hs j) j (hs j).world.memory))) (hs j)

    lane_is : (b : Bool) (p q : Share) → cond b p.lane q.lane ≡ (cond b p q).lane
    lane_is true p q = refl
    lane_is false p q = refl

    going : (l : LaneState) → is_live i.m l ≡ true → l.stop ≡ None
    going l = at (l.on i.m) l.stop
      where
        at : (b : Bool) (s : Option Stop) → (b && is_none s) ≡ true → s ≡ None
        at true None z = refl
        at true (Some y) z = absurd (true≢false (sym z))
        at false s z = absurd (true≢false (sym z))

    by : (rest : List Instr) (n c : ℕ) → c ≡ length (i ∷ []) + n → (hs : Shares) (mem : Memory) → Agree x hs mem → EachSound x hs → ((j : ℕ) → j < lanes_of x → P j (hs j)) →
        (hs' : Shares) × (m' : Memory) × (run x.site ((i ∷ []) ++ rest) zero c (machine_of hs mem) ≡ run x.site rest zero n (machine_of hs' m')) ×
        Agree x hs' m' × EachSound x hs' × ((j : ℕ) → j < lanes_of x → F j (hs j) (hs' j))
    by rest n c ec hs mem g s p = go (any_live x.site.entry.lanes i.m (λ j. (hs j).lane)) refl
      where
        Out : Type 0
        Out = (hs' : Shares) × (m' : Memory) × (run x.site ((i ∷ []) ++ rest) zero c (machine_of hs mem) ≡ run x.site rest zero n (machine_of hs' m')) ×
            Agree x hs' m' × EachSound x hs' × ((j : ℕ) → j < lanes_of x → F j (hs j) (hs' j))

        w : Machine
        w = machine_of hs mem

        step : run x.site ((i ∷ []) ++ rest) zero c w ≡ run x.site rest zero n (call_all x.site i.m t.slot t.entry (x.site.calls t.number) w)
        step = run_plain x.site i rest (Call k) c n w (omega (arith, ec)) e refl
            ∙ ap (run x.site rest zero n) (ap (λ o. calls_target x.site i.m o w) te ∙ ap (λ b. cond b (sweep x.site.entry.lanes (call_one i.m t.slot (x.site.calls t.number)) w) (call_all x.site i.m t.slot t.entry (x.site.calls t.number) w)) wide)

        cd : HaveCalled x (λ j. is_live i.m (hs j).lane) (owned hs) (λ j. scalar (hs j) j) mem (given hs mem).mem
        cd = callee.does hs mem g s p

        made : (j : ℕ) → j < lanes_of x → (b : Bool) → is_live i.m (hs j).lane ≡ b →
            TakesIf b rt t.slot.result (hs j) (cond b (called_share t.slot.result (hs j) ((given hs mem).value j) ((given hs mem).stop j) (world_behind (hs j).world (scalar (hs j) j (hs j).world.memory))) (hs j)) (value_behind (hs j).world (scalar (hs j) j (hs j).world.memory))
        made j l false b = refl
        made j l true b = takes_of rt t.slot.result (hs j) (hs j).world (scalar (hs j) j (hs j).world.memory) ((given hs mem).value j) ((given hs mem).stop j)
            (answered_local x j rt (scalar (hs j) j mem.cells) (scalar (hs j) j (hs j).world.memory) _ _ ((cd.local j l b).same mem.cells (hs j).world.memory (g.cells j l (subst x.Cares (sym (going (hs j).lane b)) cares))) (callee.answers hs mem g s p j l b))

        sound : (j : ℕ) → j < lanes_of x → (b : Bool) → (h' : Share) → TakesIf b rt t.slot.result (hs j) h' (value_behind (hs j).world (scalar (hs j) j (hs j).world.memory)) → IsSound x j h'
        sound j l false h' q = subst (IsSound x j) (sym q) (s j l)
        sound j l true h' q = takes_sound x j rt t.slot.result (hs j) h' (value_behind (hs j).world (scalar (hs j) j (hs j).world.memory)) ok (s j l) q

        go : (b : Bool) → any_live x.site.entry.lanes i.m (λ j. (hs j).lane) ≡ b → Out
        go true a = (
          new hs mem,
          (given hs mem).mem,
          step ∙ ap (run x.site rest zero n) (ap (λ b. cond b (record { lane = λ j. cond (is_live i.m (hs j).lane) (takes t.slot.result (hs j).lane ((given hs mem).value j) ((given hs mem).stop j)) (hs j).lane; mem = (given hs mem).mem }) w) a
              ∙ (λ d. record { lane = λ j. lane_is (is_live i.m (hs j).lane) (called_share t.slot.result (hs j) ((given hs mem).value j) ((given hs mem).stop j) (world_behind (hs j).world (scalar (hs j) j (hs j).world.memory))) (hs j) d; mem = (given hs mem).mem })),
          agree_called x (λ j. is_live i.m (hs j).lane) (owned hs) (λ j. scalar (hs j) j) hs (new hs mem) mem (given hs mem).mem cares g cd
              (λ j l b. (going (hs j).lane b, ap (λ q. (cond q (called_share t.slot.result (hs j) ((given hs mem).value j) ((given hs mem).stop j) (world_behind (hs j).world (scalar (hs j) j (hs j).world.memory))) (hs j)).world) b))
              (λ j l b. ap (λ q. cond q (called_share t.slot.result (hs j) ((given hs mem).value j) ((given hs mem).stop j) (world_behind (hs j).world (scalar (hs j) j (hs j).world.memory))) (hs j)) b),
          (λ j l. sound j l (is_live i.m (hs j).lane) (new hs mem j) (made j l (is_live i.m (hs j).lane) refl)),
          λ j l. made j l (is_live i.m (hs j).lane) refl,
        )
        go false a = (
          hs,
          mem,
          step ∙ ap (run x.site rest zero n) (ap (λ b. cond b (record { lane = λ j. cond (is_live i.m (hs j).lane) (takes t.slot.result (hs j).lane ((given hs mem).value j) ((given hs mem).stop j)) (hs j).lane; mem = (given hs mem).mem }) w) a),
          g,
          s,
          λ j l. subst (λ b. TakesIf b rt t.slot.result (hs j) (hs j) (value_behind (hs j).world (scalar (hs j) j (hs j).world.memory))) (sym (none_live x.site.entry.lanes i.m (λ q. (hs q).lane) a j l)) refl,
        )
