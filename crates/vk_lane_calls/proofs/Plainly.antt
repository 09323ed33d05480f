-- Calls of functions without directives, by the one lane of a code that runs alone.
use Rattle.std.proofs.Common.{arith, sym, ◌≡◌, ◌≢◌, ℕ, ◌+◌, ◌<◌, ◌==◌, Bool, true, false, cond, List, [], ◌∷◌, ◌++◌, Option, Some, None, refl, subst, ap, ◌∙◌, append_assoc}
use Rattle.vk_types.specs.declared.types.Stop.{Stop}
use Rattle.vk_types.specs.declared.types.Ty.{Ty}
use Rattle.vk_types.specs.Numbers.{number_of, word_of}
use Rattle.vk_kinds.specs.declared.heads.CType.{CType}
use Rattle.vk_kinds.specs.declared.heads.CType.TheVariants.{Void, Int, Ptr}
use Rattle.vk_numbers.proofs.Numbers.{word_of-number}
use Rattle.vk_meaning.specs.World.{Memory as Cells, World}
use Rattle.vk_meaning.specs.Data.{Datum, Value, got, halts, number, pointer, nothing}
use Rattle.vk_meaning.specs.Expressions.{Context}
use Rattle.vk_meaning.specs.Meaning.{memory_of, printed_numbers}
use Rattle.vk_meaning.specs.Lanes.{Words, datum_of, IsWord}
use Rattle.vk_code.specs.declared.instruction.Instr.{Instr}
use Rattle.vk_code.specs.declared.instruction.Operation.TheVariants.{Call}
use Rattle.vk_code.specs.Instruction.{operation_of}
use Rattle.vk_object.specs.Memory.{Memory, printed as prints_of, calls_of}
use Rattle.vk_object.specs.Lane.{is_live}
use Rattle.vk_object.specs.Machine.{Site, Given, Target, arg_reg, takes, target_of, calls_target, call_all, call_one, sweep}
use Rattle.vk_lane.specs.Runs.{events_of, Bodies, HaveRisen, body_calls, IsResultWord, EndsAlike, IsSameRun}
use Rattle.vk_lane.specs.Places.{Share, Shares, view_of, put_share, Place, lanes_of, IsSound, Agree}
use Rattle.vk_lane.specs.Pieces.{Before, Change, Does, StepsIn}
use Rattle.vk_lane_calls.specs.Callees.{IsTaken, world_behind, value_behind, Takes, TakesIf}
use Rattle.vk_lane_calls.specs.Callable.{IsResultRegister, IsOfType}
use Rattle.vk_lane.specs.Entries.{place_of}
use Rattle.vk_lane_runs.specs.Sites.{alone_call}
use Rattle.vk_lane.proofs.Rules.{does_one, put_same}
use Rattle.vk_lane.proofs.Writing.{put_agree, live_going}
use Rattle.vk_lane_calls.proofs.Calling.{word_taken, Answered, called_share, takes_of, takes_sound}
use Rattle.vk_lane_runs.proofs.Alone.{numbers-append, risen-append}

-- the one lane's share and the memory are replaced
alone_put : (c : Context) (s : Site) (b : Bodies) (ts : List CType) (words : Words) (m : Memory) (hs : Shares) (j : ℕ) (new : Share) (mem : Memory) → s.entry.lanes ≡ 1 → j < s.entry.lanes →
    (new.lane.stop ≡ None → (a i : ℕ) → mem.cells a i ≡ new.world.memory a i) → prints_of mem.log ≡ prints_of m.log ++ printed_numbers new.world.events → (new.lane.stop ≡ None → HaveRisen b m.log mem.log new.world.events) →
    Agree (place_of (alone_call c s b ts words m)) (put_share hs j new) mem
alone_put c s b ts words m hs j new mem one l cells told counted = record {
  cells = λ k lk. subst (λ (h : Share). h.lane.stop ≡ None → (a i : ℕ) → ((q : ℕ) → q < s.entry.lanes → q ≢ k → q ≡ 0 → ⊥) → mem.cells a i ≡ h.world.memory a i) (sym (at k lk)) (λ st a i v. cells st a i);
  others = λ a i none. absurd (none j l (omega (arith, one, l)));
  told = λ k lk. subst (λ (h : Share). prints_of mem.log ≡ prints_of m.log ++ printed_numbers h.world.events) (sym (at k lk)) told;
  counted = λ k lk. subst (λ (h : Share). h.lane.stop ≡ None → HaveRisen b m.log mem.log h.world.events) (sym (at k lk)) counted;
}
  where
    at : (k : ℕ) → k < s.entry.lanes → put_share hs j new k ≡ new
    at k lk = let e : k ≡ j = omega (arith, one, l, lk) in ap (put_share hs j new) e ∙ put_same hs j new

result_word : (rt : CType) (d : Datum) (w : World) (word : ℕ) → IsOfType rt (got d w) → IsResultWord d word → (d ≡ datum_of rt word) × IsTaken rt word
result_word rt (pointer a o) w word t r = absurd r
result_word Void nothing w word t r = (refl, tt)
result_word (Int y) nothing w word t r = absurd (no_number y t.0 t.1)
  where
    no_number : (y : Ty) (u : ℕ) → nothing ≡ datum_of (Int y) u → ⊥
    no_number y u e = cc
result_word (Ptr to k) nothing w word t r = absurd (no_pointer to k t.0 t.1)
  where
    no_pointer : (to : Ty) (k : Bool) (u : ℕ) → nothing ≡ datum_of (Ptr to k) u → ⊥
    no_pointer to k u e = cc
result_word rt (number z) w word t r = (subst (λ q. number z ≡ datum_of rt q) (sym same) t.1, word_taken rt word (subst (IsWord rt) (sym same) t.2))
  where
    same : word ≡ t.0
    same = r ∙ num rt t.1 t.2
      where
        num : (q : CType) → number z ≡ datum_of q t.0 → IsWord q t.0 → word_of z ≡ t.0
        num Void e iw = cc
        num (Int y) e iw = let ez : z ≡ number_of y t.0 = cc in ap word_of ez ∙ word_of-number y t.0 iw
        num (Ptr to k) e iw = cc

answered_run : (rt : CType) (b : Bodies) (mem : Memory) (v : Value) (g : Given) → IsOfType rt v → EndsAlike b mem v g → Answered rt v (g.value 0) (g.stop 0)
answered_run rt b mem (got d w) g t e = let q = result_word rt d w (g.value 0) t e.value in (e.going, q.0, q.1)
answered_run rt b mem (halts z w) g t e = e

-- the call of an entry that runs as a scalar function does
pub does_call_run : (c : Context) (s : Site) (b : Bodies) (ts : List CType) (words : Words) (m : Memory) (P : Before) (i : Instr) (k : ℕ) (t : Target) (rt : CType) (scalar : Share → Cells → Value) → s.entry.lanes ≡ 1 →
    operation_of i ≡ Some (Call k) → target_of s k ≡ Some t → (t.entry.lanes == 1) ≡ true → ((r : ℕ) → t.slot.result ≡ Some r → IsResultRegister (place_of (alone_call c s b ts words m)) rt r) →
    ((h : Share) (cells : Cells) → IsOfType rt (scalar h cells)) →
    ((j : ℕ) (h : Share) (mem : Memory) → IsSound (place_of (alone_call c s b ts words m)) j h → P j h → is_live i.m h.lane ≡ true → IsSameRun b mem (scalar h mem.cells) (s.calls t.number (λ q. q == 0) (λ p q. h.lane.reg (arg_reg t.slot p)) mem)) →
    Does (place_of (alone_call c s b ts words m)) P (i ∷ []) (λ j h h'. TakesIf (is_live i.m h.lane) rt t.slot.result h h' (value_behind h.world (scalar h h.world.memory)))
does_call_run c s b ts words m P i k t rt scalar one e te single ok ofty callee =
    does_one x P F i (Call k) (call_one i.m t.slot (s.calls t.number)) e
    (record { plain = refl; is = λ w. ap (λ o. calls_target s i.m o w) te ∙ ap (λ q. cond q (sweep s.entry.lanes (call_one i.m t.slot (s.calls t.number)) w) (call_all s i.m t.slot t.entry (s.calls t.number) w)) single })
    (record { by = λ j l hs mem g so p. go j l hs mem g so p (is_live i.m (hs j).lane) refl })
  where
    x : Place
    x = place_of (alone_call c s b ts words m)

    F : Change
    F j h h' = TakesIf (is_live i.m h.lane) rt t.slot.result h h' (value_behind h.world (scalar h h.world.memory))

    given : Share → Memory → Given
    given h mem = s.calls t.number (λ q. q == 0) (λ p q. h.lane.reg (arg_reg t.slot p)) mem

    go : (j : ℕ) → j < lanes_of x → (hs : Shares) (mem : Memory) → Agree x hs mem → IsSound x j (hs j) → P j (hs j) → (q : Bool) → is_live i.m (hs j).lane ≡ q → StepsIn x j F (call_one i.m t.slot (s.calls t.number) j) hs mem
    go j l hs mem g so p false live = record {
      share = hs j;
      mem = mem;
      is = ap (λ q. cond q (record { lane = takes t.slot.result (hs j).lane ((given (hs j) mem).value 0) ((given (hs j) mem).stop 0); mem = (given (hs j) mem).mem }) (view_of (hs j) mem)) live;
      agree = put_agree x hs mem j (hs j) refl (λ z. z) g;
      sound = so;
      does = subst (λ q. TakesIf q rt t.slot.result (hs j) (hs j) (value_behind (hs j).world (scalar (hs j) (hs j).world.memory))) (sym live) refl;
    }
    go j l hs mem g so p true live = record {
      share = new;
      mem = (given h mem).mem;
      is = ap (λ q. cond q (record { lane = takes t.slot.result h.lane ((given h mem).value 0) ((given h mem).stop 0); mem = (given h mem).mem }) (view_of h mem)) live;
      agree = alone_put c s b ts words m hs j new (given h mem).mem one l
          (λ st a n. cells v run_.ends st a n)
          (run_.prints ∙ (ap (λ r. r ++ printed_numbers (events_of v)) (g.told j l) ∙ (append_assoc (prints_of m.log) (printed_numbers h.world.events) (printed_numbers (events_of v)) ∙ ap (λ r. prints_of m.log ++ r) (sym (numbers-append h.world.events (events_of v))))))
          (λ st n body. counts v run_.ends st n body);
      sound = takes_sound x j rt t.slot.result h new (value_behind h.world v) ok so made;
      does = subst (λ q. TakesIf q rt t.slot.result h new (value_behind h.world (scalar h h.world.memory))) (sym live) (subst (λ u. Takes rt t.slot.result h new (value_behind h.world (scalar h u))) same made);
    }
      where
        h : Share
        h = hs j

        v : Value
        v = scalar h mem.cells

        new : Share
        new = called_share t.slot.result h ((given h mem).value 0) ((given h mem).stop 0) (world_behind h.world v)

        j0 : j ≡ 0
        j0 = omega (arith, one, l)

        same : mem.cells ≡ h.world.memory
        same = λ d a n. g.cells j l (live_going i.m h.lane live) a n (λ q lq ne z. ne (z ∙ sym j0)) d

        run_ : IsSameRun b mem v (given h mem)
        run_ = callee j h mem so p live

        made : Takes rt t.slot.result h new (value_behind h.world v)
        made = takes_of rt t.slot.result h h.world v ((given h mem).value 0) ((given h mem).stop 0) (answered_run rt b mem v (given h mem) (ofty h mem.cells) run_.ends)

        stop_of_takes : (result : Option ℕ) (w : ℕ) (z : Stop) (o : Option Stop) → o ≡ Some z → (takes result h.lane w o).stop ≡ None → ⊥
        stop_of_takes result w z o eo st = none_some z (sym st ∙ ap (λ q. (takes result h.lane w q).stop) eo)
          where
            none_some : (y : Stop) → None ≡ Some y → ⊥
            none_some y q = cc

        cells : (u : Value) → EndsAlike b mem u (given h mem) → (takes t.slot.result h.lane ((given h mem).value 0) ((given h mem).stop 0)).stop ≡ None → (a n : ℕ) → (given h mem).mem.cells a n ≡ memory_of u a n
        cells (got d w) en st a n = en.cells a n
        cells (halts z w) en st a n = absurd (stop_of_takes t.slot.result ((given h mem).value 0) z ((given h mem).stop 0) en st)

        counts : (u : Value) → EndsAlike b mem u (given h mem) → (takes t.slot.result h.lane ((given h mem).value 0) ((given h mem).stop 0)).stop ≡ None → HaveRisen b m.log (given h mem).mem.log (h.world.events ++ events_of u)
        counts (got d w) en st n body = en.counts n body ∙ (ap (λ q. q + body_calls b n w.events) (g.counted j l (live_going i.m h.lane live) n body) ∙ (plus (calls_of n m.log) (body_calls b n h.world.events) (body_calls b n w.events) ∙ ap (λ q. calls_of n m.log + q) (sym (risen-append b n h.world.events w.events))))
          where
            plus : (p q r : ℕ) → p + q + r ≡ p + (q + r)
            plus p q r = omega arith
        counts (halts z w) en st n body = absurd (stop_of_takes t.slot.result ((given h mem).value 0) z ((given h mem).stop 0) en st)
