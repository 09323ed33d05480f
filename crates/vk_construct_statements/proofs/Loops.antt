-- Loops, in one lane.
use Rattle.std.proofs.Common.{arith, sym, ◌≡◌, ◌≢◌, ℕ, zero, suc, ◌+◌, ◌<◌, ◌==◌, Bool, true, false, cond, not, ◌&&◌, Some, None, refl, subst, ap, ap₂, ◌∙◌, inl, inr, true≢false}
use Rattle.vk_types.specs.declared.types.Stop.{Stop}
use Rattle.vk_types.specs.declared.types.Stop.TheVariants.{Turns}
use Rattle.vk_types.specs.declared.types.Ty.{Ty}
use Rattle.vk_kinds.specs.declared.heads.CType.TheVariants.{Int}
use Rattle.vk_numbers.specs.Operators.{is_on}
use Rattle.vk_meaning.specs.World.{World}
use Rattle.vk_meaning.specs.Data.{Value, got, halts, number_in}
use Rattle.vk_meaning.specs.Statements.{State, at_world, Evaluation, Outcome, fell, broke, continued, returned, stopped, Effect, on_value, on_fell, on_turn, uncontinued, branch, turns, repeat, with_third}
use Rattle.vk_meaning.specs.Lanes.{IsWord}
use Rattle.vk_object.specs.Lane.{is_live, with_stop}
use Rattle.vk_lane.specs.Places.{Share, Place, IsSound, reg_type}
use Rattle.vk_lane.specs.Pieces.{Repeats, Stays}
use Rattle.vk_lane.specs.Writes.{Masks}
use Rattle.vk_construct.specs.Computes.{Table, IsTable, Holds, Keeps, Has, Gives, Computes}
use Rattle.vk_construct_statements.specs.Follows.{IsTested, Guards, AreApart, ReturnPlace, Exits, After, Follows, inner, Works, Round, LoopEnds, TestEnds, TurnEnds, Turn}
use Rattle.vk_lane.proofs.Rules.{same_number, same_yes}
use Rattle.vk_construct.proofs.Values.{keeps_same, keeps_then, holds_keeps, live_is, off_is, gone_is}
use Rattle.vk_construct.proofs.Choices.{Masked, masked_by, masked_keeps, tested}
use Rattle.vk_construct_statements.proofs.Straight.{holds_same}

-- ---- turns

-- a lane that is out of the loop's mask idles
loop_gone : (x : Place) (v : ReturnPlace) (tb : Table) (e : Evaluation) (effect : Effect) (f nr : ℕ) (n j : ℕ) (h h' : Share) → Repeats f (Turn x v tb e effect f nr) n j h h' → (z : Stop) → h.lane.stop ≡ Some z → Stays z h.world h'
loop_gone x v tb e effect f nr zero j h h' r z s = subst (Stays z h.world) (sym r) (record { stop = ap (λ b. (cond b (with_stop h.lane Turns) h.lane).stop) (gone_is f h.lane z s) ∙ s; world = refl })
loop_gone x v tb e effect f nr (suc n) j h h' (inl r) z s = subst (Stays z h.world) (sym r.1) (record { stop = s; world = refl })
loop_gone x v tb e effect f nr (suc n) j h h' (inr r) z s =
    let k : Stays z h.world r.0 = r.1.gone z s in
    let q : Stays z (r.0).world h' = loop_gone x v tb e effect f nr n j r.0 h' r.2 z k.stop in record { stop = q.stop; world = q.world ∙ k.world }

loop_off : (x : Place) (v : ReturnPlace) (tb : Table) (e : Evaluation) (effect : Effect) (f nr : ℕ) (n j : ℕ) (h h' : Share) → Repeats f (Turn x v tb e effect f nr) n j h h' → h.lane.stop ≡ None → h.lane.on f ≡ false → (dk : ℕ) → Keeps dk (f + 1) h.world h h'
loop_off x v tb e effect f nr zero j h h' r s o dk = subst (Keeps dk (f + 1) h.world h) (sym r)
    (subst (λ b. Keeps dk (f + 1) h.world h (record { lane = cond b (with_stop h.lane Turns) h.lane; world = h.world })) (sym (off_is f h.lane o)) (keeps_same dk (f + 1) h.world h s refl))
loop_off x v tb e effect f nr (suc n) j h h' (inl r) s o dk = subst (Keeps dk (f + 1) h.world h) (sym r.1) (keeps_same dk (f + 1) h.world h s refl)
loop_off x v tb e effect f nr (suc n) j h h' (inr r) s o dk =
    let k : Keeps dk (f + 1) h.world h r.0 = r.1.off s o dk in
    let q : Keeps dk (f + 1) (r.0).world r.0 h' = loop_off x v tb e effect f nr n j r.0 h' r.2 k.going (k.masks f (omega arith) ∙ o) dk in
    keeps_then dk (f + 1) dk (f + 1) h.world h.world h r.0 h' (omega arith) (omega arith) k (record { going = q.going; regs = q.regs; masks = q.masks; world = q.world ∙ k.world })

round_then : (f nr : ℕ) (p n : Bool) (h mid h' : Share) → nr < f → Round f nr true true h mid → Round f nr p n mid h' → Round f nr p n h h'
round_then f nr p n h mid h' l a b = record { going = b.going; itself = b.itself; stays = b.stays; others = λ k lk ne. b.others k lk ne ∙ a.others k lk ne }

round_idle : (f nr d : ℕ) (w : World) (n : Bool) (h mid h' : Share) → nr < f → Round f nr false n h mid → Keeps d (f + 1) w mid h' → Round f nr false n h h'
round_idle f nr d w n h mid h' l a k = record { going = k.going; itself = k.masks f (omega arith) ∙ a.itself; stays = k.masks nr (omega (arith, l)) ∙ a.stays; others = λ q lq ne. k.masks q (omega (arith, lq)) ∙ a.others q lq ne }

pub loop_runs : (x : Place) (v : ReturnPlace) (tb : Table) (e : Evaluation) (effect : Effect) (f nr : ℕ) → nr < f → (n j : ℕ) (s : State) (h h' : Share) → Repeats f (Turn x v tb e effect f nr) n j h h' → h.lane.stop ≡ None → h.lane.on f ≡ true → h.lane.on nr ≡ true → Holds tb s h →
    LoopEnds x j v tb f nr h h' (turns n e effect s)
loop_runs x v tb e effect f nr lnr zero j s h h' r st o q hold = subst (Stays Turns s.world) (sym r)
    (record { stop = ap (λ b. (cond b (with_stop h.lane Turns) h.lane).stop) (live_is f h.lane o st); world = sym hold.world })
loop_runs x v tb e effect f nr lnr (suc n) j s h h' (inl r) st o q hold = absurd (true≢false (sym (live_is f h.lane o st) ∙ r.0))
loop_runs x v tb e effect f nr lnr (suc n) j s h h' (inr r) st o q hold = turn (effect s) (r.1.runs s st o q hold)
    (λ s' st' o' q' hold'. loop_runs x v tb e effect f nr lnr n j s' r.0 h' r.2 st' o' q' hold')
  where
    mid : Share
    mid = r.0

    Next : Type 0
    Next = (s' : State) → mid.lane.stop ≡ None → mid.lane.on f ≡ true → mid.lane.on nr ≡ true → Holds tb s' mid → LoopEnds x j v tb f nr mid h' (turns n e effect s')

    idle : mid.lane.stop ≡ None → mid.lane.on f ≡ false → (dk : ℕ) → Keeps dk (f + 1) mid.world mid h'
    idle a b dk = loop_off x v tb e effect f nr n j mid h' r.2 a b dk

    ended : (o' : Outcome) → Round f nr true true h mid → LoopEnds x j v tb f nr mid h' o' → LoopEnds x j v tb f nr h h' o'
    ended (fell s') a b = (round_then f nr false true h mid h' lnr a b.0, b.1)
    ended (broke s') a b = b
    ended (continued s') a b = b
    ended (returned dt w) a b = (round_then f nr false false h mid h' lnr a b.0, b.1, b.2)
    ended (stopped z w) a b = b

    left : (n' : Bool) (s' : State) → Round f nr false n' h mid → Holds tb s' mid → Round f nr false n' h h' × Holds tb s' h'
    left n' s' a b = let k : (dk : ℕ) → Keeps dk (f + 1) mid.world mid h' = idle a.going a.itself in
        (round_idle f nr 0 mid.world n' h mid h' lnr a (k 0), holds_same tb s' mid h' (λ i. (k (i + 1)).regs i (omega arith)) (k 0).world b)

    again : (s' : State) (p : Bool) → Round f nr p true h mid → Holds tb s' mid → Next → LoopEnds x j v tb f nr h h' (cond p (turns n e effect) fell s')
    again s' true a b next = ended (turns n e effect s') a (next s' a.going a.itself a.stays b)
    again s' false a b next = left true s' a b

    test : (s' : State) (u : Value) → TestEnds x j tb f nr h mid s' u → Next → LoopEnds x j v tb f nr h h' (on_value u (λ dt w. cond (is_on (number_in dt)) (turns n e effect) fell (at_world s' w)))
    test s' (got dt w) a next = again (at_world s' w) (is_on (number_in dt)) a.0 a.1 next
    test s' (halts z w) a next = let k : Stays z mid.world h' = loop_gone x v tb e effect f nr n j mid h' r.2 z a.stop in record { stop = k.stop; world = k.world ∙ a.world }

    turn : (o' : Outcome) → TurnEnds x j v tb e f nr h mid o' → Next → LoopEnds x j v tb f nr h h' (on_turn o' (branch e (turns n e effect) fell))
    turn (fell s') a next = test s' (e s'.variables s'.world) a next
    turn (broke s') a next = left true s' a.0 a.1
    turn (continued s') a next = test s' (e s'.variables s'.world) a next
    turn (returned dt w) a next = let k : (dk : ℕ) → Keeps dk (f + 1) mid.world mid h' = idle a.0.going a.0.itself in
        (round_idle f nr 0 mid.world false h mid h' lnr a.0 (k 0), subst (Has x j v.ty dt) (sym ((k (v.reg + 1)).regs v.reg (omega arith))) a.1, (k 0).world ∙ a.2)
    turn (stopped z w) a next = let k : Stays z mid.world h' = loop_gone x v tb e effect f nr n j mid h' r.2 z a.stop in record { stop = k.stop; world = k.world ∙ a.world }

-- ---- a turn's work

pub apart_inner : (f nr : ℕ) → nr < f → AreApart (inner f nr)
apart_inner f nr l = record { running_in = omega arith; looping_in = omega arith; staying_in = omega (arith, l); running_looping = λ z. absurd (omega (arith, z)); running_staying = λ z. absurd (omega (arith, z, l)); looping_staying = λ z. absurd (omega (arith, z, l)) }

and_self : (b : Bool) → (b && b) ≡ b
and_self true = refl
and_self false = refl

-- the running mask is a copy of the loop's mask, and then comes the body
pub works_body : (x : Place) (v : ReturnPlace) (tb : Table) (effect : Effect) (f nr j : ℕ) (h h1 h2 : Share) → nr < f →
    Masks (f + 1) (λ q. q.lane.on f && q.lane.on f) j h h1 → Follows x v tb tb effect (inner f nr) j h1 h2 → Works x v tb effect f nr j h h2
works_body x v tb effect f nr j h h1 h2 l e c = record {
  gone = λ z s. let k : Stays z h1.world h2 = c.gone z (m1.stop ∙ s) in record { stop = k.stop; world = k.world ∙ m1.world };
  off = λ n o dk. let k : Keeps dk (f + 2) h1.world h1 h2 = c.off (m1.stop ∙ n) (m1.itself ∙ (and_self (h.lane.on f) ∙ o)) dk in
      keeps_then dk (f + 1) dk (f + 2) h.world h.world h h1 h2 (omega arith) (omega arith) (masked_keeps (f + 1) dk (f + 1) _ h.world h h1 (omega arith) n refl m1)
      (record { going = k.going; regs = k.regs; masks = k.masks; world = k.world ∙ m1.world });
  runs = λ s n o q hold. go (effect s) (c.runs s (m1.stop ∙ n) (m1.itself ∙ (and_self (h.lane.on f) ∙ o)) (m1.others f (λ z. absurd (omega (arith, z))) ∙ o) (m1.others nr (λ z. absurd (omega (arith, z, l))) ∙ q)
      (holds_same tb s h h1 m1.regs m1.world hold));
}
  where
    m1 : Masked (f + 1) (h.lane.on f && h.lane.on f) h h1
    m1 = masked_by (f + 1) j (λ q. q.lane.on f && q.lane.on f) h h1 e

    ex : (r l' n : Bool) → Exits (inner f nr) r l' n h1 h2 → Exits (inner f nr) r l' n h h2
    ex r l' n a = record { going = a.going; runs = a.runs; loops = a.loops; stays = a.stays; others = λ k lk y z u. a.others k lk y z u ∙ m1.others k y }

    go : (o : Outcome) → After x j v tb tb (inner f nr) h1 h2 o → After x j v tb tb (inner f nr) h h2 o
    go (fell s) a = (ex true true true a.0, a.1)
    go (broke s) a = (ex false false true a.0, a.1)
    go (continued s) a = (ex false true true a.0, a.1)
    go (returned dt w) a = (ex false true false a.0, a.1, a.2)
    go (stopped z w) a = a

-- and then, where the body went on or to the turn's end, the third part of a `for`
pub works_third : (x : Place) (v : ReturnPlace) (tb : Table) (body third : Effect) (f nr j : ℕ) (h h1 h2 h3 : Share) → nr < f →
    Works x v tb body f nr j h h1 → Masks (f + 1) (λ q. q.lane.on f && q.lane.on nr) j h1 h2 → Follows x v tb tb third (inner f nr) j h2 h3 → Works x v tb (with_third body third) f nr j h h3
works_third x v tb body third f nr j h h1 h2 h3 l w e c = record {
  gone = λ z s. let k : Stays z h.world h1 = w.gone z s in let q : Stays z h2.world h3 = c.gone z (m2.stop ∙ k.stop) in record { stop = q.stop; world = q.world ∙ (m2.world ∙ k.world) };
  off = λ n o dk. let k : Keeps dk (f + 1) h.world h h1 = w.off n o dk in
      let on : h2.lane.on (f + 1) ≡ false = m2.itself ∙ ap (λ y. y && h1.lane.on nr) (k.masks f (omega arith) ∙ o) in
      let q : Keeps dk (f + 2) h2.world h2 h3 = c.off (m2.stop ∙ k.going) on dk in
      keeps_then dk (f + 1) dk (f + 2) h.world h.world h h2 h3 (omega arith) (omega arith)
      (keeps_then dk (f + 1) dk (f + 1) h.world h.world h h1 h2 (omega arith) (omega arith) k (masked_keeps (f + 1) dk (f + 1) _ h.world h1 h2 (omega arith) k.going k.world m2))
      (record { going = q.going; regs = q.regs; masks = q.masks; world = q.world ∙ (m2.world ∙ k.world) });
  runs = λ s n o q hold. go (body s) (w.runs s n o q hold);
}
  where
    m2 : Masked (f + 1) (h1.lane.on f && h1.lane.on nr) h1 h2
    m2 = masked_by (f + 1) j (λ q. q.lane.on f && q.lane.on nr) h1 h2 e

    ex : (b r l' n : Bool) → Exits (inner f nr) b true true h h1 → Exits (inner f nr) r l' n h2 h3 → Exits (inner f nr) r l' n h h3
    ex b r l' n a c' = record { going = c'.going; runs = c'.runs; loops = c'.loops; stays = c'.stays; others = λ k lk y z u. c'.others k lk y z u ∙ (m2.others k y ∙ a.others k lk y z u) }

    later : (b : Bool) (o : Outcome) → Exits (inner f nr) b true true h h1 → After x j v tb tb (inner f nr) h2 h3 o → After x j v tb tb (inner f nr) h h3 o
    later b (fell s) a q = (ex b true true true a q.0, q.1)
    later b (broke s) a q = (ex b false false true a q.0, q.1)
    later b (continued s) a q = (ex b false true true a q.0, q.1)
    later b (returned dt u) a q = (ex b false true false a q.0, q.1, q.2)
    later b (stopped z u) a q = q

    next : (b : Bool) (s : State) → Exits (inner f nr) b true true h h1 → Holds tb s h1 → After x j v tb tb (inner f nr) h h3 (third s)
    next b s a hold = later b (third s) a (c.runs s (m2.stop ∙ a.going) (m2.itself ∙ ap₂ (λ y z. y && z) a.loops a.stays) (m2.others f (λ z. absurd (omega (arith, z))) ∙ a.loops) (m2.others nr (λ z. absurd (omega (arith, z, l))) ∙ a.stays)
        (holds_same tb s h1 h2 m2.regs m2.world hold))

    off3 : (p : Bool) → (h1.lane.on f && h1.lane.on nr) ≡ false → h1.lane.stop ≡ None → (dk : ℕ) → Keeps dk (f + 2) h2.world h2 h3
    off3 p no' st dk = c.off (m2.stop ∙ st) (m2.itself ∙ no') dk

    out : (l' n : Bool) → Exits (inner f nr) false l' n h h1 → (l' && n) ≡ false → Exits (inner f nr) false l' n h h3 × ((dk : ℕ) → Keeps dk (f + 2) h2.world h2 h3)
    out l' n a no' = let k : (dk : ℕ) → Keeps dk (f + 2) h2.world h2 h3 = off3 true (ap₂ (λ y z. y && z) a.loops a.stays ∙ no') a.going in (
      record {
        going = (k 0).going;
        runs = (k 0).masks (f + 1) (omega arith) ∙ (m2.itself ∙ (ap₂ (λ y z. y && z) a.loops a.stays ∙ no'));
        loops = (k 0).masks f (omega arith) ∙ (m2.others f (λ z. absurd (omega (arith, z))) ∙ a.loops);
        stays = (k 0).masks nr (omega (arith, l)) ∙ (m2.others nr (λ z. absurd (omega (arith, z, l))) ∙ a.stays);
        others = λ i li y z u. (k 0).masks i li ∙ (m2.others i y ∙ a.others i li y z u);
      },
      k,
    )

    go : (o : Outcome) → After x j v tb tb (inner f nr) h h1 o → After x j v tb tb (inner f nr) h h3 (on_fell (uncontinued o) third)
    go (fell s) a = next true s a.0 a.1
    go (continued s) a = next false s a.0 a.1
    go (broke s) a = let k = out false true a.0 refl in (k.0, holds_same tb s h1 h3 (λ i. (k.1 (i + 1)).regs i (omega arith) ∙ m2.regs i) ((k.1 0).world ∙ m2.world) a.1)
    go (returned dt u) a = let k = out true false a.0 refl in (k.0, subst (Has x j v.ty dt) (sym ((k.1 (v.reg + 1)).regs v.reg (omega arith) ∙ m2.regs v.reg)) a.1, (k.1 0).world ∙ (m2.world ∙ a.2))
    go (stopped z u) a = let q : Stays z h2.world h3 = c.gone z (m2.stop ∙ a.stop) in record { stop = q.stop; world = q.world ∙ (m2.world ∙ a.world) }

-- ---- a turn: the work, the lanes that returned leave, the condition

pub tests_on : (x : Place) (tb : Table) (e : Evaluation) (t : Ty) (r d f nr j : ℕ) (h h1 h2 : Share) → nr < f → IsTable x tb d → reg_type x r ≡ Int t → IsSound x j h1 →
    Computes x tb e (Int t) r f d (f + 1) j h h1 → Masks f (λ q. is_live f q.lane && not (q.lane.reg r == 0)) j h1 h2 → IsTested x tb e f nr j h h2
tests_on x tb e t r d f nr j h h1 h2 l it ty so c e2 = record {
  gone = λ z s. let k : Stays z h.world h1 = c.gone z s in record { stop = m2.stop ∙ k.stop; world = m2.world ∙ k.world };
  off = λ n o dk. let k : Keeps dk (f + 1) h.world h h1 = c.off n o dk in record { going = m2.stop ∙ k.going; regs = λ i li. m2.regs i ∙ k.regs i li; masks = λ i li. off_at dk k o i li (i == f) refl; world = m2.world ∙ k.world };
  runs = λ s n o q hold. go s o q hold (e s.variables s.world) (c.runs s n o hold);
}
  where
    m2 : Masked f (is_live f h1.lane && not (h1.lane.reg r == 0)) h1 h2
    m2 = masked_by f j (λ q. is_live f q.lane && not (q.lane.reg r == 0)) h1 h2 e2

    off_at : (dk : ℕ) → Keeps dk (f + 1) h.world h h1 → h.lane.on f ≡ false → (i : ℕ) → i < f + 1 → (b : Bool) → (i == f) ≡ b → h2.lane.on i ≡ h.lane.on i
    off_at dk k o i li true z = subst (λ y. h2.lane.on y ≡ h.lane.on y) (sym (same_number i f z)) (m2.itself ∙ (ap (λ y. y && not (h1.lane.reg r == 0)) (off_is f h1.lane (k.masks f (omega arith) ∙ o)) ∙ sym o))
    off_at dk k o i li false z = m2.others i (λ y. absurd (true≢false (sym (same_yes f) ∙ (ap (λ g. g == f) (sym y) ∙ z)))) ∙ k.masks i li

    go : (s : State) → h.lane.on f ≡ true → h.lane.on nr ≡ true → Holds tb s h → (u : Value) → Gives x j (Int t) r d (f + 1) h h1 u → TestEnds x j tb f nr h h2 s u
    go s o q hold (got dt w) g = (
      record {
        going = m2.stop ∙ g.0.going;
        itself = m2.itself ∙ (ap (λ y. y && not (h1.lane.reg r == 0)) (live_is f h1.lane (g.0.masks f (omega arith) ∙ o) g.0.going)
            ∙ (tested t (h1.lane.reg r) (subst (λ y. IsWord y (h1.lane.reg r)) ty (so.typed r)) ∙ ap (λ y. is_on (number_in y)) (sym g.1.is)));
        stays = m2.others nr (λ z. absurd (omega (arith, z, l))) ∙ (g.0.masks nr (omega (arith, l)) ∙ q);
        others = λ k lk ne. m2.others k (λ z. absurd (omega (arith, z, lk))) ∙ g.0.masks k (omega (arith, lk));
      },
      holds_same tb (at_world s w) h1 h2 m2.regs m2.world (holds_keeps x tb d (f + 1) d w s h h1 it (omega arith) g.0 hold),
    )
    go s o q hold (halts z w) g = record { stop = m2.stop ∙ g.stop; world = m2.world ∙ g.world }

pub turn_of : (x : Place) (v : ReturnPlace) (tb : Table) (e : Evaluation) (effect : Effect) (f nr j : ℕ) (h h1 h2 h3 : Share) → nr < f →
    Works x v tb effect f nr j h h1 → Masks f (λ q. q.lane.on f && q.lane.on nr) j h1 h2 → IsTested x tb e f nr j h2 h3 → Turn x v tb e effect f nr j h h3
turn_of x v tb e effect f nr j h h1 h2 h3 l w e2 t = record {
  gone = λ z s. let k : Stays z h.world h1 = w.gone z s in let q : Stays z h2.world h3 = t.gone z (m2.stop ∙ k.stop) in record { stop = q.stop; world = q.world ∙ (m2.world ∙ k.world) };
  off = λ n o dk. let k : Keeps dk (f + 1) h.world h h1 = w.off n o dk in
      let on : h2.lane.on f ≡ false = m2.itself ∙ ap (λ y. y && h1.lane.on nr) (k.masks f (omega arith) ∙ o) in
      let q : Keeps dk (f + 1) h2.world h2 h3 = t.off (m2.stop ∙ k.going) on dk in
      record { going = q.going; regs = λ i li. q.regs i li ∙ (m2.regs i ∙ k.regs i li); masks = λ i li. q.masks i li ∙ off_at dk k o on i li (i == f) refl; world = q.world ∙ (m2.world ∙ k.world) };
  runs = λ s n o q hold. go (effect s) (w.runs s n o q hold);
}
  where
    m2 : Masked f (h1.lane.on f && h1.lane.on nr) h1 h2
    m2 = masked_by f j (λ q. q.lane.on f && q.lane.on nr) h1 h2 e2

    off_at : (dk : ℕ) → Keeps dk (f + 1) h.world h h1 → h.lane.on f ≡ false → h2.lane.on f ≡ false → (i : ℕ) → i < f + 1 → (b : Bool) → (i == f) ≡ b → h2.lane.on i ≡ h.lane.on i
    off_at dk k o on i li true z = subst (λ y. h2.lane.on y ≡ h.lane.on y) (sym (same_number i f z)) (on ∙ sym o)
    off_at dk k o on i li false z = m2.others i (λ y. absurd (true≢false (sym (same_yes f) ∙ (ap (λ g. g == f) (sym y) ∙ z)))) ∙ k.masks i li

    -- in the loop's mask as the body left it
    round : (b l' n : Bool) → Exits (inner f nr) b l' n h h1 → Round f nr (l' && n) n h h2
    round b l' n a = record {
      going = m2.stop ∙ a.going;
      itself = m2.itself ∙ ap₂ (λ y z. y && z) a.loops a.stays;
      stays = m2.others nr (λ z. absurd (omega (arith, z, l))) ∙ a.stays;
      others = λ k lk ne. m2.others k (λ z. absurd (omega (arith, z, lk))) ∙ a.others k (omega (arith, lk)) (λ z. absurd (omega (arith, z, lk))) (λ z. absurd (omega (arith, z, lk))) ne;
    }

    test : (s : State) (u : Value) → Round f nr true true h h2 → TestEnds x j tb f nr h2 h3 s u → TestEnds x j tb f nr h h3 s u
    test s (got dt w') a b = (round_then f nr (is_on (number_in dt)) true h h2 h3 l a b.0, b.1)
    test s (halts z w') a b = b

    again : (b : Bool) (s : State) → Exits (inner f nr) b true true h h1 → Holds tb s h1 → TestEnds x j tb f nr h h3 s (e s.variables s.world)
    again b s a hold = let r = round b true true a in test s (e s.variables s.world) r (t.runs s r.going r.itself r.stays (holds_same tb s h1 h2 m2.regs m2.world hold))

    out : (l' n : Bool) → (l' && n) ≡ false → Exits (inner f nr) false l' n h h1 → Round f nr false n h h3 × ((dk : ℕ) → Keeps dk (f + 1) h2.world h2 h3)
    out l' n no' a = let r : Round f nr false n h h2 = subst (λ p. Round f nr p n h h2) no' (round false l' n a) in
        let k : (dk : ℕ) → Keeps dk (f + 1) h2.world h2 h3 = t.off r.going r.itself in (round_idle f nr 0 h2.world n h h2 h3 l r (k 0), k)

    go : (o : Outcome) → After x j v tb tb (inner f nr) h h1 o → TurnEnds x j v tb e f nr h h3 o
    go (fell s) a = again true s a.0 a.1
    go (continued s) a = again false s a.0 a.1
    go (broke s) a = let k = out false true refl a.0 in (k.0, holds_same tb s h1 h3 (λ i. (k.1 (i + 1)).regs i (omega arith) ∙ m2.regs i) ((k.1 0).world ∙ m2.world) a.1)
    go (returned dt u) a = let k = out true false refl a.0 in (k.0, subst (Has x j v.ty dt) (sym ((k.1 (v.reg + 1)).regs v.reg (omega arith) ∙ m2.regs v.reg)) a.1, (k.1 0).world ∙ (m2.world ∙ a.2))
    go (stopped z u) a = let q : Stays z h2.world h3 = t.gone z (m2.stop ∙ a.stop) in record { stop = q.stop; world = q.world ∙ (m2.world ∙ a.world) }

-- ---- whole loops

-- behind a loop the running mask loses the lanes that returned
leaves : (x : Place) (v : ReturnPlace) (tb : Table) (m : Guards) (j : ℕ) (h h1 h3 h4 : Share) → AreApart m → h.lane.on m.running ≡ true → h.lane.on m.looping ≡ true → ((k : ℕ) → k < m.free → h1.lane.on k ≡ h.lane.on k) →
    Masked m.running (h3.lane.on m.running && h3.lane.on m.staying) h3 h4 → (o : Outcome) → LoopEnds x j v tb m.free m.staying h1 h3 o → After x j v tb tb m h h4 o
leaves x v tb m j h h1 h3 h4 a o l same m4 = go
  where
    ex : (n : Bool) → Round m.free m.staying false n h1 h3 → Exits m n true n h h4
    ex n r = record {
      going = m4.stop ∙ r.going;
      runs = m4.itself ∙ ap₂ (λ y z. y && z) (r.others m.running a.running_in a.running_staying ∙ (same m.running a.running_in ∙ o)) r.stays;
      loops = m4.others m.looping (λ z. a.running_looping (sym z)) ∙ (r.others m.looping a.looping_in a.looping_staying ∙ (same m.looping a.looping_in ∙ l));
      stays = m4.others m.staying (λ z. a.running_staying (sym z)) ∙ r.stays;
      others = λ k lk y z u. m4.others k y ∙ (r.others k lk u ∙ same k lk);
    }

    go : (o' : Outcome) → LoopEnds x j v tb m.free m.staying h1 h3 o' → After x j v tb tb m h h4 o'
    go (fell s) q = (ex true q.0, holds_same tb s h3 h4 m4.regs m4.world q.1)
    go (broke s) q = absurd q
    go (continued s) q = absurd q
    go (returned dt w) q = (ex false q.0, subst (Has x j v.ty dt) (sym (m4.regs v.reg)) q.1, m4.world ∙ q.2)
    go (stopped z w) q = record { stop = m4.stop ∙ q.stop; world = m4.world ∙ q.world }

leaves_off : (m : Guards) (dk : ℕ) (h h3 h4 : Share) → AreApart m → h.lane.on m.running ≡ false → Keeps dk m.free h.world h h3 → Masked m.running (h3.lane.on m.running && h3.lane.on m.staying) h3 h4 → Keeps dk m.free h.world h h4
leaves_off m dk h h3 h4 a o k m4 = record { going = m4.stop ∙ k.going; regs = λ i li. m4.regs i ∙ k.regs i li; masks = λ i li. at i li (i == m.running) refl; world = m4.world ∙ k.world }
  where
    at : (i : ℕ) → i < m.free → (b : Bool) → (i == m.running) ≡ b → h4.lane.on i ≡ h.lane.on i
    at i li true z = subst (λ y. h4.lane.on y ≡ h.lane.on y) (sym (same_number i m.running z)) (m4.itself ∙ (ap (λ y. y && h3.lane.on m.staying) (k.masks m.running a.running_in ∙ o) ∙ sym o))
    at i li false z = m4.others i (λ y. absurd (true≢false (sym (same_yes m.running) ∙ (ap (λ g. g == m.running) (sym y) ∙ z)))) ∙ k.masks i li

-- `do`: h1 behind the copy of the running mask, h3 behind the loop
pub follows_do : (x : Place) (v : ReturnPlace) (tb : Table) (e : Evaluation) (effect : Effect) (T : ℕ) (m : Guards) (j : ℕ) (h h1 h3 h4 : Share) → AreApart m →
    Masks m.free (λ q. q.lane.on m.running && q.lane.on m.running) j h h1 → Repeats m.free (Turn x v tb e effect m.free m.staying) T j h1 h3 → Masks m.running (λ q. q.lane.on m.running && q.lane.on m.staying) j h3 h4 →
    Follows x v tb tb (turns T e effect) m j h h4
follows_do x v tb e effect T m j h h1 h3 h4 a e1 r e4 = record {
  gone = λ z s. let k : Stays z h1.world h3 = loop_gone x v tb e effect m.free m.staying T j h1 h3 r z (m1.stop ∙ s) in record { stop = m4.stop ∙ k.stop; world = m4.world ∙ (k.world ∙ m1.world) };
  off = λ n o dk. leaves_off m dk h h3 h4 a o (off3 n o dk) m4;
  runs = λ s n o l q hold. leaves x v tb m j h h1 h3 h4 a o l (λ k lk. m1.others k (λ z. absurd (omega (arith, z, lk)))) m4 (turns T e effect s)
      (loop_runs x v tb e effect m.free m.staying a.staying_in T j s h1 h3 r (m1.stop ∙ n) (m1.itself ∙ (and_self (h.lane.on m.running) ∙ o)) (m1.others m.staying below ∙ q) (holds_same tb s h h1 m1.regs m1.world hold));
}
  where
    m1 : Masked m.free (h.lane.on m.running && h.lane.on m.running) h h1
    m1 = masked_by m.free j (λ q. q.lane.on m.running && q.lane.on m.running) h h1 e1

    m4 : Masked m.running (h3.lane.on m.running && h3.lane.on m.staying) h3 h4
    m4 = masked_by m.running j (λ q. q.lane.on m.running && q.lane.on m.staying) h3 h4 e4

    staying_in : m.staying < m.free
    staying_in = a.staying_in

    below : m.staying ≢ m.free
    below z = absurd (omega (arith, z, staying_in))

    off3 : h.lane.stop ≡ None → h.lane.on m.running ≡ false → (dk : ℕ) → Keeps dk m.free h.world h h3
    off3 n o dk = let k : Keeps dk (m.free + 1) h1.world h1 h3 = loop_off x v tb e effect m.free m.staying T j h1 h3 r (m1.stop ∙ n) (m1.itself ∙ (and_self (h.lane.on m.running) ∙ o)) dk in
        keeps_then dk m.free dk (m.free + 1) h.world h.world h h1 h3 (omega arith) (omega arith) (masked_keeps m.free dk m.free _ h.world h h1 (omega arith) n refl m1)
        (record { going = k.going; regs = k.regs; masks = k.masks; world = k.world ∙ m1.world })

-- `while`: h2 behind the first condition
pub follows_while : (x : Place) (v : ReturnPlace) (tb : Table) (e : Evaluation) (effect : Effect) (T : ℕ) (m : Guards) (j : ℕ) (h h1 h2 h3 h4 : Share) → AreApart m →
    Masks m.free (λ q. q.lane.on m.running && q.lane.on m.running) j h h1 → IsTested x tb e m.free m.staying j h1 h2 → Repeats m.free (Turn x v tb e effect m.free m.staying) T j h2 h3 → Masks m.running (λ q. q.lane.on m.running && q.lane.on m.staying) j h3 h4 →
    Follows x v tb tb (repeat T e effect) m j h h4
follows_while x v tb e effect T m j h h1 h2 h3 h4 a e1 t r e4 = record {
  gone = λ z s. let k : Stays z h1.world h2 = t.gone z (m1.stop ∙ s) in let q : Stays z h2.world h3 = loop_gone x v tb e effect m.free m.staying T j h2 h3 r z k.stop in
      record { stop = m4.stop ∙ q.stop; world = m4.world ∙ (q.world ∙ (k.world ∙ m1.world)) };
  off = λ n o dk. leaves_off m dk h h3 h4 a o (off3 n o dk) m4;
  runs = λ s n o l q hold. leaves x v tb m j h h1 h3 h4 a o l (λ k lk. m1.others k (λ z. absurd (omega (arith, z, lk)))) m4 (repeat T e effect s)
      (test s (e s.variables s.world) (t.runs s (m1.stop ∙ n) (m1.itself ∙ (and_self (h.lane.on m.running) ∙ o)) (m1.others m.staying below ∙ q) (holds_same tb s h h1 m1.regs m1.world hold)));
}
  where
    m1 : Masked m.free (h.lane.on m.running && h.lane.on m.running) h h1
    m1 = masked_by m.free j (λ q. q.lane.on m.running && q.lane.on m.running) h h1 e1

    m4 : Masked m.running (h3.lane.on m.running && h3.lane.on m.staying) h3 h4
    m4 = masked_by m.running j (λ q. q.lane.on m.running && q.lane.on m.staying) h3 h4 e4

    staying_in : m.staying < m.free
    staying_in = a.staying_in

    below : m.staying ≢ m.free
    below z = absurd (omega (arith, z, staying_in))

    off3 : h.lane.stop ≡ None → h.lane.on m.running ≡ false → (dk : ℕ) → Keeps dk m.free h.world h h3
    off3 n o dk =
        let k2 : Keeps dk (m.free + 1) h1.world h1 h2 = t.off (m1.stop ∙ n) (m1.itself ∙ (and_self (h.lane.on m.running) ∙ o)) dk in
        let k : Keeps dk (m.free + 1) h2.world h2 h3 = loop_off x v tb e effect m.free m.staying T j h2 h3 r k2.going (k2.masks m.free (omega arith) ∙ (m1.itself ∙ (and_self (h.lane.on m.running) ∙ o))) dk in
        keeps_then dk m.free dk (m.free + 1) h.world h.world h h1 h3 (omega arith) (omega arith) (masked_keeps m.free dk m.free _ h.world h h1 (omega arith) n refl m1)
        (keeps_then dk (m.free + 1) dk (m.free + 1) h.world h.world h1 h2 h3 (omega arith) (omega arith) (record { going = k2.going; regs = k2.regs; masks = k2.masks; world = k2.world ∙ m1.world })
        (record { going = k.going; regs = k.regs; masks = k.masks; world = k.world ∙ (k2.world ∙ m1.world) }))

    ended : (o : Outcome) → Round m.free m.staying true true h1 h2 → LoopEnds x j v tb m.free m.staying h2 h3 o → LoopEnds x j v tb m.free m.staying h1 h3 o
    ended (fell s') p q = (round_then m.free m.staying false true h1 h2 h3 staying_in p q.0, q.1)
    ended (broke s') p q = q
    ended (continued s') p q = q
    ended (returned dt w) p q = (round_then m.free m.staying false false h1 h2 h3 staying_in p q.0, q.1, q.2)
    ended (stopped z w) p q = q

    start : (s : State) (p : Bool) → Round m.free m.staying p true h1 h2 → Holds tb s h2 → LoopEnds x j v tb m.free m.staying h1 h3 (cond p (turns T e effect) fell s)
    start s true p hold = ended (turns T e effect s) p (loop_runs x v tb e effect m.free m.staying staying_in T j s h2 h3 r p.going p.itself p.stays hold)
    start s false p hold = let k : (dk : ℕ) → Keeps dk (m.free + 1) h2.world h2 h3 = loop_off x v tb e effect m.free m.staying T j h2 h3 r p.going p.itself in
        (round_idle m.free m.staying 0 h2.world true h1 h2 h3 staying_in p (k 0), holds_same tb s h2 h3 (λ i. (k (i + 1)).regs i (omega arith)) (k 0).world hold)

    test : (s : State) (u : Value) → TestEnds x j tb m.free m.staying h1 h2 s u → LoopEnds x j v tb m.free m.staying h1 h3 (on_value u (λ dt w. cond (is_on (number_in dt)) (turns T e effect) fell (at_world s w)))
    test s (got dt w) p = start (at_world s w) (is_on (number_in dt)) p.0 p.1
    test s (halts z w) p = let k : Stays z h2.world h3 = loop_gone x v tb e effect m.free m.staying T j h2 h3 r z p.stop in record { stop = k.stop; world = k.world ∙ p.world }
