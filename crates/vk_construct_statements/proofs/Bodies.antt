-- The body of a function in one lane: its masks before it, and 0 behind it in the lanes that did not return.
use Rattle.std.proofs.Common.{arith, sym, ◌≡◌, ℕ, Bool, true, false, ◌&&◌, Some, None, refl, subst, ap, ◌∙◌, Ok}
use Rattle.vk_types.specs.declared.types.Ty.{Ty}
use Rattle.vk_kinds.specs.declared.heads.CType.TheVariants.{Void, Int}
use Rattle.vk_meaning.specs.Data.{got, number}
use Rattle.vk_meaning.specs.Statements.{Effect, Outcome, State, broke, continued, fell, returned, stopped}
use Rattle.vk_meaning.specs.Meaning.{ended, fallen}
use Rattle.vk_meaning.specs.Lanes.{IsWord, datum_of}
use Rattle.vk_lane.specs.Places.{IsSound, Place, Share, reg_type}
use Rattle.vk_lane.specs.Pieces.{Stays}
use Rattle.vk_lane.specs.Writes.{Masks, Writes}
use Rattle.vk_lane.specs.Entries.{EndsAs}
use Rattle.vk_construct.specs.Computes.{Holds, Keeps, Table}
use Rattle.vk_construct.proofs.Choices.{Masked, masked_by, number_zero}
use Rattle.vk_construct.proofs.Values.{Wrote, gone_is, live_is, off_is, wrote}
use Rattle.vk_construct_statements.specs.Follows.{After, AreApart, Exits, Follows, body_masks}
use Rattle.vk_construct_statements.proofs.Straight.{holds_same}

pub apart_body : AreApart body_masks
apart_body = record {
  running_in = omega arith;
  looping_in = omega arith;
  staying_in = omega arith;
  running_looping = λ z. absurd (omega (arith, z));
  running_staying = λ z. absurd (omega (arith, z));
  looping_staying = λ z. absurd (omega (arith, z));
}

-- behind the three masks
record Begun (act : Bool) (h h3 : Share) : Type 0 where
  going : h3.lane.stop ≡ None
  regs : (r : ℕ) → h3.lane.reg r ≡ h.lane.reg r
  world : h3.world ≡ h.world
  runs : h3.lane.on 1 ≡ act
  loops : h3.lane.on 2 ≡ act
  stays : h3.lane.on 3 ≡ act

begun : (act : Bool) (j : ℕ) (h h1 h2 h3 : Share) → h.lane.stop ≡ None → h.lane.on 0 ≡ act → Masks 1 (λ q. q.lane.on 0 && q.lane.on 0) j h h1 → Masks 2 (λ q. q.lane.on 0 && q.lane.on 0) j h1 h2 → Masks 3 (λ q. q.lane.on 0 && q.lane.on 0) j h2 h3 → Begun act h h3
begun act j h h1 h2 h3 st on e1 e2 e3 = record {
  going = m3.stop ∙ (m2.stop ∙ (m1.stop ∙ st));
  regs = λ r. m3.regs r ∙ (m2.regs r ∙ m1.regs r);
  world = m3.world ∙ (m2.world ∙ m1.world);
  runs = m3.others 1 (λ z. absurd (omega (arith, z))) ∙ (m2.others 1 (λ z. absurd (omega (arith, z))) ∙ (m1.itself ∙ twice (h.lane.on 0) on));
  loops = m3.others 2 (λ z. absurd (omega (arith, z))) ∙ (m2.itself ∙ twice (h1.lane.on 0) (zero1 ∙ on));
  stays = m3.itself ∙ twice (h2.lane.on 0) (zero2 ∙ (zero1 ∙ on));
}
  where
    m1 : Masked 1 (h.lane.on 0 && h.lane.on 0) h h1
    m1 = masked_by 1 j (λ q. q.lane.on 0 && q.lane.on 0) h h1 e1

    m2 : Masked 2 (h1.lane.on 0 && h1.lane.on 0) h1 h2
    m2 = masked_by 2 j (λ q. q.lane.on 0 && q.lane.on 0) h1 h2 e2

    m3 : Masked 3 (h2.lane.on 0 && h2.lane.on 0) h2 h3
    m3 = masked_by 3 j (λ q. q.lane.on 0 && q.lane.on 0) h2 h3 e3

    zero1 : h1.lane.on 0 ≡ h.lane.on 0
    zero1 = m1.others 0 (λ z. absurd (omega (arith, z)))

    zero2 : h2.lane.on 0 ≡ h1.lane.on 0
    zero2 = m2.others 0 (λ z. absurd (omega (arith, z)))

    self : (b : Bool) → (b && b) ≡ b
    self true = refl
    self false = refl

    twice : (b : Bool) → b ≡ act → (b && b) ≡ act
    twice b e = self b ∙ e

-- ---- a function that gives an integer

module _ (x : Place) (t : Ty) (r : ℕ) (tb tbl : Table) (effect : Effect) (j : ℕ) (h h1 h2 h3 h4 h5 : Share) (so : IsSound x j h5) (tr : reg_type x r ≡ Int t) (st : h.lane.stop ≡ None)
    (e1 : Masks 1 (λ q. q.lane.on 0 && q.lane.on 0) j h h1) (e2 : Masks 2 (λ q. q.lane.on 0 && q.lane.on 0) j h1 h2) (e3 : Masks 3 (λ q. q.lane.on 0 && q.lane.on 0) j h2 h3)
    (c : Follows x (record { reg = r; ty = Int t }) tb tbl effect body_masks j h3 h4) (e5 : Writes 3 r (λ i q. Ok 0) j h4 h5) where
  wr : Wrote 3 r (Ok 0) h4 h5
  wr = wrote 3 r (Ok 0) h4 h5 e5

  -- those that did not return have 0
  fell_off : (b l : Bool) (u : State) → Exits body_masks b l true h3 h4 → u.world ≡ h4.world → EndsAs (Int t) (Some r) h5 (got (fallen (Int t)) u.world)
  fell_off b l u ex ew = let w = wr.value (live_is 3 h4.lane ex.stays ex.going) 0 refl in
      (w.1 ∙ ex.going, ap number (sym (number_zero t)) ∙ ap (datum_of (Int t)) (sym w.0), subst (λ y. IsWord y (h5.lane.reg r)) tr (so.typed r), wr.world ∙ sym ew)

  finish : (o : Outcome) → After x j (record { reg = r; ty = Int t }) tb tbl body_masks h3 h4 o → EndsAs (Int t) (Some r) h5 (ended (Int t) o)
  finish (fell u) a = fell_off true true u a.0 a.1.world
  finish (broke u) a = fell_off false false u a.0 a.1.world
  finish (continued u) a = fell_off false true u a.0 a.1.world
  finish (returned dt w) a = let n : h5 ≡ h4 = wr.idle (off_is 3 h4.lane a.0.stays) in
      (ap (λ (y : Share). y.lane.stop) n ∙ a.0.going, a.1.is ∙ ap (λ (y : Share). datum_of (Int t) (y.lane.reg r)) (sym n), subst (λ y. IsWord y (h5.lane.reg r)) tr (so.typed r), ap (λ (y : Share). y.world) n ∙ a.2)
  finish (stopped z w) a = subst (Stays z w) (sym (wr.idle (gone_is 3 h4.lane z a.stop))) a

  pub body_ends : (s : State) → h.lane.on 0 ≡ true → Holds tb s h → EndsAs (Int t) (Some r) h5 (ended (Int t) (effect s))
  body_ends s on hold = let b : Begun true h h3 = begun true j h h1 h2 h3 st on e1 e2 e3 in
      finish (effect s) (c.runs s b.going b.runs b.loops b.stays (holds_same tb s h h3 b.regs b.world hold))

  pub body_idle : h.lane.on 0 ≡ false → h5.lane.stop ≡ None
  body_idle on =
      let b : Begun false h h3 = begun false j h h1 h2 h3 st on e1 e2 e3 in
      let k : Keeps 0 4 h3.world h3 h4 = c.off b.going b.runs 0 in
      ap (λ (y : Share). y.lane.stop) (wr.idle (off_is 3 h4.lane (k.masks 3 (omega arith) ∙ b.stays))) ∙ k.going

-- ---- a void function

module _ (x : Place) (r : ℕ) (tb tbl : Table) (effect : Effect) (j : ℕ) (h h1 h2 h3 h4 : Share) (st : h.lane.stop ≡ None)
    (e1 : Masks 1 (λ q. q.lane.on 0 && q.lane.on 0) j h h1) (e2 : Masks 2 (λ q. q.lane.on 0 && q.lane.on 0) j h1 h2) (e3 : Masks 3 (λ q. q.lane.on 0 && q.lane.on 0) j h2 h3)
    (c : Follows x (record { reg = r; ty = Void }) tb tbl effect body_masks j h3 h4) where
  finish_void : (o : Outcome) → After x j (record { reg = r; ty = Void }) tb tbl body_masks h3 h4 o → EndsAs Void None h4 (ended Void o)
  finish_void (fell u) a = (a.0.going, refl, omega arith, sym a.1.world)
  finish_void (broke u) a = (a.0.going, refl, omega arith, sym a.1.world)
  finish_void (continued u) a = (a.0.going, refl, omega arith, sym a.1.world)
  finish_void (returned dt w) a = (a.0.going, a.1.is, omega arith, a.2)
  finish_void (stopped z w) a = a

  pub void_ends : (s : State) → h.lane.on 0 ≡ true → Holds tb s h → EndsAs Void None h4 (ended Void (effect s))
  void_ends s on hold = let b : Begun true h h3 = begun true j h h1 h2 h3 st on e1 e2 e3 in
      finish_void (effect s) (c.runs s b.going b.runs b.loops b.stays (holds_same tb s h h3 b.regs b.world hold))

  pub void_idle : h.lane.on 0 ≡ false → h4.lane.stop ≡ None
  void_idle on = let b : Begun false h h3 = begun false j h h1 h2 h3 st on e1 e2 e3 in (c.off b.going b.runs 0).going
