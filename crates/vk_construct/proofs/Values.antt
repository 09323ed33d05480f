-- Code of expressions, in one lane.
use Rattle.std.proofs.Common.{arith, sym, ◌≡◌, ◌≢◌, ℕ, ◌<◌, ◌≤◌, Bool, true, false, cond, ◌&&◌, Option, Some, None, refl, subst, ap, ap₂, ◌∙◌, ◌⊎◌, inl, inr, Result, Ok, Err, true≢false}
use Rattle.std.specs.Prelude.{is_none}
use Rattle.vk_types.specs.declared.types.Stop.{Stop}
use Rattle.vk_types.specs.declared.types.Ty.{Ty}
use Rattle.vk_kinds.specs.declared.heads.CType.{CType}
use Rattle.vk_kinds.specs.declared.heads.CType.TheVariants.{Void, Int, Ptr}
use Rattle.vk_meaning.specs.World.{World}
use Rattle.vk_meaning.specs.Data.{Datum, Value, got, halts, with_value, Action, and_then}
use Rattle.vk_meaning.specs.Expressions.{Variables}
use Rattle.vk_meaning.specs.Statements.{State, at_world, Evaluation}
use Rattle.vk_meaning.specs.Lanes.{datum_of}
use Rattle.vk_object.specs.Lane.{LaneState, is_live}
use Rattle.vk_lane.specs.Places.{Share, Place, IsPlace, IsSound, IsFine}
use Rattle.vk_lane.specs.Writes.{written_lane, written_share, Writes}
use Rattle.vk_construct.specs.Computes.{Table, IsTable, Holds, Keeps, Has, Gives, Computes, Answers, Idles}
use Rattle.vk_lane.specs.Pieces.{Stays}
use Rattle.vk_lane.proofs.Rules.{same_yes, same_not}
use Rattle.vk_lane.proofs.Writing.{ok_word}

-- ---- lanes that keep

pub keeps_same : (d f : ℕ) (w : World) (h : Share) → h.lane.stop ≡ None → h.world ≡ w → Keeps d f w h h
keeps_same d f w h s e = record { going = s; regs = λ r l. refl; masks = λ m l. refl; world = e }

pub keeps_then : (d f d' f' : ℕ) (v w : World) (h mid h' : Share) → d ≤ d' → f ≤ f' → Keeps d f v h mid → Keeps d' f' w mid h' → Keeps d f w h h'
keeps_then d f d' f' v w h mid h' ld lf a b = record {
  going = b.going;
  regs = λ r l. b.regs r (omega (arith, l, ld)) ∙ a.regs r l;
  masks = λ m l. b.masks m (omega (arith, l, lf)) ∙ a.masks m l;
  world = b.world;
}

pub keeps_less : (d f d' f' : ℕ) (w : World) (h h' : Share) → d ≤ d' → f ≤ f' → Keeps d' f' w h h' → Keeps d f w h h'
keeps_less d f d' f' w h h' ld lf a = record { going = a.going; regs = λ r l. a.regs r (omega (arith, l, ld)); masks = λ m l. a.masks m (omega (arith, l, lf)); world = a.world }

pub holds_keeps : (x : Place) (tb : Table) (d f dk : ℕ) (w : World) (s : State) (h h' : Share) → IsTable x tb d → d ≤ dk → Keeps dk f w h h' → Holds tb s h → Holds tb (at_world s w) h'
holds_keeps x tb d f dk w s h h' t l k a = record { variables = λ n b. a.variables n b ∙ ap (datum_of (tb.ty n)) (sym (k.regs (tb.reg n) (omega (arith, l, t.below n b)))); world = sym k.world }

-- the scalar state that a lane has
abbrev pub state_of : Table → Share → State
state_of tb h = record { variables = λ k. datum_of (tb.ty k) (h.lane.reg (tb.reg k)); world = h.world }

pub holds_state : (tb : Table) (h : Share) → Holds tb (state_of tb h) h
holds_state tb h = record { variables = λ k l. refl; world = refl }

pub stop_cases : (h : Share) → (h.lane.stop ≡ None) ⊎ ((z : Stop) × (h.lane.stop ≡ Some z))
stop_cases h = go h.lane.stop
  where
    go : (o : Option Stop) → (o ≡ None) ⊎ ((z : Stop) × (o ≡ Some z))
    go None = inl refl
    go (Some z) = inr (z, refl)

pub live_on : (m : ℕ) (l : LaneState) → is_live m l ≡ true → (l.on m ≡ true) × (l.stop ≡ None)
live_on m l = go (l.on m) l.stop
  where
    go : (b : Bool) (s : Option Stop) → (b && is_none s) ≡ true → (b ≡ true) × (s ≡ None)
    go true None e = (refl, refl)
    go true (Some y) e = absurd (true≢false (sym e))
    go false s e = absurd (true≢false (sym e))

pub live_is : (m : ℕ) (l : LaneState) → l.on m ≡ true → l.stop ≡ None → is_live m l ≡ true
live_is m l e f = ap₂ (λ b s. b && is_none s) e f

pub off_is : (m : ℕ) (l : LaneState) → l.on m ≡ false → is_live m l ≡ false
off_is m l e = ap (λ b. b && is_none l.stop) e

pub gone_is : (m : ℕ) (l : LaneState) (z : Stop) → l.stop ≡ Some z → is_live m l ≡ false
gone_is m l z e = ap (λ s. l.on m && is_none s) e ∙ no (l.on m)
  where
    no : (b : Bool) → (b && false) ≡ false
    no true = refl
    no false = refl

pub none_some : (o : Option Stop) (z : Stop) → o ≡ None → o ≡ Some z → ⊥
none_some o z e f = cc

-- what a live lane has behind an expression's code, whatever it had before
pub computes_has : (x : Place) (tb : Table) (e : Evaluation) (t : CType) (r m d f j : ℕ) (h h' : Share) → m < f → Computes x tb e t r m d f j h h' → is_live m h'.lane ≡ true → (dt : Datum) × Has x j t dt (h'.lane.reg r)
computes_has x tb e t r m d f j h h' lm c live = by_stop (stop_cases h)
  where
    after : (h'.lane.on m ≡ true) × (h'.lane.stop ≡ None)
    after = live_on m h'.lane live

    on : (b : Bool) → h.lane.on m ≡ b → h.lane.stop ≡ None → (dt : Datum) × Has x j t dt (h'.lane.reg r)
    on false q n = absurd (true≢false (sym after.0 ∙ ((c.off n q d).masks m lm ∙ q)))
    on true q n = value e_of (c.runs (state_of tb h) n q (holds_state tb h))
      where
        e_of : Value
        e_of = e (state_of tb h).variables (state_of tb h).world

        value : (v : Value) → Gives x j t r d f h h' v → (dt : Datum) × Has x j t dt (h'.lane.reg r)
        value (got dt w) g = (dt, g.1)
        value (halts z w) g = absurd (none_some h'.lane.stop z after.1 g.stop)

    by_stop : (h.lane.stop ≡ None) ⊎ ((z : Stop) × (h.lane.stop ≡ Some z)) → (dt : Datum) × Has x j t dt (h'.lane.reg r)
    by_stop (inl n) = on (h.lane.on m) refl n
    by_stop (inr z) = absurd (none_some h'.lane.stop z.0 after.1 (c.gone z.0 z.1).stop)

-- ---- one instruction

ok_err : (w : ℕ) (z : Stop) (r : Result ℕ Stop) → r ≡ Ok w → r ≡ Err z → ⊥
ok_err w z r e f = cc

err_stop : (y z : Stop) (r : Result ℕ Stop) → r ≡ Err y → r ≡ Err z → y ≡ z
err_stop y z r e f = cc

-- what an instruction that writes a register does
pub record Wrote (m d : ℕ) (r : Result ℕ Stop) (h h' : Share) : Type 0 where
  pub world : h'.world ≡ h.world
  pub idle : is_live m h.lane ≡ false → h' ≡ h
  pub value : is_live m h.lane ≡ true → (w : ℕ) → r ≡ Ok w → (h'.lane.reg d ≡ w) × (h'.lane.stop ≡ h.lane.stop)
  pub stop : is_live m h.lane ≡ true → (z : Stop) → r ≡ Err z → h'.lane.stop ≡ Some z
  pub others : (k : ℕ) → k ≢ d → h'.lane.reg k ≡ h.lane.reg k
  pub masks : (k : ℕ) → h'.lane.on k ≡ h.lane.on k

pub wrote : (m d : ℕ) (r : Result ℕ Stop) (h h' : Share) → h' ≡ written_share m h d r → Wrote m d r h h'
wrote m d r h h' e = subst (Wrote m d r h) (sym e) (go (is_live m h.lane) r refl)
  where
    go : (b : Bool) (q : Result ℕ Stop) → is_live m h.lane ≡ b → Wrote m d q h (record { lane = cond b (written_lane h.lane d q) h.lane; world = h.world })
    go false q eb = record { world = refl; idle = λ i. refl; value = λ l. absurd (true≢false (sym l ∙ eb)); stop = λ l. absurd (true≢false (sym l ∙ eb)); others = λ k n. refl; masks = λ k. refl }
    go true (Ok w) eb = record {
      world = refl;
      idle = λ i. absurd (true≢false (sym eb ∙ i));
      value = λ l v e. (ap (λ c. cond c w (h.lane.reg d)) (same_yes d) ∙ ok_word w v (Ok w) refl e, refl);
      stop = λ l z e. absurd (ok_err w z (Ok w) refl e);
      others = λ k n. ap (λ c. cond c w (h.lane.reg k)) (same_not k d n);
      masks = λ k. refl;
    }
    go true (Err y) eb = record {
      world = refl;
      idle = λ i. absurd (true≢false (sym eb ∙ i));
      value = λ l v e. absurd (ok_err v y (Err y) e refl);
      stop = λ l z e. ap Some (err_stop y z (Err y) refl e);
      others = λ k n. refl;
      masks = λ k. refl;
    }

-- an instruction that is done behind code that gave h: registers below d and masks below f as they were
pub keeps_write : (m d f rd : ℕ) (v : ℕ) (r : Result ℕ Stop) (w : World) (h mid h' : Share) → d ≤ rd → Keeps d f w h mid → Wrote m rd r mid h' → is_live m mid.lane ≡ true → r ≡ Ok v → Keeps d f w h h'
keeps_write m d f rd v r w h mid h' ld k wr live e = record {
  going = (wr.value live v e).1 ∙ k.going;
  regs = λ q l. wr.others q (λ z. absurd (omega (arith, l, ld, z))) ∙ k.regs q l;
  masks = λ q l. wr.masks q ∙ k.masks q l;
  world = wr.world ∙ k.world;
}

pub idles_of : (x : Place) (tb : Table) (e : Evaluation) (t : CType) (r m d f j : ℕ) (h h' : Share) → Computes x tb e t r m d f j h h' → Idles m f h h'
idles_of x tb e t r m d f j h h' c = record { gone = c.gone; off = c.off }

pub idles_same : (m f : ℕ) (h : Share) → Idles m f h h
idles_same m f h = record { gone = λ z s. record { stop = s; world = refl }; off = λ n o dk. keeps_same dk f h.world h n refl }

pub idles_then : (m f f' : ℕ) (h mid h' : Share) → m < f → f ≤ f' → Idles m f h mid → Idles m f' mid h' → Idles m f h h'
idles_then m f f' h mid h' lm lf a b = record {
  gone = λ z s. let k : Stays z h.world mid = a.gone z s in let n : Stays z mid.world h' = b.gone z k.stop in record { stop = n.stop; world = n.world ∙ k.world };
  off = λ n o dk. let k : Keeps dk f h.world h mid = a.off n o dk in let q : Keeps dk f' mid.world mid h' = b.off k.going (k.masks m lm ∙ o) dk in
      keeps_then dk f dk f' h.world h.world h mid h' (omega arith) lf k (record { going = q.going; regs = q.regs; masks = q.masks; world = q.world ∙ k.world });
}

pub idles_write : (m f rd : ℕ) (r : Result ℕ Stop) (h h' : Share) → h' ≡ written_share m h rd r → Idles m f h h'
idles_write m f rd r h h' e = record {
  gone = λ z s. subst (Stays z h.world) (sym (wr.idle (gone_is m h.lane z s))) (record { stop = s; world = refl });
  off = λ n o dk. subst (Keeps dk f h.world h) (sym (wr.idle (off_is m h.lane o))) (keeps_same dk f h.world h n refl);
}
  where
    wr : Wrote m rd r h h'
    wr = wrote m rd r h h' e

pub gives_less : (x : Place) (j : ℕ) (t : CType) (r d f d' f' : ℕ) (h h' : Share) (v : Value) → d ≤ d' → f ≤ f' → Gives x j t r d' f' h h' v → Gives x j t r d f h h' v
gives_less x j t r d f d' f' h h' (got dt w) ld lf g = (keeps_less d f d' f' w h h' ld lf g.0, g.1)
gives_less x j t r d f d' f' h h' (halts z w) ld lf g = g

pub computes_less : (x : Place) (tb : Table) (e : Evaluation) (t : CType) (r m d f d' f' j : ℕ) (h h' : Share) → d ≤ d' → f ≤ f' → Computes x tb e t r m d' f' j h h' → Computes x tb e t r m d f j h h'
computes_less x tb e t r m d f d' f' j h h' ld lf c = record {
  gone = c.gone;
  off = λ n o dk. keeps_less dk f dk f' h.world h h' (omega arith) lf (c.off n o dk);
  runs = λ s n o a. gives_less x j t r d f d' f' h h' (e s.variables s.world) ld lf (c.runs s n o a);
}

-- one instruction on the value of an expression
pub then_write : (x : Place) (tb : Table) (e : Evaluation) (g : Datum → Action) (t u : CType) (r m d dk f rd j : ℕ) (res : ℕ → Share → Result ℕ Stop) (h mid h' : Share) → d ≤ dk → d ≤ rd → m < f →
    Computes x tb e t r m dk f j h mid → Writes m rd res j mid h' → ((dt : Datum) (w : World) → Keeps dk f w h mid → Has x j t dt (mid.lane.reg r) → Answers x j u (g dt w) w (res j mid)) →
    Computes x tb (λ vs. and_then (e vs) g) u rd m d f j h h'
then_write x tb e g t u r m d dk f rd j res h mid h' lk ld lm c eq ans = record {
  gone = idle.gone;
  off = idle.off;
  runs = λ s n o a. first (e s.variables s.world) (c.runs s n o a) o;
}
  where
    idle : Idles m f h h'
    idle = idles_then m f f h mid h' lm (omega arith) (idles_of x tb e t r m dk f j h mid c) (idles_write m f rd (res j mid) mid h' eq)

    wr : Wrote m rd (res j mid) mid h'
    wr = wrote m rd (res j mid) mid h' eq

    second : (dt : Datum) (w : World) → Keeps d f w h mid → h.lane.on m ≡ true → (q : Result ℕ Stop) → res j mid ≡ q → Answers x j u (g dt w) w q → Gives x j u rd d f h h' (g dt w)
    second dt w k o (Ok v) eq' a = subst (Gives x j u rd d f h h') (sym a.1) (keeps_write m d f rd v (res j mid) w h mid h' ld k wr live eq', subst (Has x j u a.0) (sym (wr.value live v eq').0) a.2)
      where
        live : is_live m mid.lane ≡ true
        live = live_is m mid.lane (k.masks m lm ∙ o) k.going
    second dt w k o (Err z) eq' a = subst (Gives x j u rd d f h h') (sym a) (record { stop = wr.stop live z eq'; world = wr.world ∙ k.world })
      where
        live : is_live m mid.lane ≡ true
        live = live_is m mid.lane (k.masks m lm ∙ o) k.going

    first : (v : Value) → Gives x j t r dk f h mid v → h.lane.on m ≡ true → Gives x j u rd d f h h' (with_value v g)
    first (got dt w) a o = second dt w (keeps_less d f dk f w h mid lk (omega arith) a.0) o (res j mid) refl (ans dt w a.0 a.1)
    first (halts z w) a o = subst (Stays z w) (sym (wr.idle (gone_is m mid.lane z a.stop))) a

-- one instruction with no operand
pub only_write : (x : Place) (tb : Table) (e : Evaluation) (u : CType) (m d f rd j : ℕ) (res : ℕ → Share → Result ℕ Stop) (h h' : Share) → d ≤ rd →
    Writes m rd res j h h' → ((s : State) → Holds tb s h → h.lane.on m ≡ true → Answers x j u (e s.variables s.world) s.world (res j h)) → Computes x tb e u rd m d f j h h'
only_write x tb e u m d f rd j res h h' ld eq ans = record {
  gone = idle.gone;
  off = idle.off;
  runs = λ s n o a. second s n o a (res j h) refl (ans s a o);
}
  where
    idle : Idles m f h h'
    idle = idles_write m f rd (res j h) h h' eq

    wr : Wrote m rd (res j h) h h'
    wr = wrote m rd (res j h) h h' eq

    second : (s : State) → h.lane.stop ≡ None → h.lane.on m ≡ true → Holds tb s h → (q : Result ℕ Stop) → res j h ≡ q → Answers x j u (e s.variables s.world) s.world q → Gives x j u rd d f h h' (e s.variables s.world)
    second s n o a (Ok v) eq' b = subst (Gives x j u rd d f h h') (sym b.1)
        (keeps_write m d f rd v (res j h) s.world h h h' ld (keeps_same d f s.world h n (sym a.world)) wr (live_is m h.lane o n) eq', subst (Has x j u b.0) (sym (wr.value (live_is m h.lane o n) v eq').0) b.2)
    second s n o a (Err z) eq' b = subst (Gives x j u rd d f h h') (sym b) (record { stop = wr.stop (live_is m h.lane o n) z eq'; world = wr.world ∙ sym a.world })

pub gives_then : (x : Place) (j : ℕ) (t : CType) (r d f : ℕ) (w : World) (h mid h' : Share) (v : Value) → Keeps d f w h mid → Gives x j t r d f mid h' v → Gives x j t r d f h h' v
gives_then x j t r d f w h mid h' (got dt v) k g = (keeps_then d f d f w v h mid h' (omega arith) (omega arith) k g.0, g.1)
gives_then x j t r d f w h mid h' (halts z v) k g = g

-- more code behind an expression, which may use its value
pub computes_then : (x : Place) (tb : Table) (e : Evaluation) (g : Variables → Datum → Action) (t u : CType) (r rd m d f dk fk j : ℕ) (h mid h' : Share) → IsTable x tb d → m < f → d ≤ dk → f ≤ fk →
    Computes x tb e t r m d f j h mid → Idles m fk mid h' →
    ((dt : Datum) (w : World) → Keeps d f w h mid → Has x j t dt (mid.lane.reg r) → Computes x tb (λ vs. g vs dt) u rd m dk fk j mid h') → Computes x tb (λ vs. and_then (e vs) (g vs)) u rd m d f j h h'
computes_then x tb e g t u r rd m d f dk fk j h mid h' it lm ld lf c i next = record {
  gone = idle.gone;
  off = idle.off;
  runs = λ s n o a. first s o a (e s.variables s.world) (c.runs s n o a);
}
  where
    idle : Idles m f h h'
    idle = idles_then m f fk h mid h' lm lf (idles_of x tb e t r m d f j h mid c) i

    first : (s : State) → h.lane.on m ≡ true → Holds tb s h → (v : Value) → Gives x j t r d f h mid v → Gives x j u rd d f h h' (with_value v (g s.variables))
    first s o a (got dt w) p =
        gives_then x j u rd d f w h mid h' (g s.variables dt w) p.0
        (gives_less x j u rd d f dk fk mid h' (g s.variables dt w) ld lf ((next dt w p.0 p.1).runs (at_world s w) p.0.going (p.0.masks m lm ∙ o) (holds_keeps x tb d f d w s h mid it (omega arith) p.0 a)))
    first s o a (halts z w) p = let k : Stays z mid.world h' = i.gone z p.stop in record { stop = k.stop; world = k.world ∙ p.world }

-- two operands and one instruction
pub then_two : (x : Place) (tb : Table) (e e' : Evaluation) (g : Datum → Datum → Action) (t t' u : CType) (r r' m d dk f rd j : ℕ) (res : ℕ → Share → Result ℕ Stop) (h mid mid' h' : Share) →
    IsTable x tb d → m < f → d ≤ dk → r < dk → d ≤ rd → Computes x tb e t r m d f j h mid → Computes x tb e' t' r' m dk f j mid mid' → Writes m rd res j mid' h' →
    ((a b : Datum) (w : World) → Has x j t a (mid'.lane.reg r) → Has x j t' b (mid'.lane.reg r') → mid'.world ≡ w → Answers x j u (g a b w) w (res j mid')) →
    Computes x tb (λ vs. and_then (e vs) (λ a. and_then (e' vs) (g a))) u rd m d f j h h'
then_two x tb e e' g t t' u r r' m d dk f rd j res h mid mid' h' it lm ld lr lrd c c' eq ans =
    computes_then x tb e (λ vs a. and_then (e' vs) (g a)) t u r rd m d f d f j h mid h' it lm (omega arith) (omega arith) c
    (idles_then m f f mid mid' h' lm (omega arith) (idles_of x tb e' t' r' m dk f j mid mid' c') (idles_write m f rd (res j mid') mid' h' eq))
    (λ a w k p. then_write x tb e' (g a) t' u r' m d dk f rd j res mid mid' h' ld lrd lm c' eq
    (λ b v k' q. ans a b v (subst (Has x j t a) (sym (k'.regs r lr)) p) q k'.world))

-- a variable: no code
pub of_variable : (x : Place) (tb : Table) (k m d f j : ℕ) (h : Share) → IsPlace x → IsTable x tb d → k < tb.count → ((to : Ty) (w : Bool) → tb.ty k ≡ Ptr to w → x.usable (tb.reg k) ≡ true) → IsSound x j h →
    Computes x tb (λ vs. got (vs k)) (tb.ty k) (tb.reg k) m d f j h h
of_variable x tb k m d f j h ip it lk us so = record {
  gone = λ z s. record { stop = s; world = refl };
  off = λ n o dk. keeps_same dk f h.world h n refl;
  runs = λ s n o a. (keeps_same d f s.world h n (sym a.world), record { is = a.variables k lk; fine = subst (IsFine x j (tb.ty k)) (sym (a.variables k lk)) (fine (x.active j) refl o (tb.ty k) refl) });
}
  where
    fine : (b : Bool) → x.active j ≡ b → h.lane.on m ≡ true → (t : CType) → tb.ty k ≡ t → IsFine x j t (datum_of t (h.lane.reg (tb.reg k)))
    fine false e o t et = absurd (true≢false (sym o ∙ so.idle e m))
    fine true e o Void et = tt
    fine true e o (Int u) et = tt
    fine true e o (Ptr to w) et =
        let ux : x.usable (tb.reg k) ≡ true = us to w et in
        subst (λ q. IsFine x j (Ptr to w) (datum_of (Ptr to w) q)) (sym (so.kept (tb.reg k) (ip.stays (tb.reg k) ux)))
        (subst (λ q. IsFine x j q (datum_of q (x.words (tb.reg k) j))) (it.typed k lk ∙ et) (ip.fine j (tb.reg k) e ux))
