-- Code of statements without loops, in one lane.
use Rattle.std.proofs.Common.{arith, sym, ◌≡◌, ◌≢◌, ℕ, ◌+◌, ◌<◌, ◌==◌, Bool, true, false, cond, None, refl, subst, ap, ap₂, ◌∙◌, Result, Ok, true≢false}
use Rattle.vk_types.specs.declared.types.Stop.{Stop}
use Rattle.vk_kinds.specs.declared.heads.CType.{CType}
use Rattle.vk_meaning.specs.World.{World}
use Rattle.vk_meaning.specs.Data.{Datum, Value, got, halts, as_type}
use Rattle.vk_meaning.specs.Statements.{State, at_world, with_variable, Evaluation, Outcome, fell, broke, continued, returned, stopped, Effect, on_value, on_fell, then_do, evaluate, assign_variable}
use Rattle.vk_meaning.specs.Lanes.{datum_of}
use Rattle.vk_lane.specs.Places.{Share, Place}
use Rattle.vk_lane.specs.Writes.{Writes}
use Rattle.vk_construct.specs.Computes.{Table, IsTable, Holds, Keeps, Has, Gives, Computes}
use Rattle.vk_lane.specs.Pieces.{Stays}
use Rattle.vk_construct_statements.specs.Follows.{Guards, AreApart, ReturnPlace, Exits, After, Follows, pushed, IsFront}
use Rattle.vk_lane.proofs.Rules.{same_number, same_yes, same_not}
use Rattle.vk_construct.proofs.Values.{keeps_same, keeps_then, holds_keeps, live_is, off_is, gone_is, Wrote, wrote}

pub exits_keeps : (m : Guards) (d : ℕ) (w : World) (h h' : Share) → AreApart m → h.lane.on m.running ≡ true → h.lane.on m.looping ≡ true → h.lane.on m.staying ≡ true → Keeps d m.free w h h' → Exits m true true true h h'
exits_keeps m d w h h' a r l n k = record {
  going = k.going;
  runs = k.masks m.running a.running_in ∙ r;
  loops = k.masks m.looping a.looping_in ∙ l;
  stays = k.masks m.staying a.staying_in ∙ n;
  others = λ q lq x y z. k.masks q lq;
}

pub holds_same : (tb : Table) (s : State) (h h' : Share) → ((r : ℕ) → h'.lane.reg r ≡ h.lane.reg r) → h'.world ≡ h.world → Holds tb s h → Holds tb s h'
holds_same tb s h h' regs w a = record { variables = λ n b. a.variables n b ∙ ap (datum_of (tb.ty n)) (sym (regs (tb.reg n))); world = a.world ∙ sym w }

pub holds_front : (tb tb' : Table) (s : State) (h : Share) → IsFront tb tb' → Holds tb' s h → Holds tb s h
holds_front tb tb' s h fr a = record {
  variables = λ k l. a.variables k (fr.fewer k l) ∙ ap₂ (λ t r. datum_of t (h.lane.reg r)) (fr.ty k l) (fr.reg k l);
  world = a.world;
}

pub front_same : (tb : Table) → IsFront tb tb
front_same tb = record { fewer = λ k l. l; reg = λ k l. refl; ty = λ k l. refl }

pub front_then : (a b c : Table) → IsFront a b → IsFront b c → IsFront a c
front_then a b c p q = record { fewer = λ k l. q.fewer k (p.fewer k l); reg = λ k l. q.reg k (p.fewer k l) ∙ p.reg k l; ty = λ k l. q.ty k (p.fewer k l) ∙ p.ty k l }

pub front_pushed : (tb : Table) (r : ℕ) (t : CType) → IsFront tb (pushed tb r t)
front_pushed tb r t = record {
  fewer = λ k l. omega (arith, l);
  reg = λ k l. ap (λ b. cond b r (tb.reg k)) (same_not k tb.count (λ z. absurd (omega (arith, l, z))));
  ty = λ k l. ap (λ b. cond b t (tb.ty k)) (same_not k tb.count (λ z. absurd (omega (arith, l, z))));
}

-- ---- no code

pub follows_nothing : (x : Place) (v : ReturnPlace) (tb : Table) (m : Guards) (j : ℕ) (h : Share) → AreApart m → Follows x v tb tb fell m j h h
follows_nothing x v tb m j h a = record {
  gone = λ z s. record { stop = s; world = refl };
  off = λ n o dk. keeps_same dk m.free h.world h n refl;
  runs = λ s n r l q hold. (exits_keeps m 0 h.world h h a r l q (keeps_same 0 m.free h.world h n refl), hold);
}

-- ---- an expression alone

pub follows_value : (x : Place) (v : ReturnPlace) (tb : Table) (e : Evaluation) (t : CType) (r d : ℕ) (m : Guards) (j : ℕ) (h h' : Share) → AreApart m → IsTable x tb d → Computes x tb e t r m.running d m.free j h h' →
    Follows x v tb tb (evaluate e) m j h h'
follows_value x v tb e t r d m j h h' a it c = record {
  gone = c.gone;
  off = c.off;
  runs = λ s n o l q hold. go s o l q hold (e s.variables s.world) (c.runs s n o hold);
}
  where
    go : (s : State) → h.lane.on m.running ≡ true → h.lane.on m.looping ≡ true → h.lane.on m.staying ≡ true → Holds tb s h → (u : Value) → Gives x j t r d m.free h h' u → After x j v tb tb m h h' (on_value u (λ dt w. fell (at_world s w)))
    go s o l q hold (got dt w) g = (exits_keeps m d w h h' a o l q g.0, holds_keeps x tb d m.free d w s h h' it (omega arith) g.0 hold)
    go s o l q hold (halts z w) g = g

-- ---- one behind another

pub follows_then : (x : Place) (v : ReturnPlace) (tb tb' tb'' : Table) (one two : Effect) (m : Guards) (j : ℕ) (h mid h' : Share) → AreApart m → IsFront tb tb' → Follows x v tb tb' one m j h mid → Follows x v tb' tb'' two m j mid h' →
    Follows x v tb tb'' (then_do one two) m j h h'
follows_then x v tb tb' tb'' one two m j h mid h' a fr c e = record {
  gone = λ z s. let k : Stays z h.world mid = c.gone z s in let q : Stays z mid.world h' = e.gone z k.stop in record { stop = q.stop; world = q.world ∙ k.world };
  off = λ n o dk. let k : Keeps dk m.free h.world h mid = c.off n o dk in let q : Keeps dk m.free mid.world mid h' = e.off k.going (k.masks m.running a.running_in ∙ o) dk in
      keeps_then dk m.free dk m.free h.world h.world h mid h' (omega arith) (omega arith) k (record { going = q.going; regs = q.regs; masks = q.masks; world = q.world ∙ k.world });
  runs = λ s n r l q hold. first (one s) (c.runs s n r l q hold);
}
  where
    again : (r l n : Bool) → Exits m true true true h mid → Exits m r l n mid h' → Exits m r l n h h'
    again r l n p q = record { going = q.going; runs = q.runs; loops = q.loops; stays = q.stays; others = λ k lk y z w. q.others k lk y z w ∙ p.others k lk y z w }

    later : (o : Outcome) → Exits m true true true h mid → After x j v tb' tb'' m mid h' o → After x j v tb tb'' m h h' o
    later (fell s) p q = (again true true true p q.0, q.1)
    later (broke s) p q = (again false false true p q.0, holds_front tb tb' s h' fr q.1)
    later (continued s) p q = (again false true true p q.0, holds_front tb tb' s h' fr q.1)
    later (returned dt w) p q = (again false true false p q.0, q.1, q.2)
    later (stopped z w) p q = q

    -- the second one is idle
    idle : (l n : Bool) → Exits m false l n h mid → Exits m false l n h h' × Keeps (v.reg + 1) m.free mid.world mid h'
    idle l n p = let k : Keeps (v.reg + 1) m.free mid.world mid h' = e.off p.going p.runs (v.reg + 1) in
        (record { going = k.going; runs = k.masks m.running a.running_in ∙ p.runs; loops = k.masks m.looping a.looping_in ∙ p.loops; stays = k.masks m.staying a.staying_in ∙ p.stays; others = λ q lq y z w. k.masks q lq ∙ p.others q lq y z w }, k)

    idle_holds : (l n : Bool) (s : State) → Exits m false l n h mid → Holds tb s mid → Holds tb s h'
    idle_holds l n s p hold = holds_same tb s mid h' (λ r. (e.off p.going p.runs (r + 1)).regs r (omega arith)) (e.off p.going p.runs 0).world hold

    first : (o : Outcome) → After x j v tb tb' m h mid o → After x j v tb tb'' m h h' (on_fell o two)
    first (fell s) p = later (two s) p.0 (e.runs s p.0.going p.0.runs p.0.loops p.0.stays p.1)
    first (broke s) p = ((idle false true p.0).0, idle_holds false true s p.0 p.1)
    first (continued s) p = ((idle true true p.0).0, idle_holds true true s p.0 p.1)
    first (returned dt w) p = let k = idle true false p.0 in (k.0, subst (Has x j v.ty dt) (sym (k.1.regs v.reg (omega arith))) p.1, k.1.world ∙ p.2)
    first (stopped z w) p = let q : Stays z mid.world h' = e.gone z p.stop in record { stop = q.stop; world = q.world ∙ p.world }

-- what is declared inside is not seen behind
pub follows_block : (x : Place) (v : ReturnPlace) (tb tb' : Table) (effect : Effect) (m : Guards) (j : ℕ) (h h' : Share) → IsFront tb tb' → Follows x v tb tb' effect m j h h' → Follows x v tb tb effect m j h h'
follows_block x v tb tb' effect m j h h' fr c = record { gone = c.gone; off = c.off; runs = λ s n r l q hold. go (effect s) (c.runs s n r l q hold) }
  where
    go : (o : Outcome) → After x j v tb tb' m h h' o → After x j v tb tb m h h' o
    go (fell s) p = (p.0, holds_front tb tb' s h' fr p.1)
    go (broke s) p = p
    go (continued s) p = p
    go (returned dt w) p = p
    go (stopped z w) p = p

-- ---- assignments to variables

-- a word comes into the register of a variable
holds_assigned : (x : Place) (tb : Table) (d : ℕ) (s : State) (k : ℕ) (dt : Datum) (mid h' : Share) → IsTable x tb d → k < tb.count → Holds tb s mid → ((r : ℕ) → r ≢ tb.reg k → h'.lane.reg r ≡ mid.lane.reg r) →
    h'.world ≡ mid.world → dt ≡ datum_of (tb.ty k) (h'.lane.reg (tb.reg k)) → Holds tb (with_variable s k dt) h'
holds_assigned x tb d s k dt mid h' it lk hold others w e = record { variables = λ n l. at n l (n == k) refl; world = hold.world ∙ sym w }
  where
    at : (n : ℕ) → n < tb.count → (b : Bool) → (n == k) ≡ b → cond b dt (s.variables n) ≡ datum_of (tb.ty n) (h'.lane.reg (tb.reg n))
    at n l true q = subst (λ i. dt ≡ datum_of (tb.ty i) (h'.lane.reg (tb.reg i))) (sym (same_number n k q)) e
    at n l false q = hold.variables n l ∙ ap (datum_of (tb.ty n)) (sym (others (tb.reg n) (it.apart n k l lk (λ z. absurd (true≢false (sym (same_yes k) ∙ (ap (λ i. i == k) (sym z) ∙ q)))))))

pub follows_assign : (x : Place) (v : ReturnPlace) (tb : Table) (e : Evaluation) (t : CType) (r d k : ℕ) (res : ℕ → Share → Result ℕ Stop) (m : Guards) (j : ℕ) (h mid h' : Share) → AreApart m → IsTable x tb d → k < tb.count →
    Computes x tb e t r m.running d m.free j h mid → Writes m.running (tb.reg k) res j mid h' →
    ((dt : Datum) → Has x j t dt (mid.lane.reg r) → (w : ℕ) × (res j mid ≡ Ok w) × (as_type (tb.ty k) dt ≡ datum_of (tb.ty k) w)) →
    Follows x v tb tb (assign_variable (record { number = k; ctype = tb.ty k }) e) m j h h'
follows_assign x v tb e t r d k res m j h mid h' a it lk c eq ans = record {
  gone = λ z s. let q : Stays z h.world mid = c.gone z s in subst (Stays z h.world) (sym (wr.idle (gone_is m.running mid.lane z q.stop))) q;
  off = λ n o dk. let q : Keeps dk m.free h.world h mid = c.off n o dk in subst (Keeps dk m.free h.world h) (sym (wr.idle (off_is m.running mid.lane (q.masks m.running a.running_in ∙ o)))) q;
  runs = λ s n o l q hold. go s o l q hold (e s.variables s.world) (c.runs s n o hold);
}
  where
    wr : Wrote m.running (tb.reg k) (res j mid) mid h'
    wr = wrote m.running (tb.reg k) (res j mid) mid h' eq

    go : (s : State) → h.lane.on m.running ≡ true → h.lane.on m.looping ≡ true → h.lane.on m.staying ≡ true → Holds tb s h → (u : Value) → Gives x j t r d m.free h mid u →
        After x j v tb tb m h h' (on_value u (λ dt w. fell (with_variable (at_world s w) k (as_type (tb.ty k) dt))))
    go s o l q hold (halts z w) g = subst (Stays z w) (sym (wr.idle (gone_is m.running mid.lane z g.stop))) g
    go s o l q hold (got dt w) g = (
      record {
        going = got_.1 ∙ g.0.going;
        runs = wr.masks m.running ∙ ex.runs;
        loops = wr.masks m.looping ∙ ex.loops;
        stays = wr.masks m.staying ∙ ex.stays;
        others = λ i li y z u. wr.masks i ∙ ex.others i li y z u;
      },
      holds_assigned x tb d (at_world s w) k (as_type (tb.ty k) dt) mid h' it lk (holds_keeps x tb d m.free d w s h mid it (omega arith) g.0 hold) wr.others wr.world
          (an.2 ∙ ap (datum_of (tb.ty k)) (sym got_.0)),
    )
      where
        ex : Exits m true true true h mid
        ex = exits_keeps m d w h mid a o l q g.0

        an : (u : ℕ) × (res j mid ≡ Ok u) × (as_type (tb.ty k) dt ≡ datum_of (tb.ty k) u)
        an = ans dt g.1

        got_ : (h'.lane.reg (tb.reg k) ≡ an.0) × (h'.lane.stop ≡ mid.lane.stop)
        got_ = wr.value (live_is m.running mid.lane ex.runs g.0.going) an.0 an.1

-- a variable that is declared is 0 at first
pub follows_declared : (x : Place) (v : ReturnPlace) (tb : Table) (d r w : ℕ) (t : CType) (dt : Datum) (m : Guards) (j : ℕ) (h h' : Share) → AreApart m → ((k : ℕ) → k < tb.count → tb.reg k ≢ r) →
    Writes m.running r (λ i q. Ok w) j h h' → dt ≡ datum_of t w → Follows x v tb (pushed tb r t) (λ s. fell (with_variable s tb.count dt)) m j h h'
follows_declared x v tb d r w t dt m j h h' a fresh eq e = record {
  gone = λ z s. subst (Stays z h.world) (sym (wr.idle (gone_is m.running h.lane z s))) (record { stop = s; world = refl });
  off = λ n o dk. subst (Keeps dk m.free h.world h) (sym (wr.idle (off_is m.running h.lane o))) (keeps_same dk m.free h.world h n refl);
  runs = λ s n o l q hold. (
    record { going = (got_ n o).1 ∙ n; runs = wr.masks m.running ∙ o; loops = wr.masks m.looping ∙ l; stays = wr.masks m.staying ∙ q; others = λ i li y z u. wr.masks i },
    record { variables = λ k lk. at s n o hold k lk (k == tb.count) refl; world = hold.world ∙ sym wr.world },
  );
}
  where
    wr : Wrote m.running r (Ok w) h h'
    wr = wrote m.running r (Ok w) h h' eq

    got_ : h.lane.stop ≡ None → h.lane.on m.running ≡ true → (h'.lane.reg r ≡ w) × (h'.lane.stop ≡ h.lane.stop)
    got_ n o = wr.value (live_is m.running h.lane o n) w refl

    at : (s : State) → h.lane.stop ≡ None → h.lane.on m.running ≡ true → Holds tb s h → (k : ℕ) → k < tb.count + 1 → (b : Bool) → (k == tb.count) ≡ b →
        cond b dt (s.variables k) ≡ datum_of (cond b t (tb.ty k)) (h'.lane.reg (cond b r (tb.reg k)))
    at s n o hold k lk true q = e ∙ ap (datum_of t) (sym (got_ n o).0)
    at s n o hold k lk false q = let lt : k < tb.count = small k lk q in hold.variables k lt ∙ ap (datum_of (tb.ty k)) (sym (wr.others (tb.reg k) (fresh k lt)))
      where
        small : (i : ℕ) → i < tb.count + 1 → (i == tb.count) ≡ false → i < tb.count
        small i li qi = grind (arith, li, qi)
