-- Two expressions under complementary masks.
use Rattle.std.proofs.Common.{arith, sym, ◌≡◌, ◌≢◌, ℕ, ◌+◌, ◌<◌, ◌≤◌, ◌==◌, Bool, true, false, cond, not, ◌&&◌, None, refl, subst, ap, ap₂, ◌∙◌, ℤ, pos, true≢false}
use Rattle.std.specs.Ordering.{int_eq}
use Rattle.std.proofs.lemmas.Bool.Decides.{Decides-int_eq}
use Rattle.vk_types.specs.declared.types.Stop.{Stop}
use Rattle.vk_types.specs.declared.types.Ty.{Ty}
use Rattle.vk_types.specs.Numbers.{number_of, IsCanonical, word_of}
use Rattle.vk_types.specs.declared.types.Ty.TheVariants.{I8, I16, I32, I64, U8, U16, U32, U64}
use Rattle.vk_kinds.specs.declared.heads.CType.{CType}
use Rattle.vk_kinds.specs.declared.heads.CType.TheVariants.{Int}
use Rattle.vk_numbers.proofs.Numbers.{word_of-number}
use Rattle.vk_numbers.specs.Operators.{is_on}
use Rattle.vk_meaning.specs.World.{World}
use Rattle.vk_meaning.specs.Data.{Datum, Value, got, halts, with_value, then_number, number_in}
use Rattle.vk_meaning.specs.Statements.{State, at_world, Evaluation}
use Rattle.vk_meaning.specs.Lanes.{IsWord}
use Rattle.vk_object.specs.Lane.{is_live}
use Rattle.vk_lane.specs.Places.{Share, Place, IsSound, reg_type}
use Rattle.vk_lane.specs.Writes.{Masks}
use Rattle.vk_construct.specs.Computes.{Table, IsTable, Holds, Keeps, Has, Gives, Computes, Idles}
use Rattle.vk_lane.specs.Pieces.{Stays}
use Rattle.vk_lane.proofs.Rules.{same_number, same_yes, same_not}
use Rattle.vk_construct.proofs.Values.{keeps_then, holds_keeps, live_is, off_is, gives_then, gives_less}

-- mask d is set
pub record Masked (d : ℕ) (b : Bool) (h h' : Share) : Type 0 where
  pub stop : h'.lane.stop ≡ h.lane.stop
  pub world : h'.world ≡ h.world
  pub regs : (r : ℕ) → h'.lane.reg r ≡ h.lane.reg r
  pub itself : h'.lane.on d ≡ b
  pub others : (k : ℕ) → k ≢ d → h'.lane.on k ≡ h.lane.on k

pub masked_by : (d j : ℕ) (b : Share → Bool) (h h' : Share) → Masks d b j h h' → Masked d (b h) h h'
masked_by d j b h h' e = subst (Masked d (b h) h) (sym e) (record {
  stop = refl;
  world = refl;
  regs = λ r. refl;
  itself = ap (λ c. cond c (b h) (h.lane.on d)) (same_yes d);
  others = λ k n. ap (λ c. cond c (b h) (h.lane.on k)) (same_not k d n);
})

pub masked_keeps : (d dk f : ℕ) (b : Bool) (w : World) (h h' : Share) → f ≤ d → h.lane.stop ≡ None → h.world ≡ w → Masked d b h h' → Keeps dk f w h h'
masked_keeps d dk f b w h h' l n e k = record { going = k.stop ∙ n; regs = λ r lr. k.regs r; masks = λ q lq. k.others q (λ z. absurd (omega (arith, l, lq, z))); world = k.world ∙ e }

pub masked_idles : (m d f : ℕ) (b : Bool) (h h' : Share) → f ≤ d → Masked d b h h' → Idles m f h h'
masked_idles m d f b h h' l k = record { gone = λ z s. record { stop = k.stop ∙ s; world = k.world }; off = λ n o dk. masked_keeps d dk f b h.world h h' l n refl k }

-- a condition's number is 0 where its word is
zero_number : (z : ℤ) (w : ℕ) → word_of z ≡ w → int_eq z (pos 0) ≡ true → w ≡ 0
zero_number z w e f = sym e ∙ ap word_of ((Decides-int_eq z (pos 0)).0 f)

pub number_zero : (t : Ty) → number_of t 0 ≡ pos 0
number_zero I8 = refl
number_zero I16 = refl
number_zero I32 = refl
number_zero I64 = refl
number_zero U8 = refl
number_zero U16 = refl
number_zero U32 = refl
number_zero U64 = refl

pub tested : (t : Ty) (w : ℕ) → IsCanonical t w → not (w == 0) ≡ is_on (number_of t w)
tested t w c = go (int_eq (number_of t w) (pos 0)) (w == 0) refl refl
  where
    go : (p q : Bool) → int_eq (number_of t w) (pos 0) ≡ p → (w == 0) ≡ q → not q ≡ not p
    go true true e f = refl
    go false false e f = refl
    go true false e f = absurd (true≢false (sym (ap (λ v. v == 0) (zero_number (number_of t w) w (word_of-number t w c) e)) ∙ f))
    go false true e f = absurd (true≢false (sym (ap (λ v. int_eq (number_of t v) (pos 0)) (same_number w 0 f) ∙ ap (λ z. int_eq z (pos 0)) (number_zero t)) ∙ e))

-- a condition, and what goes on under the mask of each of its two cases
pub chooses : (x : Place) (tb : Table) (e a b : Evaluation) (t : Ty) (u : CType) (r rd m d f j : ℕ) (h h1 h2 h3 h4 h5 : Share) → IsTable x tb d → m < f → reg_type x r ≡ Int t → IsSound x j h1 →
    Computes x tb e (Int t) r m d f j h h1 →
    Masks f (λ q. is_live m q.lane && not (q.lane.reg r == 0)) j h1 h2 → Masks (f + 1) (λ q. q.lane.on m && not (q.lane.on f)) j h2 h3 →
    Computes x tb a u rd f d (f + 2) j h3 h4 → Computes x tb b u rd (f + 1) d (f + 2) j h4 h5 →
    Computes x tb (λ vs. then_number (e vs) (λ z. cond (is_on z) (a vs) (b vs))) u rd m d f j h h5
chooses x tb e a b t u r rd m d f j h h1 h2 h3 h4 h5 it lm tr so c e2 e3 ca cb = record {
  gone = λ z s. rest_gone z h.world (c.gone z s);
  off = λ n o dk. rest_off n o dk;
  runs = λ s n o q. first s o q (e s.variables s.world) (c.runs s n o q);
}
  where
    m2 : Masked f (is_live m h1.lane && not (h1.lane.reg r == 0)) h1 h2
    m2 = masked_by f j (λ q. is_live m q.lane && not (q.lane.reg r == 0)) h1 h2 e2

    m3 : Masked (f + 1) (h2.lane.on m && not (h2.lane.on f)) h2 h3
    m3 = masked_by (f + 1) j (λ q. q.lane.on m && not (q.lane.on f)) h2 h3 e3

    rest_gone : (z : Stop) (w : World) → Stays z w h1 → Stays z w h5
    rest_gone z w k =
        let k4 : Stays z h3.world h4 = ca.gone z (m3.stop ∙ (m2.stop ∙ k.stop)) in
        let k5 : Stays z h4.world h5 = cb.gone z k4.stop in
        record { stop = k5.stop; world = k5.world ∙ (k4.world ∙ (m3.world ∙ (m2.world ∙ k.world))) }

    -- behind the masks
    masks_keep : (dk : ℕ) (w : World) → Keeps dk f w h h1 → Keeps dk f w h h3
    masks_keep dk w k = keeps_then dk f dk f w w h h2 h3 (omega arith) (omega arith)
        (keeps_then dk f dk f w w h h1 h2 (omega arith) (omega arith) k (masked_keeps f dk f _ w h1 h2 (omega arith) k.going k.world m2))
        (masked_keeps (f + 1) dk f _ w h2 h3 (omega arith) (m2.stop ∙ k.going) (m2.world ∙ k.world) m3)

    on_first : (p q : Bool) → is_live m h1.lane ≡ p → not (h1.lane.reg r == 0) ≡ q → h3.lane.on f ≡ (p && q)
    on_first p q ep eq = m3.others f (λ z. absurd (omega (arith, z))) ∙ (m2.itself ∙ ap₂ (λ y z. y && z) ep eq)

    on_second : (p q : Bool) → h1.lane.on m ≡ p → h3.lane.on f ≡ q → h3.lane.on (f + 1) ≡ (p && not q)
    on_second p q ep eq = m3.itself ∙ ap₂ (λ y z. y && not z) (m2.others m (λ z. absurd (omega (arith, z, lm))) ∙ ep) (sym (m3.others f (λ z. absurd (omega (arith, z)))) ∙ eq)

    keep_two : (dk : ℕ) (v w : World) (p q : Share) → Keeps dk f v h p → Keeps dk (f + 2) w p q → Keeps dk f w h q
    keep_two dk v w p q k k' = keeps_then dk f dk (f + 2) v w h p q (omega arith) (omega arith) k k'

    rest_off : h.lane.stop ≡ None → h.lane.on m ≡ false → (dk : ℕ) → Keeps dk f h.world h h5
    rest_off n o dk =
        let k1 : Keeps dk f h.world h h1 = c.off n o dk in
        let k3 : Keeps dk f h.world h h3 = masks_keep dk h.world k1 in
        let o1 : h1.lane.on m ≡ false = k1.masks m lm ∙ o in
        let of : h3.lane.on f ≡ false = on_first false _ (off_is m h1.lane o1) refl in
        let k4 : Keeps dk (f + 2) h3.world h3 h4 = ca.off k3.going of dk in
        let k5 : Keeps dk (f + 2) h4.world h4 h5 = cb.off k4.going (k4.masks (f + 1) (omega arith) ∙ on_second false _ o1 refl) dk in
        let k : Keeps dk f h4.world h h5 = keep_two dk h3.world h4.world h4 h5 (keep_two dk h.world h3.world h3 h4 k3 k4) k5 in
        record { going = k.going; regs = k.regs; masks = k.masks; world = k.world ∙ (k4.world ∙ k3.world) }

    one : (s : State) (w : World) → h1.lane.on m ≡ true → h3.lane.on f ≡ true → Keeps d f w h h3 → Holds tb (at_world s w) h3 → (v : Value) → Gives x j u rd d (f + 2) h3 h4 v → Gives x j u rd d f h h5 v
    one s w o1 of k q (got dt v) g =
        let k5 : Keeps (rd + 1) (f + 2) h4.world h4 h5 = cb.off g.0.going (g.0.masks (f + 1) (omega arith) ∙ on_second true true o1 of) (rd + 1) in
        let k6 : Keeps d (f + 2) h4.world h4 h5 = cb.off g.0.going (g.0.masks (f + 1) (omega arith) ∙ on_second true true o1 of) d in
        let k7 : Keeps d f h4.world h h5 = keep_two d v h4.world h4 h5 (keep_two d w v h3 h4 k g.0) k6 in
        (record { going = k7.going; regs = k7.regs; masks = k7.masks; world = k7.world ∙ g.0.world }, subst (Has x j u dt) (sym (k5.regs rd (omega arith))) g.1)
    one s w o1 of k q (halts z v) g = let k5 : Stays z h4.world h5 = cb.gone z g.stop in record { stop = k5.stop; world = k5.world ∙ g.world }

    two : (s : State) (w : World) → h3.lane.on (f + 1) ≡ true → h3.lane.on f ≡ false → Keeps d f w h h3 → Holds tb (at_world s w) h3 → Gives x j u rd d f h h5 (b s.variables w)
    two s w o2 of k q =
        let k4 : Keeps d (f + 2) h3.world h3 h4 = ca.off k.going of d in
        let k4' : Keeps d f h3.world h h4 = keep_two d w h3.world h3 h4 k k4 in
        let hold : Holds tb (at_world s h3.world) h4 = holds_keeps x tb d (f + 2) d h3.world (at_world s w) h3 h4 it (omega arith) k4 q in
        gives_then x j u rd d f h3.world h h4 h5 (b s.variables w) k4'
        (gives_less x j u rd d f d (f + 2) h4 h5 (b s.variables w) (omega arith) (omega arith)
        (subst (λ y. Gives x j u rd d (f + 2) h4 h5 (b s.variables y)) k.world (cb.runs (at_world s h3.world) k4.going (k4.masks (f + 1) (omega arith) ∙ o2) hold)))

    second : (s : State) (w : World) (dt : Datum) → h1.lane.on m ≡ true → Keeps d f w h h1 → Holds tb s h → Has x j (Int t) dt (h1.lane.reg r) → (p : Bool) → is_on (number_in dt) ≡ p →
        Gives x j u rd d f h h5 (cond p (a s.variables) (b s.variables) w)
    second s w dt o1 k q has p ep = by p ep
      where
        k3 : Keeps d f w h h3
        k3 = masks_keep d w k

        hold : Holds tb (at_world s w) h3
        hold = holds_keeps x tb d f d w s h h3 it (omega arith) k3 q

        test : not (h1.lane.reg r == 0) ≡ is_on (number_in dt)
        test = tested t (h1.lane.reg r) (subst (λ y. IsWord y (h1.lane.reg r)) tr (so.typed r)) ∙ ap (λ y. is_on (number_in y)) (sym has.is)

        by : (p : Bool) → is_on (number_in dt) ≡ p → Gives x j u rd d f h h5 (cond p (a s.variables) (b s.variables) w)
        by true e' = let of : h3.lane.on f ≡ true = on_first true true (live_is m h1.lane o1 k.going) (test ∙ e') in
            one s w o1 of k3 hold (a s.variables w) (ca.runs (at_world s w) k3.going of hold)
        by false e' = let of : h3.lane.on f ≡ false = on_first true false (live_is m h1.lane o1 k.going) (test ∙ e') in
            two s w (on_second true false o1 of) of k3 hold

    first : (s : State) → h.lane.on m ≡ true → Holds tb s h → (v : Value) → Gives x j (Int t) r d f h h1 v → Gives x j u rd d f h h5 (with_value v (λ dt. cond (is_on (number_in dt)) (a s.variables) (b s.variables)))
    first s o q (got dt w) g = second s w dt (g.0.masks m lm ∙ o) g.0 q g.1 (is_on (number_in dt)) refl
    first s o q (halts z w) g = rest_gone z w g
