-- Branches and jumps, in one lane.
use Rattle.std.proofs.Common.{arith, sym, ◌≡◌, ◌≢◌, ℕ, ◌+◌, ◌<◌, ◌==◌, Bool, true, false, cond, not, ◌||◌, ◌&&◌, None, refl, subst, ap, ap₂, ◌∙◌, true≢false}
use Rattle.vk_types.specs.declared.types.Stop.{Stop}
use Rattle.vk_types.specs.declared.types.Ty.{Ty}
use Rattle.vk_kinds.specs.declared.heads.CType.{CType}
use Rattle.vk_kinds.specs.declared.heads.CType.TheVariants.{Int}
use Rattle.vk_numbers.specs.Operators.{is_on}
use Rattle.vk_meaning.specs.World.{World}
use Rattle.vk_meaning.specs.Data.{Datum, Value, got, halts, number_in}
use Rattle.vk_meaning.specs.Statements.{State, at_world, Evaluation, Outcome, fell, broke, continued, returned, stopped, Effect, on_value, branch}
use Rattle.vk_meaning.specs.Lanes.{IsWord}
use Rattle.vk_object.specs.Lane.{is_live}
use Rattle.vk_lane.specs.Places.{Share, Place, IsSound, reg_type}
use Rattle.vk_lane.specs.Writes.{Masks}
use Rattle.vk_construct.specs.Computes.{Table, IsTable, Holds, Keeps, Has, Gives, Computes}
use Rattle.vk_lane.specs.Pieces.{Stays}
use Rattle.vk_construct_statements.specs.Follows.{first_branch, second_branch, Guards, AreApart, ReturnPlace, Exits, After, Follows}
use Rattle.vk_lane.proofs.Rules.{same_number, same_yes}
use Rattle.vk_construct.proofs.Values.{keeps_then, keeps_less, holds_keeps, live_is, off_is}
use Rattle.vk_construct.proofs.Choices.{Masked, masked_by, masked_keeps, tested}
use Rattle.vk_construct_statements.proofs.Straight.{holds_same}

pub apart_first : (m : Guards) → AreApart m → AreApart (first_branch m)
apart_first m a = let p = a.looping_in in let q = a.staying_in in
    record { running_in = omega arith; looping_in = omega (arith, p); staying_in = omega (arith, q); running_looping = λ z. absurd (omega (arith, z, p)); running_staying = λ z. absurd (omega (arith, z, q)); looping_staying = a.looping_staying }

pub apart_second : (m : Guards) → AreApart m → AreApart (second_branch m)
apart_second m a = let p = a.looping_in in let q = a.staying_in in
    record { running_in = omega arith; looping_in = omega (arith, p); staying_in = omega (arith, q); running_looping = λ z. absurd (omega (arith, z, p)); running_staying = λ z. absurd (omega (arith, z, q)); looping_staying = a.looping_staying }

or_false : (b : Bool) → (b || false) ≡ b
or_false true = refl
or_false false = refl

-- h1: behind the condition; h3: behind the two masks; h4, h5: behind the branches; h6: the running mask joined again
pub follows_branch : (x : Place) (v : ReturnPlace) (tb : Table) (e : Evaluation) (a b : Effect) (t : Ty) (r d : ℕ) (m : Guards) (j : ℕ) (h h1 h2 h3 h4 h5 h6 : Share) → AreApart m → IsTable x tb d → reg_type x r ≡ Int t → IsSound x j h1 →
    Computes x tb e (Int t) r m.running d m.free j h h1 →
    Masks m.free (λ q. is_live m.running q.lane && not (q.lane.reg r == 0)) j h1 h2 → Masks (m.free + 1) (λ q. q.lane.on m.running && not (q.lane.on m.free)) j h2 h3 →
    Follows x v tb tb a (first_branch m) j h3 h4 → Follows x v tb tb b (second_branch m) j h4 h5 → Masks m.running (λ q. q.lane.on m.free || q.lane.on (m.free + 1)) j h5 h6 →
    Follows x v tb tb (branch e a b) m j h h6
follows_branch x v tb e a b t r d m j h h1 h2 h3 h4 h5 h6 ap_ it ty so c e2 e3 ca cb e6 = record {
  gone = λ z s. rest_gone z h.world (c.gone z s);
  off = λ n o dk. rest_off n o dk;
  runs = λ s n o l q hold. first s o l q hold (e s.variables s.world) (c.runs s n o hold);
}
  where
    f : ℕ
    f = m.free

    running_in : m.running < m.free
    running_in = ap_.running_in

    looping_in : m.looping < m.free
    looping_in = ap_.looping_in

    staying_in : m.staying < m.free
    staying_in = ap_.staying_in

    m2 : Masked m.free (is_live m.running h1.lane && not (h1.lane.reg r == 0)) h1 h2
    m2 = masked_by m.free j (λ q. is_live m.running q.lane && not (q.lane.reg r == 0)) h1 h2 e2

    m3 : Masked (m.free + 1) (h2.lane.on m.running && not (h2.lane.on m.free)) h2 h3
    m3 = masked_by (m.free + 1) j (λ q. q.lane.on m.running && not (q.lane.on m.free)) h2 h3 e3

    m6 : Masked m.running (h5.lane.on m.free || h5.lane.on (m.free + 1)) h5 h6
    m6 = masked_by m.running j (λ q. q.lane.on m.free || q.lane.on (m.free + 1)) h5 h6 e6

    rest_gone : (z : Stop) (w : World) → Stays z w h1 → Stays z w h6
    rest_gone z w k =
        let k4 : Stays z h3.world h4 = ca.gone z (m3.stop ∙ (m2.stop ∙ k.stop)) in
        let k5 : Stays z h4.world h5 = cb.gone z k4.stop in
        record { stop = m6.stop ∙ k5.stop; world = m6.world ∙ (k5.world ∙ (k4.world ∙ (m3.world ∙ (m2.world ∙ k.world)))) }

    masks_keep : (dk : ℕ) (w : World) → Keeps dk m.free w h h1 → Keeps dk m.free w h h3
    masks_keep dk w k = keeps_then dk m.free dk m.free w w h h2 h3 (omega arith) (omega arith)
        (keeps_then dk m.free dk m.free w w h h1 h2 (omega arith) (omega arith) k (masked_keeps m.free dk m.free _ w h1 h2 (omega arith) k.going k.world m2))
        (masked_keeps (m.free + 1) dk m.free _ w h2 h3 (omega arith) (m2.stop ∙ k.going) (m2.world ∙ k.world) m3)

    on_first : (p q : Bool) → is_live m.running h1.lane ≡ p → not (h1.lane.reg r == 0) ≡ q → h3.lane.on m.free ≡ (p && q)
    on_first p q ep eq = m3.others m.free (λ z. absurd (omega (arith, z))) ∙ (m2.itself ∙ ap₂ (λ y z. y && z) ep eq)

    on_second : (p q : Bool) → h1.lane.on m.running ≡ p → h3.lane.on m.free ≡ q → h3.lane.on (m.free + 1) ≡ (p && not q)
    on_second p q ep eq = m3.itself ∙ ap₂ (λ y z. y && not z) (m2.others m.running (λ z. absurd (omega (arith, z, running_in))) ∙ ep) (sym (m3.others m.free (λ z. absurd (omega (arith, z)))) ∙ eq)

    keep_two : (dk : ℕ) (u w : World) (p q : Share) → Keeps dk m.free u h p → Keeps dk (m.free + 2) w p q → Keeps dk m.free w h q
    keep_two dk u w p q k k' = keeps_then dk m.free dk (m.free + 2) u w h p q (omega arith) (omega arith) k k'

    -- no branch runs
    rest_off : h.lane.stop ≡ None → h.lane.on m.running ≡ false → (dk : ℕ) → Keeps dk m.free h.world h h6
    rest_off n o dk =
        let k1 : Keeps dk m.free h.world h h1 = c.off n o dk in
        let k3 : Keeps dk m.free h.world h h3 = masks_keep dk h.world k1 in
        let o1 : h1.lane.on m.running ≡ false = k1.masks m.running running_in ∙ o in
        let of : h3.lane.on m.free ≡ false = on_first false _ (off_is m.running h1.lane o1) refl in
        let og : h3.lane.on (m.free + 1) ≡ false = on_second false _ o1 refl in
        let k4 : Keeps dk (m.free + 2) h3.world h3 h4 = ca.off k3.going of dk in
        let k5 : Keeps dk (m.free + 2) h4.world h4 h5 = cb.off k4.going (k4.masks (m.free + 1) (omega arith) ∙ og) dk in
        let k : Keeps dk m.free h4.world h h5 = keep_two dk h3.world h4.world h4 h5 (keep_two dk h.world h3.world h3 h4 k3 k4) k5 in
        let joined : h6.lane.on m.running ≡ false = m6.itself ∙ ap₂ (λ y z. y || z) (k5.masks m.free (omega arith) ∙ (k4.masks m.free (omega arith) ∙ of)) (k5.masks (m.free + 1) (omega arith) ∙ (k4.masks (m.free + 1) (omega arith) ∙ og)) in
        record { going = m6.stop ∙ k.going; regs = λ i li. m6.regs i ∙ k.regs i li; masks = λ i li. at k joined o i li (i == m.running) refl; world = m6.world ∙ (k.world ∙ (k4.world ∙ k3.world)) }
      where
        at : {u : World} → Keeps dk m.free u h h5 → h6.lane.on m.running ≡ false → h.lane.on m.running ≡ false → (i : ℕ) → i < m.free → (b : Bool) → (i == m.running) ≡ b → h6.lane.on i ≡ h.lane.on i
        at k p q i li true z = subst (λ y. h6.lane.on y ≡ h.lane.on y) (sym (same_number i m.running z)) (p ∙ sym q)
        at k p q i li false z = m6.others i (λ y. absurd (true≢false (sym (same_yes m.running) ∙ (ap (λ g. g == m.running) (sym y) ∙ z)))) ∙ k.masks i li

    -- how the branch that ran left the masks: `run` is its mask, `other` the mask of the one that did not
    joined : (w : World) (p l n : Bool) → Keeps 0 m.free w h h3 → h5.lane.stop ≡ None → (h5.lane.on m.free || h5.lane.on (m.free + 1)) ≡ p → h5.lane.on m.looping ≡ l → h5.lane.on m.staying ≡ n →
        ((i : ℕ) → i < m.free → i ≢ m.looping → i ≢ m.staying → h5.lane.on i ≡ h3.lane.on i) → Exits m p l n h h6
    joined w p l n k st run loops stays others = record {
      going = m6.stop ∙ st;
      runs = m6.itself ∙ run;
      loops = m6.others m.looping (λ z. ap_.running_looping (sym z)) ∙ loops;
      stays = m6.others m.staying (λ z. ap_.running_staying (sym z)) ∙ stays;
      others = λ i li y z u. m6.others i y ∙ (others i li z u ∙ k.masks i li);
    }

    -- the first one ran, and the second is idle
    one_exits : (w : World) (p l n : Bool) → Keeps 0 m.free w h h3 → h3.lane.on (m.free + 1) ≡ false → Exits (first_branch m) p l n h3 h4 → Exits m p l n h h6 × ((dk : ℕ) → Keeps dk (m.free + 2) h4.world h4 h5)
    one_exits w p l n k og ex =
        let og4 : h4.lane.on (m.free + 1) ≡ false = ex.others (m.free + 1) (omega arith) (λ z. absurd (omega (arith, z))) (λ z. absurd (omega (arith, z, looping_in))) (λ z. absurd (omega (arith, z, staying_in))) ∙ og in
        let k5 : (dk : ℕ) → Keeps dk (m.free + 2) h4.world h4 h5 = cb.off ex.going og4 in
        let q : Keeps 0 (m.free + 2) h4.world h4 h5 = k5 0 in (
          joined w p l n k q.going (ap₂ (λ y z. y || z) (q.masks m.free (omega arith) ∙ ex.runs) (q.masks (m.free + 1) (omega arith) ∙ og4) ∙ or_false p)
              (q.masks m.looping (omega (arith, looping_in)) ∙ ex.loops) (q.masks m.staying (omega (arith, staying_in)) ∙ ex.stays)
              (λ i li y z. q.masks i (omega (arith, li)) ∙ ex.others i (omega (arith, li)) (λ g. absurd (omega (arith, g, li))) y z),
          k5,
        )

    through : (s : State) → ((dk : ℕ) → Keeps dk (m.free + 2) h4.world h4 h5) → Holds tb s h4 → Holds tb s h6
    through s k hold = holds_same tb s h4 h6 (λ i. m6.regs i ∙ (k (i + 1)).regs i (omega arith)) (m6.world ∙ (k 0).world) hold

    one : (w : World) → Keeps 0 m.free w h h3 → h3.lane.on (m.free + 1) ≡ false → (o : Outcome) → After x j v tb tb (first_branch m) h3 h4 o → After x j v tb tb m h h6 o
    one w k og (fell s) g = let z = one_exits w true true true k og g.0 in (z.0, through s z.1 g.1)
    one w k og (broke s) g = let z = one_exits w false false true k og g.0 in (z.0, through s z.1 g.1)
    one w k og (continued s) g = let z = one_exits w false true true k og g.0 in (z.0, through s z.1 g.1)
    one w k og (returned dt u) g = let z = one_exits w false true false k og g.0 in
        (z.0, subst (Has x j v.ty dt) (sym (m6.regs v.reg ∙ (z.1 (v.reg + 1)).regs v.reg (omega arith))) g.1, m6.world ∙ ((z.1 0).world ∙ g.2))
    one w k og (stopped y u) g = let q : Stays y h4.world h5 = cb.gone y g.stop in record { stop = m6.stop ∙ q.stop; world = m6.world ∙ (q.world ∙ g.world) }

    -- the second one ran
    two_exits : (w : World) (p l n : Bool) → Keeps 0 m.free w h h3 → Keeps 0 (m.free + 2) h3.world h3 h4 → h3.lane.on m.free ≡ false → Exits (second_branch m) p l n h4 h5 → Exits m p l n h h6
    two_exits w p l n k k4 of ex =
        let of5 : h5.lane.on m.free ≡ false = ex.others m.free (omega arith) (λ z. absurd (omega (arith, z))) (λ z. absurd (omega (arith, z, looping_in))) (λ z. absurd (omega (arith, z, staying_in))) ∙ (k4.masks m.free (omega arith) ∙ of) in
        joined w p l n k ex.going (ap₂ (λ y z. y || z) of5 ex.runs) ex.loops ex.stays
        (λ i li y z. ex.others i (omega (arith, li)) (λ g. absurd (omega (arith, g, li))) y z ∙ k4.masks i (omega (arith, li)))

    two : (w : World) → Keeps 0 m.free w h h3 → Keeps 0 (m.free + 2) h3.world h3 h4 → h3.lane.on m.free ≡ false → (o : Outcome) → After x j v tb tb (second_branch m) h4 h5 o → After x j v tb tb m h h6 o
    two w k k4 of (fell s) g = (two_exits w true true true k k4 of g.0, holds_same tb s h5 h6 m6.regs m6.world g.1)
    two w k k4 of (broke s) g = (two_exits w false false true k k4 of g.0, holds_same tb s h5 h6 m6.regs m6.world g.1)
    two w k k4 of (continued s) g = (two_exits w false true true k k4 of g.0, holds_same tb s h5 h6 m6.regs m6.world g.1)
    two w k k4 of (returned dt u) g = (two_exits w false true false k k4 of g.0, subst (Has x j v.ty dt) (sym (m6.regs v.reg)) g.1, m6.world ∙ g.2)
    two w k k4 of (stopped y u) g = record { stop = m6.stop ∙ g.stop; world = m6.world ∙ g.world }

    second : (s : State) (dt : Datum) (w : World) → h.lane.on m.running ≡ true → h.lane.on m.looping ≡ true → h.lane.on m.staying ≡ true → Holds tb s h → Keeps d m.free w h h1 → Has x j (Int t) dt (h1.lane.reg r) →
        (p : Bool) → is_on (number_in dt) ≡ p → After x j v tb tb m h h6 (cond p a b (at_world s w))
    second s dt w o l q hold k has = by
      where
        o1 : h1.lane.on m.running ≡ true
        o1 = k.masks m.running running_in ∙ o

        k3 : Keeps d m.free w h h3
        k3 = masks_keep d w k

        k3' : Keeps 0 m.free w h h3
        k3' = keeps_less 0 m.free d m.free w h h3 (omega arith) (omega arith) k3

        hold3 : Holds tb (at_world s w) h3
        hold3 = holds_keeps x tb d m.free d w s h h3 it (omega arith) k3 hold

        test : not (h1.lane.reg r == 0) ≡ is_on (number_in dt)
        test = tested t (h1.lane.reg r) (subst (λ y. IsWord y (h1.lane.reg r)) ty (so.typed r)) ∙ ap (λ y. is_on (number_in y)) (sym has.is)

        by : (p : Bool) → is_on (number_in dt) ≡ p → After x j v tb tb m h h6 (cond p a b (at_world s w))
        by true e' = let of : h3.lane.on m.free ≡ true = on_first true true (live_is m.running h1.lane o1 k.going) (test ∙ e') in
            one w k3' (on_second true true o1 of) (a (at_world s w)) (ca.runs (at_world s w) k3.going of (k3.masks m.looping looping_in ∙ l) (k3.masks m.staying staying_in ∙ q) hold3)
        by false e' =
            let of : h3.lane.on m.free ≡ false = on_first true false (live_is m.running h1.lane o1 k.going) (test ∙ e') in
            let og : h3.lane.on (m.free + 1) ≡ true = on_second true false o1 of in
            let k4 : (dk : ℕ) → Keeps dk (m.free + 2) h3.world h3 h4 = ca.off k3.going of in
            let hold4 : Holds tb (at_world s w) h4 = holds_same tb (at_world s w) h3 h4 (λ i. (k4 (i + 1)).regs i (omega arith)) (k4 0).world hold3 in
            two w k3' (k4 0) of (b (at_world s w)) (cb.runs (at_world s w) (k4 0).going ((k4 0).masks (m.free + 1) (omega arith) ∙ og)
            ((k4 0).masks m.looping (omega (arith, looping_in)) ∙ (k3.masks m.looping looping_in ∙ l)) ((k4 0).masks m.staying (omega (arith, staying_in)) ∙ (k3.masks m.staying staying_in ∙ q)) hold4)

    first : (s : State) → h.lane.on m.running ≡ true → h.lane.on m.looping ≡ true → h.lane.on m.staying ≡ true → Holds tb s h → (u : Value) → Gives x j (Int t) r d m.free h h1 u →
        After x j v tb tb m h h6 (on_value u (λ dt w. cond (is_on (number_in dt)) a b (at_world s w)))
    first s o l q hold (got dt w) g = second s dt w o l q hold g.0 g.1 (is_on (number_in dt)) refl
    first s o l q hold (halts z w) g = rest_gone z w g

-- ---- jumps

-- two masks cleared
pub follows_break : (x : Place) (v : ReturnPlace) (tb : Table) (m : Guards) (j : ℕ) (h h1 h2 : Share) → AreApart m →
    Masks m.looping (λ q. q.lane.on m.looping && not (q.lane.on m.running)) j h h1 → Masks m.running (λ q. q.lane.on m.running && not (q.lane.on m.running)) j h1 h2 → Follows x v tb tb broke m j h h2
follows_break x v tb m j h h1 h2 a e1 e2 = record {
  gone = λ z s. record { stop = m2.stop ∙ (m1.stop ∙ s); world = m2.world ∙ m1.world };
  off = λ n o dk. record { going = m2.stop ∙ (m1.stop ∙ n); regs = λ i li. m2.regs i ∙ m1.regs i; masks = λ i li. off_at o i (i == m.running) (i == m.looping) refl refl; world = m2.world ∙ m1.world };
  runs = λ s n o l q hold. (
    record {
      going = m2.stop ∙ (m1.stop ∙ n);
      runs = m2.itself ∙ none (h1.lane.on m.running);
      loops = m2.others m.looping (λ z. a.running_looping (sym z)) ∙ (m1.itself ∙ ap₂ (λ y z. y && not z) l o);
      stays = m2.others m.staying (λ z. a.running_staying (sym z)) ∙ (m1.others m.staying (λ z. a.looping_staying (sym z)) ∙ q);
      others = λ i li y z u. m2.others i y ∙ m1.others i z;
    },
    holds_same tb s h h2 (λ i. m2.regs i ∙ m1.regs i) (m2.world ∙ m1.world) hold,
  );
}
  where
    m1 : Masked m.looping (h.lane.on m.looping && not (h.lane.on m.running)) h h1
    m1 = masked_by m.looping j (λ q. q.lane.on m.looping && not (q.lane.on m.running)) h h1 e1

    m2 : Masked m.running (h1.lane.on m.running && not (h1.lane.on m.running)) h1 h2
    m2 = masked_by m.running j (λ q. q.lane.on m.running && not (q.lane.on m.running)) h1 h2 e2

    none : (b : Bool) → (b && not b) ≡ false
    none true = refl
    none false = refl

    all_of : (b : Bool) → (b && true) ≡ b
    all_of true = refl
    all_of false = refl

    off_at : h.lane.on m.running ≡ false → (i : ℕ) → (p q : Bool) → (i == m.running) ≡ p → (i == m.looping) ≡ q → h2.lane.on i ≡ h.lane.on i
    off_at o i true q ep eq = subst (λ y. h2.lane.on y ≡ h.lane.on y) (sym (same_number i m.running ep)) (m2.itself ∙ (none (h1.lane.on m.running) ∙ sym o))
    off_at o i false true ep eq = subst (λ y. h2.lane.on y ≡ h.lane.on y) (sym (same_number i m.looping eq))
        (m2.others m.looping (λ z. a.running_looping (sym z)) ∙ (m1.itself ∙ (ap (λ y. h.lane.on m.looping && not y) o ∙ all_of (h.lane.on m.looping))))
    off_at o i false false ep eq = m2.others i (ne i m.running ep) ∙ m1.others i (ne i m.looping eq)
      where
        ne : (p q : ℕ) → (p == q) ≡ false → p ≢ q
        ne p q e = grind (arith, e)

pub follows_continue : (x : Place) (v : ReturnPlace) (tb : Table) (m : Guards) (j : ℕ) (h h1 : Share) → AreApart m →
    Masks m.running (λ q. q.lane.on m.running && not (q.lane.on m.running)) j h h1 → Follows x v tb tb continued m j h h1
follows_continue x v tb m j h h1 a e1 = record {
  gone = λ z s. record { stop = m1.stop ∙ s; world = m1.world };
  off = λ n o dk. record { going = m1.stop ∙ n; regs = λ i li. m1.regs i; masks = λ i li. off_at o i (i == m.running) refl; world = m1.world };
  runs = λ s n o l q hold. (
    record {
      going = m1.stop ∙ n;
      runs = m1.itself ∙ none (h.lane.on m.running);
      loops = m1.others m.looping (λ z. a.running_looping (sym z)) ∙ l;
      stays = m1.others m.staying (λ z. a.running_staying (sym z)) ∙ q;
      others = λ i li y z u. m1.others i y;
    },
    holds_same tb s h h1 m1.regs m1.world hold,
  );
}
  where
    m1 : Masked m.running (h.lane.on m.running && not (h.lane.on m.running)) h h1
    m1 = masked_by m.running j (λ q. q.lane.on m.running && not (q.lane.on m.running)) h h1 e1

    none : (b : Bool) → (b && not b) ≡ false
    none true = refl
    none false = refl

    off_at : h.lane.on m.running ≡ false → (i : ℕ) → (p : Bool) → (i == m.running) ≡ p → h1.lane.on i ≡ h.lane.on i
    off_at o i true ep = subst (λ y. h1.lane.on y ≡ h.lane.on y) (sym (same_number i m.running ep)) (m1.itself ∙ (none (h.lane.on m.running) ∙ sym o))
    off_at o i false ep = m1.others i (λ z. absurd (true≢false (sym (same_yes m.running) ∙ (ap (λ g. g == m.running) (sym z) ∙ ep))))

-- the result comes into its register, and the lane out of two masks
pub follows_return : (x : Place) (v : ReturnPlace) (tb : Table) (e : Evaluation) (t : CType) (d : ℕ) (m : Guards) (j : ℕ) (h h1 h2 h3 : Share) → AreApart m →
    Computes x tb e v.ty v.reg m.running d m.free j h h1 →
    Masks m.staying (λ q. q.lane.on m.staying && not (q.lane.on m.running)) j h1 h2 → Masks m.running (λ q. q.lane.on m.running && not (q.lane.on m.running)) j h2 h3 →
    Follows x v tb tb (λ s. on_value (e s.variables s.world) returned) m j h h3
follows_return x v tb e t d m j h h1 h2 h3 a c e2 e3 = record {
  gone = λ z s. let k : Stays z h.world h1 = c.gone z s in record { stop = m3.stop ∙ (m2.stop ∙ k.stop); world = m3.world ∙ (m2.world ∙ k.world) };
  off = λ n o dk. let k : Keeps dk m.free h.world h h1 = c.off n o dk in record {
    going = m3.stop ∙ (m2.stop ∙ k.going);
    regs = λ i li. m3.regs i ∙ (m2.regs i ∙ k.regs i li);
    masks = λ i li. off_at o dk k i li (i == m.running) (i == m.staying) refl refl;
    world = m3.world ∙ (m2.world ∙ k.world);
  };
  runs = λ s n o l q hold. go o l q (e s.variables s.world) (c.runs s n o hold);
}
  where
    m2 : Masked m.staying (h1.lane.on m.staying && not (h1.lane.on m.running)) h1 h2
    m2 = masked_by m.staying j (λ q. q.lane.on m.staying && not (q.lane.on m.running)) h1 h2 e2

    m3 : Masked m.running (h2.lane.on m.running && not (h2.lane.on m.running)) h2 h3
    m3 = masked_by m.running j (λ q. q.lane.on m.running && not (q.lane.on m.running)) h2 h3 e3

    none : (b : Bool) → (b && not b) ≡ false
    none true = refl
    none false = refl

    all_of : (b : Bool) → (b && true) ≡ b
    all_of true = refl
    all_of false = refl

    ne : (p q : ℕ) → (p == q) ≡ false → p ≢ q
    ne p q z = grind (arith, z)

    off_at : h.lane.on m.running ≡ false → (dk : ℕ) → Keeps dk m.free h.world h h1 → (i : ℕ) → i < m.free → (p q : Bool) → (i == m.running) ≡ p → (i == m.staying) ≡ q → h3.lane.on i ≡ h.lane.on i
    off_at o dk k i li true q ep eq = subst (λ y. h3.lane.on y ≡ h.lane.on y) (sym (same_number i m.running ep)) (m3.itself ∙ (none (h2.lane.on m.running) ∙ sym o))
    off_at o dk k i li false true ep eq = subst (λ y. h3.lane.on y ≡ h.lane.on y) (sym (same_number i m.staying eq))
        (m3.others m.staying (λ z. a.running_staying (sym z)) ∙ (m2.itself ∙ (ap₂ (λ y z. y && not z) (k.masks m.staying a.staying_in) (k.masks m.running a.running_in ∙ o) ∙ all_of (h.lane.on m.staying))))
    off_at o dk k i li false false ep eq = m3.others i (ne i m.running ep) ∙ (m2.others i (ne i m.staying eq) ∙ k.masks i li)

    go : h.lane.on m.running ≡ true → h.lane.on m.looping ≡ true → h.lane.on m.staying ≡ true → (u : Value) → Gives x j v.ty v.reg d m.free h h1 u → After x j v tb tb m h h3 (on_value u returned)
    go o l q (got dt w) g = (
      record {
        going = m3.stop ∙ (m2.stop ∙ g.0.going);
        runs = m3.itself ∙ none (h2.lane.on m.running);
        loops = m3.others m.looping (λ z. a.running_looping (sym z)) ∙ (m2.others m.looping a.looping_staying ∙ (g.0.masks m.looping a.looping_in ∙ l));
        stays = m3.others m.staying (λ z. a.running_staying (sym z)) ∙ (m2.itself ∙ ap₂ (λ y z. y && not z) (g.0.masks m.staying a.staying_in ∙ q) (g.0.masks m.running a.running_in ∙ o));
        others = λ i li y z u. m3.others i y ∙ (m2.others i u ∙ g.0.masks i li);
      },
      subst (Has x j v.ty dt) (sym (m3.regs v.reg ∙ m2.regs v.reg)) g.1,
      m3.world ∙ (m2.world ∙ g.0.world),
    )
    go o l q (halts z w) g = record { stop = m3.stop ∙ (m2.stop ∙ g.stop); world = m3.world ∙ (m2.world ∙ g.world) }
