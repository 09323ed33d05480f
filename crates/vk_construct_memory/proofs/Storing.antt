-- Stores, in one lane.
use Rattle.std.proofs.Common.{arith, sym, ◌≡◌, ℕ, ◌<◌, ◌≤◌, Bool, true, false, cond, Option, Some, None, refl, subst, ap, ap₂, ◌∙◌, ◌⊎◌, inl, inr, ℤ, true≢false}
use Rattle.vk_types.specs.declared.types.Stop.{Stop}
use Rattle.vk_types.specs.declared.types.Ty.{Ty}
use Rattle.vk_types.specs.Numbers.{number_of, word_of, wrap_number}
use Rattle.vk_kinds.specs.declared.heads.CType.{CType}
use Rattle.vk_kinds.specs.declared.heads.CType.TheVariants.{Void, Int, Ptr}
use Rattle.vk_meaning.specs.World.{array_at, World, in_memory, with_cell}
use Rattle.vk_meaning.specs.Data.{Datum, number, nothing, number_in, array_of, Value, got, halts, with_value, Action, and_then, named_element, at_element, stored, given}
use Rattle.vk_meaning.specs.Expressions.{Context, converted}
use Rattle.vk_meaning.specs.Statements.{Evaluation, assigned}
use Rattle.vk_meaning.specs.Lanes.{datum_of}
use Rattle.vk_object.specs.Memory.{Cell}
use Rattle.vk_object.specs.Lane.{is_live}
use Rattle.vk_lane.specs.Places.{Share, Place, IsPlace, IsFine}
use Rattle.vk_lane.specs.Cells.{cell_as, stored_share, Stores, cell_at, MayStore}
use Rattle.vk_construct.specs.Computes.{Table, IsTable, Keeps, Has, Gives, Computes, Idles}
use Rattle.vk_lane.specs.Pieces.{Stays}
use Rattle.vk_construct.proofs.Values.{keeps_same, live_on, live_is, off_is, gone_is, idles_of, idles_then, computes_then, computes_has, state_of, holds_state, stop_cases, none_some}
use Rattle.vk_construct.proofs.Operands.{cell_is, cell_some}

idles_store : (m f : ℕ) (n : Share → ℤ) (c : Share → Option Cell) (j : ℕ) (h h' : Share) → Stores m n c j h h' → Idles m f h h'
idles_store m f n c j h h' e = record {
  gone = λ z s. subst (Stays z h.world) (sym (e ∙ ap (λ b. cond b (stored_share h (n h) (c h)) h) (gone_is m h.lane z s))) (record { stop = s; world = refl });
  off = λ st o dk. subst (Keeps dk f h.world h) (sym (e ∙ ap (λ b. cond b (stored_share h (n h) (c h)) h) (off_is m h.lane o))) (keeps_same dk f h.world h st refl);
}

-- the right side, and the store through the pointer p in register r
pub store_value : (x : Place) (tb : Table) (e : Evaluation) (to u : Ty) (wr : Bool) (p : Datum) (r r' m d dk f j : ℕ) (h mid h' : Share) → IsPlace x → d ≤ dk → m < f → r < dk → Has x j (Ptr to wr) p (h.lane.reg r) →
    Computes x tb e (Int u) r' m dk f j h mid → Stores m (λ q. number_of u (q.lane.reg r')) (cell_at x r) j mid h' →
    Computes x tb (λ vs. and_then (e vs) (λ d. stored x.context.arrays p (number_in d))) Void 0 m d f j h h'
store_value x tb e to u wr p r r' m d dk f j h mid h' ip ld lm lr hp c eq = record {
  gone = idle.gone;
  off = idle.off;
  runs = λ s n o a. first (e s.variables s.world) (c.runs s n o a) o;
}
  where
    idle : Idles m f h h'
    idle = idles_then m f f h mid h' lm (omega arith) (idles_of x tb e (Int u) r' m dk f j h mid c) (idles_store m f (λ q. number_of u (q.lane.reg r')) (cell_at x r) j mid h' eq)

    q : Datum
    q = datum_of (Ptr to wr) (mid.lane.reg r)

    z : ℤ
    z = number_of u (mid.lane.reg r')

    done : (w : World) → Keeps dk f w h mid → is_live m mid.lane ≡ true → (o : Option ℕ) → named_element x.context.arrays q ≡ o → Gives x j Void 0 d f h h' (at_element o (λ index v. got nothing (in_memory v (with_cell v.memory (array_of q) index (word_of (wrap_number (array_at x.context.arrays (array_of q)).ty z))))) w)
    done w k live None eo = record { stop = ap (λ (y : Share). y.lane.stop) is; world = ap (λ (y : Share). y.world) is ∙ k.world }
      where
        is : h' ≡ stored_share mid z None
        is = eq ∙ (ap (λ b. cond b (stored_share mid z (cell_at x r mid)) mid) live ∙ ap (stored_share mid z) (cell_is x to wr r mid ip ∙ ap (cell_as x.context.arrays q) eo))
    done w k live (Some i) eo = (
      record {
        going = ap (λ (y : Share). y.lane.stop) is ∙ k.going;
        regs = λ g l. ap (λ (y : Share). y.lane.reg g) is ∙ k.regs g (omega (arith, l, ld));
        masks = λ g l. ap (λ (y : Share). y.lane.on g) is ∙ k.masks g l;
        world = ap (λ (y : Share). y.world) is ∙ ap (λ v. in_memory v (with_cell v.memory (array_of q) i (word_of (wrap_number (array_at x.context.arrays (array_of q)).ty z)))) k.world;
      },
      record { is = refl; fine = tt },
    )
      where
        is : h' ≡ stored_share mid z (Some (record { array = array_of q; index = i; ty = (array_at x.context.arrays (array_of q)).ty }))
        is = eq ∙ (ap (λ b. cond b (stored_share mid z (cell_at x r mid)) mid) live ∙ ap (stored_share mid z) (cell_is x to wr r mid ip ∙ ap (cell_as x.context.arrays q) eo))

    first : (v : Value) → Gives x j (Int u) r' dk f h mid v → h.lane.on m ≡ true → Gives x j Void 0 d f h h' (with_value v (λ d. stored x.context.arrays p (number_in d)))
    first (got dt w) g o = subst (Gives x j Void 0 d f h h') (ap₂ (λ y n. stored x.context.arrays y n w) (sym (hp.is ∙ ap (datum_of (Ptr to wr)) (sym (g.0.regs r lr)))) (ap number_in (sym g.1.is)))
        (done w g.0 (live_is m mid.lane (g.0.masks m lm ∙ o) g.0.going) (named_element x.context.arrays q) refl)
    first (halts y w) g o = let k : Stays y mid.world h' = (idles_store m f (λ q. number_of u (q.lane.reg r')) (cell_at x r) j mid h' eq).gone y g.stop in record { stop = k.stop; world = k.world ∙ g.world }

pub then_store : (x : Place) (tb : Table) (place e : Evaluation) (to u : Ty) (wr : Bool) (r r' m d dk f j : ℕ) (h mid mid' h' : Share) → IsPlace x → IsTable x tb d → d ≤ dk → m < f → r < dk →
    Computes x tb place (Ptr to wr) r m d f j h mid → Computes x tb e (Int u) r' m dk f j mid mid' → Stores m (λ q. number_of u (q.lane.reg r')) (cell_at x r) j mid' h' →
    Computes x tb (λ vs. and_then (place vs) (λ p. and_then (e vs) (λ d. stored x.context.arrays p (number_in d)))) Void 0 m d f j h h'
then_store x tb place e to u wr r r' m d dk f j h mid mid' h' ip it ld lm lr c c' eq =
    computes_then x tb place (λ vs p. and_then (e vs) (λ d. stored x.context.arrays p (number_in d))) (Ptr to wr) Void r 0 m d f d f j h mid h' it lm (omega arith) (omega arith) c
    (idles_then m f f mid mid' h' lm (omega arith) (idles_of x tb e (Int u) r' m dk f j mid mid' c') (idles_store m f (λ q. number_of u (q.lane.reg r')) (cell_at x r) j mid' h' eq))
    (λ p w k hp. store_value x tb e to u wr p r r' m d dk f j mid mid' h' ip ld lm lr hp c' eq)

-- the right side converted is the assignment of C
pub store_converted : (c : Context) (t : Ty) (place e : Action) (w : World) →
    and_then place (λ p. and_then (converted t e) (λ d. stored c.arrays p (number_in d))) w ≡ assigned c t place e w
store_converted c t place e w = first (place w)
  where
    second : (p : Datum) (v : Value) → with_value (with_value v (λ d. given (number (wrap_number t (number_in d))))) (λ d. stored c.arrays p (number_in d)) ≡ with_value v (λ d. stored c.arrays p (wrap_number t (number_in d)))
    second p (got d u) = refl
    second p (halts z u) = refl

    first : (v : Value) → with_value v (λ p. and_then (converted t e) (λ d. stored c.arrays p (number_in d))) ≡ with_value v (λ p. and_then e (λ d. stored c.arrays p (wrap_number t (number_in d))))
    first (got p u) = second p (e u)
    first (halts z u) = refl

-- a lane that is live behind an expression's code was live before, with the registers below
pub computes_kept : (x : Place) (tb : Table) (e : Evaluation) (t : CType) (r m d f j : ℕ) (h h' : Share) → m < f → Computes x tb e t r m d f j h h' → is_live m h'.lane ≡ true → (is_live m h.lane ≡ true) × ((q : ℕ) → q < d → h'.lane.reg q ≡ h.lane.reg q)
computes_kept x tb e t r m d f j h h' lm c live = by_stop (stop_cases h)
  where
    after : (h'.lane.on m ≡ true) × (h'.lane.stop ≡ None)
    after = live_on m h'.lane live

    Out : Type 0
    Out = (is_live m h.lane ≡ true) × ((q : ℕ) → q < d → h'.lane.reg q ≡ h.lane.reg q)

    on : (b : Bool) → h.lane.on m ≡ b → h.lane.stop ≡ None → Out
    on false q n = absurd (true≢false (sym after.0 ∙ ((c.off n q d).masks m lm ∙ q)))
    on true q n = value (e (state_of tb h).variables (state_of tb h).world) (c.runs (state_of tb h) n q (holds_state tb h))
      where
        value : (v : Value) → Gives x j t r d f h h' v → Out
        value (got dt w) g = (live_is m h.lane q n, g.0.regs)
        value (halts z w) g = absurd (none_some h'.lane.stop z after.1 g.stop)

    by_stop : (h.lane.stop ≡ None) ⊎ ((z : Stop) × (h.lane.stop ≡ Some z)) → Out
    by_stop (inl n) = on (h.lane.on m) refl n
    by_stop (inr z) = absurd (none_some h'.lane.stop z.0 after.1 (c.gone z.0 z.1).stop)

pub may_store : (x : Place) (tb : Table) (place e : Evaluation) (to : Ty) (t : CType) (r r' m d dk f j : ℕ) (h mid mid' : Share) → IsPlace x → m < f → r < dk →
    Computes x tb place (Ptr to true) r m d f j h mid → Computes x tb e t r' m dk f j mid mid' → MayStore x m r j mid'
may_store x tb place e to t r r' m d dk f j h mid mid' ip lm lr c c' live cell ec =
    let k = computes_kept x tb e t r' m dk f j mid mid' lm c' live in
    let p = computes_has x tb place (Ptr to true) r m d f j h mid lm c k.0 in
    let q : Datum = datum_of (Ptr to true) (mid'.lane.reg r) in
    let s = cell_some x.context.arrays (datum_of (Ptr to true) (mid'.lane.reg r)) (named_element x.context.arrays (datum_of (Ptr to true) (mid'.lane.reg r))) cell (sym (cell_is x to true r mid' ip) ∙ ec) in
    let fine : IsFine x j (Ptr to true) (datum_of (Ptr to true) (mid'.lane.reg r)) = subst (IsFine x j (Ptr to true)) (p.1.is ∙ ap (datum_of (Ptr to true)) (sym (k.1 r lr))) p.1.fine in
    subst (λ a. x.Own j a cell.index) s.2 (subst (x.Own j (array_of (datum_of (Ptr to true) (mid'.lane.reg r)))) s.3 (fine s.0 s.1))
