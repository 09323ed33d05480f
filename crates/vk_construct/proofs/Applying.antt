-- Code on numbers in registers: an instruction, one piece after another, and operands that are computed before.
use Rattle.std.proofs.Common.{arith, sym, ◌≡◌, ℕ, ◌<◌, ◌≤◌, true, Some, None, refl, subst, ap, ap₂, ◌∙◌, ℤ, Result, Ok, Err}
use Rattle.vk_types.specs.declared.types.Stop.{Stop}
use Rattle.vk_types.specs.declared.types.Ty.{Ty}
use Rattle.vk_types.specs.Numbers.{IsInRange, number_of}
use Rattle.vk_kinds.specs.declared.heads.CType.TheVariants.{Int}
use Rattle.vk_numbers.proofs.Numbers.{number_of-word}
use Rattle.vk_meaning.specs.World.{World}
use Rattle.vk_meaning.specs.Data.{number, number_in, then_number}
use Rattle.vk_meaning.specs.Expressions.{answered, both}
use Rattle.vk_meaning.specs.Statements.{Evaluation}
use Rattle.vk_lane.specs.Places.{Share, Place}
use Rattle.vk_lane.specs.Pieces.{Stays}
use Rattle.vk_lane.specs.Writes.{Writes, word_result}
use Rattle.vk_construct.specs.Computes.{Table, IsTable, Computes, Gives, Keeps}
use Rattle.vk_construct.specs.Applies.{Applies, Comes, IsResult}
use Rattle.vk_construct.proofs.Values.{Wrote, computes_then, idles_then, idles_write, keeps_same, keeps_then, keeps_write, live_is, wrote}

-- ---- one instruction

-- an operator's word has its number
pub word_is_result : (t : Ty) (r : Result ℤ Stop) → ((z : ℤ) → r ≡ Ok z → IsInRange t z) → IsResult t (word_result r) r
word_is_result t (Ok z) h = number_of-word t z (h z refl)
word_is_result t (Err x) h = refl

pub writes_apply : (r : Share → Result ℤ Stop) (res : ℕ → Share → Result ℕ Stop) (t : Ty) (d m k f j : ℕ) (h h' : Share) → k ≤ d → IsResult t (res j h) (r h) → Writes m d res j h h' → Applies r t d m k f j h h'
writes_apply r res t d m k f j h h' le is eq = record {
  idles = idles_write m f d (res j h) h h' eq;
  runs = λ n o. go n o (res j h) (r h) refl is;
}
  where
    wr : Wrote m d (res j h) h h'
    wr = wrote m d (res j h) h h' eq

    go : h.lane.stop ≡ None → h.lane.on m ≡ true → (p : Result ℕ Stop) (q : Result ℤ Stop) → res j h ≡ p → IsResult t p q → Comes q t d k f h h'
    go n o (Ok w) (Ok z) e i = (keeps_write m k f d w (res j h) h.world h h h' le (keeps_same k f h.world h n refl) wr (live_is m h.lane o n) e, ap (number_of t) (wr.value (live_is m h.lane o n) w e).0 ∙ i)
    go n o (Err x) (Err y) e i = record { stop = wr.stop (live_is m h.lane o n) x e ∙ ap Some i; world = wr.world }
    go n o (Ok w) (Err y) e i = absurd i
    go n o (Err x) (Ok z) e i = absurd i

-- ---- one piece after another

comes_then : (q : Result ℤ Stop) (t : Ty) (d k k' f f' : ℕ) (h mid h' : Share) → k ≤ k' → f ≤ f' → Keeps k f h.world h mid → Comes q t d k' f' mid h' → Comes q t d k f h h'
comes_then (Ok z) t d k k' f f' h mid h' lk lf a c = (keeps_then k f k' f' h.world h.world h mid h' lk lf a (record { going = c.0.going; regs = c.0.regs; masks = c.0.masks; world = c.0.world ∙ a.world }), c.1)
comes_then (Err x) t d k k' f f' h mid h' lk lf a c = record { stop = c.stop; world = c.world ∙ a.world }

pub applies_then : (r1 r2 r : Share → Result ℤ Stop) (t1 t2 : Ty) (d1 d2 m k k' f f' j : ℕ) (h mid h' : Share) → m < f → k ≤ k' → f ≤ f' → Applies r1 t1 d1 m k f j h mid → Applies r2 t2 d2 m k' f' j mid h' →
    ((x : Stop) → r1 h ≡ Err x → r h ≡ Err x) → ((z : ℤ) → r1 h ≡ Ok z → ((i : ℕ) → i < k → mid.lane.reg i ≡ h.lane.reg i) → number_of t1 (mid.lane.reg d1) ≡ z → r2 mid ≡ r h) →
    Applies r t2 d2 m k f j h h'
applies_then r1 r2 r t1 t2 d1 d2 m k k' f f' j h mid h' lm lk lf a b stops goes = record {
  idles = idles_then m f f' h mid h' lm lf a.idles b.idles;
  runs = λ n o. go o (r1 h) refl (a.runs n o);
}
  where
    go : h.lane.on m ≡ true → (q : Result ℤ Stop) → r1 h ≡ q → Comes q t1 d1 k f h mid → Comes (r h) t2 d2 k f h h'
    go o (Ok z) e c = subst (λ q. Comes q t2 d2 k f h h') (goes z e c.0.regs c.1) (comes_then (r2 mid) t2 d2 k k' f f' h mid h' lk lf c.0 (b.runs c.0.going (c.0.masks m lm ∙ o)))
    go o (Err x) e c = let s : Stays x mid.world h' = b.idles.gone x c.stop in
        subst (λ q. Comes q t2 d2 k f h h') (sym (stops x e)) (record { stop = s.stop; world = s.world ∙ c.world })

pub applies_same : (r r' : Share → Result ℤ Stop) (t : Ty) (d m k f j : ℕ) (h h' : Share) → r h ≡ r' h → Applies r t d m k f j h h' → Applies r' t d m k f j h h'
applies_same r r' t d m k f j h h' e a = record { idles = a.idles; runs = λ n o. subst (λ q. Comes q t d k f h h') e (a.runs n o) }

-- ---- operands

-- the code's number is an evaluation's
pub computes_answered : (x : Place) (tb : Table) (r : Share → Result ℤ Stop) (q : Result ℤ Stop) (t : Ty) (d m k f j : ℕ) (h h' : Share) → r h ≡ q → Applies r t d m k f j h h' → Computes x tb (λ vs. answered q) (Int t) d m k f j h h'
computes_answered x tb r q t d m k f j h h' e a = record {
  gone = a.idles.gone;
  off = a.idles.off;
  runs = λ s n o hold. gives q s.world (sym hold.world) (subst (λ p. Comes p t d k f h h') e (a.runs n o));
}
  where
    gives : (p : Result ℤ Stop) (w : World) → h.world ≡ w → Comes p t d k f h h' → Gives x j (Int t) d k f h h' (answered p w)
    gives (Ok z) w ew c = (record { going = c.0.going; regs = c.0.regs; masks = c.0.masks; world = c.0.world ∙ ew }, record { is = ap number (sym c.1); fine = tt })
    gives (Err y) w ew c = record { stop = c.stop; world = c.world ∙ ew }

pub computes_one : (x : Place) (tb : Table) (e : Evaluation) (g : ℤ → Result ℤ Stop) (s t : Ty) (a d m k k' f j : ℕ) (h mid h' : Share) → IsTable x tb k → m < f → k ≤ k' →
    Computes x tb e (Int s) a m k f j h mid → Applies (λ q. g (number_of s (q.lane.reg a))) t d m k' f j mid h' → Computes x tb (λ vs. then_number (e vs) (λ z. answered (g z))) (Int t) d m k f j h h'
computes_one x tb e g s t a d m k k' f j h mid h' it lm lk c ap_ =
    computes_then x tb e (λ vs dt. answered (g (number_in dt))) (Int s) (Int t) a d m k f k' f j h mid h' it lm lk (omega arith) c ap_.idles
    (λ dt w kp p. computes_answered x tb (λ q. g (number_of s (q.lane.reg a))) (g (number_in dt)) t d m k' f j mid h' (ap (λ y. g (number_in y)) (sym p.is)) ap_)

pub computes_two : (x : Place) (tb : Table) (e e' : Evaluation) (g : ℤ → ℤ → Result ℤ Stop) (s s' t : Ty) (a b d m k k1 k2 f j : ℕ) (h h1 h2 h' : Share) → IsTable x tb k → IsTable x tb k1 → m < f → k ≤ k1 → k1 ≤ k2 → a < k1 →
    Computes x tb e (Int s) a m k f j h h1 → Computes x tb e' (Int s') b m k1 f j h1 h2 → Applies (λ q. g (number_of s (q.lane.reg a)) (number_of s' (q.lane.reg b))) t d m k2 f j h2 h' →
    Computes x tb (λ vs. both (e vs) (e' vs) (λ y z. answered (g y z))) (Int t) d m k f j h h'
computes_two x tb e e' g s s' t a b d m k k1 k2 f j h h1 h2 h' it it1 lm lk lk2 la c c' ap_ =
    computes_then x tb e (λ vs dt. then_number (e' vs) (λ z. answered (g (number_in dt) z))) (Int s) (Int t) a d m k f k1 f j h h1 h' it lm lk (omega arith) c
    (idles_then m f f h1 h2 h' lm (omega arith) (record { gone = c'.gone; off = c'.off }) ap_.idles)
    (λ dt w kp p.
    computes_then x tb e' (λ vs dt'. answered (g (number_in dt) (number_in dt'))) (Int s') (Int t) b d m k1 f k2 f j h1 h2 h' it1 lm lk2 (omega arith) c' ap_.idles
    (λ dt' w' kp' p'. computes_answered x tb (λ q. g (number_of s (q.lane.reg a)) (number_of s' (q.lane.reg b))) (g (number_in dt) (number_in dt')) t d m k2 f j h2 h'
    (ap₂ g (ap (number_of s) (kp'.regs a la) ∙ ap number_in (sym p.is)) (ap number_in (sym p'.is))) ap_))
