-- Operators on registers, in several instructions: operands are converted first, conditions become 0 or 1.
use Rattle.std.proofs.Common.{arith, rules, sym, ◌≡◌, ℕ, ◌+◌, ◌<◌, ◌≤◌, ◌==◌, Bool, true, false, cond, not, ◌&&◌, Some, None, refl, subst, ap, ap₂, ◌∙◌, ℤ, Result, Ok, Err}
use Rattle.vk_types.specs.declared.types.Ty.{Ty}
use Rattle.vk_types.specs.declared.types.Stop.{Stop}
use Rattle.vk_types.specs.Numbers.{IsCanonical, number_of, wrap_number}
use Rattle.vk_types.specs.Conversions.{common_type}
use Rattle.vk_kinds.specs.declared.heads.CType.TheVariants.{Int}
use Rattle.vk_numbers.specs.Operators.{is_on}
use Rattle.vk_meaning.specs.Lanes.{IsWord}
use Rattle.vk_object.specs.Lane.{is_live}
use Rattle.vk_lane.specs.Places.{Share, reg_type}
use Rattle.vk_lane.specs.Pieces.{Stays}
use Rattle.vk_lane.specs.Writes.{Masks}
use Rattle.vk_lane.specs.Entries.{LaneCall, place_of}
use Rattle.vk_construct.specs.Computes.{Keeps}
use Rattle.vk_construct.specs.Adds.{Adds, AddsNumber, HasType, HasWritten, TestsOn, Written}
use Rattle.vk_construct.specs.Applies.{Applies, Comes, number_at, one, two}
use Rattle.vk_construct.proofs.Adding.{adds_then, adds_weaken, has_written_less, type_there}
use Rattle.vk_construct.proofs.Applying.{applies_then}
use Rattle.vk_construct.proofs.Choices.{Masked, masked_by, masked_keeps, tested}
use Rattle.vk_construct.proofs.Values.{keeps_then, live_is, off_is}

-- ---- one after another

-- registers below k are as before
abbrev pub Same : (k : ℕ) → (h h' : Share) → Type 0
Same k h h' = (i : ℕ) → i < k → h'.lane.reg i ≡ h.lane.reg i

pub numbers_then : (a b c : Written) (r1 r2 r : Share → Result ℤ Stop) (t1 t2 : Ty) (d1 d2 m k k' f s1 s2 : ℕ) → m < f → k ≤ k' → AddsNumber a b r1 t1 d1 m k f s1 → AddsNumber b c r2 t2 d2 m k' f s2 →
    ((h : Share) (x : Stop) → r1 h ≡ Err x → r h ≡ Err x) → ((h mid : Share) (z : ℤ) → r1 h ≡ Ok z → Same k h mid → number_at t1 d1 mid ≡ z → r2 mid ≡ r h) → AddsNumber a c r t2 d2 m k f (s1 + s2)
numbers_then a b c r1 r2 r t1 t2 d1 d2 m k k' f s1 s2 lm lk one two stops goes = adds_weaken a c _ _ (s1 + s2) (s1 + s2) 0 (adds_then a b c _ _ s1 s2 0 one two) (omega arith)
    (λ q hw j h h' s s' x. applies_then r1 r2 r t1 t2 d1 d2 m k k' f f j h x.0 h' lm lk (omega arith) x.1 x.2 (stops h) (goes h x.0))

ok_number : (y z : ℤ) (r : Result ℤ Stop) → r ≡ Ok y → r ≡ Ok z → y ≡ z
ok_number y z r e f = cc

ok_stop : (y : ℤ) (x : Stop) (r : Result ℤ Stop) → r ≡ Ok y → r ≡ Err x → ⊥
ok_stop y x r e f = cc

-- the operand is converted, and one instruction follows
pub converted_one : (a b c : Written) (g : ℤ → Result ℤ Stop) (s t u : Ty) (r d1 d m k k' f s1 s2 : ℕ) → m < f → k ≤ k' → AddsNumber a b (one (λ z. Ok (wrap_number t z)) s r) t d1 m k f s1 → AddsNumber b c (one g t d1) u d m k' f s2 →
    AddsNumber a c (one (λ z. g (wrap_number t z)) s r) u d m k f (s1 + s2)
converted_one a b c g s t u r d1 d m k k' f s1 s2 lm lk p q = numbers_then a b c _ _ _ t u d1 d m k k' f s1 s2 lm lk p q
    (λ h x e. absurd (ok_stop _ x _ refl e)) (λ h mid z e same is. ap g (is ∙ sym (ok_number _ z _ refl e)))

-- the left operand is converted, the right one stays
pub converted_left : (a b c : Written) (g : ℤ → ℤ → Result ℤ Stop) (s s' t u : Ty) (r r' d1 d m k k' f s1 s2 : ℕ) → m < f → k ≤ k' → r' < k → AddsNumber a b (one (λ z. Ok (wrap_number t z)) s r) t d1 m k f s1 → AddsNumber b c (two g t d1 s' r') u d m k' f s2 →
    AddsNumber a c (two (λ y z. g (wrap_number t y) z) s r s' r') u d m k f (s1 + s2)
converted_left a b c g s s' t u r r' d1 d m k k' f s1 s2 lm lk lr p q = numbers_then a b c _ _ _ t u d1 d m k k' f s1 s2 lm lk p q
    (λ h x e. absurd (ok_stop _ x _ refl e)) (λ h mid z e same is. ap₂ g (is ∙ sym (ok_number _ z _ refl e)) (ap (number_of s') (same r' lr)))

-- the right operand is converted, the left one stays
converted_right : (a b c : Written) (g : ℤ → ℤ → Result ℤ Stop) (s s' t u : Ty) (r r' d2 d m k k' f s1 s2 : ℕ) → m < f → k ≤ k' → r < k → AddsNumber a b (one (λ z. Ok (wrap_number t z)) s' r') t d2 m k f s1 → AddsNumber b c (two g s r t d2) u d m k' f s2 →
    AddsNumber a c (two (λ y z. g y (wrap_number t z)) s r s' r') u d m k f (s1 + s2)
converted_right a b c g s s' t u r r' d2 d m k k' f s1 s2 lm lk lr p q = numbers_then a b c _ _ _ t u d2 d m k k' f s1 s2 lm lk p q
    (λ h x e. absurd (ok_stop _ x _ refl e)) (λ h mid z e same is. ap₂ g (ap (number_of s) (same r lr)) (is ∙ sym (ok_number _ z _ refl e)))

-- both operands are converted to one type
pub converted_both : (a b c d : Written) (g : ℤ → ℤ → Result ℤ Stop) (s s' t u : Ty) (r r' d1 d2 e m k k1 k2 f s1 s2 s3 : ℕ) → m < f → k ≤ k1 → k1 ≤ k2 → r' < k → d1 < k1 →
    AddsNumber a b (one (λ z. Ok (wrap_number t z)) s r) t d1 m k f s1 → AddsNumber b c (one (λ z. Ok (wrap_number t z)) s' r') t d2 m k1 f s2 → AddsNumber c d (two g t d1 t d2) u e m k2 f s3 →
    AddsNumber a d (two (λ y z. g (wrap_number t y) (wrap_number t z)) s r s' r') u e m k f (s1 + (s2 + s3))
converted_both a b c d g s s' t u r r' d1 d2 e m k k1 k2 f s1 s2 s3 lm lk lk2 lr ld p q w =
    converted_left a b d (λ y z. g y (wrap_number t z)) s s' t u r r' d1 e m k k1 f s1 (s2 + s3) lm lk lr p
    (converted_right b c d g t s' t u d1 r' d2 e m k1 k2 f s2 s3 lm lk2 ld q w)

-- the operand is converted, and the number c comes beside it
pub converted_with : (a b c d : Written) (g : ℤ → ℤ → Result ℤ Stop) (n : ℤ) (s t u : Ty) (r d1 d2 e m k k1 k2 f s1 s2 s3 : ℕ) → m < f → k ≤ k1 → k1 ≤ k2 → d1 < k1 →
    AddsNumber a b (one (λ z. Ok (wrap_number t z)) s r) t d1 m k f s1 → AddsNumber b c (λ h. Ok n) t d2 m k1 f s2 → AddsNumber c d (two g t d1 t d2) u e m k2 f s3 →
    AddsNumber a d (one (λ z. g (wrap_number t z) n) s r) u e m k f (s1 + (s2 + s3))
converted_with a b c d g n s t u r d1 d2 e m k k1 k2 f s1 s2 s3 lm lk lk2 ld p q w =
    converted_one a b d (λ z. g z n) s t u r d1 e m k k1 f s1 (s2 + s3) lm lk p
    (numbers_then b c d _ _ _ t u d2 e m k1 k2 f s2 s3 lm lk2 q w
    (λ h x e. absurd (ok_stop _ x _ refl e)) (λ h mid z eq same is. ap₂ g (ap (number_of t) (same d1 ld)) (is ∙ sym (ok_number _ z _ refl eq))))

pub common_symmetric : (s t : Ty) → common_type s t ≡ common_type t s
common_symmetric s t = search rules

-- ---- conditions

-- one number where the condition holds, else the other
chosen_number : (t u : Ty) (z1 z0 : ℤ) (r d m k f j : ℕ) (h h1 h2 h3 : Share) → m < f → IsCanonical t (h.lane.reg r) → Masks f (λ q. is_live m q.lane && not (q.lane.reg r == 0)) j h h1 →
    Applies (λ q. Ok z0) u d m k (f + 1) j h1 h2 → Applies (λ q. Ok z1) u d f k (f + 1) j h2 h3 → Applies (one (λ z. Ok (cond (is_on z) z1 z0)) t r) u d m k f j h h3
chosen_number t u z1 z0 r d m k f j h h1 h2 h3 lm can e a b = record {
  idles = record { gone = λ z s. gone z s; off = λ n o dk. off n o dk };
  runs = λ n o. second n o (a.runs (m1.stop ∙ n) (m1.others m (λ z. absurd (omega (arith, z, lm))) ∙ o)) (is_on (number_at t r h)) refl;
}
  where
    m1 : Masked f (is_live m h.lane && not (h.lane.reg r == 0)) h h1
    m1 = masked_by f j (λ q. is_live m q.lane && not (q.lane.reg r == 0)) h h1 e

    gone : (z : Stop) → h.lane.stop ≡ Some z → Stays z h.world h3
    gone z s =
        let s2 : Stays z h1.world h2 = a.idles.gone z (m1.stop ∙ s) in
        let s3 : Stays z h2.world h3 = b.idles.gone z s2.stop in
        record { stop = s3.stop; world = s3.world ∙ (s2.world ∙ m1.world) }

    join : (dk : ℕ) → Keeps dk f h.world h h1 → Keeps dk (f + 1) h1.world h1 h2 → Keeps dk (f + 1) h2.world h2 h3 → Keeps dk f h.world h h3
    join dk k1 k2 k3 =
        let k12 : Keeps dk f h1.world h h2 = keeps_then dk f dk (f + 1) h.world h1.world h h1 h2 (omega arith) (omega arith) k1 k2 in
        let k13 : Keeps dk f h2.world h h3 = keeps_then dk f dk (f + 1) h1.world h2.world h h2 h3 (omega arith) (omega arith) k12 k3 in
        record { going = k13.going; regs = k13.regs; masks = k13.masks; world = k13.world ∙ (k2.world ∙ k1.world) }

    first : (dk : ℕ) → h.lane.stop ≡ None → Keeps dk f h.world h h1
    first dk n = masked_keeps f dk f (is_live m h.lane && not (h.lane.reg r == 0)) h.world h h1 (omega arith) n refl m1

    off : h.lane.stop ≡ None → h.lane.on m ≡ false → (dk : ℕ) → Keeps dk f h.world h h3
    off n o dk =
        let k1 : Keeps dk f h.world h h1 = first dk n in
        let k2 : Keeps dk (f + 1) h1.world h1 h2 = a.idles.off k1.going (k1.masks m lm ∙ o) dk in
        let none : h2.lane.on f ≡ false = k2.masks f (omega arith) ∙ (m1.itself ∙ ap (λ p. p && not (h.lane.reg r == 0)) (off_is m h.lane o)) in
        join dk k1 k2 (b.idles.off k2.going none dk)

    second : h.lane.stop ≡ None → h.lane.on m ≡ true → Comes (Ok z0) u d k (f + 1) h1 h2 → (p : Bool) → is_on (number_at t r h) ≡ p → Comes (Ok (cond (is_on (number_at t r h)) z1 z0)) u d k f h h3
    second n o c true ep =
        let there : h2.lane.on f ≡ true = c.0.masks f (omega arith) ∙ (m1.itself ∙ ap₂ (λ p q. p && q) (live_is m h.lane o n) (tested t (h.lane.reg r) can ∙ ep)) in
        let c3 : Comes (Ok z1) u d k (f + 1) h2 h3 = b.runs c.0.going there in
        (join k (first k n) c.0 c3.0, c3.1 ∙ ap (λ p. cond p z1 z0) (sym ep))
    second n o c false ep =
        let none : h2.lane.on f ≡ false = c.0.masks f (omega arith) ∙ (m1.itself ∙ ap₂ (λ p q. p && q) (live_is m h.lane o n) (tested t (h.lane.reg r) can ∙ ep)) in
        let k3 : Keeps (d + 1) (f + 1) h2.world h2 h3 = b.idles.off c.0.going none (d + 1) in
        (join k (first k n) c.0 (b.idles.off c.0.going none k), ap (number_of u) (k3.regs d (omega arith)) ∙ (c.1 ∙ ap (λ p. cond p z1 z0) (sym ep)))

pub adds_chosen : (a b c e : Written) (t u : Ty) (z1 z0 : ℤ) (r d m k f s1 s2 : ℕ) → m < f → HasType a r t → Adds a b (TestsOn m f r) 1 0 →
    AddsNumber b c (λ h. Ok z0) u d m k (f + 1) s1 → AddsNumber c e (λ h. Ok z1) u d f k (f + 1) s2 → AddsNumber a e (one (λ z. Ok (cond (is_on z) z1 z0)) t r) u d m k f (1 + s1 + s2)
adds_chosen a b c e t u z1 z0 r d m k f s1 s2 lm tr p q w = adds_weaken a e _ _ (1 + s1 + s2) (1 + s1 + s2) 0 (adds_then a c e _ _ (1 + s1) s2 0 (adds_then a b c _ _ 1 s1 0 p q) w) (omega arith)
    (λ l hw j h h' s s' x. chosen_number t u z1 z0 r d m k f j h (x.1).0 x.0 h' lm (subst (λ v. IsWord v (h.lane.reg r)) (there l hw) (s.typed r)) (x.1).1 (x.1).2 x.2)
  where
    there : (l : LaneCall) → HasWritten l e → reg_type (place_of l) r ≡ Int t
    there l hw = type_there l a r (Int t) (has_written_less a b _ 1 0 l p (has_written_less b c _ s1 0 l q (has_written_less c e _ s2 0 l w hw))) tr
