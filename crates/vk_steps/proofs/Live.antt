-- What kernels make of rows, as what is done in each lane that is live.
use Rattle.std.proofs.Common.{◌≡◌, ℕ, ◌==◌, ◌&&◌, nat_lt, Bool, true, false, cond, ℤ, pos, Result, Ok, Err, refl, ap, sym, ◌∙◌, arith}
use Rattle.std.specs.Ordering.{int_eq}
use Rattle.std.proofs.lemmas.Bool.{eqb-true, false≢true, le-ltb}
use Rattle.vk_types.specs.declared.types.Op2.{Op2}
use Rattle.vk_types.specs.declared.types.Op2.TheVariants.{Add, Sub, Mul, Div, Rem, And, Or, Xor, Shl, Shr, Eq, Ne, Lt, Le}
use Rattle.vk_types.specs.declared.types.Stop.{Stop}
use Rattle.vk_types.specs.declared.types.Stop.TheVariants.{Divide}
use Rattle.vk_types.specs.declared.types.Ty.{Ty}
use Rattle.vk_types.specs.Numbers.{number_of}
use Rattle.vk_types.specs.Operators.{divides_by_0, op2_number, wrapped}
use Rattle.vk_lanes.specs.Kernels.{op2_word, word_or}
use Rattle.vk_object.specs.Lane.{LaneState, is_live, with_mask, with_reg, with_stop}
use Rattle.vk_frames.specs.declared.frame.Frame.{Frame}
use Rattle.vk_frames.specs.Each.{each}
use Rattle.vk_frames.specs.Frames.{lanes_of}
use Rattle.vk_frames.specs.Written.{gives_row}
use Rattle.vk_frames.proofs.Live.{past}
use Rattle.vk_frames.proofs.Writes.{same_lane, same_lanes}
use Rattle.vk_steps.specs.Locals.{live_as, with_number}

-- ---- each lane

-- what is done in lanes that are live is done in each, by whether it is live
pub live_each : (f : Frame) (m : ℕ) (live : ℕ → Bool) (k : ℕ → LaneState → LaneState) → ((j : ℕ) → live j ≡ is_live m (lanes_of f j)) →
    (λ j. cond (live j) (k j (lanes_of f j)) (lanes_of f j)) ≡ each f.lanes (λ j l. live_as m l (k j l)) (lanes_of f)
live_each f m live k told = same_lanes (λ j. cond (live j) (k j (lanes_of f j)) (lanes_of f j)) (each f.lanes (λ j l. live_as m l (k j l)) (lanes_of f))
    (λ j. ap (λ b. cond b (k j (lanes_of f j)) (lanes_of f j)) (told j) ∙ by j (nat_lt j f.lanes) refl)
  where
    by : (j : ℕ) (inside : Bool) → nat_lt j f.lanes ≡ inside → cond (is_live m (lanes_of f j)) (k j (lanes_of f j)) (lanes_of f j) ≡ each f.lanes (λ j l. live_as m l (k j l)) (lanes_of f) j
    by j true e = sym (ap (λ b. cond b (live_as m (lanes_of f j) (k j (lanes_of f j))) (lanes_of f j)) e)
    by j false e = ap (λ b. cond b (k j (lanes_of f j)) (lanes_of f j)) (past f.lanes f.registers f.words.now f.stops j m e)
        ∙ sym (ap (λ b. cond b (live_as m (lanes_of f j) (k j (lanes_of f j))) (lanes_of f j)) e)

-- a mask that is set to a test of each lane
pub masks_each : (lanes d : ℕ) (before : ℕ → LaneState) (on : ℕ → Bool) (test : LaneState → Bool) → ((j : ℕ) → on j ≡ test (before j)) →
    each lanes (λ j l. with_mask l d (on j)) before ≡ each lanes (λ j l. with_mask l d (test l)) before
masks_each lanes d before on test told = same_lanes (each lanes (λ j l. with_mask l d (on j)) before) (each lanes (λ j l. with_mask l d (test l)) before)
    (λ j. ap (λ b. cond (nat_lt j lanes) (with_mask (before j) d b) (before j)) (told j))

-- a lane is as before until its turn
pub not_yet : (n : ℕ) (k : ℕ → LaneState → LaneState) (before : ℕ → LaneState) → each n k before n ≡ before n
not_yet n k before = ap (λ b. cond b (k n (before n)) (before n)) (le-ltb n n (omega arith))

-- ---- operators that may stop

-- the result, and whether it is a division by 0
abbrev Told : Result ℤ Stop → Bool → Type 0
Told (Ok z) q = q ≡ false
Told (Err x) q = (x ≡ Divide) × (q ≡ true)

divided_told : (t : Ty) (b : Bool) (z : ℤ) → Told (wrapped t (cond b (Err Divide) (Ok z))) b
divided_told t true z = (refl, refl)
divided_told t false z = refl

told : (op : Op2) (t : Ty) (x y : ℤ) → Told (op2_number op t x y) (divides_by_0 op y)
told Add t x y = refl
told Sub t x y = refl
told Mul t x y = refl
told Div t x y = divided_told t (int_eq y (pos 0)) _
told Rem t x y = divided_told t (int_eq y (pos 0)) _
told And t x y = refl
told Or t x y = refl
told Xor t x y = refl
told Shl t x y = refl
told Shr t x y = refl
told Eq t x y = refl
told Ne t x y = refl
told Lt t x y = refl
told Le t x y = refl

-- a register that gets its own word stays
kept : (l : LaneState) (d : ℕ) (x : Stop) → with_stop (with_reg l d (l.reg d)) x ≡ with_stop l x
kept l d x = same_lane (with_stop (with_reg l d (l.reg d)) x) (with_stop l x) (λ r. by r (r == d) refl) (λ m. refl) refl
  where
    by : (r : ℕ) (b : Bool) → (r == d) ≡ b → cond b (l.reg d) (l.reg r) ≡ l.reg r
    by r true e = ap l.reg (sym (eqb-true r d e))
    by r false e = refl

settled_lane : (l : LaneState) (d : ℕ) (r : Result ℤ Stop) (q : Bool) → Told r q → cond q (with_stop (with_reg l d (word_or (l.reg d) r)) Divide) (with_reg l d (word_or (l.reg d) r)) ≡ with_number l d r
settled_lane l d (Ok z) q h = ap (λ b. cond b (with_stop (with_reg l d (word_or (l.reg d) (Ok z))) Divide) (with_reg l d (word_or (l.reg d) (Ok z)))) h
settled_lane l d (Err x) q h = ap (λ b. cond b (with_stop (with_reg l d (l.reg d)) Divide) (with_reg l d (l.reg d))) h.1 ∙ (kept l d Divide ∙ ap (with_stop l) (sym h.0))

-- the lanes that a kernel was given, then stopped where the divisor was 0
pub stopped_each : (f : Frame) (m d a b : ℕ) (op : Op2) (t u : Ty) (live zero : ℕ → Bool) → ((j : ℕ) → live j ≡ is_live m (lanes_of f j)) →
    ((j : ℕ) → zero j ≡ (live j && divides_by_0 op (number_of u ((lanes_of f j).reg b)))) →
    each f.lanes (λ j l. cond (zero j) (with_stop l Divide) l) (gives_row live d (λ j l. op2_word op t u (l.reg a) (l.reg b) (l.reg d)) (lanes_of f))
    ≡ each f.lanes (λ j l. live_as m l (with_number l d (op2_number op t (number_of t (l.reg a)) (number_of u (l.reg b))))) (lanes_of f)
stopped_each f m d a b op t u live zero told_live told_zero =
    same_lanes (each f.lanes (λ j l. cond (zero j) (with_stop l Divide) l) (gives_row live d (λ j l. op2_word op t u (l.reg a) (l.reg b) (l.reg d)) (lanes_of f)))
    (λ j. cond (live j) (with_number (lanes_of f j) d (result j)) (lanes_of f j))
    (λ j. by j (nat_lt j f.lanes) (live j) (zero j) refl refl (told_zero j))
    ∙ live_each f m live (λ j l. with_number l d (op2_number op t (number_of t (l.reg a)) (number_of u (l.reg b)))) told_live
  where
    result : ℕ → Result ℤ Stop
    result j = op2_number op t (number_of t ((lanes_of f j).reg a)) (number_of u ((lanes_of f j).reg b))

    given : ℕ → LaneState
    given j = with_reg (lanes_of f j) d (word_or ((lanes_of f j).reg d) (result j))

    off : (j : ℕ) (o : Bool) → live j ≡ o → nat_lt j f.lanes ≡ false → o ≡ false
    off j o e h = sym e ∙ (told_live j ∙ past f.lanes f.registers f.words.now f.stops j m h)

    by : (j : ℕ) (inside o z : Bool) → nat_lt j f.lanes ≡ inside → live j ≡ o → z ≡ (o && divides_by_0 op (number_of u ((lanes_of f j).reg b))) →
        cond inside (cond z (with_stop (cond o (given j) (lanes_of f j)) Divide) (cond o (given j) (lanes_of f j))) (cond o (given j) (lanes_of f j)) ≡ cond o (with_number (lanes_of f j) d (result j)) (lanes_of f j)
    by j true true z h e k = ap (λ q. cond q (with_stop (given j) Divide) (given j)) k
        ∙ settled_lane (lanes_of f j) d (result j) (divides_by_0 op (number_of u ((lanes_of f j).reg b))) (told op t (number_of t ((lanes_of f j).reg a)) (number_of u ((lanes_of f j).reg b)))
    by j true false z h e k = ap (λ q. cond q (with_stop (lanes_of f j) Divide) (lanes_of f j)) k
    by j false true z h e k = absurd (false≢true (sym (off j true e h)))
    by j false false z h e k = refl
