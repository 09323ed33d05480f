-- Pointers that are moved, in one lane and as appended code.
use Rattle.std.proofs.Common.{arith, rules, sym, true≢false, ◌≡◌, ℕ, ◌+◌, ◌/◌, ◌%◌, ◌^◌, ◌<◌, ◌≤◌, Bool, true, false, cond, [], ◌∷◌, Some, None, refl, subst, ap, ap₂, ◌∙◌, ℤ, pos, neg_ℤ, ◌+ℤ◌, Result, Ok, w32}
use Rattle.std.specs.Int.{cast_signed}
use Rattle.vk_types.specs.declared.types.Ty.{Ty}
use Rattle.vk_types.specs.declared.types.Ty.TheVariants.{I64}
use Rattle.vk_types.specs.Numbers.{IsInRange, number_of, wrap_number}
use Rattle.vk_kinds.specs.declared.heads.CType.{CType}
use Rattle.vk_kinds.specs.declared.heads.CType.TheVariants.{Int, Ptr}
use Rattle.vk_numbers.proofs.Numbers.{wrap_keeps}
use Rattle.vk_meaning.specs.World.{World}
use Rattle.vk_meaning.specs.Data.{Datum, Value, got, halts, and_then, fits_offset, given, moved, number, number_in, pointer, pointer_at, with_value}
use Rattle.vk_meaning.specs.Expressions.{answered, subscripted}
use Rattle.vk_meaning.specs.Statements.{Evaluation}
use Rattle.vk_meaning.specs.Lanes.{IsWord}
use Rattle.vk_code.specs.declared.instruction.Operation.TheVariants.{PtrAdd}
use Rattle.vk_object.specs.Memory.{at_offset, moved as word_moved, offset_of}
use Rattle.vk_lane.specs.Pieces.{Always}
use Rattle.vk_types.specs.declared.types.Stop.{Stop}
use Rattle.vk_lane.specs.Places.{IsFine, IsSound, Place, Share, reg_type}
use Rattle.vk_lane.proofs.Pointers.{moved_word}
use Rattle.vk_lane.specs.Writes.{Writes, pointer_result}
use Rattle.vk_lane.specs.Entries.{LaneCall, place_of}
use Rattle.vk_lane.proofs.Rules.{does_weaken}
use Rattle.vk_lane.proofs.Writing.{does_write, write_step}
use Rattle.vk_construct.specs.Computes.{Answers, Computes, Gives, Has, Idles, Table}
use Rattle.vk_construct.specs.Adds.{Adds, AddsNumber, AddsValue, HasType, HasWritten, IsTableOf, Written}
use Rattle.vk_construct.specs.Applies.{Applies, number_at, one}
use Rattle.vk_construct.proofs.Adding.{adds_put, adds_then, adds_weaken, free_register, has_written_less, table_more, table_there, type_there}
use Rattle.vk_construct.proofs.Applying.{computes_answered}
use Rattle.vk_construct.proofs.Evaluating.{Expression}
use Rattle.vk_construct.proofs.Operands.{computes_same}
use Rattle.vk_construct.proofs.Values.{computes_then, idles_of, idles_then, idles_write, then_two, then_write}
use Rattle.vk_construct_places.proofs.Offsets.{moved_nowhere, word_fits}
use Rattle.vk_construct_memory.proofs.Giving.{typed_step}
use Rattle.vk_construct_places.specs.Places.{IsTurned, MayMove, Moves}

-- ---- lanes that are on

-- a lane that is not active computes nothing
pub where_active : (x : Place) (tb : Table) (e : Evaluation) (t : CType) (r m d f j : ℕ) (h h' : Share) → IsSound x j h → Idles m f h h' → (x.active j ≡ true → Computes x tb e t r m d f j h h') → Computes x tb e t r m d f j h h'
where_active x tb e t r m d f j h h' so i next = go (x.active j) refl
  where
    go : (b : Bool) → x.active j ≡ b → Computes x tb e t r m d f j h h'
    go true a = next a
    go false a = record { gone = i.gone; off = i.off; runs = λ s n on u. absurd (true≢false (sym on ∙ so.idle a m)) }

-- a pointer that may be moved freely stays fine
abbrev MovesFreely : Place → ℕ → CType → Type 0
MovesFreely x j t = (a : ℕ) (o o' : ℤ) → IsFine x j t (pointer a o) → IsFine x j t (pointer a o')

answers_moved : (x : Place) (j : ℕ) (to u : Ty) (written : Bool) (p n : Datum) (a b : ℕ) (w : World) → MovesFreely x j (Ptr to written) → Has x j (Ptr to written) p a → Has x j (Int u) n b →
    Answers x j (Ptr to written) (moved p (number_in n) w) w (pointer_result (word_moved a (number_of u b)))
answers_moved x j to u written p n a b w may hp hn =
    subst (λ v. Answers x j (Ptr to written) v w (pointer_result (word_moved a (number_of u b)))) (sym (ap₂ (λ d e. moved d (number_in e) w) hp.is hn.is)) (go (fits_offset o) refl)
  where
    o : ℤ
    o = offset_of a +ℤ number_of u b

    go : (f : Bool) → fits_offset o ≡ f → Answers x j (Ptr to written) (pointer_at f (a / 2 ^ 32) o w) w (pointer_result (cond f (Some (at_offset a o)) None))
    go true f = (pointer (a / 2 ^ 32) o, refl, record { is = sym (moved_word to written a o f); fine = may (a / 2 ^ 32) (offset_of a) o (subst (IsFine x j (Ptr to written)) hp.is hp.fine) })
    go false f = refl

-- ---- sums

adds_step : (b c : Written) (to s : Ty) (written : Bool) (r n d m k : ℕ) → Moves b c to written s r n d m k → Adds b c (λ q. Writes m d (λ j h. pointer_result (word_moved (h.lane.reg r) (number_at s n h)))) 1 0
adds_step b c to s written r n d m k p = adds_put b c p.instr p.types (PtrAdd d r n) _ p.puts p.operation refl (subst (λ x. x < c.masks) (sym p.mask) p.running)
    (λ e z fin. typed_step e z c to s written d r n fin p.target.typed p.base p.count)
    (λ q hw. does_weaken (place_of q) Always Always _ _ (p.instr ∷ [])
    (does_write (place_of q) Always d p.instr (PtrAdd d r n) _ hw.place (free_register q c d hw p.target.free) p.operation
    (write_step (place_of q) Always s to to written written p.instr.m d r n (type_there q c n (Int s) hw p.count) (type_there q c r (Ptr to written) hw p.base) (type_there q c d (Ptr to written) hw p.target.typed)))
    (λ j h x u. tt) (λ j h h' x x' u z. subst (λ x. Writes x d (λ l y. pointer_result (word_moved (y.lane.reg r) (number_at s n y))) j h h') p.mask z.1))

-- where `p + e` points, for a pointer that may be moved
pub emits_stepped : (a b c d : Written) (tb : Table) (p e : Expression) (to s : Ty) (written : Bool) (r n rd m k k1 f n1 n2 : ℕ) → IsTableOf a tb k → m < f → k ≤ k1 → r < k1 → MayMove a to written →
    AddsValue a b tb p (Ptr to written) r m k f n1 → AddsValue b c tb e (Int s) n m k1 f n2 → Moves c d to written s r n rd m k →
    AddsValue a d tb (λ x vs. subscripted (p x vs) (e x vs)) (Ptr to written) rd m k f (n1 + n2 + 1)
emits_stepped a b c d tb p e to s written r n rd m k k1 f n1 n2 it lm lk lr may x y z =
    adds_weaken a d _ _ (n1 + n2 + 1) (n1 + n2 + 1) 0 (adds_then a c d _ _ (n1 + n2) 1 0 (adds_then a b c _ _ n1 n2 0 x y) step) (omega arith)
    (λ q hw j h h' s1 s2 g.
    let there : HasWritten q a = has_written_less a b _ n1 0 q x (has_written_less b c _ n2 0 q y (has_written_less c d _ 1 0 q step hw)) in
    let move : ℕ → Share → Result ℕ Stop = λ l u. pointer_result (word_moved (u.lane.reg r) (number_at s n u)) in
    where_active (place_of q) tb _ (Ptr to written) rd m k f j h h' s1
    (idles_then m f f h (g.1).0 h' lm (omega arith) (idles_of (place_of q) tb _ (Ptr to written) r m k f j h (g.1).0 (g.1).1)
    (idles_then m f f (g.1).0 g.0 h' lm (omega arith) (idles_of (place_of q) tb _ (Int s) n m k1 f j (g.1).0 g.0 (g.1).2) (idles_write m f rd (move j g.0) g.0 h' g.2)))
    (λ on. then_two (place_of q) tb _ _ (λ dt z. moved dt (number_in z)) (Ptr to written) (Int s) (Ptr to written) r n m k k1 f rd j move h (g.1).0 g.0 h'
    (table_there q a tb k there it) lm lk lr z.target.above (g.1).1 (g.1).2 g.2
    (λ dt dn w hp hn ew. answers_moved (place_of q) j to s written dt dn ((g.0).lane.reg r) ((g.0).lane.reg n) w (may q there j on) hp hn)))
  where
    step : Adds c d (λ q. Writes m rd (λ j h. pointer_result (word_moved (h.lane.reg r) (number_at s n h)))) 1 0
    step = adds_step c d to s written r n rd m k z

-- ---- `p[0]`

zero_of : (t : Ty) → wrap_number t (pos 0) ≡ pos 0
zero_of t = wrap_keeps t (pos 0) (in_range t)
  where
    in_range : (t : Ty) → IsInRange t (pos 0)
    in_range t = search rules

-- the first element is where the pointer points
pub emits_first : (a b : Written) (tb : Table) (p : Expression) (t to : Ty) (written : Bool) (r m k f n : ℕ) → AddsValue a b tb p (Ptr to written) r m k f n →
    AddsValue a b tb (λ x vs. subscripted (p x vs) (given (number (wrap_number t (pos 0))))) (Ptr to written) r m k f n
emits_first a b tb p t to written r m k f n x = adds_weaken a b _ _ n n 0 x (omega arith) (λ q hw j h h' s1 s2 c. record {
  gone = c.gone;
  off = c.off;
  runs = λ s no on u. at q j h h' (p q.context s.variables s.world) (c.runs s no on u);
})
  where
    at : (q : LaneCall) (j : ℕ) (h h' : Share) (v : Value) → Gives (place_of q) j (Ptr to written) r k f h h' v → Gives (place_of q) j (Ptr to written) r k f h h' (with_value v (λ d. moved d (wrap_number t (pos 0))))
    at q j h h' (halts z w) g = g
    at q j h h' (got dt w) g = subst (Gives (place_of q) j (Ptr to written) r k f h h') (sym
        (ap₂ (λ d z. moved d z w) g.1.is (zero_of t)
        ∙ (moved_nowhere (h'.lane.reg r / 2 ^ 32) (cast_signed w32 (h'.lane.reg r % 2 ^ 32)) w (word_fits (h'.lane.reg r)) ∙ ap (λ d. got d w) (sym g.1.is)))) g

-- ---- differences

-- behind the operands: the number is turned, and the pointer moved by it
turned : (x : Place) (tb : Table) (to s : Ty) (written : Bool) (g : ℤ → ℤ) (r n y rd m k k2 f j : ℕ) (mid last h' : Share) (dp dn : Datum) → IsTurned s g → IsSound x j mid → reg_type x n ≡ Int s → MovesFreely x j (Ptr to written) →
    m < f → k ≤ k2 → k ≤ rd → r < k2 → Has x j (Ptr to written) dp (mid.lane.reg r) → Has x j (Int s) dn (mid.lane.reg n) → Applies (one (λ z. Ok (g z)) s n) I64 y m k2 f j mid last →
    Writes m rd (λ l u. pointer_result (word_moved (u.lane.reg r) (number_at I64 y u))) j last h' → Computes x tb (λ vs. moved dp (neg_ℤ (number_in dn))) (Ptr to written) rd m k f j mid h'
turned x tb to s written g r n y rd m k k2 f j mid last h' dp dn is so ty may lm lk lrd lr hp hn one_ two_ =
    computes_same x tb (λ vs. and_then (answered (Ok (g z))) (λ d. moved dp (number_in d))) _ (Ptr to written) rd m k f j mid h' (λ vs w. same w)
    (then_write x tb (λ vs. answered (Ok (g z))) (λ d. moved dp (number_in d)) (Int I64) (Ptr to written) y m k k2 f rd j (λ l u. pointer_result (word_moved (u.lane.reg r) (number_at I64 y u))) mid last h' lk lrd lm
    (computes_answered x tb (one (λ v. Ok (g v)) s n) (Ok (g z)) I64 y m k2 f j mid last refl one_) two_
    (λ dt w kp hy. answers_moved x j to I64 written dp dt (last.lane.reg r) (last.lane.reg y) w may (subst (Has x j (Ptr to written) dp) (sym (kp.regs r lr)) hp) hy))
  where
    z : ℤ
    z = number_at s n mid

    in_range : IsInRange s z
    in_range = (subst (λ u. IsWord u (mid.lane.reg n)) ty (so.typed n)).1

    same : (w : World) → moved dp (g z) w ≡ moved dp (neg_ℤ (number_in dn)) w
    same w = ap (λ d. moved d (g z) w) hp.is
        ∙ (is z in_range (mid.lane.reg r / 2 ^ 32) (cast_signed w32 (mid.lane.reg r % 2 ^ 32)) (word_fits (mid.lane.reg r)) w
        ∙ ap₂ (λ d v. moved d (neg_ℤ v) w) (sym hp.is) (ap number_in (sym hn.is)))

-- `p - e`
pub emits_back : (a b c d e : Written) (tb : Table) (p n : Expression) (g : ℤ → ℤ) (to s : Ty) (written : Bool) (r rn y rd m k k1 k2 f n1 n2 n3 : ℕ) → IsTableOf a tb k → m < f → k ≤ k1 → k1 ≤ k2 → r < k1 → MayMove a to written → IsTurned s g →
    HasType c rn s → AddsValue a b tb p (Ptr to written) r m k f n1 → AddsValue b c tb n (Int s) rn m k1 f n2 → AddsNumber c d (one (λ z. Ok (g z)) s rn) I64 y m k2 f n3 → Moves d e to written I64 r y rd m k2 →
    AddsValue a e tb (λ x vs. and_then (p x vs) (λ q. and_then (n x vs) (λ v. moved q (neg_ℤ (number_in v))))) (Ptr to written) rd m k f (n1 + n2 + n3 + 1)
emits_back a b c d e tb p n g to s written r rn y rd m k k1 k2 f n1 n2 n3 it lm lk lk2 lr may is tn x1 x2 x3 x4 =
    adds_weaken a e _ _ (n1 + n2 + n3 + 1) (n1 + n2 + n3 + 1) 0 (adds_then a d e _ _ (n1 + n2 + n3) 1 0 (adds_then a c d _ _ (n1 + n2) n3 0 (adds_then a b c _ _ n1 n2 0 x1 x2) x3) step) (omega arith)
    (λ q hw j h h' s1 s2 g4.
    let g3 = g4.1 in
    let g2 = g3.1 in
    let at_c : HasWritten q c = has_written_less c d _ n3 0 q x3 (has_written_less d e _ 1 0 q step hw) in
    let at_b : HasWritten q b = has_written_less b c _ n2 0 q x2 at_c in
    let there : HasWritten q a = has_written_less a b _ n1 0 q x1 at_b in
    let xq : Place = place_of q in
    let move : ℕ → Share → Result ℕ Stop = λ l u. pointer_result (word_moved (u.lane.reg r) (number_at I64 y u)) in
    let idle3 : Idles m f g3.0 h' = idles_then m f f g3.0 g4.0 h' lm (omega arith) g3.2.idles (idles_write m f rd (move j g4.0) g4.0 h' g4.2) in
    let idle2 : Idles m f g2.0 h' = idles_then m f f g2.0 g3.0 h' lm (omega arith) (idles_of xq tb _ (Int s) rn m k1 f j g2.0 g3.0 g2.2) idle3 in
    where_active xq tb _ (Ptr to written) rd m k f j h h' s1 (idles_then m f f h g2.0 h' lm (omega arith) (idles_of xq tb _ (Ptr to written) r m k f j h g2.0 g2.1) idle2)
    (λ on. computes_then xq tb _ (λ vs dp. and_then (n q.context vs) (λ v. moved dp (neg_ℤ (number_in v)))) (Ptr to written) (Ptr to written) r rd m k f k1 f j h g2.0 h'
    (table_there q a tb k there it) lm lk (omega arith) g2.1 idle2
    (λ dp w1 kp1 hp. computes_then xq tb _ (λ vs dn. moved dp (neg_ℤ (number_in dn))) (Int s) (Ptr to written) rn rd m k1 f k1 f j g2.0 g3.0 h'
    (table_there q a tb k1 there (table_more a tb k k1 lk it)) lm (omega arith) (omega arith) g2.2 idle3
    (λ dn w2 kp2 hn. turned xq tb to s written g r rn y rd m k1 k2 f j g3.0 g4.0 h' dp dn is g3.3 (type_there q c rn (Int s) at_c tn) (may q there j on)
    lm lk2 (let u = x4.target.above in omega (arith, u, lk2)) (omega (arith, lr, lk2)) (subst (Has xq j (Ptr to written) dp) (sym (kp2.regs r lr)) hp) hn g3.2 g4.2))))
  where
    step : Adds d e (λ q. Writes m rd (λ j h. pointer_result (word_moved (h.lane.reg r) (number_at I64 y h)))) 1 0
    step = adds_step d e to I64 written r y rd m k2 x4
