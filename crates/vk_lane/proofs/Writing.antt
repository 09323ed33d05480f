-- Instructions that write a register or a mask.
use Rattle.std.proofs.Common.{arith, sym, ◌≡◌, ◌≢◌, ℕ, ◌<◌, ◌==◌, ◌^◌, Bool, true, false, cond, not, ◌||◌, ◌&&◌, [], ◌∷◌, Option, Some, None, refl, subst, ap, ap₂, ◌*◌, ◌∙◌, ℤ, Result, Ok, Err, true≢false}
use Rattle.std.specs.Prelude.{is_none, slice_get}
use Rattle.vk_types.specs.declared.types.Ty.{Ty}
use Rattle.vk_types.specs.declared.types.Op1.{Op1}
use Rattle.vk_types.specs.declared.types.Op2.{Op2}
use Rattle.vk_types.specs.declared.types.Word.{Word}
use Rattle.vk_types.specs.declared.types.Stop.{Stop}
use Rattle.vk_types.specs.Numbers.{word_of, wrap_number, number_of, IsInRange}
use Rattle.vk_types.specs.declared.types.Ty.TheVariants.{I32}
use Rattle.vk_types.specs.Operators.{op1_number, op2_number, result_type}
use Rattle.vk_kinds.specs.declared.heads.CType.{CType}
use Rattle.vk_kinds.specs.declared.heads.CType.TheVariants.{Void, Int, Ptr}
use Rattle.vk_numbers.proofs.Numbers.{wrap_in_range, canonical_word, op1_in_range, op2_in_range}
use Rattle.vk_meaning.specs.Lanes.{IsWord}
use Rattle.vk_code.specs.declared.instruction.Instr.{Instr}
use Rattle.vk_code.specs.declared.instruction.Operation.{Operation}
use Rattle.vk_code.specs.declared.instruction.Operation.TheVariants.{Const, Copy, Convert, Binary, Compare, Unary, Lane, PtrAdd, Addr, MaskOf, MaskAnd, MaskOr, MaskBut}
use Rattle.vk_code.specs.Instruction.{operation_of}
use Rattle.vk_object.specs.Lane.{element_of, LaneState, View, is_live, with_mask, gives, masked, acts, gives_result, gives_pointer}
use Rattle.vk_object.specs.Memory.{Memory, moved}
use Rattle.vk_lane.specs.Places.{type_in, Share, Shares, view_of, put_share, Place, IsPlace, lanes_of, IsSound, Agree, reg_type}
use Rattle.vk_lane.specs.Pieces.{Before, Change, Always, Does, Steps}
use Rattle.vk_lane.specs.Writes.{written, written_lane, written_share, Writes, Masks, word_result, pointer_result}
use Rattle.vk_lane.proofs.Pointers.{step_word}
use Rattle.vk_lane.proofs.Rules.{IsSwept, does_one, same_number}

-- one lane's share changes, its copy of the world and the memory do not
pub put_agree : (x : Place) (hs : Shares) (m : Memory) (j : ℕ) (h : Share) → h.world ≡ (hs j).world → (x.Cares h.lane.stop → x.Cares (hs j).lane.stop) → Agree x hs m → Agree x (put_share hs j h) m
put_agree x hs m j h same eased a = record {
  cells = λ k l. cells_at k l (k == j) refl;
  others = a.others;
  told = λ k l. told_at k l (k == j) refl;
  counted = λ k l. counted_at k l (k == j) refl;
}
  where
    cells_at : (k : ℕ) → k < lanes_of x → (b : Bool) → (k == j) ≡ b → x.Cares (cond b h (hs k)).lane.stop → (c i : ℕ) → ((q : ℕ) → q < lanes_of x → q ≢ k → x.Own q c i → ⊥) → m.cells c i ≡ (cond b h (hs k)).world.memory c i
    cells_at k l true e cares c i v = let ek : k ≡ j = same_number k j e in
        a.cells k l (subst (λ q. x.Cares (hs q).lane.stop) (sym ek) (eased cares)) c i v ∙ (ap (λ q. (hs q).world.memory c i) ek ∙ ap (λ u. u.memory c i) (sym same))
    cells_at k l false e cares c i v = a.cells k l cares c i v

    told_at : (k : ℕ) → k < lanes_of x → (b : Bool) → (k == j) ≡ b → x.Told m.log (cond b h (hs k)).world.events
    told_at k l true e = let ek : k ≡ j = same_number k j e in subst (λ u. x.Told m.log u.events) (ap (λ q. (hs q).world) ek ∙ sym same) (a.told k l)
    told_at k l false e = a.told k l

    counted_at : (k : ℕ) → k < lanes_of x → (b : Bool) → (k == j) ≡ b → x.Cares (cond b h (hs k)).lane.stop → x.Counted m.log (cond b h (hs k)).world.events
    counted_at k l true e c = let ek : k ≡ j = same_number k j e in subst (λ u. x.Counted m.log u.events) (ap (λ q. (hs q).world) ek ∙ sym same) (a.counted k l (subst (λ q. x.Cares (hs q).lane.stop) (sym ek) (eased c)))
    counted_at k l false e c = a.counted k l c

-- a step that leaves the memory alone
pub steps_lane : (x : Place) (P : Before) (F : Change) (step : ℕ → View → View) (next : ℕ → Share → Share) → ((j : ℕ) (h : Share) → (next j h).world ≡ h.world) →
    ((j : ℕ) → j < lanes_of x → (hs : Shares) (m : Memory) → Agree x hs m → P j (hs j) → IsSound x j (hs j) → step j (view_of (hs j) m) ≡ view_of (next j (hs j)) m) →
    ((j : ℕ) (h : Share) → x.Cares (next j h).lane.stop → x.Cares h.lane.stop) →
    ((j : ℕ) (h : Share) → IsSound x j h → P j h → IsSound x j (next j h)) → ((j : ℕ) (h : Share) → IsSound x j h → P j h → F j h (next j h)) → Steps x P F step
steps_lane x P F step next world is eased sound does = record {
  by = λ j l hs m a s p. record {
    share = next j (hs j);
    mem = m;
    is = is j l hs m a p s;
    agree = put_agree x hs m j (next j (hs j)) (world j (hs j)) (eased j (hs j)) a;
    sound = sound j (hs j) s p;
    does = does j (hs j) s p;
  };
}

-- ---- registers

-- an operation that writes register d, or stops
pub record IsWrite (x : Place) (P : Before) (m d : ℕ) (o : Operation) (r : ℕ → Share → Result ℕ Stop) : Type 0 where
  pub swept : IsSwept x m o (λ j v. acts x.site.arrays x.site.code.routine.regs m j o v)
  pub acts_live : (j : ℕ) → j < lanes_of x → (hs : Shares) (mem : Memory) → Agree x hs mem → P j (hs j) → IsSound x j (hs j) → is_live m (hs j).lane ≡ true →
      acts x.site.arrays x.site.code.routine.regs m j o (view_of (hs j) mem) ≡ written (view_of (hs j) mem) d (r j (hs j))
  pub idle : (j : ℕ) (v : View) → is_live m v.lane ≡ false → acts x.site.arrays x.site.code.routine.regs m j o v ≡ v
  pub typed : (j : ℕ) (h : Share) → IsSound x j h → P j h → is_live m h.lane ≡ true → (w : ℕ) → r j h ≡ Ok w → IsWord (reg_type x d) w

written_is : (h : Share) (mem : Memory) (d : ℕ) (r : Result ℕ Stop) → written (view_of h mem) d r ≡ record { lane = written_lane h.lane d r; mem = mem }
written_is h mem d (Ok w) = refl
written_is h mem d (Err x) = refl

pub live_going : (m : ℕ) (l : LaneState) → is_live m l ≡ true → l.stop ≡ None
live_going m l = go (l.on m) l.stop
  where
    go : (b : Bool) (s : Option Stop) → (b && is_none s) ≡ true → s ≡ None
    go true None e = refl
    go true (Some y) e = absurd (true≢false (sym e))
    go false s e = absurd (true≢false (sym e))

pub does_write : (x : Place) (P : Before) (d : ℕ) (i : Instr) (o : Operation) (r : ℕ → Share → Result ℕ Stop) → IsPlace x → x.fixed d ≡ false → operation_of i ≡ Some o → IsWrite x P i.m d o r →
    Does x P (i ∷ []) (λ j h h'. P j h × Writes i.m d r j h h')
does_write x P d i o r ip free e w = does_one x P _ i o _ e w.swept
    (steps_lane x P (λ j h h'. P j h × Writes i.m d r j h h') _ (λ j h. written_share i.m h d (r j h)) (λ j h. refl) is
    (λ j h. eased h (r j h) (is_live i.m h.lane) refl)
    (λ j h s p. sound j h s p (is_live i.m h.lane) refl) (λ j h s p. (p, refl)))
  where
    is : (j : ℕ) → j < lanes_of x → (hs : Shares) (mem : Memory) → Agree x hs mem → P j (hs j) → IsSound x j (hs j) → acts x.site.arrays x.site.code.routine.regs i.m j o (view_of (hs j) mem) ≡ view_of (written_share i.m (hs j) d (r j (hs j))) mem
    is j l hs mem a p s = go (is_live i.m (hs j).lane) refl
      where
        go : (b : Bool) → is_live i.m (hs j).lane ≡ b → acts x.site.arrays x.site.code.routine.regs i.m j o (view_of (hs j) mem) ≡ record { lane = cond b (written_lane (hs j).lane d (r j (hs j))) (hs j).lane; mem = mem }
        go true b = w.acts_live j l hs mem a p s b ∙ written_is (hs j) mem d (r j (hs j))
        go false b = w.idle j (view_of (hs j) mem) b

    eased : (h : Share) (q : Result ℕ Stop) (b : Bool) → is_live i.m h.lane ≡ b → x.Cares (cond b (written_lane h.lane d q) h.lane).stop → x.Cares h.lane.stop
    eased h q true b c = subst x.Cares (sym (live_going i.m h.lane b)) ip.cares
    eased h q false b c = c

    sound : (j : ℕ) (h : Share) → IsSound x j h → P j h → (b : Bool) → is_live i.m h.lane ≡ b → IsSound x j (record { lane = cond b (written_lane h.lane d (r j h)) h.lane; world = h.world })
    sound j h s p false b = record { typed = s.typed; kept = s.kept; idle = s.idle }
    sound j h s p true b = go (r j h) refl
      where
        go : (q : Result ℕ Stop) → r j h ≡ q → IsSound x j (record { lane = written_lane h.lane d q; world = h.world })
        go (Err y) eq = record { typed = s.typed; kept = s.kept; idle = s.idle }
        go (Ok v) eq = record { typed = λ k. typed_at k (k == d) refl; kept = λ k f. kept_at k f (k == d) refl; idle = s.idle }
          where
            typed_at : (k : ℕ) (c : Bool) → (k == d) ≡ c → IsWord (reg_type x k) (cond c v (h.lane.reg k))
            typed_at k true ec = subst (λ q. IsWord (reg_type x q) v) (sym (same_number k d ec)) (w.typed j h s p b v eq)
            typed_at k false ec = s.typed k

            kept_at : (k : ℕ) → x.fixed k ≡ true → (c : Bool) → (k == d) ≡ c → cond c v (h.lane.reg k) ≡ x.words k j
            kept_at k f true ec = absurd (true≢false (sym f ∙ (ap x.fixed (same_number k d ec) ∙ free)))
            kept_at k f false ec = s.kept k f

pub type_is : (o : Option CType) (t : Ty) → type_in o ≡ Int t → element_of o ≡ t
type_is None t e = cc
type_is (Some Void) t e = cc
type_is (Some (Int u)) t e = cc
type_is (Some (Ptr u w)) t e = cc

-- ---- results

pub ok_word : (a b : ℕ) (r : Result ℕ Stop) → r ≡ Ok a → r ≡ Ok b → a ≡ b
ok_word a b r e f = cc

-- a number of the type of register d
pub typed_word : (x : Place) (d : ℕ) (t : Ty) (z : ℤ) → reg_type x d ≡ Int t → IsInRange t z → IsWord (reg_type x d) (word_of z)
typed_word x d t z e h = subst (λ u. IsWord u (word_of z)) (sym e) (canonical_word t z h)

pub same_word : (x : Place) (d w : ℕ) (r : Result ℕ Stop) (t : CType) → reg_type x d ≡ t → IsWord t w → r ≡ Ok w → (v : ℕ) → r ≡ Ok v → IsWord (reg_type x d) v
same_word x d w r t e h is v f = subst (IsWord (reg_type x d)) (ok_word w v r is f) (subst (λ u. IsWord u w) (sym e) h)

-- an operation that doesn't look at the memory
quiet_write : (x : Place) (P : Before) (m d : ℕ) (o : Operation) (r : ℕ → Share → Result ℕ Stop) → IsSwept x m o (λ j v. acts x.site.arrays x.site.code.routine.regs m j o v) →
    ((j : ℕ) (h : Share) (mem : Memory) (b : Bool) → is_live m h.lane ≡ b → acts x.site.arrays x.site.code.routine.regs m j o (view_of h mem) ≡ cond b (written (view_of h mem) d (r j h)) (view_of h mem)) →
    ((j : ℕ) (h : Share) → IsSound x j h → P j h → is_live m h.lane ≡ true → (w : ℕ) → r j h ≡ Ok w → IsWord (reg_type x d) w) → IsWrite x P m d o r
quiet_write x P m d o r sw act typed = record {
  swept = sw;
  acts_live = λ j l hs mem a p s b. act j (hs j) mem true b;
  idle = λ j v b. act j (record { lane = v.lane; world = record { memory = v.mem.cells; events = [] } }) v.mem false b;
  typed = typed;
}

on_live : (b c : Bool) (u v : View) → b ≡ c → cond b u v ≡ cond c u v
on_live b c u v e = ap (λ q. cond q u v) e

pub write_const : (x : Place) (P : Before) (m d : ℕ) (t : Ty) (value : Word) → IsWord (reg_type x d) value.0 → IsWrite x P m d (Const t d value) (λ j h. Ok value.0)
write_const x P m d t value ok = quiet_write x P m d _ _ (record { plain = refl; is = λ w. refl })
    (λ j h mem b e. on_live _ _ _ _ e)
    (λ j h s p b w e. same_word x d value.0 (Ok value.0) (reg_type x d) refl ok refl w e)

-- the lane's number: of lanes that are there
pub write_lane : (x : Place) (m d : ℕ) → ((j : ℕ) → j < lanes_of x → IsWord (reg_type x d) j) → IsWrite x (λ j h. j < lanes_of x) m d (Lane d) (λ j h. Ok j)
write_lane x m d ok = quiet_write x (λ j h. j < lanes_of x) m d _ _ (record { plain = refl; is = λ w. refl })
    (λ j h mem b e. on_live _ _ _ _ e)
    (λ j h s p b w e. same_word x d j (Ok j) (reg_type x d) refl (ok j p) refl w e)

-- of one type, or a read pointer from a written one
pub write_copy : (x : Place) (P : Before) (m d a : ℕ) → ((w : ℕ) → IsWord (reg_type x a) w → IsWord (reg_type x d) w) → IsWrite x P m d (Copy d a) (λ j h. Ok (h.lane.reg a))
write_copy x P m d a same = quiet_write x P m d _ _ (record { plain = refl; is = λ w. refl })
    (λ j h mem b e. on_live _ _ _ _ e)
    (λ j h s p b w e. same_word x d (h.lane.reg a) (Ok (h.lane.reg a)) (reg_type x d) refl (same _ (s.typed a)) refl w e)

pub write_convert : (x : Place) (P : Before) (m d a : ℕ) (t u : Ty) → reg_type x d ≡ Int t → reg_type x a ≡ Int u →
    IsWrite x P m d (Convert d a) (λ j h. Ok (word_of (wrap_number t (number_of u (h.lane.reg a)))))
write_convert x P m d a t u ed ea = quiet_write x P m d _ _ (record { plain = refl; is = λ w. refl })
    (λ j h mem b e. on_live _ _ _ _ e ∙ ap₂ (λ p q. cond b (gives (view_of h mem) d (word_of (wrap_number p (number_of q (h.lane.reg a))))) (view_of h mem)) (type_is (slice_get x.site.code.routine.regs d) t ed) (type_is (slice_get x.site.code.routine.regs a) u ea))
    (λ j h s p b w e. same_word x d _ (Ok (word_of (wrap_number t (number_of u (h.lane.reg a))))) (Int t) ed (canonical_word t _ (wrap_in_range t (number_of u (h.lane.reg a)))) refl w e)

result_view : (v : View) (d : ℕ) (r : Result ℤ Stop) → gives_result v d r ≡ written v d (word_result r)
result_view v d (Ok z) = refl
result_view v d (Err x) = refl

result_typed : (x : Place) (d : ℕ) (t : Ty) (r : Result ℤ Stop) → reg_type x d ≡ Int t → ((z : ℤ) → r ≡ Ok z → IsInRange t z) → (w : ℕ) → word_result r ≡ Ok w → IsWord (reg_type x d) w
result_typed x d t (Ok z) e h w f = same_word x d (word_of z) (Ok (word_of z)) (Int t) e (canonical_word t z (h z refl)) refl w f
result_typed x d t (Err y) e h w f = cc

-- an operator at the type t, whose right operand is of the type u
pub write_binary : (x : Place) (P : Before) (op : Op2) (t u : Ty) (m d a b : ℕ) → reg_type x d ≡ Int t → reg_type x b ≡ Int u → result_type op t ≡ t →
    IsWrite x P m d (Binary op t d a b) (λ j h. word_result (op2_number op t (number_of t (h.lane.reg a)) (number_of u (h.lane.reg b))))
write_binary x P op t u m d a b ed eb same = quiet_write x P m d _ _ (record { plain = refl; is = λ w. refl })
    (λ j h mem c e. on_live _ _ _ _ e
    ∙ (ap (λ q. cond c (gives_result (view_of h mem) d (op2_number op t (number_of t (h.lane.reg a)) (number_of q (h.lane.reg b)))) (view_of h mem)) (type_is (slice_get x.site.code.routine.regs b) u eb)
    ∙ ap (λ q. cond c q (view_of h mem)) (result_view (view_of h mem) d _)))
    (λ j h s p c w e. result_typed x d t _ ed (λ z f. subst (λ v. IsInRange v z) same (op2_in_range op t _ _ z f)) w e)

pub write_compare : (x : Place) (P : Before) (op : Op2) (t : Ty) (m d a b : ℕ) → reg_type x d ≡ Int I32 → result_type op t ≡ I32 →
    IsWrite x P m d (Compare op t d a b) (λ j h. word_result (op2_number op t (number_of t (h.lane.reg a)) (number_of t (h.lane.reg b))))
write_compare x P op t m d a b ed same = quiet_write x P m d _ _ (record { plain = refl; is = λ w. refl })
    (λ j h mem c e. on_live _ _ _ _ e ∙ ap (λ q. cond c q (view_of h mem)) (result_view (view_of h mem) d _))
    (λ j h s p c w e. result_typed x d I32 _ ed (λ z f. subst (λ v. IsInRange v z) same (op2_in_range op t _ _ z f)) w e)

pub write_unary : (x : Place) (P : Before) (op : Op1) (t : Ty) (m d a : ℕ) → reg_type x d ≡ Int t →
    IsWrite x P m d (Unary op t d a) (λ j h. Ok (word_of (op1_number op t (number_of t (h.lane.reg a)))))
write_unary x P op t m d a ed = quiet_write x P m d _ _ (record { plain = refl; is = λ w. refl })
    (λ j h mem c e. on_live _ _ _ _ e)
    (λ j h s p c w e. same_word x d _ (Ok (word_of (op1_number op t (number_of t (h.lane.reg a))))) (Int t) ed (canonical_word t _ (op1_in_range op t _)) refl w e)

pointer_view : (v : View) (d : ℕ) (r : Option ℕ) → gives_pointer v d r ≡ written v d (pointer_result r)
pointer_view v d (Some p) = refl
pointer_view v d None = refl

-- a pointer is moved
pub write_step : (x : Place) (P : Before) (u to to' : Ty) (wr wr' : Bool) (m d a b : ℕ) → reg_type x b ≡ Int u → reg_type x a ≡ Ptr to wr → reg_type x d ≡ Ptr to' wr' →
    IsWrite x P m d (PtrAdd d a b) (λ j h. pointer_result (moved (h.lane.reg a) (number_of u (h.lane.reg b))))
write_step x P u to to' wr wr' m d a b eb ea ed = quiet_write x P m d _ _ (record { plain = refl; is = λ w. refl })
    (λ j h mem c e. on_live _ _ _ _ e
    ∙ (ap (λ q. cond c (gives_pointer (view_of h mem) d (moved (h.lane.reg a) (number_of q (h.lane.reg b)))) (view_of h mem)) (type_is (slice_get x.site.code.routine.regs b) u eb)
    ∙ ap (λ q. cond c q (view_of h mem)) (pointer_view (view_of h mem) d _)))
    (λ j h s p c w e. at (h.lane.reg a) (number_of u (h.lane.reg b)) (subst (λ t. IsWord t (h.lane.reg a)) ea (s.typed a)) (moved (h.lane.reg a) (number_of u (h.lane.reg b))) refl w e)
  where
    at : (v : ℕ) (z : ℤ) → v < 2 ^ 64 → (o : Option ℕ) → moved v z ≡ o → (w : ℕ) → pointer_result o ≡ Ok w → IsWord (reg_type x d) w
    at v z h None eo w e = cc
    at v z h (Some y) eo w e = same_word x d y (Ok y) (Ptr to' wr') ed (step_word v z y h eo) refl w e

address_word : (k : ℕ) → k < 2 ^ 32 → k * 2 ^ 32 < 2 ^ 64
address_word k h = omega arith

-- the first element of an object
pub write_addr : (x : Place) (P : Before) (to : Ty) (wr : Bool) (m d k : ℕ) → reg_type x d ≡ Ptr to wr → k < 2 ^ 32 → IsWrite x P m d (Addr d k) (λ j h. Ok (k * 2 ^ 32))
write_addr x P to wr m d k ed lk = quiet_write x P m d _ _ (record { plain = refl; is = λ w. refl })
    (λ j h mem b e. on_live _ _ _ _ e)
    (λ j h s p b w e. same_word x d (k * 2 ^ 32) (Ok (k * 2 ^ 32)) (Ptr to wr) ed (address_word k lk) refl w e)

-- ---- masks

mask_sound : (x : Place) (j d : ℕ) (h : Share) (b : Bool) → (x.active j ≡ false → b ≡ false) → IsSound x j h → IsSound x j (record { lane = with_mask h.lane d b; world = h.world })
mask_sound x j d h b off s = record { typed = s.typed; kept = s.kept; idle = λ e m. at m e (m == d) }
  where
    at : (m : ℕ) → x.active j ≡ false → (c : Bool) → cond c b (h.lane.on m) ≡ false
    at m e true = off e
    at m e false = s.idle e m

-- an operation that sets mask d
does_mask : (x : Place) (d : ℕ) (i : Instr) (o : Operation) (b : Share → Bool) → operation_of i ≡ Some o → IsSwept x i.m o (λ j v. acts x.site.arrays x.site.code.routine.regs i.m j o v) →
    ((j : ℕ) (h : Share) (mem : Memory) → acts x.site.arrays x.site.code.routine.regs i.m j o (view_of h mem) ≡ masked (view_of h mem) d (b h)) →
    ((h : Share) → ((m : ℕ) → h.lane.on m ≡ false) → b h ≡ false) → Does x Always (i ∷ []) (Masks d b)
does_mask x d i o b e sw act off = does_one x Always _ i o _ e sw
    (steps_lane x Always (Masks d b) _ (λ j h. record { lane = with_mask h.lane d (b h); world = h.world }) (λ j h. refl)
    (λ j l hs m a p s. act j (hs j) m) (λ j h c. c) (λ j h s p. mask_sound x j d h (b h) (λ z. off h (s.idle z)) s) (λ j h s p. refl))

and_off : (a b : Bool) → a ≡ false → (a && b) ≡ false
and_off true b e = absurd (true≢false e)
and_off false b e = refl

or_off : (a b : Bool) → a ≡ false → b ≡ false → (a || b) ≡ false
or_off true b e f = absurd (true≢false e)
or_off false b e f = f

pub does_mask_of : (x : Place) (d a : ℕ) (i : Instr) → operation_of i ≡ Some (MaskOf d a) → Does x Always (i ∷ []) (Masks d (λ h. is_live i.m h.lane && not (h.lane.reg a == 0)))
does_mask_of x d a i e = does_mask x d i _ _ e (record { plain = refl; is = λ w. refl }) (λ j h mem. refl) (λ h z. and_off _ _ (and_off (h.lane.on i.m) (is_none h.lane.stop) (z i.m)))

pub does_mask_and : (x : Place) (d a b : ℕ) (i : Instr) → operation_of i ≡ Some (MaskAnd d a b) → Does x Always (i ∷ []) (Masks d (λ h. h.lane.on a && h.lane.on b))
does_mask_and x d a b i e = does_mask x d i _ _ e (record { plain = refl; is = λ w. refl }) (λ j h mem. refl) (λ h z. and_off _ _ (z a))

pub does_mask_or : (x : Place) (d a b : ℕ) (i : Instr) → operation_of i ≡ Some (MaskOr d a b) → Does x Always (i ∷ []) (Masks d (λ h. h.lane.on a || h.lane.on b))
does_mask_or x d a b i e = does_mask x d i _ _ e (record { plain = refl; is = λ w. refl }) (λ j h mem. refl) (λ h z. or_off _ _ (z a) (z b))

pub does_mask_but : (x : Place) (d a b : ℕ) (i : Instr) → operation_of i ≡ Some (MaskBut d a b) → Does x Always (i ∷ []) (Masks d (λ h. h.lane.on a && not (h.lane.on b)))
does_mask_but x d a b i e = does_mask x d i _ _ e (record { plain = refl; is = λ w. refl }) (λ j h mem. refl) (λ h z. and_off _ _ (z a))
