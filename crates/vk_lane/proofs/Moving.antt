-- Instructions that read and write cells, or print.
use Rattle.std.proofs.Common.{arith, sym, ◌≡◌, ◌≢◌, ℕ, ◌<◌, ◌==◌, Bool, true, false, cond, ◌&&◌, [], ◌∷◌, ◌++◌, Option, Some, None, refl, subst, ap, ap₂, ◌∙◌, ℤ, Ok}
use Rattle.std.specs.Prelude.{slice_get}
use Rattle.vk_types.specs.declared.types.Ty.{Ty}
use Rattle.vk_types.specs.declared.types.Ty.TheVariants.{I64}
use Rattle.vk_types.specs.declared.types.Stop.TheVariants.{Bounds}
use Rattle.vk_types.specs.Numbers.{word_of, wrap_number, number_of}
use Rattle.vk_kinds.specs.declared.heads.CType.TheVariants.{Int}
use Rattle.vk_numbers.proofs.Numbers.{wrap_in_range, canonical_word}
use Rattle.vk_meaning.specs.World.{with_cell, in_memory, printed, with_event}
use Rattle.vk_meaning.specs.Lanes.{IsWord}
use Rattle.vk_code.specs.declared.instruction.Instr.{Instr}
use Rattle.vk_code.specs.declared.instruction.Operation.TheVariants.{Load, Store, Print}
use Rattle.vk_code.specs.Instruction.{operation_of}
use Rattle.vk_object.specs.Memory.{Memory, Cell, Prints, logged, cell_of, with_cell as machine_cell}
use Rattle.vk_object.specs.Lane.{View, is_live, with_stop, acts, ty_at, number_at, loads, stores}
use Rattle.vk_lane.specs.Places.{Share, Shares, view_of, put_share, Place, IsPlace, lanes_of, IsSound, IsVisible, Agree, reg_type}
use Rattle.vk_lane.specs.Pieces.{Change, Always, Does, StepsIn}
use Rattle.vk_lane.specs.Writes.{written}
use Rattle.vk_lane.specs.Cells.{load_result, stored_share, Stores, cell_at, MayLoad, MayStore, printed_share, TellsPrints}
use Rattle.vk_lane.proofs.Rules.{put_same, same_number, other_number, does_one}
use Rattle.vk_lane.proofs.Writing.{IsWrite, put_agree, live_going, type_is, same_word}

-- ---- loads

load_view : (v : View) (d : ℕ) (t : Ty) (c : Option Cell) → loads v d t c ≡ written v d (load_result v.mem.cells t c)
load_view v d t None = refl
load_view v d t (Some c) = refl

load_typed : (x : Place) (d : ℕ) (t : Ty) (m : ℕ → ℕ → ℕ) (c : Option Cell) → reg_type x d ≡ Int t → (w : ℕ) → load_result m t c ≡ Ok w → IsWord (reg_type x d) w
load_typed x d t m None e w f = cc
load_typed x d t m (Some c) e w f = same_word x d _ (load_result m t (Some c)) (Int t) e (canonical_word t _ (wrap_in_range t (number_of c.ty (m c.array c.index)))) refl w f

pub write_load : (x : Place) (m d a : ℕ) (t : Ty) → IsPlace x → reg_type x d ≡ Int t →
    IsWrite x (MayLoad x m a) m d (Load d a) (λ j h. load_result h.world.memory t (cell_at x a h))
write_load x m d a t ip ed = record {
  swept = record { plain = refl; is = λ w. refl };
  acts_live = λ j l hs mem g p s b. ap (λ q. cond q (loads (view_of (hs j) mem) d (ty_at x.site.code.routine.regs d) (cell_at x a (hs j))) (view_of (hs j) mem)) b
      ∙ (ap (λ q. loads (view_of (hs j) mem) d q (cell_at x a (hs j))) (type_is (slice_get x.site.code.routine.regs d) t ed)
      ∙ (load_view (view_of (hs j) mem) d t (cell_at x a (hs j))
      ∙ ap (written (view_of (hs j) mem) d) (same j l hs mem g b (cell_at x a (hs j)) (p b))));
  idle = λ j v b. ap (λ q. cond q (loads v d (ty_at x.site.code.routine.regs d) (cell_of x.site.arrays (v.lane.reg a))) v) b;
  typed = λ j h s p b w e. load_typed x d t h.world.memory (cell_at x a h) ed w e;
}
  where
    same : (j : ℕ) → j < lanes_of x → (hs : Shares) (mem : Memory) → Agree x hs mem → is_live m (hs j).lane ≡ true → (o : Option Cell) →
        ((c : Cell) → o ≡ Some c → IsVisible x j c.array c.index) → load_result mem.cells t o ≡ load_result (hs j).world.memory t o
    same j l hs mem g b None v = refl
    same j l hs mem g b (Some c) v = ap (λ w. Ok (word_of (wrap_number t (number_of c.ty w)))) (g.cells j l (subst x.Cares (sym (live_going m (hs j).lane b)) ip.cares) c.array c.index (v c refl))

-- ---- stores

-- a lane writes a cell of its own
put_cell : (x : Place) (hs : Shares) (m : Memory) (j c n w : ℕ) → j < lanes_of x → x.Own j c n → Agree x hs m →
    Agree x (put_share hs j (record { lane = (hs j).lane; world = in_memory (hs j).world (with_cell (hs j).world.memory c n w) })) (machine_cell m c n w)
put_cell x hs m j c n w lj own g = record {
  cells = λ k l. cells_at k l (k == j) refl;
  others = λ a i none. others_at a i none (a == c) (i == n) refl refl;
  told = λ k l. told_at k l (k == j) refl;
  counted = λ k l. counted_at k l (k == j) refl;
}
  where
    new : Share
    new = record { lane = (hs j).lane; world = in_memory (hs j).world (with_cell (hs j).world.memory c n w) }

    cells_at : (k : ℕ) → k < lanes_of x → (b : Bool) → (k == j) ≡ b → x.Cares (cond b new (hs k)).lane.stop → (a i : ℕ) → ((q : ℕ) → q < lanes_of x → q ≢ k → x.Own q a i → ⊥) →
        cond ((a == c) && (i == n)) w (m.cells a i) ≡ (cond b new (hs k)).world.memory a i
    cells_at k l true e cares a i v = let ek : k ≡ j = same_number k j e in
        ap (cond ((a == c) && (i == n)) w) (g.cells k l (subst (λ q. x.Cares (hs q).lane.stop) (sym ek) cares) a i v ∙ ap (λ q. (hs q).world.memory a i) ek)
    cells_at k l false e cares a i v = at (a == c) (i == n) refl refl
      where
        at : (p q : Bool) → (a == c) ≡ p → (i == n) ≡ q → cond (p && q) w (m.cells a i) ≡ (hs k).world.memory a i
        at true true ep eq = absurd (v j lj (λ z. other_number k j e (sym z)) (subst (λ y. x.Own j y i) (sym (same_number a c ep)) (subst (x.Own j c) (sym (same_number i n eq)) own)))
        at true false ep eq = g.cells k l cares a i v
        at false q ep eq = g.cells k l cares a i v

    others_at : (a i : ℕ) → ((k : ℕ) → k < lanes_of x → x.Own k a i → ⊥) → (p q : Bool) → (a == c) ≡ p → (i == n) ≡ q → cond (p && q) w (m.cells a i) ≡ x.start a i
    others_at a i none true true ep eq = absurd (none j lj (subst (λ y. x.Own j y i) (sym (same_number a c ep)) (subst (x.Own j c) (sym (same_number i n eq)) own)))
    others_at a i none true false ep eq = g.others a i none
    others_at a i none false q ep eq = g.others a i none

    told_at : (k : ℕ) → k < lanes_of x → (b : Bool) → (k == j) ≡ b → x.Told m.log (cond b new (hs k)).world.events
    told_at k l true e = subst (λ q. x.Told m.log (hs q).world.events) (same_number k j e) (g.told k l)
    told_at k l false e = g.told k l

    counted_at : (k : ℕ) → k < lanes_of x → (b : Bool) → (k == j) ≡ b → x.Cares (cond b new (hs k)).lane.stop → x.Counted m.log (cond b new (hs k)).world.events
    counted_at k l true e c = let ek : k ≡ j = same_number k j e in subst (λ q. x.Counted m.log (hs q).world.events) ek (g.counted k l (subst (λ q. x.Cares (hs q).lane.stop) (sym ek) c))
    counted_at k l false e c = g.counted k l c

pub does_store : (x : Place) (a b : ℕ) (u : Ty) (i : Instr) → IsPlace x → reg_type x b ≡ Int u → operation_of i ≡ Some (Store a b) →
    Does x (MayStore x i.m a) (i ∷ []) (Stores i.m (λ h. number_of u (h.lane.reg b)) (cell_at x a))
does_store x a b u i ip eb e = does_one x _ _ i _ _ e (record { plain = refl; is = λ w. refl }) (record { by = by })
  where
    F : Change
    F = Stores i.m (λ h. number_of u (h.lane.reg b)) (cell_at x a)

    stop_agree : (hs : Shares) (m : Memory) (j : ℕ) → Agree x hs m → is_live i.m (hs j).lane ≡ true → Agree x (put_share hs j (record { lane = with_stop (hs j).lane Bounds; world = (hs j).world })) m
    stop_agree hs m j g l = put_agree x hs m j _ refl (λ c. subst x.Cares (sym (live_going i.m (hs j).lane l)) ip.cares) g

    by : (j : ℕ) → j < lanes_of x → (hs : Shares) (m : Memory) → Agree x hs m → IsSound x j (hs j) → MayStore x i.m a j (hs j) → StepsIn x j F (acts x.site.arrays x.site.code.routine.regs i.m j (Store a b)) hs m
    by j l hs m g s p = go (is_live i.m (hs j).lane) (cell_at x a (hs j)) refl refl
      where
        n : ℤ
        n = number_of u ((hs j).lane.reg b)

        go : (q : Bool) (o : Option Cell) → is_live i.m (hs j).lane ≡ q → cell_at x a (hs j) ≡ o → StepsIn x j F (acts x.site.arrays x.site.code.routine.regs i.m j (Store a b)) hs m
        go false o el eo = record {
          share = hs j;
          mem = m;
          is = ap (λ q. cond q (stores (view_of (hs j) m) (number_at x.site.code.routine.regs (hs j).lane b) (cell_at x a (hs j))) (view_of (hs j) m)) el;
          agree = put_agree x hs m j (hs j) refl (λ c. c) g;
          sound = s;
          does = ap (λ q. cond q (stored_share (hs j) (number_of u ((hs j).lane.reg b)) (cell_at x a (hs j))) (hs j)) (sym el);
        }
        go true None el eo = record {
          share = record { lane = with_stop (hs j).lane Bounds; world = (hs j).world };
          mem = m;
          is = ap (λ q. cond q (stores (view_of (hs j) m) (number_at x.site.code.routine.regs (hs j).lane b) (cell_at x a (hs j))) (view_of (hs j) m)) el
              ∙ ap (stores (view_of (hs j) m) (number_at x.site.code.routine.regs (hs j).lane b)) eo;
          agree = stop_agree hs m j g el;
          sound = record { typed = s.typed; kept = s.kept; idle = s.idle };
          does = sym (ap (λ q. cond q (stored_share (hs j) (number_of u ((hs j).lane.reg b)) (cell_at x a (hs j))) (hs j)) el ∙ ap (stored_share (hs j) (number_of u ((hs j).lane.reg b))) eo);
        }
        go true (Some c) el eo = record {
          share = stored_share (hs j) (number_of u ((hs j).lane.reg b)) (Some c);
          mem = machine_cell m c.array c.index (word_of (wrap_number c.ty (number_of u ((hs j).lane.reg b))));
          is = ap (λ q. cond q (stores (view_of (hs j) m) (number_at x.site.code.routine.regs (hs j).lane b) (cell_at x a (hs j))) (view_of (hs j) m)) el
              ∙ (ap₂ (stores (view_of (hs j) m)) (ap (λ q. number_of q ((hs j).lane.reg b)) (type_is (slice_get x.site.code.routine.regs b) u eb)) eo);
          agree = put_cell x hs m j c.array c.index _ l (p el c eo) g;
          sound = record { typed = s.typed; kept = s.kept; idle = s.idle };
          does = sym (ap (λ q. cond q (stored_share (hs j) (number_of u ((hs j).lane.reg b)) (cell_at x a (hs j))) (hs j)) el ∙ ap (stored_share (hs j) (number_of u ((hs j).lane.reg b))) eo);
        }

-- ---- printing

pub does_print : (x : Place) (a : ℕ) (i : Instr) → TellsPrints x → operation_of i ≡ Some (Print a) →
    Does x Always (i ∷ []) (λ j h h'. h' ≡ printed_share i.m h (number_of I64 (h.lane.reg a)))
does_print x a i t e = does_one x Always _ i _ _ e (record { plain = refl; is = λ w. refl }) (record { by = by })
  where
    F : Change
    F j h h' = h' ≡ printed_share i.m h (number_of I64 (h.lane.reg a))

    only : (j k : ℕ) → j < lanes_of x → k < lanes_of x → j ≡ k
    only j k lj lk = omega (arith, t.alone)

    by : (j : ℕ) → j < lanes_of x → (hs : Shares) (m : Memory) → Agree x hs m → IsSound x j (hs j) → Unit {0} → StepsIn x j F (acts x.site.arrays x.site.code.routine.regs i.m j (Print a)) hs m
    by j l hs m g s p = go (is_live i.m (hs j).lane) refl
      where
        z : ℤ
        z = number_of I64 ((hs j).lane.reg a)

        go : (q : Bool) → is_live i.m (hs j).lane ≡ q → StepsIn x j F (acts x.site.arrays x.site.code.routine.regs i.m j (Print a)) hs m
        go false el = record {
          share = hs j;
          mem = m;
          is = ap (λ q. cond q (record { lane = (hs j).lane; mem = logged (Prints z) m }) (view_of (hs j) m)) el;
          agree = put_agree x hs m j (hs j) refl (λ c. c) g;
          sound = s;
          does = ap (λ q. record { lane = (hs j).lane; world = cond q (with_event (hs j).world (printed z)) (hs j).world }) (sym el);
        }
        go true el = record {
          share = record { lane = (hs j).lane; world = with_event (hs j).world (printed z) };
          mem = logged (Prints z) m;
          is = ap (λ q. cond q (record { lane = (hs j).lane; mem = logged (Prints z) m }) (view_of (hs j) m)) el;
          agree = record {
            cells = λ k lk. subst (λ q. x.Cares (put_share hs j new q).lane.stop → (c n : ℕ) → IsVisible x q c n → m.cells c n ≡ (put_share hs j new q).world.memory c n) (only j k l lk)
                (subst (λ q. x.Cares q.lane.stop → (c n : ℕ) → IsVisible x j c n → m.cells c n ≡ q.world.memory c n) (sym (put_same hs j new)) (g.cells j l));
            others = g.others;
            counted = λ k lk. subst (λ q. x.Cares (put_share hs j new q).lane.stop → x.Counted (m.log ++ Prints z ∷ []) (put_share hs j new q).world.events) (only j k l lk)
                (subst (λ q. x.Cares q.lane.stop → x.Counted (m.log ++ Prints z ∷ []) q.world.events) (sym (put_same hs j new)) (λ c. t.counted m.log (hs j).world.events z (g.counted j l c)));
            told = λ k lk. subst (λ q. x.Told (m.log ++ Prints z ∷ []) (put_share hs j new q).world.events) (only j k l lk)
                (subst (λ q. x.Told (m.log ++ Prints z ∷ []) q.world.events) (sym (put_same hs j new)) (t.told m.log (hs j).world.events z (g.told j l)));
          };
          sound = record { typed = s.typed; kept = s.kept; idle = s.idle };
          does = ap (λ q. record { lane = (hs j).lane; world = cond q (with_event (hs j).world (printed z)) (hs j).world }) (sym el);
        }
          where
            new : Share
            new = record { lane = (hs j).lane; world = with_event (hs j).world (printed z) }
