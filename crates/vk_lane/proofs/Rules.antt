-- Rules for pieces of code.
use Rattle.std.proofs.Common.{arith, sym, ◌≡◌, ◌≢◌, ℕ, zero, suc, ◌+◌, ◌-◌, ◌<◌, ◌≤◌, ◌==◌, Bool, true, false, cond, ◌||◌, ◌&&◌, List, [], ◌∷◌, ◌++◌, length, drop, Option, Some, None, refl, subst, ap, ◌∙◌, inl, inr, append_assoc, length-append, true≢false}
use Rattle.std.proofs.Math.Seq.{drop-append_seam}
use Rattle.std.specs.Prelude.{is_none}
use Rattle.vk_types.specs.declared.types.Stop.{Stop}
use Rattle.vk_types.specs.declared.types.Stop.TheVariants.{Turns}
use Rattle.vk_code.specs.declared.instruction.Instr.{Instr}
use Rattle.vk_code.specs.declared.instruction.Operation.{Operation}
use Rattle.vk_code.specs.declared.instruction.Operation.TheVariants.{Loop}
use Rattle.vk_code.specs.Instruction.{block_in, operation_of}
use Rattle.vk_object.specs.Memory.{Memory}
use Rattle.vk_object.specs.Lane.{LaneState, View, is_live, out_of_turns, with_stop}
use Rattle.vk_object.specs.Machine.{Site, World as Machine, put, in_lane, sweep, again, all_out_of_turns, any_live, performs, performs_some, run}
use Rattle.vk_lane.specs.Places.{Share, Shares, machine_of, put_share, Place, lanes_of, IsSound, Agree}
use Rattle.vk_lane.specs.Pieces.{Before, Change, Always, EachSound, Does, StepsIn, Steps, out_share, Repeats}

-- ---- running

pub run_zero : (s : Site) (is : List Instr) (w : Machine) → run s is zero zero w ≡ w
run_zero s [] w = refl
run_zero s (i ∷ is) w = refl

run_skip : (s : Site) (is : List Instr) (k n : ℕ) (w : Machine) → run s is k n w ≡ run s (drop k is) zero n w
run_skip s [] zero n w = refl
run_skip s [] (suc k) n w = refl
run_skip s (i ∷ is) zero n w = refl
run_skip s (i ∷ is) (suc k) n w = run_skip s is k n w

-- an instruction that is no Loop
pub run_plain : (s : Site) (i : Instr) (is : List Instr) (o : Operation) (k n : ℕ) (w : Machine) → k ≡ suc n → operation_of i ≡ Some o → block_in (Some o) ≡ None →
    run s (i ∷ is) zero k w ≡ run s is zero n (performs s i.m o w)
run_plain s i is o k n w ek e b =
    ap (λ q. run s (i ∷ is) zero q w) ek
    ∙ (ap (λ p. elim (block_in p) as (λ _. Machine) [ None ↦ run s is zero n (performs_some s i.m p w) | Some x ↦ run s is x (n - x) (again s.entry.lanes i.m (λ v. run s is zero x v) s.turns w) ]) e
    ∙ ap (λ q. elim q as (λ _. Machine) [ None ↦ run s is zero n (performs s i.m o w) | Some x ↦ run s is x (n - x) (again s.entry.lanes i.m (λ v. run s is zero x v) s.turns w) ]) b)

-- a Loop
pub run_loop : (s : Site) (i : Instr) (is : List Instr) (x k n : ℕ) (w : Machine) → k ≡ suc n → operation_of i ≡ Some (Loop x) →
    run s (i ∷ is) zero k w ≡ run s (drop x is) zero (n - x) (again s.entry.lanes i.m (λ v. run s is zero x v) s.turns w)
run_loop s i is x k n w ek e =
    ap (λ q. run s (i ∷ is) zero q w) ek
    ∙ (ap (λ p. elim (block_in p) as (λ _. Machine) [ None ↦ run s is zero n (performs_some s i.m p w) | Some x ↦ run s is x (n - x) (again s.entry.lanes i.m (λ v. run s is zero x v) s.turns w) ]) e
    ∙ run_skip s is x (n - x) _)

-- ---- lanes

put_lane : (hs : Shares) (n : ℕ) (h : Share) (j : ℕ) → put (λ i. (hs i).lane) n h.lane j ≡ (put_share hs n h j).lane
put_lane hs n h j = go (j == n)
  where
    go : (b : Bool) → cond b h.lane (hs j).lane ≡ (cond b h (hs j)).lane
    go true = refl
    go false = refl

pub same_number : (i j : ℕ) → (i == j) ≡ true → i ≡ j
same_number i j e = grind (arith, e)

pub other_number : (i j : ℕ) → (i == j) ≡ false → i ≢ j
other_number i j e = grind (arith, e)

pub same_yes : (j : ℕ) → (j == j) ≡ true
same_yes j = grind arith

pub same_not : (i j : ℕ) → i ≢ j → (i == j) ≡ false
same_not i j ne = grind arith

pub put_same : (hs : Shares) (j : ℕ) (h : Share) → put_share hs j h j ≡ h
put_same hs j h = ap (λ b. cond b h (hs j)) (same_yes j)

pub put_other : (hs : Shares) (j : ℕ) (h : Share) (i : ℕ) → i ≢ j → put_share hs j h i ≡ hs i
put_other hs j h i ne = ap (λ b. cond b h (hs i)) (same_not i j ne)

-- ---- sweeps

-- the first n lanes have made the step
record Swept (x : Place) (F : Change) (step : ℕ → View → View) (n : ℕ) (hs : Shares) (m : Memory) : Type 0 where
  pub shares : Shares
  pub mem : Memory
  pub is : sweep n step (machine_of hs m) ≡ machine_of shares mem
  pub agree : Agree x shares mem
  pub sound : EachSound x shares
  pub made : (j : ℕ) → j < n → F j (hs j) (shares j)
  pub left : (j : ℕ) → n ≤ j → shares j ≡ hs j

swept_more : (x : Place) (P : Before) (F : Change) (step : ℕ → View → View) (n : ℕ) (hs : Shares) (m : Memory) → Steps x P F step → n < lanes_of x → P n (hs n) →
    Swept x F step n hs m → Swept x F step (suc n) hs m
swept_more x P F step n hs m steps lt p s = record {
  shares = put_share s.shares n st.share;
  mem = st.mem;
  is = ap (in_lane step n) s.is ∙ (ap (λ v. record { lane = put (λ j. (s.shares j).lane) n v.lane; mem = v.mem }) st.is ∙ (λ i. record { lane = λ j. put_lane s.shares n st.share j i; mem = st.mem }));
  agree = st.agree;
  sound = λ j l. sound_at j l (j == n) refl;
  made = λ j l. made_at j l (j == n) refl;
  left = λ j l. put_other s.shares n st.share j (omega (arith, l)) ∙ s.left j (omega (arith, l));
}
  where
    same : s.shares n ≡ hs n
    same = s.left n (omega arith)

    st : StepsIn x n F (step n) s.shares s.mem
    st = steps.by n lt s.shares s.mem s.agree (s.sound n lt) (subst (P n) (sym same) p)

    sound_at : (j : ℕ) → j < lanes_of x → (b : Bool) → (j == n) ≡ b → IsSound x j (put_share s.shares n st.share j)
    sound_at j l true e = subst (λ k. IsSound x k (put_share s.shares n st.share k)) (sym (grind (arith, e))) (subst (IsSound x n) (sym (put_same s.shares n st.share)) st.sound)
    sound_at j l false e = subst (IsSound x j) (sym (put_other s.shares n st.share j (grind (arith, e)))) (s.sound j l)

    made_at : (j : ℕ) → j < suc n → (b : Bool) → (j == n) ≡ b → F j (hs j) (put_share s.shares n st.share j)
    made_at j l true e = subst (λ k. F k (hs k) (put_share s.shares n st.share k)) (sym (grind (arith, e)))
        (subst (λ h. F n (hs n) h) (sym (put_same s.shares n st.share)) (subst (λ h. F n h st.share) same st.does))
    made_at j l false e = subst (F j (hs j)) (sym (put_other s.shares n st.share j (grind (arith, e)))) (s.made j (grind (arith, l, e)))

swept : (x : Place) (P : Before) (F : Change) (step : ℕ → View → View) → Steps x P F step → (n : ℕ) → n ≤ lanes_of x → (hs : Shares) (m : Memory) → Agree x hs m → EachSound x hs →
    ((j : ℕ) → j < lanes_of x → P j (hs j)) → Swept x F step n hs m
swept x P F step steps zero le hs m a s p = record { shares = hs; mem = m; is = refl; agree = a; sound = s; made = λ j l. absurd (omega (arith, l)); left = λ j l. refl }
swept x P F step steps (suc n) le hs m a s p = swept_more x P F step n hs m steps (omega (arith, le)) (p n (omega (arith, le))) (swept x P F step steps n (omega (arith, le)) hs m a s p)

-- ---- pieces

-- an operation that goes lane by lane
pub record IsSwept (x : Place) (m : ℕ) (o : Operation) (step : ℕ → View → View) : Type 0 where
  pub plain : block_in (Some o) ≡ None
  pub is : (w : Machine) → performs x.site m o w ≡ sweep x.site.entry.lanes step w

pub does_one : (x : Place) (P : Before) (F : Change) (i : Instr) (o : Operation) (step : ℕ → View → View) → operation_of i ≡ Some o → IsSwept x i.m o step → Steps x P F step → Does x P (i ∷ []) F
does_one x P F i o step e sw steps = record { by = by }
  where
    by : (rest : List Instr) (n k : ℕ) → k ≡ length (i ∷ []) + n → (hs : Shares) (m : Memory) → Agree x hs m → EachSound x hs → ((j : ℕ) → j < lanes_of x → P j (hs j)) →
        (hs' : Shares) × (m' : Memory) × (run x.site ((i ∷ []) ++ rest) zero k (machine_of hs m) ≡ run x.site rest zero n (machine_of hs' m')) ×
        Agree x hs' m' × EachSound x hs' × ((j : ℕ) → j < lanes_of x → F j (hs j) (hs' j))
    by rest n k ek hs m a s p =
        let z : Swept x F step x.site.entry.lanes hs m = swept x P F step steps x.site.entry.lanes (omega arith) hs m a s p in
        (z.shares, z.mem, run_plain x.site i rest o k n (machine_of hs m) (omega (arith, ek)) e sw.plain ∙ ap (run x.site rest zero n) (sw.is (machine_of hs m) ∙ z.is), z.agree, z.sound, z.made)

pub does_nil : (x : Place) (P : Before) → Does x P [] (λ j h h'. h' ≡ h)
does_nil x P = record { by = λ rest n k ek hs m a s p. (hs, m, ap (λ q. run x.site rest zero q (machine_of hs m)) (omega (arith, ek)), a, s, λ j l. refl) }

pub does_weaken : (x : Place) (P Q : Before) (F G : Change) (code : List Instr) → Does x P code F → ((j : ℕ) (h : Share) → IsSound x j h → Q j h → P j h) →
    ((j : ℕ) (h h' : Share) → IsSound x j h → IsSound x j h' → Q j h → F j h h' → G j h h') → Does x Q code G
does_weaken x P Q F G code d f g = record { by = by }
  where
    by : (rest : List Instr) (n k : ℕ) → k ≡ length code + n → (hs : Shares) (m : Memory) → Agree x hs m → EachSound x hs → ((j : ℕ) → j < lanes_of x → Q j (hs j)) →
        (hs' : Shares) × (m' : Memory) × (run x.site (code ++ rest) zero k (machine_of hs m) ≡ run x.site rest zero n (machine_of hs' m')) ×
        Agree x hs' m' × EachSound x hs' × ((j : ℕ) → j < lanes_of x → G j (hs j) (hs' j))
    by rest n k ek hs m a s q =
        let z = d.by rest n k ek hs m a s (λ j l. f j (hs j) (s j l) (q j l)) in
        (z.0, z.1, z.2, z.3, z.4, λ j l. g j (hs j) (z.0 j) (s j l) (z.4 j l) (q j l) (z.5 j l))

pub does_append : (x : Place) (P Q : Before) (F G : Change) (one two : List Instr) → Does x P one F → Does x Q two G →
    ((j : ℕ) (h h' : Share) → IsSound x j h → IsSound x j h' → P j h → F j h h' → Q j h') →
    Does x P (one ++ two) (λ j h h'. (mid : Share) × F j h mid × G j mid h')
does_append x P Q F G one two d e f = record { by = by }
  where
    by : (rest : List Instr) (n k : ℕ) → k ≡ length (one ++ two) + n → (hs : Shares) (m : Memory) → Agree x hs m → EachSound x hs → ((j : ℕ) → j < lanes_of x → P j (hs j)) →
        (hs' : Shares) × (m' : Memory) × (run x.site ((one ++ two) ++ rest) zero k (machine_of hs m) ≡ run x.site rest zero n (machine_of hs' m')) ×
        Agree x hs' m' × EachSound x hs' × ((j : ℕ) → j < lanes_of x → (mid : Share) × F j (hs j) mid × G j mid (hs' j))
    by rest n k ek hs m a s p =
        let joined : k ≡ length one + (length two + n) = ek ∙ (ap (λ q. q + n) (length-append one two) ∙ omega arith) in
        let y = d.by (two ++ rest) (length two + n) k joined hs m a s p in
        let z = e.by rest n (length two + n) refl y.0 y.1 y.3 y.4 (λ j l. f j (hs j) (y.0 j) (s j l) (y.4 j l) (p j l) (y.5 j l)) in
        (z.0, z.1, ap (λ c. run x.site c zero k (machine_of hs m)) (append_assoc one two rest) ∙ (y.2 ∙ z.2), z.3, z.4, λ j l. (y.0 j, y.5 j l, z.5 j l))

-- ---- loops

neither : (a b : Bool) → (a || b) ≡ false → (a ≡ false) × (b ≡ false)
neither true b e = absurd (true≢false e)
neither false b e = (refl, e)

pub none_live : (n m : ℕ) (lane : ℕ → LaneState) → any_live n m lane ≡ false → (j : ℕ) → j < n → is_live m (lane j) ≡ false
none_live zero m lane h j l = absurd (omega (arith, l))
none_live (suc n) m lane h j l = go (j == n) refl (λ lt. none_live n m lane parts.0 j lt)
  where
    parts : (any_live n m lane ≡ false) × (is_live m (lane n) ≡ false)
    parts = neither (any_live n m lane) (is_live m (lane n)) h

    go : (b : Bool) → (j == n) ≡ b → (j < n → is_live m (lane j) ≡ false) → is_live m (lane j) ≡ false
    go true e rec = subst (λ k. is_live m (lane k) ≡ false) (sym (grind (arith, e))) parts.1
    go false e rec = rec (grind (arith, l, e))

out_idle : (m : ℕ) (h : Share) → is_live m h.lane ≡ false → h ≡ out_share m h
out_idle m h e = ap (λ b. record { lane = cond b (with_stop h.lane Turns) h.lane; world = h.world }) (sym e)

-- what a loop has done
abbrev Ended : (x : Place) (m : ℕ) (F : Change) (block : Machine → Machine) (n : ℕ) (hs : Shares) (mem : Memory) → Type 0
Ended x m F block n hs mem = (hs' : Shares) × (m' : Memory) × (again x.site.entry.lanes m block n (machine_of hs mem) ≡ machine_of hs' m') ×
    Agree x hs' m' × EachSound x hs' × ((j : ℕ) → j < lanes_of x → Repeats m F n j (hs j) (hs' j))

-- one turn
abbrev Turn : (x : Place) (F : Change) (block : Machine → Machine) → Type 0
Turn x F block = (hs : Shares) (mem : Memory) → Agree x hs mem → EachSound x hs →
    (hs' : Shares) × (m' : Memory) × (block (machine_of hs mem) ≡ machine_of hs' m') × Agree x hs' m' × EachSound x hs' × ((j : ℕ) → j < lanes_of x → F j (hs j) (hs' j))

out_agree : (x : Place) (m : ℕ) (hs : Shares) (mem : Memory) → x.Cares None → Agree x hs mem → Agree x (λ j. out_share m (hs j)) mem
out_agree x m hs mem cares a = record {
  cells = λ j l c. a.cells j l (eased (hs j).lane c);
  others = a.others;
  told = a.told;
  counted = λ j l c. a.counted j l (eased (hs j).lane c);
}
  where
    eased : (l : LaneState) → x.Cares (out_of_turns m l).stop → x.Cares l.stop
    eased l = go (l.on m) l.stop
      where
        go : (b : Bool) (st : Option Stop) → x.Cares (cond (b && is_none st) (with_stop l Turns) (record { reg = l.reg; on = l.on; stop = st })).stop → x.Cares st
        go true None c = cares
        go true (Some y) c = c
        go false st c = c

out_sound : (x : Place) (m j : ℕ) (h : Share) → IsSound x j h → IsSound x j (out_share m h)
out_sound x m j h s = go (is_live m h.lane)
  where
    go : (b : Bool) → IsSound x j (record { lane = cond b (with_stop h.lane Turns) h.lane; world = h.world })
    go true = record { typed = s.typed; kept = s.kept; idle = s.idle }
    go false = record { typed = s.typed; kept = s.kept; idle = s.idle }

again_ends : (x : Place) (m : ℕ) (F : Change) (block : Machine → Machine) → x.Cares None → Turn x F block → (n : ℕ) (hs : Shares) (mem : Memory) → Agree x hs mem → EachSound x hs → Ended x m F block n hs mem
again_ends x m F block cares turn zero hs mem a s = go (any_live x.site.entry.lanes m (λ j. (hs j).lane)) refl
  where
    go : (b : Bool) → any_live x.site.entry.lanes m (λ j. (hs j).lane) ≡ b → Ended x m F block zero hs mem
    go true e = ((λ j. out_share m (hs j)), mem, ap (λ b. cond b (all_out_of_turns m (machine_of hs mem)) (machine_of hs mem)) e, out_agree x m hs mem cares a, (λ j l. out_sound x m j (hs j) (s j l)), λ j l. refl)
    go false e = (hs, mem, ap (λ b. cond b (all_out_of_turns m (machine_of hs mem)) (machine_of hs mem)) e, a, s, λ j l. out_idle m (hs j) (none_live x.site.entry.lanes m (λ j. (hs j).lane) e j l))
again_ends x m F block cares turn (suc n) hs mem a s = go (any_live x.site.entry.lanes m (λ j. (hs j).lane)) refl (turn hs mem a s) (λ hs' m' a' s'. again_ends x m F block cares turn n hs' m' a' s')
  where
    go : (b : Bool) → any_live x.site.entry.lanes m (λ j. (hs j).lane) ≡ b →
        ((hs' : Shares) × (m' : Memory) × (block (machine_of hs mem) ≡ machine_of hs' m') × Agree x hs' m' × EachSound x hs' × ((j : ℕ) → j < lanes_of x → F j (hs j) (hs' j))) →
        ((hs' : Shares) (m' : Memory) → Agree x hs' m' → EachSound x hs' → Ended x m F block n hs' m') → Ended x m F block (suc n) hs mem
    go true e t rec =
        let z = rec t.0 t.1 t.3 t.4 in (
          z.0,
          z.1,
          ap (λ b. cond b (again x.site.entry.lanes m block n (block (machine_of hs mem))) (machine_of hs mem)) e ∙ (ap (again x.site.entry.lanes m block n) t.2 ∙ z.2),
          z.3,
          z.4,
          λ j l. inr (t.0 j, t.5 j l, z.5 j l),
        )
    go false e t rec = (
      hs,
      mem,
      ap (λ b. cond b (again x.site.entry.lanes m block n (block (machine_of hs mem))) (machine_of hs mem)) e,
      a,
      s,
      λ j l. inl (none_live x.site.entry.lanes m (λ j. (hs j).lane) e j l, refl),
    )

pub does_loop : (x : Place) (F : Change) (i : Instr) (b : List Instr) → x.Cares None → operation_of i ≡ Some (Loop (length b)) → Does x Always b F → Does x Always (i ∷ b) (Repeats i.m F x.site.turns)
does_loop x F i b cares e d = record { by = by }
  where
    turn : (rest : List Instr) → Turn x F (λ v. run x.site (b ++ rest) zero (length b) v)
    turn rest hs mem a s =
        let z = d.by rest 0 (length b) (omega arith) hs mem a s (λ j l. tt) in
        (z.0, z.1, z.2 ∙ run_zero x.site rest (machine_of z.0 z.1), z.3, z.4, z.5)

    by : (rest : List Instr) (n k : ℕ) → k ≡ length (i ∷ b) + n → (hs : Shares) (m : Memory) → Agree x hs m → EachSound x hs → ((j : ℕ) → j < lanes_of x → Always j (hs j)) →
        (hs' : Shares) × (m' : Memory) × (run x.site ((i ∷ b) ++ rest) zero k (machine_of hs m) ≡ run x.site rest zero n (machine_of hs' m')) ×
        Agree x hs' m' × EachSound x hs' × ((j : ℕ) → j < lanes_of x → Repeats i.m F x.site.turns j (hs j) (hs' j))
    by rest n k ek hs m a s p =
        let z = again_ends x i.m F (λ v. run x.site (b ++ rest) zero (length b) v) cares (turn rest) x.site.turns hs m a s in
        let ek' : k ≡ suc (length b + n) = ek ∙ omega arith in (
          z.0,
          z.1,
          run_loop x.site i (b ++ rest) (length b) k (length b + n) (machine_of hs m) ek' e
              ∙ (ap (λ c. run x.site c zero (length b + n - length b) (again x.site.entry.lanes i.m (λ v. run x.site (b ++ rest) zero (length b) v) x.site.turns (machine_of hs m))) (drop-append_seam b rest)
              ∙ (ap (λ q. run x.site rest zero q (again x.site.entry.lanes i.m (λ v. run x.site (b ++ rest) zero (length b) v) x.site.turns (machine_of hs m))) (omega arith)
              ∙ ap (run x.site rest zero n) z.2)),
          z.3,
          z.4,
          z.5,
        )

pub does_inside : (x : Place) (P : Before) (F : Change) (code : List Instr) → Does x P code F → Does x P code (λ j h h'. (j < lanes_of x) × F j h h')
does_inside x P F code d = record { by = λ rest n k ek hs m a s p. let z = d.by rest n k ek hs m a s p in (z.0, z.1, z.2, z.3, z.4, λ j l. (l, z.5 j l)) }

-- what held before may be used behind
pub does_given : (x : Place) (P : Before) (F : Change) (code : List Instr) → Does x Always code F → Does x P code (λ j h h'. (j < lanes_of x) × P j h × F j h h')
does_given x P F code d = record { by = λ rest n k ek hs m a s p. let z = d.by rest n k ek hs m a s (λ j l. tt) in (z.0, z.1, z.2, z.3, z.4, λ j l. (l, p j l, z.5 j l)) }

-- only lanes that are there have to meet what is asked before
pub does_there : (x : Place) (P : Before) (F : Change) (code : List Instr) → Does x (λ j h. (j < lanes_of x) × P j h) code F → Does x P code F
does_there x P F code d = record { by = λ rest n k ek hs m a s p. d.by rest n k ek hs m a s (λ j l. (l, p j l)) }
