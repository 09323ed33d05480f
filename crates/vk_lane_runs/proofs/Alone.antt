-- A code that does in its one lane what the function does runs as the function.
use Rattle.std.proofs.Common.{arith, sym, ◌≡◌, ◌≢◌, ℕ, zero, ◌+◌, ◌<◌, ◌==◌, nat_lt, Bool, true, false, cond, ◌&&◌, List, [], ◌∷◌, ◌++◌, length, refl, subst, ap, ap₂, ◌∙◌, ℤ, append-nil, append_assoc}
use Rattle.std.specs.Prelude.{slice_get}
use Rattle.vk_types.specs.declared.types.Ty.{Ty}
use Rattle.vk_kinds.specs.declared.heads.CType.{CType}
use Rattle.vk_kinds.specs.declared.heads.CType.TheVariants.{Void, Int, Ptr}
use Rattle.vk_numbers.proofs.Numbers.{word_of-number}
use Rattle.vk_meaning.specs.World.{Memory as Cells, World, Event, printed, simd_loop}
use Rattle.vk_meaning.specs.Data.{Datum, Value, got, halts}
use Rattle.vk_meaning.specs.Types.{is_pointer_type, type_at}
use Rattle.vk_meaning.specs.Expressions.{Context}
use Rattle.vk_meaning.specs.Meaning.{printed_numbers}
use Rattle.vk_meaning.specs.Lanes.{Words, arguments_of, datum_of, IsWord, IsPointed, AreTyped}
use Rattle.vk_object.specs.Memory.{Memory, Event as Logged, Prints, Calls, logged, printed as prints_of, calls_of}
use Rattle.vk_object.specs.Machine.{Site, World as Machine, enters, run, word_in}
use Rattle.vk_lane.specs.Runs.{events_of, Bodies, HaveRisen, body_calls, one_lane, IsResultWord, EndsAlike, IsSameRun}
use Rattle.vk_lane.specs.Places.{Share, Shares, machine_of, Place, IsPlace, lanes_of, IsFine, Agree, reg_type, type_in}
use Rattle.vk_lane.specs.Pieces.{EachSound, Does}
use Rattle.vk_lane.specs.Cells.{TellsPrints}
use Rattle.vk_lane.specs.Entries.{place_of, first_share, EndsAs, IsWhole}
use Rattle.vk_lane_runs.specs.Sites.{IsCodeSite, alone_call}
use Rattle.vk_lane_runs.proofs.Arguments.{argument_is}
use Rattle.vk_lane.proofs.Rules.{run_zero, same_number}
use Rattle.vk_lane_runs.proofs.Closing.{quiet_call, usable_fixed, lt_of, lt_yes, both_of, zero_word}

pub alone_is_place : (c : Context) (s : Site) (b : Bodies) (ts : List CType) (words : Words) (m : Memory) → IsCodeSite c s ts → s.entry.lanes ≡ 1 → AreTyped ts c.arrays 1 words one_lane → IsPlace (place_of (alone_call c s b ts words m))
alone_is_place c s b ts words m is one ty = record {
  extents = is.extents;
  turns = is.turns;
  apart = λ i j a k ne o o'. ne (o ∙ sym o');
  cares = refl;
  stays = λ r u. usable_fixed (nat_lt r (length ts)) (is_pointer_type (type_at ts r)) u;
  fine = λ j r act fx. fine_at j r (same_number j 0 act) (type_in (slice_get s.code.routine.regs r)) (datum_of (type_in (slice_get s.code.routine.regs r)) (words r j));
  pointed = λ j r act fx. let p = both_of (nat_lt r (length ts)) (is_pointer_type (type_at ts r)) fx in let j0 : j ≡ 0 = same_number j 0 act in
      subst (λ t. IsPointed c.arrays t (datum_of t (words r j))) (sym (is.types r (lt_of r (length ts) p.0))) (subst (IsPointed c.arrays (type_at ts r)) (argument_is ts words r j (lt_of r (length ts) p.0)) (ty.pointed r j (lt_of r (length ts) p.0) (omega (arith, j0)) act));
}
  where
    x : Place
    x = place_of (alone_call c s b ts words m)

    fine_at : (j r : ℕ) → j ≡ 0 → (t : CType) (d : Datum) → IsFine x j t d
    fine_at j r j0 Void d = tt
    fine_at j r j0 (Int u) d = tt
    fine_at j r j0 (Ptr to true) d = λ i n. j0
    fine_at j r j0 (Ptr to false) d = λ i k lk ne o. ne (o ∙ sym j0)

prints-append : (l k : List Logged) → prints_of (l ++ k) ≡ prints_of l ++ prints_of k
prints-append [] k = refl
prints-append (Prints n ∷ l) k = ap (λ r. n ∷ r) (prints-append l k)
prints-append (Calls e ∷ l) k = prints-append l k

pub numbers-append : (es fs : List Event) → printed_numbers (es ++ fs) ≡ printed_numbers es ++ printed_numbers fs
numbers-append [] fs = refl
numbers-append (printed z ∷ es) fs = ap (λ r. z ∷ r) (numbers-append es fs)
numbers-append (simd_loop f k n a ∷ es) fs = numbers-append es fs

calls-append : (n : ℕ) (l k : List Logged) → calls_of n (l ++ k) ≡ calls_of n l + calls_of n k
calls-append n [] k = omega arith
calls-append n (Prints z ∷ l) k = calls-append n l k
calls-append n (Calls e ∷ l) k = ap (λ q. cond (e == n) 1 0 + q) (calls-append n l k) ∙ omega arith

pub risen-append : (b : Bodies) (n : ℕ) (es fs : List Event) → body_calls b n (es ++ fs) ≡ body_calls b n es + body_calls b n fs
risen-append b n [] fs = omega arith
risen-append b n (e ∷ es) fs = ap (λ q. b.calls n e + q) (risen-append b n es fs) ∙ omega arith

-- printing
pub alone_prints : (c : Context) (s : Site) (b : Bodies) (ts : List CType) (words : Words) (m : Memory) → s.entry.lanes ≡ 1 → ((n : ℕ) (z : ℤ) → b.calls n (printed z) ≡ 0) → TellsPrints (place_of (alone_call c s b ts words m))
alone_prints c s b ts words m one none = record {
  alone = one;
  told = λ log es z e. prints-append log (Prints z ∷ []) ∙ (ap (λ l. l ++ z ∷ []) e ∙ (append_assoc (prints_of m.log) (printed_numbers es) (z ∷ []) ∙ ap (λ l. prints_of m.log ++ l) (sym (numbers-append es (printed z ∷ [])))));
  counted = λ log es z e n body. calls-append n log (Prints z ∷ []) ∙ (omega arith ∙ (e n body ∙ (ap (λ q. calls_of n m.log + q) (plus (body_calls b n es) (b.calls n (printed z)) (none n z) ∙ sym (risen-append b n es (printed z ∷ []))))));
}
  where
    plus : (a k : ℕ) → k ≡ 0 → a ≡ a + (k + 0)
    plus a k e = omega (arith, e)

-- the step from a code to a call of a function without directives
pub alone_run : (c : Context) (s : Site) (b : Bodies) (e : ℕ) (ts : List CType) (rt : CType) (scalar : List Datum → Cells → Value) (m : Memory) (words : Words) → IsCodeSite c s ts → s.entry.lanes ≡ 1 → b.is_body e ≡ false → ((to : Ty) (w : Bool) → rt ≢ Ptr to w) →
    AreTyped ts c.arrays 1 words one_lane →
    Does (place_of (alone_call c s b ts words m)) (λ j h. h ≡ first_share s one_lane words m.cells j) s.code.routine.instrs
    (λ j h h'. IsWhole rt s.code.routine.result one_lane (λ k. scalar (arguments_of ts words k) m.cells) j h') →
    IsSameRun b m (scalar (arguments_of ts words 0) m.cells) (enters e s one_lane words m)
alone_run c s b e ts rt scalar m words is one nobody nopointer ty d =
    record { prints = prints v end refl; ends = ends v end }
  where
    x : Place
    x = place_of (alone_call c s b ts words m)

    v : Value
    v = scalar (arguments_of ts words 0) m.cells

    hs : Shares
    hs = first_share s one_lane words m.cells

    lm : Memory
    lm = logged (Calls e) m

    agree : Agree x hs lm
    agree = record {
      cells = λ j l ca a i w. refl;
      others = λ a i none. refl;
      told = λ j l. (quiet_call b e m nobody).prints ∙ sym (append-nil (prints_of m.log));
      counted = λ j l ca. (quiet_call b e m nobody).counts;
    }

    sound : EachSound x hs
    sound j l = record { typed = λ r. typed_at r (nat_lt r s.code.routine.params) refl; kept = λ r fx. kept_at r (both_of (nat_lt r (length ts)) (is_pointer_type (type_at ts r)) fx).0; idle = λ a q. idle_at a q }
      where
        j1 : j < 1
        j1 = subst (λ n. j < n) one l

        typed_at : (r : ℕ) (p : Bool) → nat_lt r s.code.routine.params ≡ p → IsWord (reg_type x r) (cond (nat_lt j s.entry.lanes && p) (words r j) 0)
        typed_at r true p = let lr : r < length ts = subst (λ n. r < n) is.params (lt_of r s.code.routine.params p) in
            subst (λ q. IsWord (reg_type x r) (cond (q && true) (words r j) 0)) (sym (lt_yes j s.entry.lanes l)) (subst (λ t. IsWord t (words r j)) (sym (is.types r lr)) (ty.canonical r j lr j1))
        typed_at r false p = subst (λ q. IsWord (reg_type x r) (cond q (words r j) 0)) (sym (no_and (nat_lt j s.entry.lanes))) (zero_word (reg_type x r))
          where
            no_and : (q : Bool) → (q && false) ≡ false
            no_and true = refl
            no_and false = refl

        kept_at : (r : ℕ) → nat_lt r (length ts) ≡ true → cond (nat_lt j s.entry.lanes && nat_lt r s.code.routine.params) (words r j) 0 ≡ words r j
        kept_at r p = ap₂ (λ q n. cond (q && nat_lt r n) (words r j) 0) (lt_yes j s.entry.lanes l) is.params ∙ ap (λ q. cond q (words r j) 0) p

        idle_at : (j == 0) ≡ false → (q : ℕ) → (nat_lt j s.entry.lanes && (q == 0) && (j == 0)) ≡ false
        idle_at a q = at (nat_lt j s.entry.lanes) (q == 0) (j == 0) a
          where
            at : (u v w : Bool) → w ≡ false → (u && v && w) ≡ false
            at true true w g = g
            at true false w g = refl
            at false v w g = refl

    z : (hs' : Shares) × (m' : Memory) × (run x.site (s.code.routine.instrs ++ []) zero (length s.code.routine.instrs) (machine_of hs lm) ≡ run x.site [] zero 0 (machine_of hs' m')) × Agree x hs' m' × EachSound x hs' ×
        ((j : ℕ) → j < lanes_of x → IsWhole rt s.code.routine.result one_lane (λ k. scalar (arguments_of ts words k) m.cells) j (hs' j))
    z = d.by [] 0 (length s.code.routine.instrs) (omega arith) hs lm agree sound (λ j l. refl)

    ran : run s s.code.routine.instrs zero (length s.code.routine.instrs) (machine_of hs lm) ≡ machine_of z.0 z.1
    ran = ap (λ c'. run s c' zero (length s.code.routine.instrs) (machine_of hs lm)) (sym (append-nil s.code.routine.instrs)) ∙ (z.2 ∙ run_zero s [] (machine_of z.0 z.1))

    l0 : 0 < s.entry.lanes
    l0 = omega (arith, one)

    end : EndsAs rt s.code.routine.result (z.0 0) v
    end = (z.5 0 l0).ends refl

    events : (u : Value) (h' : Share) → EndsAs rt s.code.routine.result h' u → h'.world.events ≡ events_of u
    events (got dt w) h' q = ap (λ (y : World). y.events) q.3
    events (halts y w) h' q = ap (λ (y : World). y.events) q.world

    prints : (u : Value) → EndsAs rt s.code.routine.result (z.0 0) u → v ≡ u → prints_of (enters e s one_lane words m).mem.log ≡ prints_of m.log ++ printed_numbers (events_of v)
    prints u q ev = ap (λ (g : Machine). prints_of g.mem.log) ran ∙ (z.3.told 0 l0 ∙ ap (λ es. prints_of m.log ++ printed_numbers es) (events v (z.0 0) end))

    word : (t : CType) (dt : Datum) (w : ℕ) → ((to : Ty) (q : Bool) → t ≢ Ptr to q) → dt ≡ datum_of t w → IsWord t w → IsResultWord dt w
    word Void dt w np ed iw = subst (λ q. IsResultWord q w) (sym ed) tt
    word (Int t) dt w np ed iw = subst (λ q. IsResultWord q w) (sym ed) (sym (word_of-number t w iw))
    word (Ptr to q) dt w np ed iw = absurd (np to q refl)

    ends : (u : Value) → EndsAs rt s.code.routine.result (z.0 0) u → EndsAlike b m u (enters e s one_lane words m)
    ends (got dt w) q = record {
      going = ap (λ (g : Machine). (g.lane 0).stop) ran ∙ q.0;
      value = subst (λ (g : Machine). IsResultWord dt (word_in s.code.routine.result (g.lane 0))) (sym ran) (word rt dt (word_in s.code.routine.result (z.0 0).lane) nopointer q.1 q.2);
      cells = λ a i. ap (λ (g : Machine). g.mem.cells a i) ran ∙ (z.3.cells 0 l0 q.0 a i (λ k lk ne o. ne o) ∙ ap (λ (y : World). y.memory a i) q.3);
      counts = subst (λ (g : Machine). HaveRisen b m.log g.mem.log w.events) (sym ran) (subst (HaveRisen b m.log (z.1).log) (ap (λ (y : World). y.events) q.3) (z.3.counted 0 l0 q.0));
    }
    ends (halts y w) q = ap (λ (g : Machine). (g.lane 0).stop) ran ∙ q.stop
