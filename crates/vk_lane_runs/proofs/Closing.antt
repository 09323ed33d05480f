-- A code that does in each lane what the function does is lane-wise.
use Rattle.std.proofs.Common.{arith, rules, sym, ◌≡◌, ◌≢◌, ℕ, zero, ◌+◌, ◌<◌, ◌==◌, nat_lt, Bool, true, false, cond, ◌&&◌, List, [], ◌∷◌, ◌++◌, length, Option, None, refl, subst, ap, ap₂, ◌∙◌, true≢false, append-nil}
use Rattle.std.specs.Prelude.{is_none, ◌%◌, ◌^◌}
use Rattle.std.specs.Int.{cast_signed, w32}
use Rattle.vk_types.specs.declared.types.Stop.{Stop}
use Rattle.vk_types.specs.declared.types.Ty.{Ty}
use Rattle.vk_types.specs.declared.types.Ty.TheVariants.{I8, I16, I32, I64, U8, U16, U32, U64}
use Rattle.vk_kinds.specs.declared.heads.CType.{CType}
use Rattle.vk_kinds.specs.declared.heads.CType.TheVariants.{Void, Int, Ptr}
use Rattle.vk_numbers.proofs.Numbers.{word_of-number}
use Rattle.vk_meaning.specs.World.{Memory as Cells, World}
use Rattle.vk_meaning.specs.Data.{Datum, Value, got, halts, array_of, named_element}
use Rattle.vk_meaning.specs.Types.{is_pointer_type, is_written_type, type_at}
use Rattle.vk_meaning.specs.Expressions.{Context}
use Rattle.vk_meaning.specs.Meaning.{memory_of}
use Rattle.vk_meaning.specs.Lanes.{Words, arguments_of, argument, datum_of, IsWord, IsPointed, NamesCell, AreTyped, AreApart}
use Rattle.vk_meaning.specs.LaneWise.{IsResult}
use Rattle.vk_object.specs.Memory.{Memory, Event as Logged, Prints, Calls, logged, printed as prints_of, calls_of}
use Rattle.vk_object.specs.Machine.{Site, World as Machine, enters, run, word_in}
use Rattle.vk_lane.specs.Runs.{Bodies, IsQuiet, IsLaneRun, results_of}
use Rattle.vk_lane.specs.Places.{Share, Shares, machine_of, Place, IsPlace, lanes_of, IsFine, Agree, reg_type}
use Rattle.vk_lane.specs.Pieces.{EachSound, Does}
use Rattle.vk_lane.specs.Entries.{place_of, first_share, EndsAs, IsWhole}
use Rattle.vk_lane_runs.specs.Sites.{IsCodeSite, lanes_call}
use Rattle.vk_lane_runs.proofs.Arguments.{argument_is}
use Rattle.vk_lane.proofs.Rules.{run_zero}

pub lt_of : (a b : ℕ) → nat_lt a b ≡ true → a < b
lt_of a b e = grind (arith, e)

pub lt_yes : (a b : ℕ) → a < b → nat_lt a b ≡ true
lt_yes a b h = grind (arith, h)

pub both_of : (a b : Bool) → (a && b) ≡ true → (a ≡ true) × (b ≡ true)
both_of true b e = (refl, e)
both_of false b e = absurd (true≢false (sym e))

pub zero_word : (t : CType) → IsWord t 0
zero_word Void = omega arith
zero_word (Int I8) = search rules
zero_word (Int I16) = search rules
zero_word (Int I32) = search rules
zero_word (Int I64) = search rules
zero_word (Int U8) = search rules
zero_word (Int U16) = search rules
zero_word (Int U32) = search rules
zero_word (Int U64) = search rules
zero_word (Ptr to w) = omega arith

-- a register whose pointer may be used as it is
pub usable_fixed : (p q : Bool) → (p && q && true) ≡ true → (p && q) ≡ true
usable_fixed true true e = refl
usable_fixed true false e = e
usable_fixed false q e = e

pub lanes_are_place : (c : Context) (s : Site) (b : Bodies) (ts : List CType) (mask : ℕ → Bool) (words : Words) (m : Memory) → IsCodeSite c s ts → AreTyped ts c.arrays s.entry.lanes words mask → AreApart ts c.arrays s.entry.lanes words mask →
    IsPlace (place_of (lanes_call c s b ts mask words m))
lanes_are_place c s b ts mask words m is ty ap_ = record {
  extents = is.extents;
  turns = is.turns;
  apart = λ i j a k ne o o'. ap_.cells i j o.0 o'.0 o.1 o'.1 ne a k o.2 o'.2;
  cares = tt;
  stays = λ r u. stays r u;
  fine = λ j r act u. fine_at j r (both_of (nat_lt j s.entry.lanes) (mask j) act) (inside r (stays r u)) (type_at ts r) refl (is.types r (inside r (stays r u)));
  pointed = λ j r act fx. let q = both_of (nat_lt j s.entry.lanes) (mask j) act in
      subst (λ t. IsPointed c.arrays t (datum_of t (words r j))) (sym (is.types r (inside r fx)))
      (subst (IsPointed c.arrays (type_at ts r)) (argument_is ts words r j (inside r fx)) (ty.pointed r j (inside r fx) (lt_of j s.entry.lanes q.0) q.1));
}
  where
    x : Place
    x = place_of (lanes_call c s b ts mask words m)

    inside : (r : ℕ) → x.fixed r ≡ true → r < length ts
    inside r fx = lt_of r (length ts) (both_of (nat_lt r (length ts)) (is_pointer_type (type_at ts r)) fx).0

    stays : (r : ℕ) → x.usable r ≡ true → x.fixed r ≡ true
    stays r u = usable_fixed (nat_lt r (length ts)) (is_pointer_type (type_at ts r)) u

    fine_at : (j r : ℕ) → ((nat_lt j s.entry.lanes ≡ true) × (mask j ≡ true)) → r < length ts → (t : CType) → type_at ts r ≡ t → reg_type x r ≡ type_at ts r → IsFine x j (reg_type x r) (datum_of (reg_type x r) (words r j))
    fine_at j r q lr t et er = subst (λ u. IsFine x j u (datum_of u (words r j))) (sym (er ∙ et)) (at t et)
      where
        argument_at : (u : CType) → type_at ts r ≡ u → argument ts words r j ≡ datum_of u (words r j)
        argument_at u e = argument_is ts words r j lr ∙ ap (λ v. datum_of v (words r j)) e

        at : (u : CType) → type_at ts r ≡ u → IsFine x j u (datum_of u (words r j))
        at Void e = tt
        at (Int u) e = tt
        at (Ptr to true) e = λ i n. (
          lt_of j s.entry.lanes q.0,
          q.1,
          record {
            parameter = r;
            below = lr;
            written = ap is_written_type e;
            same_array = ap array_of (argument_at (Ptr to true) e);
            element = ap (named_element c.arrays) (argument_at (Ptr to true) e) ∙ n;
          },
        )
        at (Ptr to false) e = λ i k lk ne o. ap_.arrays_read k j o.0 (lt_of j s.entry.lanes q.0) o.1 q.1 ne _ i o.2 (record {
          parameter = r;
          read = ap is_written_type e;
          offset = cast_signed w32 (words r j % 2 ^ 32);
          points = argument_at (Ptr to false) e;
        })

-- the call of an entry that is no loop's body is not counted
pub quiet_call : (b : Bodies) (e : ℕ) (m : Memory) → b.is_body e ≡ false → IsQuiet b m.log (logged (Calls e) m).log
quiet_call b e m no' = record { prints = same m.log; counts = λ n body. more n body m.log }
  where
    same : (l : List Logged) → prints_of (l ++ Calls e ∷ []) ≡ prints_of l
    same [] = refl
    same (Prints n ∷ l) = ap (λ r. n ∷ r) (same l)
    same (Calls k ∷ l) = same l

    other : (n : ℕ) → b.is_body n ≡ true → (e == n) ≡ false
    other n body = at (e == n) refl
      where
        at : (q : Bool) → (e == n) ≡ q → q ≡ false
        at true z = absurd (true≢false (sym body ∙ (ap b.is_body (sym (grind (arith, z))) ∙ no')))
        at false z = refl

    more : (n : ℕ) → b.is_body n ≡ true → (l : List Logged) → calls_of n (l ++ Calls e ∷ []) ≡ calls_of n l + 0
    more n body [] = ap (λ q. cond q 1 0 + 0) (other n body)
    more n body (Prints z ∷ l) = more n body l
    more n body (Calls k ∷ l) = ap (λ q. cond (k == n) 1 0 + q) (more n body l) ∙ omega arith

-- the step from a code to a call on lanes
pub lane_run : (c : Context) (s : Site) (b : Bodies) (e : ℕ) (ts : List CType) (rt : CType) (scalar : List Datum → Cells → Value) (m : Memory) (mask : ℕ → Bool) (words : Words) (old : ℕ → ℕ) →
    IsCodeSite c s ts → 0 < s.entry.lanes → b.is_body e ≡ false → ((to : Ty) (w : Bool) → rt ≢ Ptr to w) →
    AreTyped ts c.arrays s.entry.lanes words mask → AreApart ts c.arrays s.entry.lanes words mask →
    Does (place_of (lanes_call c s b ts mask words m)) (λ j h. h ≡ first_share s mask words m.cells j) s.code.routine.instrs
    (λ j h h'. IsWhole rt s.code.routine.result (λ k. nat_lt k s.entry.lanes && mask k) (λ k. scalar (arguments_of ts words k) m.cells) j h') →
    IsLaneRun c.arrays b ts scalar s.entry.lanes mask words m old (enters e s mask words m)
lane_run c s b e ts rt scalar m mask words old is some nobody nopointer ty ap_ d = record {
  wise = record { results = results; own = own; others = others; idle = idle };
  quiet = subst (λ (g : Machine). IsQuiet b m.log g.mem.log) (sym ran) (z.3.told 0 some);
}
  where
    x : Place
    x = place_of (lanes_call c s b ts mask words m)

    hs : Shares
    hs = first_share s mask words m.cells

    lm : Memory
    lm = logged (Calls e) m

    agree : Agree x hs lm
    agree = record { cells = λ j l ca a i v. refl; others = λ a i none. refl; told = λ j l. quiet_call b e m nobody; counted = λ j l ca. tt }

    sound : EachSound x hs
    sound j l = record { typed = λ r. typed_at r (nat_lt r s.code.routine.params) refl; kept = λ r fx. kept_at r (both_of (nat_lt r (length ts)) (is_pointer_type (type_at ts r)) fx).0; idle = λ a q. idle_at a q }
      where
        typed_at : (r : ℕ) (p : Bool) → nat_lt r s.code.routine.params ≡ p → IsWord (reg_type x r) (cond (nat_lt j s.entry.lanes && p) (words r j) 0)
        typed_at r true p = let lr : r < length ts = subst (λ n. r < n) is.params (lt_of r s.code.routine.params p) in
            subst (λ q. IsWord (reg_type x r) (cond (q && true) (words r j) 0)) (sym (lt_yes j s.entry.lanes l)) (subst (λ t. IsWord t (words r j)) (sym (is.types r lr)) (ty.canonical r j lr l))
        typed_at r false p = subst (λ q. IsWord (reg_type x r) (cond q (words r j) 0)) (sym (no_and (nat_lt j s.entry.lanes))) (zero_word (reg_type x r))
          where
            no_and : (q : Bool) → (q && false) ≡ false
            no_and true = refl
            no_and false = refl

        kept_at : (r : ℕ) → nat_lt r (length ts) ≡ true → cond (nat_lt j s.entry.lanes && nat_lt r s.code.routine.params) (words r j) 0 ≡ words r j
        kept_at r p = ap₂ (λ q n. cond (q && nat_lt r n) (words r j) 0) (lt_yes j s.entry.lanes l) is.params ∙ ap (λ q. cond q (words r j) 0) p

        idle_at : (nat_lt j s.entry.lanes && mask j) ≡ false → (q : ℕ) → (nat_lt j s.entry.lanes && (q == 0) && mask j) ≡ false
        idle_at a q = at (nat_lt j s.entry.lanes) (q == 0) (mask j) a
          where
            at : (u v w : Bool) → (u && w) ≡ false → (u && v && w) ≡ false
            at true true w g = g
            at true false w g = refl
            at false v w g = refl

    z : (hs' : Shares) × (m' : Memory) × (run x.site (s.code.routine.instrs ++ []) zero (length s.code.routine.instrs) (machine_of hs lm) ≡ run x.site [] zero 0 (machine_of hs' m')) × Agree x hs' m' × EachSound x hs' ×
        ((j : ℕ) → j < lanes_of x → IsWhole rt s.code.routine.result (λ k. nat_lt k s.entry.lanes && mask k) (λ k. scalar (arguments_of ts words k) m.cells) j (hs' j))
    z = d.by [] 0 (length s.code.routine.instrs) (omega arith) hs lm agree sound (λ j l. refl)

    ran : run s s.code.routine.instrs zero (length s.code.routine.instrs) (machine_of hs lm) ≡ machine_of z.0 z.1
    ran = ap (λ c'. run s c' zero (length s.code.routine.instrs) (machine_of hs lm)) (sym (append-nil s.code.routine.instrs)) ∙ (z.2 ∙ run_zero s [] (machine_of z.0 z.1))

    act : (j : ℕ) → j < s.entry.lanes → mask j ≡ true → (nat_lt j s.entry.lanes && mask j) ≡ true
    act j l a = ap₂ (λ p q. p && q) (lt_yes j s.entry.lanes l) a

    word_in_range : (t : CType) (dt : Datum) (w o : ℕ) (st : Option Stop) (u : World) → ((to : Ty) (q : Bool) → t ≢ Ptr to q) → dt ≡ datum_of t w → IsWord t w → st ≡ None → IsResult (got dt u) o (cond (true && is_none st) w o) st
    word_in_range Void dt w o st u np ed iw es = subst (λ v. IsResult (got v u) o (cond (true && is_none st) w o) st) (sym ed) es
    word_in_range (Int t) dt w o st u np ed iw es = subst (λ v. IsResult (got v u) o (cond (true && is_none st) w o) st) (sym ed) (ap (λ q. cond (true && is_none q) w o) es ∙ sym (word_of-number t w iw), es)
    word_in_range (Ptr to q) dt w o st u np ed iw es = absurd (np to q refl)

    result_of : (j : ℕ) → mask j ≡ true → (h' : Share) (v : Value) → EndsAs rt s.code.routine.result h' v → IsResult v (old j) (cond (mask j && is_none h'.lane.stop) (word_in s.code.routine.result h'.lane) (old j)) h'.lane.stop
    result_of j a h' (got dt w) q = subst (λ k. IsResult (got dt w) (old j) (cond (k && is_none h'.lane.stop) (word_in s.code.routine.result h'.lane) (old j)) h'.lane.stop) (sym a)
        (word_in_range rt dt (word_in s.code.routine.result h'.lane) (old j) h'.lane.stop w nopointer q.1 q.2 q.0)
    result_of j a h' (halts y w) q = (ap₂ (λ k l. cond (k && is_none l) (word_in s.code.routine.result h'.lane) (old j)) a q.stop, q.stop)

    world_of : (v : Value) (h' : Share) → EndsAs rt s.code.routine.result h' v → (a i : ℕ) → h'.world.memory a i ≡ memory_of v a i
    world_of (got dt w) h' q a i = ap (λ (u : World). u.memory a i) q.3
    world_of (halts y w) h' q a i = ap (λ (u : World). u.memory a i) q.world

    results : (j : ℕ) → j < s.entry.lanes → mask j ≡ true → IsResult (scalar (arguments_of ts words j) m.cells) (old j) (results_of mask old (enters e s mask words m) j) ((enters e s mask words m).stop j)
    results j l a = subst (λ (g : Machine). IsResult (scalar (arguments_of ts words j) m.cells) (old j) (cond (mask j && is_none (g.lane j).stop) (word_in s.code.routine.result (g.lane j)) (old j)) (g.lane j).stop) (sym ran)
        (result_of j a (z.0 j) (scalar (arguments_of ts words j) m.cells) ((z.5 j l).ends (act j l a)))

    own : (j : ℕ) → j < s.entry.lanes → mask j ≡ true → (a i : ℕ) → NamesCell ts c.arrays (arguments_of ts words j) a i → (enters e s mask words m).mem.cells a i ≡ memory_of (scalar (arguments_of ts words j) m.cells) a i
    own j l o a i n = ap (λ (g : Machine). g.mem.cells a i) ran ∙ (z.3.cells j l tt a i (λ k lk ne q. ap_.cells k j q.0 l q.1 o ne a i q.2 n) ∙ world_of (scalar (arguments_of ts words j) m.cells) (z.0 j) ((z.5 j l).ends (act j l o)) a i)

    others : (a i : ℕ) → ((j : ℕ) → j < s.entry.lanes → mask j ≡ true → NamesCell ts c.arrays (arguments_of ts words j) a i → ⊥) → (enters e s mask words m).mem.cells a i ≡ m.cells a i
    others a i none = ap (λ (g : Machine). g.mem.cells a i) ran ∙ z.3.others a i (λ j l q. none j q.0 q.1 q.2)

    idle : (j : ℕ) → j < s.entry.lanes → mask j ≡ false → (results_of mask old (enters e s mask words m) j ≡ old j) × ((enters e s mask words m).stop j ≡ None)
    idle j l a = (
      ap (λ k. cond (k && is_none ((enters e s mask words m).stop j)) ((enters e s mask words m).value j) (old j)) a,
      ap (λ (g : Machine). (g.lane j).stop) ran ∙ (z.5 j l).idle (ap₂ (λ p q. p && q) (lt_yes j s.entry.lanes l) a),
    )
