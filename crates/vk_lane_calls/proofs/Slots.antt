-- What is known of an entry serves a slot's call.
use Rattle.std.proofs.Common.{arith, sym, ◌≡◌, ◌≢◌, ℕ, ◌+◌, ◌<◌, ◌==◌, Bool, true, false, cond, ◌&&◌, List, [], ◌∷◌, length, Option, Some, refl, subst, ap, ap₂, ◌∙◌}
use Rattle.std.specs.Prelude.{is_none}
use Rattle.vk_types.specs.declared.types.Stop.{Stop}
use Rattle.vk_types.specs.Numbers.{number_of, word_of}
use Rattle.vk_kinds.specs.declared.heads.CType.{CType}
use Rattle.vk_kinds.specs.declared.heads.CType.TheVariants.{Void, Int, Ptr}
use Rattle.vk_kinds.specs.declared.kinds.Kind.{Kind}
use Rattle.vk_numbers.proofs.Numbers.{word_of-number}
use Rattle.vk_meaning.specs.World.{Memory as Cells}
use Rattle.vk_meaning.specs.Data.{Datum, Value, got, halts, number, pointer, nothing}
use Rattle.vk_meaning.specs.Meaning.{memory_of}
use Rattle.vk_meaning.specs.Lanes.{Words, data_from, arguments_of, argument, datum_of, IsWord, IsPointed, NamesCell, ReadsArray, AreTyped, AreFitting, AreApart}
use Rattle.vk_meaning.specs.LaneWise.{IsResult}
use Rattle.vk_meaning.specs.Types.{type_at}
use Rattle.vk_code.specs.declared.instruction.Instr.{Instr}
use Rattle.vk_code.specs.declared.instruction.Operation.TheVariants.{Call}
use Rattle.vk_code.specs.Instruction.{operation_of}
use Rattle.vk_object.specs.Memory.{Memory}
use Rattle.vk_object.specs.Lane.{is_live}
use Rattle.vk_object.specs.Machine.{Target, target_of}
use Rattle.vk_lane.specs.Runs.{Bodies, IsLaneRun, RunsOnLanes, results_of}
use Rattle.vk_lane.specs.Places.{Shares, Place, IsPlace, lanes_of, IsFine}
use Rattle.vk_lane.specs.Pieces.{Always, Before, Does, EachSound}
use Rattle.vk_lane.proofs.Rules.{does_weaken}
use Rattle.vk_lane_calls.specs.Callees.{IsTaken, IsLocal, TakesIf, value_behind}
use Rattle.vk_lane_calls.specs.Callable.{passed_words, own_words, HasArguments, Passes, IsLocalCall, IsOfType, IsResultRegister, HushesOver, OwnsOpenCells}
use Rattle.vk_lane_calls.proofs.Calling.{IsCallee, Answered, word_taken, does_call_all}
use Rattle.vk_lane_calls.proofs.Footprints.{local_of}
use Rattle.vk_lane_calls.proofs.Pointed.{named_own, reads_seen}
use Rattle.vk_lane_runs.proofs.Arguments.{argument_is}

-- lanes whose pointers are fine are apart
pub fine_apart : (x : Place) (ts : List CType) (mask : ℕ → Bool) (words : Words) → IsPlace x → ((j : ℕ) → j < lanes_of x → mask j ≡ true → (p : ℕ) → p < length ts → IsFine x j (type_at ts p) (argument ts words p j)) →
    AreApart ts x.context.arrays (lanes_of x) words mask
fine_apart x ts mask words ip fine = record {
  cells = λ i j li lj mi mj ne a c n n'. ip.apart i j a c ne (own i li mi a c n) (own j lj mj a c n');
  arrays_read = λ i j li lj mi mj ne a c n r. seen j lj mj a r c i li ne (own i li mi a c n);
}
  where
    own : (j : ℕ) → j < lanes_of x → mask j ≡ true → (a c : ℕ) → NamesCell ts x.context.arrays (arguments_of ts words j) a c → x.Own j a c
    own j l m a c n = named_own x ts words j a c (fine j l m) n

    seen : (j : ℕ) → j < lanes_of x → mask j ≡ true → (a : ℕ) → ReadsArray ts (arguments_of ts words j) a → (c k : ℕ) → k < lanes_of x → k ≢ j → x.Own k a c → ⊥
    seen j l m a r c k lk ne o = reads_seen x ts words j a (fine j l m) r c k lk ne o

same_data : (ts : List CType) (p : ℕ) (u v : Words) (i j : ℕ) → ((q : ℕ) → q < length ts → u (p + q) i ≡ v (p + q) j) → data_from p ts u i ≡ data_from p ts v j
same_data [] p u v i j h = refl
same_data (t ∷ ts) p u v i j h = ap₂ (λ d ds. datum_of t d ∷ ds) (ap (λ n. u n i) (omega arith) ∙ (h 0 (omega arith) ∙ ap (λ n. v n j) (omega arith)))
    (same_data ts (p + 1) u v i j (λ q l. ap (λ n. u n i) (omega arith) ∙ (h (q + 1) (omega (arith, l)) ∙ ap (λ n. v n j) (omega arith))))

answered_of : (rt : CType) (v : Value) (old word : ℕ) (mask : Bool) (st : Option Stop) → mask ≡ true → IsOfType rt v → IsResult v old (cond (mask && is_none st) word old) st → Answered rt v word st
answered_of rt (halts z w) old word mask st m t r = r.1
answered_of rt (got (pointer a o) w) old word mask st m t r = absurd r
answered_of rt (got nothing w) old word mask st m t r = let q = none rt t.0 t.1 t.2 word in (r, q.0, q.1)
  where
    none : (q : CType) (u : ℕ) → nothing ≡ datum_of q u → IsWord q u → (v : ℕ) → (nothing ≡ datum_of q v) × IsTaken q v
    none Void u e iw v = (refl, tt)
    none (Int y) u e iw v = cc
    none (Ptr to k) u e iw v = cc
answered_of rt (got (number z) w) old word mask st m t r = (r.1, subst (λ q. number z ≡ datum_of rt q) (sym same) t.1, word_taken rt word (subst (IsWord rt) (sym same) t.2))
  where
    same : word ≡ t.0
    same = sym (ap₂ (λ b s. cond (b && is_none s) word old) m r.1) ∙ (r.0 ∙ num rt t.1 t.2)
      where
        num : (q : CType) → number z ≡ datum_of q t.0 → IsWord q t.0 → word_of z ≡ t.0
        num Void e iw = cc
        num (Int y) e iw = let ez : z ≡ number_of y t.0 = cc in ap word_of ez ∙ word_of-number y t.0 iw
        num (Ptr to k) e iw = cc

-- a call of all live lanes, of an entry with as many lanes
pub callee_of : (x : Place) (Q : Before) (b : Bodies) (m : ℕ) (t : Target) (ts : List CType) (kinds : List Kind) (rt : CType) (scalar : List Datum → Cells → Value) → IsPlace x → HushesOver x b →
    ((cells : Memory) (mask : ℕ → Bool) (words : Words) (old : ℕ → ℕ) → AreTyped ts x.context.arrays (lanes_of x) words mask → AreFitting ts kinds (lanes_of x) words mask → AreApart ts x.context.arrays (lanes_of x) words mask →
    IsLaneRun x.context.arrays b ts scalar (lanes_of x) mask words cells old (x.site.calls t.number mask words cells)) →
    ((ds : List Datum) (cells : Cells) → IsOfType rt (scalar ds cells)) →
    ((hs : Shares) (j : ℕ) → j < lanes_of x → is_live m (hs j).lane ≡ true → arguments_of ts (passed_words x m t hs) j ≡ arguments_of ts (own_words t.slot (hs j)) j → HasArguments x t.slot ts j (hs j) → IsLocal x j (NamesCell ts x.context.arrays (arguments_of ts (passed_words x m t hs) j)) (scalar (arguments_of ts (own_words t.slot (hs j)) j))) →
    ((hs : Shares) → EachSound x hs → ((j : ℕ) → j < lanes_of x → Q j (hs j)) → Passes x m t ts kinds hs) →
    IsCallee x (λ j h. Q j h × (is_live m h.lane ≡ true → HasArguments x t.slot ts j h)) m rt (λ hs j. NamesCell ts x.context.arrays (arguments_of ts (passed_words x m t hs) j))
    (λ hs j. scalar (arguments_of ts (own_words t.slot (hs j)) j)) (λ hs mem. x.site.calls t.number (λ j. is_live m (hs j).lane) (passed_words x m t hs) mem)
callee_of x Q b m t ts kinds rt scalar ip hush runs_ ofty local passes = record {
  does = λ hs mem g s p. let lr = run_of hs mem s (λ k lk. (p k lk).0) (λ k lk. (p k lk).1) in record {
    own = λ j l c a i n. lr.wise.own j l c a i n ∙ ap (λ ds. memory_of (scalar ds mem.cells) a i) (same_args hs s (λ k lk. (p k lk).0) j l c);
    others = lr.wise.others;
    told = λ es q. hush.told mem.log _ es lr.quiet q;
    counted = λ es q. hush.counted mem.log _ es lr.quiet q;
    local = λ j l c. local hs j l c (same_args hs s (λ k lk. (p k lk).0) j l c) ((p j l).1 c);
  };
  answers = λ hs mem g s p j l c. let lr = run_of hs mem s (λ k lk. (p k lk).0) (λ k lk. (p k lk).1) in
      answered_of rt (scalar (arguments_of ts (own_words t.slot (hs j)) j) mem.cells) 0 _ (is_live m (hs j).lane) _ c (ofty _ mem.cells)
      (subst (λ ds. IsResult (scalar ds mem.cells) 0 (results_of (λ k. is_live m (hs k).lane) (λ k. 0) (x.site.calls t.number (λ k. is_live m (hs k).lane) (passed_words x m t hs) mem) j) ((x.site.calls t.number (λ k. is_live m (hs k).lane) (passed_words x m t hs) mem).stop j))
      (same_args hs s (λ k lk. (p k lk).0) j l c) (lr.wise.results j l c));
}
  where
    IsGiven : Shares → Type 0
    IsGiven hs = (j : ℕ) → j < lanes_of x → Q j (hs j)

    same_args : (hs : Shares) → EachSound x hs → IsGiven hs → (j : ℕ) → j < lanes_of x → is_live m (hs j).lane ≡ true → arguments_of ts (passed_words x m t hs) j ≡ arguments_of ts (own_words t.slot (hs j)) j
    same_args hs s g j l c = same_data ts 0 (passed_words x m t hs) (own_words t.slot (hs j)) j j (λ q lq. (passes hs s g).same (0 + q) j (omega (arith, lq)) l c)

    Mine : Shares → Type 0
    Mine hs = (j : ℕ) → j < lanes_of x → is_live m (hs j).lane ≡ true → HasArguments x t.slot ts j (hs j)

    fine : (hs : Shares) → EachSound x hs → IsGiven hs → Mine hs → (j : ℕ) → j < lanes_of x → is_live m (hs j).lane ≡ true → (p : ℕ) → p < length ts → IsFine x j (type_at ts p) (argument ts (passed_words x m t hs) p j)
    fine hs s g q j l c p lp = subst (IsFine x j (type_at ts p)) (sym (argument_is ts (passed_words x m t hs) p j lp)) (subst (λ w. IsFine x j (type_at ts p) (datum_of (type_at ts p) w)) (sym ((passes hs s g).same p j lp l c)) ((q j l c).fine p lp))

    run_of : (hs : Shares) (mem : Memory) → EachSound x hs → IsGiven hs → Mine hs →
        IsLaneRun x.context.arrays b ts scalar (lanes_of x) (λ j. is_live m (hs j).lane) (passed_words x m t hs) mem (λ j. 0) (x.site.calls t.number (λ j. is_live m (hs j).lane) (passed_words x m t hs) mem)
    run_of hs mem s g q = runs_ mem (λ j. is_live m (hs j).lane) (passed_words x m t hs) (λ j. 0)
        (record { canonical = λ p j lp l. (passes hs s g).typed p j lp l; pointed = λ p j lp l c. subst (IsPointed x.context.arrays (type_at ts p)) (sym (argument_is ts (passed_words x m t hs) p j lp)) (subst (λ w. IsPointed x.context.arrays (type_at ts p) (datum_of (type_at ts p) w)) (sym ((passes hs s g).same p j lp l c)) ((q j l c).pointed p lp)) })
        (passes hs s g).fits (fine_apart x ts (λ j. is_live m (hs j).lane) (passed_words x m t hs) ip (fine hs s g q))

-- a slot's call on the live lanes, where every sound frame passes what it has
pub call_on_lanes : (x : Place) (b : Bodies) (i : Instr) (k : ℕ) (t : Target) (ts : List CType) (kinds : List Kind) (rt : CType) (scalar : List Datum → Cells → Value) → IsPlace x → HushesOver x b → OwnsOpenCells x → IsLocalCall ts rt x.context.arrays scalar →
    operation_of i ≡ Some (Call k) → target_of x.site k ≡ Some t → (t.entry.lanes == 1) ≡ false → ((r : ℕ) → t.slot.result ≡ Some r → IsResultRegister x rt r) →
    RunsOnLanes x.context.arrays b ts kinds scalar (lanes_of x) (x.site.calls t.number) → ((hs : Shares) → EachSound x hs → Passes x i.m t ts kinds hs) →
    Does x (λ j h. is_live i.m h.lane ≡ true → HasArguments x t.slot ts j h) (i ∷ []) (λ j h h'. TakesIf (is_live i.m h.lane) rt t.slot.result h h' (value_behind h.world (scalar (arguments_of ts (own_words t.slot h) j) h.world.memory)))
call_on_lanes x b i k t ts kinds rt scalar ip hush cells lo is te wide ok runs_ passes =
    does_weaken x _ (λ j h. is_live i.m h.lane ≡ true → HasArguments x t.slot ts j h) _ _ (i ∷ [])
    (does_call_all x _ i k t rt (λ hs j. NamesCell ts x.context.arrays (arguments_of ts (passed_words x i.m t hs) j)) (λ h j. scalar (arguments_of ts (own_words t.slot h) j)) ip.cares is te wide ok
    (callee_of x Always b i.m t ts kinds rt scalar ip hush (λ mem mask words old. runs_ mem mask words old) lo.typed
    (λ hs j l c e h. subst (λ ds. IsLocal x j (NamesCell ts x.context.arrays ds) (scalar (arguments_of ts (own_words t.slot (hs j)) j))) (sym e)
    (local_of x ts rt scalar (own_words t.slot (hs j)) j ip cells.open_cells cells.there lo (λ p lp. subst (IsFine x j (type_at ts p)) (sym (argument_is ts (own_words t.slot (hs j)) p j lp)) (h.fine p lp))))
    (λ hs s q. passes hs s)))
    (λ j h s p. (tt, p)) (λ j h h' s s' p y. y)
