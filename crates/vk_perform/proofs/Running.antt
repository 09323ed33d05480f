-- Runs from a place in the list of instructions.
use Rattle.std.proofs.Common.{◌≡◌, ℕ, zero, suc, ◌+◌, ◌-◌, ◌<◌, ◌≤◌, ◌==◌, List, [], ◌∷◌, length, refl, ap, arith, sym, ◌∙◌, subst, drop, None, Some, cond, true, false, Result, Ok, Err}
use Rattle.std.specs.Prelude.{slice_get}
use Rattle.std.proofs.lemmas.Bool.{false≢true}
use Rattle.vk_code.specs.declared.instruction.Instr.{Instr}
use Rattle.vk_code.specs.declared.instruction.Operation.{Operation}
use Rattle.vk_code.specs.declared.instruction.Operation.TheVariants.{Call, SimdLoop}
use Rattle.vk_code.specs.Instruction.{block_of, operation_of}
use Rattle.vk_io.specs.declared.outside.Outside.{Outside}
use Rattle.vk_object.specs.Memory.{Calls as Called, logged}
use Rattle.vk_object.specs.Lane.{LaneState, acts}
use Rattle.vk_object.specs.Machine.{Site, World, again, all_out_of_turns, any_live, performs, performs_some, run, sweep}
use Rattle.vk_runs.proofs.Logs.{grows_same}
use Rattle.vk_steps.specs.declared.place.Place.{Place}
use Rattle.vk_steps.specs.Locals.{is_local}
use Rattle.vk_steps.specs.Places.{listing, site}
use Rattle.vk_access.specs.Accesses.{is_access}
use Rattle.vk_access.specs.Outer.{Outer, Runs, told, world}
use Rattle.vk_access.proofs.Leading.{breaks_after, counted_call, leads_then}
use Rattle.vk_calls.specs.declared.fetch.Fetched.{Fetched}
use Rattle.vk_calls.specs.declared.fetch.Fetched.TheVariants.{Block, Calls, Simd, Accesses, Locals}
use Rattle.vk_calls.specs.Fetched.{IsFetched, IsPart, IsPlain}
use Rattle.vk_calls.proofs.Parts.{drop-at, drop-drop}
use Rattle.vk_perform.specs.Performed.{performed, size_of}

-- ---- numbers

pub less_0 : (k : ℕ) → k ≡ k - 0
less_0 k = omega arith

pub none_left : (k : ℕ) → k ≤ 0 → k ≡ 0
none_left k h = omega (arith, h)

-- ---- the list

pub run_zero : (s : Site) (is : List Instr) (w : World) → run s is zero zero w ≡ w
run_zero s [] w = refl
run_zero s (i ∷ is) w = refl

pub run_past : (s : Site) (is : List Instr) (at n : ℕ) (w : World) → length is ≤ at → run s (drop at is) zero n w ≡ w
run_past s [] zero n w h = refl
run_past s [] (suc at) n w h = refl
run_past s (i ∷ is) zero n w h = absurd (omega (arith, h))
run_past s (i ∷ is) (suc at) n w h = run_past s is at n w (omega (arith, h))

pub run_skip : (s : Site) (is : List Instr) (k n : ℕ) (w : World) → run s is k n w ≡ run s (drop k is) zero n w
run_skip s [] zero n w = refl
run_skip s [] (suc k) n w = refl
run_skip s (i ∷ is) zero n w = refl
run_skip s (i ∷ is) (suc k) n w = run_skip s is k n w

pub run_plain : (s : Site) (is : List Instr) (at n : ℕ) (i : Instr) (w : World) → slice_get is at ≡ Some i → 0 < n → block_of i ≡ None →
    run s (drop at is) zero n w ≡ run s (drop (at + 1) is) zero (n - 1) (performs_some s i.m (operation_of i) w)
run_plain s is at zero i w h p b = absurd (omega (arith, p))
run_plain s is at (suc n) i w h p b =
    ap (λ l. run s l zero (suc n) w) (drop-at is at i h)
    ∙ (ap (λ o. elim o as (λ _. World) [ None ↦ run s (drop (at + 1) is) zero n (performs_some s i.m (operation_of i) w) | Some x ↦ run s (drop (at + 1) is) x (n - x) (again s.entry.lanes i.m (λ v. run s (drop (at + 1) is) zero x v) s.turns w) ]) b
    ∙ ap (λ k. run s (drop (at + 1) is) zero k (performs_some s i.m (operation_of i) w)) (omega arith))

pub run_loop : (s : Site) (is : List Instr) (at n x : ℕ) (i : Instr) (w : World) → slice_get is at ≡ Some i → 0 < n → block_of i ≡ Some x →
    run s (drop at is) zero n w ≡ run s (drop (at + 1 + x) is) zero (n - 1 - x) (again s.entry.lanes i.m (λ v. run s (drop (at + 1) is) zero x v) s.turns w)
run_loop s is at zero x i w h p b = absurd (omega (arith, p))
run_loop s is at (suc n) x i w h p b =
    ap (λ l. run s l zero (suc n) w) (drop-at is at i h)
    ∙ (ap (λ o. elim o as (λ _. World) [ None ↦ run s (drop (at + 1) is) zero n (performs_some s i.m (operation_of i) w) | Some x ↦ run s (drop (at + 1) is) x (n - x) (again s.entry.lanes i.m (λ v. run s (drop (at + 1) is) zero x v) s.turns w) ]) b
    ∙ (run_skip s (drop (at + 1) is) x (n - x) (again s.entry.lanes i.m (λ v. run s (drop (at + 1) is) zero x v) s.turns w)
    ∙ (ap (λ l. run s l zero (n - x) (again s.entry.lanes i.m (λ v. run s (drop (at + 1) is) zero x v) s.turns w)) (drop-drop is x (at + 1))
    ∙ ap (λ k. run s (drop (at + 1 + x) is) zero k (again s.entry.lanes i.m (λ v. run s (drop (at + 1) is) zero x v) s.turns w)) (omega arith))))

pub again_done : (lanes m : ℕ) (block : World → World) (n : ℕ) (w : World) → any_live lanes m w.lane ≡ false → again lanes m block n w ≡ w
again_done lanes m block zero w h = ap (λ b. cond b (all_out_of_turns m w) w) h
again_done lanes m block (suc n) w h = ap (λ b. cond b (again lanes m block n (block w)) w) h

pub again_more : (lanes m : ℕ) (block : World → World) (n k : ℕ) (w : World) → 0 < n → k ≡ n - 1 → any_live lanes m w.lane ≡ true → again lanes m block n w ≡ again lanes m block k (block w)
again_more lanes m block zero k w p e h = absurd (omega (arith, p))
again_more lanes m block (suc n) k w p e h = ap (λ b. cond b (again lanes m block n (block w)) w) h ∙ ap (λ j. again lanes m block j (block w)) (omega (arith, e))

pub again_out : (lanes m : ℕ) (block : World → World) (n : ℕ) (w : World) → n ≡ 0 → any_live lanes m w.lane ≡ true → again lanes m block n w ≡ all_out_of_turns m w
again_out lanes m block n w e h = ap (λ k. again lanes m block k w) e ∙ ap (λ b. cond b (all_out_of_turns m w) w) h

-- the same, with the numbers as the code has them
pub run_loop_at : (s : Site) (is : List Instr) (at n x m k : ℕ) (i : Instr) (w : World) → slice_get is at ≡ Some i → 0 < n → block_of i ≡ Some x → i.m ≡ m → k ≡ n - 1 - x →
    run s (drop at is) zero n w ≡ run s (drop (at + 1 + x) is) zero k (again s.entry.lanes m (λ v. run s (drop (at + 1) is) zero x v) s.turns w)
run_loop_at s is at n x m k i w h p b e f = run_loop s is at n x i w h p b
    ∙ (ap (λ q. run s (drop (at + 1 + x) is) zero (n - 1 - x) (again s.entry.lanes q (λ v. run s (drop (at + 1) is) zero x v) s.turns w)) e
    ∙ ap (λ q. run s (drop (at + 1 + x) is) zero q (again s.entry.lanes m (λ v. run s (drop (at + 1) is) zero x v) s.turns w)) (sym f))

-- ---- one instruction, with its block

-- no call: in each lane
local_performs : (s : Site) (m : ℕ) (o : Operation) (w : World) → is_local o ≡ true → performs s m o w ≡ sweep s.entry.lanes (λ j v. acts s.arrays s.code.routine.regs m j o v) w
local_performs s m (Call k) w h = absurd (false≢true h)
local_performs s m (SimdLoop k) w h = absurd (false≢true h)
local_performs s m o w h = refl

access_performs : (s : Site) (m : ℕ) (o : Operation) (w : World) → is_access o ≡ true → performs s m o w ≡ sweep s.entry.lanes (λ j v. acts s.arrays s.code.routine.regs m j o v) w
access_performs s m (Call k) w h = absurd (false≢true h)
access_performs s m (SimdLoop k) w h = absurd (false≢true h)
access_performs s m o w h = refl

plain_at : (p : Place) (at left : ℕ) (i : Instr) (o : Operation) (w v : World) → 0 < left → IsPlain p at left i o → performs (site p) i.m o w ≡ v →
    run (site p) (drop at (listing p).routine.instrs) zero left w ≡ run (site p) (drop (at + 1) (listing p).routine.instrs) zero (left - 1) v
plain_at p at left i o w v some h e =
    let s : Site = site p in
    let is : List Instr = (listing p).routine.instrs in
    run_plain s is at left i w h.got some h.plain
    ∙ (ap (λ x. run s (drop (at + 1) is) zero (left - 1) (performs_some s i.m x w)) h.good.is
    ∙ ap (λ u. run s (drop (at + 1) is) zero (left - 1) u) e)

none_more : (p : Place) (at left : ℕ) (w : World) →
    run (site p) (drop (at + 1) (listing p).routine.instrs) zero (left - 1) w ≡ run (site p) (drop (at + 1 + 0) (listing p).routine.instrs) zero (left - 1 - 0) w
none_more p at left w =
    let s : Site = site p in
    let is : List Instr = (listing p).routine.instrs in
    ap (λ n. run s (drop n is) zero (left - 1) w) (omega arith) ∙ ap (λ n. run s (drop (at + 1 + 0) is) zero n w) (omega arith)

-- what stands at a place is performed, and the rest is run
fetched_at : (p : Place) (at left : ℕ) (f : Fetched) (w : World) → 0 < left → IsFetched p at left f →
    run (site p) (drop at (listing p).routine.instrs) zero left w ≡ run (site p) (drop (at + 1 + size_of f) (listing p).routine.instrs) zero (left - 1 - size_of f) (performed p at f w)
fetched_at p at left (Block m size) w some h = run_loop_at (site p) (listing p).routine.instrs at left size m (left - 1 - size) h.instr w h.got some h.block h.mask_is refl
fetched_at p at left (Calls i slot) w some h = plain_at p at left i (Call slot) w _ some h refl ∙ none_more p at left _
fetched_at p at left (Simd i number) w some h = plain_at p at left i (SimdLoop number) w _ some h refl ∙ none_more p at left _
fetched_at p at left (Accesses i o) w some h = plain_at p at left i o w _ some h.0 (access_performs (site p) i.m o w h.1) ∙ none_more p at left _
fetched_at p at left (Locals i o) w some h = plain_at p at left i o w _ some h.0 (local_performs (site p) i.m o w h.1) ∙ none_more p at left _

-- the same, with the length as the code has it
pub run_fetched : (p : Place) (at left len : ℕ) (f : Fetched) (w : World) → len ≡ size_of f + 1 → 0 < left → IsFetched p at left f →
    run (site p) (drop at (listing p).routine.instrs) zero left w ≡ run (site p) (drop (at + len) (listing p).routine.instrs) zero (left - len) (performed p at f w)
run_fetched p at left len f w e some h =
    let s : Site = site p in
    let is : List Instr = (listing p).routine.instrs in
    fetched_at p at left f w some h
    ∙ (ap (λ n. run s (drop n is) zero (left - 1 - size_of f) (performed p at f w)) (omega (arith, e))
    ∙ ap (λ n. run s (drop (at + len) is) zero n (performed p at f w)) (omega (arith, e)))

more_by_none : (p : Place) (at left : ℕ) → IsPart p (at + 1) (left - 1) → IsPart p (at + 1 + 0) (left - 1 - 0)
more_by_none p at left h = subst (λ n. IsPart p n (left - 1 - 0)) (omega arith) (subst (λ n. IsPart p (at + 1) n) (omega arith) h)

rest_part : (p : Place) (at left : ℕ) (f : Fetched) → IsFetched p at left f → IsPart p (at + 1 + size_of f) (left - 1 - size_of f)
rest_part p at left (Block m size) h = h.rest
rest_part p at left (Calls i slot) h = more_by_none p at left h.rest
rest_part p at left (Simd i number) h = more_by_none p at left h.rest
rest_part p at left (Accesses i o) h = more_by_none p at left h.0.rest
rest_part p at left (Locals i o) h = more_by_none p at left h.0.rest

pub part_left : (p : Place) (at left len : ℕ) (f : Fetched) → len ≡ size_of f + 1 → IsFetched p at left f → IsPart p (at + len) (left - len)
part_left p at left len f e h = subst (λ n. IsPart p n (left - len)) (omega (arith, e)) (subst (λ n. IsPart p (at + 1 + size_of f) n) (omega (arith, e)) (rest_part p at left f h))

-- an instruction and its block end before the end of the part
pub length_below : (p : Place) (at left len : ℕ) (f : Fetched) → len ≡ size_of f + 1 → 0 < left → IsFetched p at left f → len ≤ left
length_below p at left len (Block m size) e some h = let s = h.short in omega (arith, e, s)
length_below p at left len (Calls i slot) e some h = omega (arith, e, some)
length_below p at left len (Simd i number) e some h = omega (arith, e, some)
length_below p at left len (Accesses i o) e some h = omega (arith, e, some)
length_below p at left len (Locals i o) e some h = omega (arith, e, some)

-- a call of an entry is counted, and its code is run
pub runs_counted : (r : Result (Unit {0}) Outside) (n : ℕ) (l k : ℕ → LaneState) (a b d : Outer) (F : World → World) → a.cells ≡ b.cells → b.sink ≡ a.sink → ((e : ℕ) → b.counts e ≡ told (a.counts e + cond (n == e) 1 0)) →
    Runs r l k b d F → Runs r l k a d (λ w. F (record { lane = w.lane; mem = logged (Called n) w.mem }))
runs_counted (Ok done) n l k a b d F cells sink counts p =
    leads_then World a b d (λ mem. F (world l (logged (Called n) mem))) (λ mem. F (world l mem)) (λ mem. world k mem) (counted_call a b n l F cells sink counts) p
runs_counted (Err fault) n l k a b d F cells sink counts p =
    breaks_after World (λ w. w.mem) a b d fault (λ mem. F (world l (logged (Called n) mem))) (λ mem. F (world l mem)) (λ mem. (F (world l mem)).mem) (counted_call a b n l F cells sink counts) p (λ mem. grows_same (F (world l mem)).mem)
