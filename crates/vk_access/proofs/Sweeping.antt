-- Sweeps over lanes, in which a sink may fail.
use Rattle.std.proofs.Common.{◌≡◌, ℕ, zero, suc, ◌+◌, ◌<◌, ◌≤◌, List, ap, arith, sym, subst, ◌⊎◌, inl, inr}
use Rattle.std.proofs.lemmas.Bool.{cases_eq}
use Rattle.vk_io.specs.declared.outside.Outside.{Outside}
use Rattle.vk_kinds.specs.declared.heads.CType.{CType}
use Rattle.vk_code.specs.declared.instruction.Operation.{Operation}
use Rattle.vk_object.specs.Lane.{LaneState, View, acts}
use Rattle.vk_object.specs.Machine.{World, in_lane, sweep}
use Rattle.vk_object.specs.Memory.{Extent}
use Rattle.vk_runs.specs.Logs.{Grows}
use Rattle.vk_runs.proofs.Logs.{grows_noted, grows_same, grows_stored, grows_then}
use Rattle.vk_runs.proofs.Memories.{acts_keep}
use Rattle.vk_access.specs.Outer.{Breaks, Goes, Outer, world}
use Rattle.vk_access.proofs.Leading.{breaks_after, breaks_more}

pub sweep_next : (step : ℕ → View → View) (n : ℕ) (w : World) → in_lane step n (sweep n step w) ≡ sweep (n + 1) step w
sweep_next step n w = ap (λ k. sweep k step w) (one_more n)
  where
    one_more : (n : ℕ) → suc n ≡ n + 1
    one_more n = omega arith

acts_grow : (arrays : List Extent) (regs : List CType) (m j : ℕ) (o : Operation) (v : View) → Grows v.mem (acts arrays regs m j o v).mem
acts_grow arrays regs m j o v = acts_keep arrays Grows grows_same grows_then grows_noted (grows_stored arrays) regs m j o v

-- what is left of a sweep only appends to the log
sweep_grows : (arrays : List Extent) (regs : List CType) (m : ℕ) (o : Operation) (n k : ℕ) (w : World) → n ≤ k → Grows (sweep n (λ j v. acts arrays regs m j o v) w).mem (sweep k (λ j v. acts arrays regs m j o v) w).mem
sweep_grows arrays regs m o n zero w h = subst (λ i. Grows (sweep i (λ j v. acts arrays regs m j o v) w).mem w.mem) (at n h) (grows_same w.mem)
  where
    at : (n : ℕ) → n ≤ 0 → 0 ≡ n
    at n h = omega (arith, h)
sweep_grows arrays regs m o n (suc k) w h = by (λ l. sweep_grows arrays regs m o n k w l) (cases_eq n (suc k))
  where
    step : ℕ → View → View
    step = λ j v. acts arrays regs m j o v

    by : (n ≤ k → Grows (sweep n step w).mem (sweep k step w).mem) → (n ≡ suc k) ⊎ (n ≡ suc k → ⊥) → Grows (sweep n step w).mem (sweep (suc k) step w).mem
    by before (inl e) = subst (λ i. Grows (sweep i step w).mem (sweep (suc k) step w).mem) (sym e) (grows_same (sweep (suc k) step w).mem)
    by before (inr d) = grows_then (sweep n step w).mem (sweep k step w).mem (sweep (suc k) step w).mem (before (omega (arith, h, d)))
        (acts_grow arrays regs m k o (record { lane = (sweep k step w).lane k; mem = (sweep k step w).mem }))

-- a lane's step breaks: the sweep goes on from there
pub sweep_breaks : (arrays : List Extent) (regs : List CType) (m : ℕ) (o : Operation) (n lanes : ℕ) (l k : ℕ → LaneState) (a b c : Outer) (fault : Outside) → n < lanes →
    Goes l k a b (sweep n (λ j v. acts arrays regs m j o v)) → Breaks b c fault (λ mem. (in_lane (λ j v. acts arrays regs m j o v) n (world k mem)).mem) →
    Breaks a c fault (λ mem. (sweep lanes (λ j v. acts arrays regs m j o v) (world l mem)).mem)
sweep_breaks arrays regs m o n lanes l k a b c fault below p q =
    let step : ℕ → View → View = λ j v. acts arrays regs m j o v in
    breaks_more a c fault (λ mem. (in_lane step n (sweep n step (world l mem))).mem) (λ mem. (sweep lanes step (world l mem)).mem)
    (breaks_after World (λ w. (in_lane step n w).mem) a b c fault (λ mem. sweep n step (world l mem)) (λ mem. world k mem) (λ mem. (in_lane step n (world k mem)).mem) p q (λ mem. grows_same (in_lane step n (world k mem)).mem))
    (λ mem. sweep_grows arrays regs m o (suc n) lanes (world l mem) (omega (arith, below)))
