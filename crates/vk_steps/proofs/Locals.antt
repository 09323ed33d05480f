-- What an operation on registers and masks does, as the machine has it.
use Rattle.std.proofs.Common.{◌≡◌, ℕ, zero, suc, ◌+◌, ◌*◌, ◌^◌, ◌<◌, ◌≤◌, ◌==◌, nat_lt, not, ◌&&◌, ◌||◌, Bool, true, false, cond, ℤ, List, Option, Some, None, Result, Ok, Err, ◌⊎◌, inl, inr, refl, ap, sym, subst, ◌∙◌, arith}
use Rattle.std.proofs.lemmas.Bool.{false≢true}
use Rattle.vk_types.specs.declared.types.Stop.{Stop}
use Rattle.vk_types.specs.Numbers.{number_of}
use Rattle.vk_types.specs.Operators.{op2_number}
use Rattle.vk_kinds.specs.declared.heads.CType.{CType}
use Rattle.vk_code.specs.declared.instruction.Operation.{Operation}
use Rattle.vk_code.specs.declared.instruction.Operation.TheVariants.{Const, Copy, Convert, Binary, Compare, Unary, Lane, Load, Store, PtrAdd, Addr, MaskOf, MaskAnd, MaskOr, MaskBut, Loop, Call, Print, SimdLoop}
use Rattle.vk_code.specs.Listing.{Routine}
use Rattle.vk_code.specs.Valid.{Environment, is_typed}
use Rattle.vk_object.specs.Lane.{LaneState, View, acts, gives_pointer, gives_result, is_live, number_at, with_reg}
use Rattle.vk_object.specs.Machine.{World, in_lane, put, sweep}
use Rattle.vk_object.specs.Memory.{Extent, Memory, moved}
use Rattle.vk_frames.specs.Each.{each}
use Rattle.vk_frames.proofs.Writes.{each_more, each_none}
use Rattle.vk_runs.specs.Words.{HasWords}
use Rattle.vk_runs.proofs.Operators.{HasOperator}
use Rattle.vk_runs.proofs.Typed.{acts_words}
use Rattle.vk_steps.specs.Locals.{changed, is_local, with_number, with_pointer}

abbrev seen : LaneState → Memory → View
seen l mem = record { lane = l; mem = mem }

live_case : (b : Bool) (v : View) (k : LaneState) → cond b (seen k v.mem) v ≡ seen (cond b k v.lane) v.mem
live_case true v k = refl
live_case false v k = refl

result_case : (v : View) (d : ℕ) (r : Result ℤ Stop) → gives_result v d r ≡ seen (with_number v.lane d r) v.mem
result_case v d (Ok z) = refl
result_case v d (Err x) = refl

pointer_case : (v : View) (d : ℕ) (o : Option ℕ) → gives_pointer v d o ≡ seen (with_pointer v.lane d o) v.mem
pointer_case v d None = refl
pointer_case v d (Some p) = refl

pub acts_local : (arrays : List Extent) (regs : List CType) (m j : ℕ) (o : Operation) (v : View) → is_local o ≡ true → acts arrays regs m j o v ≡ record { lane = changed regs m o j v.lane; mem = v.mem }
acts_local arrays regs m j (Const t d value) v h = live_case (is_live m v.lane) v (with_reg v.lane d value.0)
acts_local arrays regs m j (Copy d a) v h = live_case (is_live m v.lane) v (with_reg v.lane d (v.lane.reg a))
acts_local arrays regs m j (Convert d a) v h = live_case (is_live m v.lane) v _
acts_local arrays regs m j (Binary op t d a b) v h =
    let r : Result ℤ Stop = op2_number op t (number_of t (v.lane.reg a)) (number_at regs v.lane b) in
    ap (λ w. cond (is_live m v.lane) w v) (result_case v d r) ∙ live_case (is_live m v.lane) v (with_number v.lane d r)
acts_local arrays regs m j (Compare op t d a b) v h =
    let r : Result ℤ Stop = op2_number op t (number_of t (v.lane.reg a)) (number_of t (v.lane.reg b)) in
    ap (λ w. cond (is_live m v.lane) w v) (result_case v d r) ∙ live_case (is_live m v.lane) v (with_number v.lane d r)
acts_local arrays regs m j (Unary op t d a) v h = live_case (is_live m v.lane) v _
acts_local arrays regs m j (Lane d) v h = live_case (is_live m v.lane) v (with_reg v.lane d j)
acts_local arrays regs m j (PtrAdd d a b) v h =
    let o : Option ℕ = moved (v.lane.reg a) (number_at regs v.lane b) in
    ap (λ w. cond (is_live m v.lane) w v) (pointer_case v d o) ∙ live_case (is_live m v.lane) v (with_pointer v.lane d o)
acts_local arrays regs m j (Addr d object) v h = live_case (is_live m v.lane) v (with_reg v.lane d (object * 2 ^ 32))
acts_local arrays regs m j (MaskOf d a) v h = refl
acts_local arrays regs m j (MaskAnd d a b) v h = refl
acts_local arrays regs m j (MaskOr d a b) v h = refl
acts_local arrays regs m j (MaskBut d a b) v h = refl
acts_local arrays regs m j (Load d a) v h = absurd (false≢true h)
acts_local arrays regs m j (Store a b) v h = absurd (false≢true h)
acts_local arrays regs m j (Loop count) v h = absurd (false≢true h)
acts_local arrays regs m j (Call slot) v h = absurd (false≢true h)
acts_local arrays regs m j (Print a) v h = absurd (false≢true h)
acts_local arrays regs m j (SimdLoop number) v h = absurd (false≢true h)

-- a sweep of steps that leave the memory as it is
pub local_sweep : (n : ℕ) (step : ℕ → View → View) (f : ℕ → LaneState → LaneState) → ((j : ℕ) (v : View) → step j v ≡ record { lane = f j v.lane; mem = v.mem }) → (w : World) →
    sweep n step w ≡ record { lane = each n f w.lane; mem = w.mem }
local_sweep zero step f h w = ap (λ l. record { lane = l; mem = w.mem }) (sym (each_none f w.lane))
local_sweep (suc n) step f h w =
    ap (in_lane step n) (local_sweep n step f h w)
    ∙ (ap (λ (v : View). record { lane = put (each n f w.lane) n v.lane; mem = v.mem }) (h n (record { lane = each n f w.lane n; mem = w.mem }))
    ∙ ap (λ l. record { lane = l; mem = w.mem }) (each_more n f w.lane ∙ ap (λ k. each k f w.lane) (one_more n)))
  where
    one_more : (n : ℕ) → n + 1 ≡ suc n
    one_more n = omega arith

-- registers keep words of their types
pub changed_words : (e : Environment) (c : Routine) (m j : ℕ) (o : Operation) (l : LaneState) → j < 2 ^ 63 → HasOperator o → is_typed e c o ≡ true → is_local o ≡ true → HasWords c.regs l → HasWords c.regs (changed c.regs m o j l)
changed_words e c m j o l s p t h w =
    let mem : Memory = record { cells = λ a i. 0; log = Rattle.std.proofs.Common.[] } in
    subst (λ (v : View). HasWords c.regs v.lane) (acts_local Rattle.std.proofs.Common.[] c.regs m j o (seen l mem) h) (acts_words e c Rattle.std.proofs.Common.[] m j o (seen l mem) s p t w)

pub words_put : (regs : List CType) (f : ℕ → LaneState) (n : ℕ) (k : LaneState) → ((j : ℕ) → HasWords regs (f j)) → HasWords regs k → (j : ℕ) → HasWords regs (put f n k j)
words_put regs f n k h g j = by (j == n)
  where
    by : (b : Bool) → HasWords regs (cond b k (f j))
    by true = g
    by false = h j
