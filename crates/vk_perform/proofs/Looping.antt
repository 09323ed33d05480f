-- Simd loops: the calls of the body, and the lane after them.
use Rattle.std.proofs.Common.{◌≡◌, ℕ, ◌-◌, ◌*◌, ◌/◌, ◌%◌, ◌+◌, ◌≤◌, arith, nat_lt, refl, ap, sym, ◌∙◌, subst, cond, true, false, Bool, Option, Some, None, Result, Ok, Err}
use Rattle.std.specs.Prelude.{is_some, min}
use Rattle.std.proofs.lemmas.Bool.{false≢true}
use Rattle.std.proofs.Math.Nat.{div-mul-le_self, mod-eq-sub-div-mul}
use Rattle.vk_types.specs.declared.types.Stop.{Stop}
use Rattle.vk_types.specs.declared.types.Stop.TheVariants.{Turns}
use Rattle.vk_io.specs.declared.outside.Outside.{Outside}
use Rattle.vk_object.specs.Memory.{Memory}
use Rattle.vk_object.specs.Lane.{LaneState, View, is_live, number_at, with_stop}
use Rattle.vk_object.specs.Machine.{Called, Ran, Simd, Site, World, after_calls, all_calls, body_args, calls_in_turn, guard_holds, iterations, put, runs_simd, simd_in, simd_of, then_calls}
use Rattle.vk_frames.proofs.Writes.{put_self}
use Rattle.vk_runs.proofs.Logs.{grows_same}
use Rattle.vk_steps.specs.declared.place.Place.{Place}
use Rattle.vk_access.specs.Outer.{Breaks, Goes, Leads, Outer, RunsCalls, world}
use Rattle.vk_access.proofs.Leading.{breaks_after, breaks_as, breaks_more, leads_as, leads_map, leads_then}
use Rattle.vk_entries.specs.Settled.{settled}
use Rattle.vk_perform.proofs.Growing.{GrowsLogs, then_grows, turns_grow}

-- ---- calls of which some broke, or stopped

-- it broke
pub calls_broken : (r : Result (Option Stop) Outside) (fault : Outside) (a b : Outer) (F : Memory → Ran) → r ≡ Err fault → Breaks a b fault (λ mem. (F mem).mem) → RunsCalls r a b F
calls_broken r fault a b F e p = subst (λ (s : Result (Option Stop) Outside). RunsCalls s a b F) (sym e) p

-- the same calls, told otherwise
pub calls_as : (r : Result (Option Stop) Outside) (a b : Outer) (F F' : Memory → Ran) → ((mem : Memory) → F' mem ≡ F mem) → RunsCalls r a b F → RunsCalls r a b F'
calls_as (Ok stop) a b F F' e p = leads_as Ran a b F (λ mem. record { stop = stop; mem = mem }) F' (λ mem. record { stop = stop; mem = mem }) e (λ mem. refl) p
calls_as (Err fault) a b F F' e p = breaks_as a b fault (λ mem. (F mem).mem) (λ mem. (F' mem).mem) (λ mem. ap (λ (r : Ran). r.mem) (e mem)) p

-- ---- all calls of a loop

-- one iteration a call, where the guard does not hold
pub slow_calls : (chunk rest : Called) (args : ℕ → ℕ → ℕ → ℕ → ℕ → ℕ) (words : ℕ → ℕ → ℕ → ℕ) (lanes one n k : ℕ) (fast : Bool) (mem : Memory) → fast ≡ false → one ≡ 1 → k ≡ n → words ≡ args one 0 →
    all_calls chunk rest args lanes fast n mem ≡ calls_in_turn rest words one k 0 mem
slow_calls chunk rest args words lanes one n k fast mem slow o e f =
    ap (λ b. all_calls chunk rest args lanes b n mem) slow
    ∙ (ap (λ i. calls_in_turn rest (args i 0) i n 0 mem) (sym o)
    ∙ (ap (λ (g : ℕ → ℕ → ℕ → ℕ). calls_in_turn rest g one n 0 mem) (sym f) ∙ ap (λ i. calls_in_turn rest words one i 0 mem) (sym e)))

-- the calls of the chunk, and then those of the rest
chunked : (chunk rest : Called) (args : ℕ → ℕ → ℕ → ℕ → ℕ → ℕ) (lanes n count : ℕ) (fast : Bool) (mem : Memory) → fast ≡ true → count ≡ n / lanes →
    all_calls chunk rest args lanes fast n mem ≡ then_calls (calls_in_turn chunk (args lanes 0) lanes count 0 mem) (λ m. calls_in_turn rest (args 1 (n / lanes * lanes)) 1 (n % lanes) 0 m)
chunked chunk rest args lanes n count fast mem f e =
    ap (λ t. all_calls chunk rest args lanes t n mem) f
    ∙ ap (λ i. then_calls (calls_in_turn chunk (args lanes 0) lanes i 0 mem) (λ m. calls_in_turn rest (args 1 (n / lanes * lanes)) 1 (n % lanes) 0 m)) (sym e)

-- where a call of the chunk stopped
pub chunk_stops : (chunk rest : Called) (args : ℕ → ℕ → ℕ → ℕ → ℕ → ℕ) (lanes n count : ℕ) (fast : Bool) (stop : Option Stop) (a b : Outer) → fast ≡ true → count ≡ n / lanes → is_some stop ≡ true →
    Leads Ran a b (λ mem. calls_in_turn chunk (args lanes 0) lanes count 0 mem) (λ mem. record { stop = stop; mem = mem }) →
    Leads Ran a b (λ mem. all_calls chunk rest args lanes fast n mem) (λ mem. record { stop = stop; mem = mem })
chunk_stops chunk rest args lanes n count fast None a b f e some p = absurd (false≢true some)
chunk_stops chunk rest args lanes n count fast (Some x) a b f e some p =
    leads_as Ran a b (λ mem. then_rest (calls_in_turn chunk (args lanes 0) lanes count 0 mem)) (λ mem. record { stop = Some x; mem = mem }) (λ mem. all_calls chunk rest args lanes fast n mem) (λ mem. record { stop = Some x; mem = mem })
    (λ mem. chunked chunk rest args lanes n count fast mem f e)
    (λ mem. refl)
    (leads_map Ran Ran a b (λ mem. calls_in_turn chunk (args lanes 0) lanes count 0 mem) (λ mem. record { stop = Some x; mem = mem }) then_rest p)
  where
    then_rest : Ran → Ran
    then_rest r = then_calls r (λ m. calls_in_turn rest (args 1 (n / lanes * lanes)) 1 (n % lanes) 0 m)

-- where one broke
pub chunk_breaks : (p : Place) (chunk rest : Called) (args : ℕ → ℕ → ℕ → ℕ → ℕ → ℕ) (lanes n count : ℕ) (fast : Bool) (a b : Outer) (fault : Outside) → fast ≡ true → count ≡ n / lanes → GrowsLogs rest →
    Breaks a b fault (λ mem. (calls_in_turn chunk (args lanes 0) lanes count 0 mem).mem) → Breaks a b fault (λ mem. (all_calls chunk rest args lanes fast n mem).mem)
chunk_breaks p chunk rest args lanes n count fast a b fault f e grows q =
    breaks_as a b fault (λ mem. (then_calls (first mem) next).mem) (λ mem. (all_calls chunk rest args lanes fast n mem).mem)
    (λ mem. ap (λ (r : Ran). r.mem) (chunked chunk rest args lanes n count fast mem f e))
    (breaks_more a b fault (λ mem. (first mem).mem) (λ mem. (then_calls (first mem) next).mem) q
    (λ mem. then_grows (first mem) next (λ m. turns_grow p rest (args 1 (n / lanes * lanes)) 1 grows (n % lanes) 0 m)))
  where
    first : Memory → Ran
    first mem = calls_in_turn chunk (args lanes 0) lanes count 0 mem

    next : Memory → Ran
    next m = calls_in_turn rest (args 1 (n / lanes * lanes)) 1 (n % lanes) 0 m

-- where none did: the rest
pub rest_runs : (r : Result (Option Stop) Outside) (chunk rest : Called) (args : ℕ → ℕ → ℕ → ℕ → ℕ → ℕ) (words : ℕ → ℕ → ℕ → ℕ) (lanes one n count left : ℕ) (fast : Bool) (stop : Option Stop) (a b d : Outer) →
    fast ≡ true → count ≡ n / lanes → left ≡ n % lanes → one ≡ 1 → words ≡ args one (n / lanes * lanes) → is_some stop ≡ false →
    Leads Ran a b (λ mem. calls_in_turn chunk (args lanes 0) lanes count 0 mem) (λ mem. record { stop = stop; mem = mem }) →
    RunsCalls r b d (λ mem. calls_in_turn rest words one left 0 mem) →
    RunsCalls r a d (λ mem. all_calls chunk rest args lanes fast n mem)
rest_runs r chunk rest args words lanes one n count left fast (Some x) a b d f e h o g none p q = absurd (false≢true (sym none))
rest_runs r chunk rest args words lanes one n count left fast None a b d f e h o g none p q =
    calls_as r a d (λ mem. then_rest (calls_in_turn chunk (args lanes 0) lanes count 0 mem)) (λ mem. all_calls chunk rest args lanes fast n mem)
    (λ mem. chunked chunk rest args lanes n count fast mem f e)
    (by r (calls_as r b d (λ mem. calls_in_turn rest words one left 0 mem) next
    (λ mem. ap (λ i. calls_in_turn rest (args i (n / lanes * lanes)) i (n % lanes) 0 mem) (sym o) ∙ (ap (λ (w : ℕ → ℕ → ℕ → ℕ). calls_in_turn rest w one (n % lanes) 0 mem) (sym g) ∙ ap (λ i. calls_in_turn rest words one i 0 mem) (sym h))) q))
  where
    next : Memory → Ran
    next m = calls_in_turn rest (args 1 (n / lanes * lanes)) 1 (n % lanes) 0 m

    then_rest : Ran → Ran
    then_rest r = then_calls r (λ m. calls_in_turn rest (args 1 (n / lanes * lanes)) 1 (n % lanes) 0 m)

    first : Leads Ran a b (λ mem. then_rest (calls_in_turn chunk (args lanes 0) lanes count 0 mem)) next
    first = leads_map Ran Ran a b (λ mem. calls_in_turn chunk (args lanes 0) lanes count 0 mem) (λ mem. record { stop = None; mem = mem }) then_rest p

    by : (r : Result (Option Stop) Outside) → RunsCalls r b d next → RunsCalls r a d (λ mem. then_rest (calls_in_turn chunk (args lanes 0) lanes count 0 mem))
    by (Ok stop) k = leads_then Ran a b d (λ mem. then_rest (calls_in_turn chunk (args lanes 0) lanes count 0 mem)) next (λ mem. record { stop = stop; mem = mem }) first k
    by (Err fault) k = breaks_after Ran (λ r. r.mem) a b d fault (λ mem. then_rest (calls_in_turn chunk (args lanes 0) lanes count 0 mem)) next (λ mem. (next mem).mem) first k (λ mem. grows_same (next mem).mem)

-- ---- for how many iterations the calls are

one_each : (n : ℕ) → n * 1 ≡ n
one_each n = omega arith

pub slow_asked : (lanes n k most turns : ℕ) → lanes ≡ 1 → most ≡ min n turns → n ≡ k → 0 + most * lanes ≤ k
slow_asked lanes n k most turns o m e = subst (λ l. 0 + most * l ≤ k) (sym o) (omega (arith, m, e))

pub chunk_asked : (lanes d n most turns : ℕ) → d ≡ lanes → most ≡ min n turns → 0 + most / d * lanes ≤ n
chunk_asked lanes d n most turns e m = subst (λ l. 0 + most / d * l ≤ n) e (at_most (most / d * d) (div-mul-le_self most d))
  where
    at_most : (x : ℕ) → x ≤ most → 0 + x ≤ n
    at_most x h = omega (arith, h, m)

pub rest_asked : (lanes one n k most turns : ℕ) → one ≡ 1 → most ≡ min n turns → n ≡ k → most / lanes * lanes + most % lanes * one ≤ k
rest_asked lanes one n k most turns o m e =
    subst (λ l. most / lanes * lanes + most % lanes * l ≤ k) (sym o) (subst (λ y. most / lanes * lanes + y ≤ k) (sym (one_each (most % lanes)))
    (at_most (most / lanes * lanes) (most % lanes) (div-mul-le_self most lanes) (mod-eq-sub-div-mul most lanes)))
  where
    at_most : (x y : ℕ) → x ≤ most → y ≡ most - x → x + y ≤ k
    at_most x y h f = omega (arith, h, f, m, e)

-- ---- the lane of the loop

-- the world after the calls
abbrev ended : (ℕ → LaneState) → ℕ → ℕ → Ran → World
ended l n turns r = record { lane = put l 0 (after_calls n turns (l 0) r).lane; mem = (after_calls n turns (l 0) r).mem }

after_lane : (n turns : ℕ) (l : LaneState) (stop : Option Stop) (mem : Memory) → (after_calls n turns l (record { stop = stop; mem = mem })).lane ≡ settled n turns stop l
after_lane n turns l (Some x) mem = refl
after_lane n turns l None mem = refl

after_mem : (n turns : ℕ) (l : LaneState) (r : Ran) → (after_calls n turns l r).mem ≡ r.mem
after_mem n turns l r = by r.stop
  where
    by : (o : Option Stop) → (elim o as (λ _. View) [
      | Some x ↦ record { lane = with_stop l x; mem = r.mem }
      | None ↦ record { lane = cond (nat_lt turns n) (with_stop l Turns) l; mem = r.mem }
    ]).mem ≡ r.mem
    by (Some x) = refl
    by None = refl

abbrev asked_at : Site → Simd → LaneState → ℕ
asked_at s o l = iterations (number_at s.code.routine.regs l o.site.low) (number_at s.code.routine.regs l o.site.high)

-- what a loop's calls make of a memory
abbrev calls_of_loop : Site → Simd → Called → Called → LaneState → ℕ → Memory → Ran
calls_of_loop s o chunk rest l n mem = all_calls chunk rest (body_args s o.site l) o.lanes (guard_holds l o.site.guards) (min n s.turns) mem

simd_is : (s : Site) (m : ℕ) (o : Simd) (chunk rest : Called) (n : ℕ) (l : ℕ → LaneState) (mem : Memory) → is_live m (l 0) ≡ true → s.calls o.chunk ≡ chunk → s.calls o.rest ≡ rest → n ≡ asked_at s o (l 0) →
    runs_simd s m (Some o) (world l mem) ≡ ended l n s.turns (calls_of_loop s o chunk rest (l 0) n mem)
simd_is s m o chunk rest n l mem live c r e =
    ap (λ t. in_world (cond t (simd_in s o (record { lane = l 0; mem = mem })) (record { lane = l 0; mem = mem }))) live
    ∙ (ap (λ f. ended l (asked_at s o (l 0)) s.turns (calls_of_loop s o f (s.calls o.rest) (l 0) (asked_at s o (l 0)) mem)) c
    ∙ (ap (λ f. ended l (asked_at s o (l 0)) s.turns (calls_of_loop s o chunk f (l 0) (asked_at s o (l 0)) mem)) r
    ∙ ap (λ i. ended l i s.turns (calls_of_loop s o chunk rest (l 0) i mem)) (sym e)))
  where
    in_world : View → World
    in_world v = record { lane = put l 0 v.lane; mem = v.mem }

-- the loop of a site, where lane 0 is live: its calls, and then the lane after them
module _ (s : Site) (m k : ℕ) (o : Simd) (chunk rest : Called) (n : ℕ) (l : ℕ → LaneState) (live : is_live m (l 0) ≡ true) (found : simd_of s k ≡ Some o) (c : s.calls o.chunk ≡ chunk) (r : s.calls o.rest ≡ rest) (e : n ≡ asked_at s o (l 0)) where
  loop_is : (mem : Memory) → runs_simd s m (simd_of s k) (world l mem) ≡ ended l n s.turns (calls_of_loop s o chunk rest (l 0) n mem)
  loop_is mem = ap (λ x. runs_simd s m x (world l mem)) found ∙ simd_is s m o chunk rest n l mem live c r e

  pub loop_goes : (l1 : ℕ → LaneState) (a b : Outer) (stop : Option Stop) → Leads Ran a b (λ mem. calls_of_loop s o chunk rest (l 0) n mem) (λ mem. record { stop = stop; mem = mem }) → l1 ≡ put l 0 (settled n s.turns stop (l 0)) →
      Goes l l1 a b (runs_simd s m (simd_of s k))
  loop_goes l1 a b stop p last =
      leads_as World a b (λ mem. ended l n s.turns (calls_of_loop s o chunk rest (l 0) n mem)) (λ mem. ended l n s.turns (record { stop = stop; mem = mem })) (λ mem. runs_simd s m (simd_of s k) (world l mem)) (λ mem. world l1 mem)
      loop_is
      (λ mem. (λ i. record { lane = put l 0 (after_lane n s.turns (l 0) stop mem i); mem = after_mem n s.turns (l 0) (record { stop = stop; mem = mem }) i }) ∙ ap (λ f. world f mem) (sym last))
      (leads_map Ran World a b (λ mem. calls_of_loop s o chunk rest (l 0) n mem) (λ mem. record { stop = stop; mem = mem }) (ended l n s.turns) p)

  pub loop_breaks : (a b : Outer) (fault : Outside) → Breaks a b fault (λ mem. (calls_of_loop s o chunk rest (l 0) n mem).mem) → Breaks a b fault (λ mem. (runs_simd s m (simd_of s k) (world l mem)).mem)
  loop_breaks a b fault p =
      breaks_as a b fault (λ mem. (calls_of_loop s o chunk rest (l 0) n mem).mem) (λ mem. (runs_simd s m (simd_of s k) (world l mem)).mem)
      (λ mem. ap (λ (w : World). w.mem) (loop_is mem) ∙ after_mem n s.turns (l 0) (calls_of_loop s o chunk rest (l 0) n mem)) p

-- where lane 0 is not live, nothing happens
pub loop_none : (s : Site) (m : ℕ) (o : Option Simd) (w : World) → is_live m (w.lane 0) ≡ false → runs_simd s m o w ≡ w
loop_none s m None w dead = refl
loop_none s m (Some o) w dead =
    ap (λ t. in_world (cond t (simd_in s o (record { lane = w.lane 0; mem = w.mem })) (record { lane = w.lane 0; mem = w.mem }))) dead
    ∙ ap (λ f. world f w.mem) (put_self w.lane 0)
  where
    in_world : View → World
    in_world v = record { lane = put w.lane 0 v.lane; mem = v.mem }
