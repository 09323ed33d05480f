-- What an entry does hangs on the entries that it calls alone: where its calls are at most so many deep, more depth changes nothing.
use Rattle.std.proofs.Common.{◌≡◌, ℕ, zero, suc, ◌-◌, ◌≤◌, ◌&&◌, ◌==◌, Bool, true, cond, min, List, [], ◌∷◌, length, slice_get, Option, Some, None, refl, subst, ap, arith, ◌∙◌}
use Rattle.std.specs.List.{list_all}
use Rattle.std.specs.Option.{option_map, option_and_then}
use Rattle.vk_code.specs.declared.instruction.Instr.{Instr}
use Rattle.vk_code.specs.declared.instruction.Operation.{Operation}
use Rattle.vk_code.specs.declared.instruction.Operation.TheVariants.{Call, SimdLoop}
use Rattle.vk_code.specs.Instruction.{block_of, operation_of}
use Rattle.vk_code.specs.Listing.{CallSite, Listing, SimdSite}
use Rattle.vk_code.specs.Tests.{holds}
use Rattle.vk_object.specs.declared.tables.LoopTargets.{LoopTargets}
use Rattle.vk_object.specs.Images.{calls_within, code_of, is_within}
use Rattle.vk_object.specs.Lane.{is_live, number_at}
use Rattle.vk_object.specs.Machine.{World, Called, Site, in_lane, sweep, call_all, call_one, Target, target_of, calls_target, Simd, simd_of, iterations, after_calls, all_calls, body_args, guard_holds, runs_simd, performs, performs_some, again, run, enters, first_lane, word_in, enters_some, site_at, entry_at}
use Rattle.vk_object.specs.Memory.{Memory, Calls, logged}
use Rattle.vk_object.specs.Tables.{EntryLists, Tables}
use Rattle.vk_joins_laws.proofs.Lists.{both_first, both_second}

abbrev pub with_calls : Site → (ℕ → Called) → Site
with_calls s f = record { arrays = s.arrays; entry = s.entry; code = s.code; entries = s.entries; calls = f; turns = s.turns }

-- two ways to do the calls that are the same on what the entry calls
pub record SameCalls (x : EntryLists) (f g : ℕ → Called) : Type 0 where
  pub targets : (k n : ℕ) → slice_get x.targets k ≡ Some n → f n ≡ g n
  pub chunks : (k : ℕ) (t : LoopTargets) → slice_get x.loops k ≡ Some t → f t.chunk ≡ g t.chunk
  pub rests : (k : ℕ) (t : LoopTargets) → slice_get x.loops k ≡ Some t → f t.rest ≡ g t.rest

-- ---- one call

target_at : (s : Site) (k : ℕ) (slot : Option CallSite) (n : Option ℕ) (t : Target) →
    option_and_then (λ slot. option_and_then (λ n. option_map (λ e. let v : Target = record { slot = slot; number = n; entry = e } in v) (slice_get s.entries n)) n) slot ≡ Some t → n ≡ Some t.number
target_at s k None n t h = cc
target_at s k (Some slot) None t h = cc
target_at s k (Some slot) (Some n) t h = found (slice_get s.entries n) h
  where
    found : (o : Option EntryLists) → option_map (λ e. let v : Target = record { slot = slot; number = n; entry = e } in v) o ≡ Some t → Some n ≡ Some t.number
    found None h = cc
    found (Some e) h = ap (option_map (λ (v : Target). v.number)) h

same_target : (s : Site) (f g : ℕ → Called) → SameCalls s.entry f g → (m k : ℕ) (o : Option Target) → target_of s k ≡ o → (w : World) →
    calls_target (with_calls s f) m o w ≡ calls_target (with_calls s g) m o w
same_target s f g h m k None e w = refl
same_target s f g h m k (Some t) e w =
    let p = h.targets k t.number (target_at s k (slice_get s.code.routine.slots k) (slice_get s.entry.targets k) t e) in
    λ i. cond (t.entry.lanes == 1) (sweep s.entry.lanes (call_one m t.slot (p i)) w) (call_all s m t.slot t.entry (p i) w)

-- ---- one simd loop

simd_at : (s : Site) (site : Option SimdSite) (t : Option LoopTargets) (l : Simd) →
    option_and_then (λ (l : SimdSite). option_and_then (λ (t : LoopTargets). option_map (λ (e : EntryLists). let v : Simd = record { site = l; chunk = t.chunk; rest = t.rest; lanes = e.lanes } in v) (slice_get s.entries t.chunk)) t) site ≡ Some l →
    (u : LoopTargets) × (t ≡ Some u) × (u.chunk ≡ l.chunk) × (u.rest ≡ l.rest)
simd_at s None t l h = cc
simd_at s (Some site) None l h = cc
simd_at s (Some site) (Some t) l h = found (slice_get s.entries t.chunk) h
  where
    found : (o : Option EntryLists) → option_map (λ (e : EntryLists). let v : Simd = record { site = site; chunk = t.chunk; rest = t.rest; lanes = e.lanes } in v) o ≡ Some l →
        (u : LoopTargets) × (Some t ≡ Some u) × (u.chunk ≡ l.chunk) × (u.rest ≡ l.rest)
    found None h = cc
    found (Some e) h = (t, refl, cc, cc)

same_simd : (s : Site) (f g : ℕ → Called) → SameCalls s.entry f g → (m k : ℕ) (o : Option Simd) → simd_of s k ≡ o → (w : World) →
    runs_simd (with_calls s f) m o w ≡ runs_simd (with_calls s g) m o w
same_simd s f g h m k None e w = refl
same_simd s f g h m k (Some l) e w =
    let x = simd_at s (slice_get s.code.loops k) (slice_get s.entry.loops k) l e in
    same (subst (λ n. f n ≡ g n) x.2 (h.chunks k x.0 x.1)) (subst (λ n. f n ≡ g n) x.3 (h.rests k x.0 x.1))
  where
    same : f l.chunk ≡ g l.chunk → f l.rest ≡ g l.rest → runs_simd (with_calls s f) m (Some l) w ≡ runs_simd (with_calls s g) m (Some l) w
    same p q = λ i. in_lane (λ j v. cond (is_live m v.lane) (
        let n : ℕ = iterations (number_at s.code.routine.regs v.lane l.site.low) (number_at s.code.routine.regs v.lane l.site.high) in
        after_calls n s.turns v.lane (all_calls (p i) (q i) (body_args s l.site v.lane) l.lanes (guard_holds v.lane l.site.guards) (min n s.turns) v.mem)) v) 0 w

-- ---- code

same_performs : (s : Site) (f g : ℕ → Called) → SameCalls s.entry f g → (m : ℕ) (o : Operation) (w : World) → performs (with_calls s f) m o w ≡ performs (with_calls s g) m o w
same_performs s f g h m (Call k) w = same_target s f g h m k (target_of s k) refl w
same_performs s f g h m (SimdLoop k) w = same_simd s f g h m k (simd_of s k) refl w
same_performs s f g h m o w = refl

same_some : (s : Site) (f g : ℕ → Called) → SameCalls s.entry f g → (m : ℕ) (o : Option Operation) (w : World) → performs_some (with_calls s f) m o w ≡ performs_some (with_calls s g) m o w
same_some s f g h m None w = refl
same_some s f g h m (Some o) w = same_performs s f g h m o w

abbrev Same : Site → (f g : ℕ → Called) → List Instr → Type 0
Same s f g is = (skip count : ℕ) (w : World) → run (with_calls s f) is skip count w ≡ run (with_calls s g) is skip count w

same_step : (s : Site) (f g : ℕ → Called) → SameCalls s.entry f g → (i : Instr) (is : List Instr) → Same s f g is → (n : ℕ) (w : World) (o : Option ℕ) →
    (elim o as (λ _. World) [ None ↦ run (with_calls s f) is zero n (performs_some (with_calls s f) i.m (operation_of i) w) | Some x ↦ run (with_calls s f) is x (n - x) (again s.entry.lanes i.m (λ v. run (with_calls s f) is zero x v) s.turns w) ]) ≡
    (elim o as (λ _. World) [ None ↦ run (with_calls s g) is zero n (performs_some (with_calls s g) i.m (operation_of i) w) | Some x ↦ run (with_calls s g) is x (n - x) (again s.entry.lanes i.m (λ v. run (with_calls s g) is zero x v) s.turns w) ])
same_step s f g h i is same n w None = ap (run (with_calls s f) is zero n) (same_some s f g h i.m (operation_of i) w) ∙ same zero n (performs_some (with_calls s g) i.m (operation_of i) w)
same_step s f g h i is same n w (Some x) =
    ap (run (with_calls s f) is x (n - x)) (λ j. again s.entry.lanes i.m (λ v. same zero x v j) s.turns w) ∙ same x (n - x) (again s.entry.lanes i.m (λ v. run (with_calls s g) is zero x v) s.turns w)

same_run : (s : Site) (f g : ℕ → Called) → SameCalls s.entry f g → (is : List Instr) → Same s f g is
same_run s f g h [] skip count w = refl
same_run s f g h (i ∷ is) (suc skip) count w = same_run s f g h is skip count w
same_run s f g h (i ∷ is) zero zero w = refl
same_run s f g h (i ∷ is) zero (suc n) w = same_step s f g h i is (λ skip count v. same_run s f g h is skip count v) n w (block_of i)

-- ---- entries

same_enters : (e : ℕ) (s : Site) (f g : ℕ → Called) → SameCalls s.entry f g → enters e (with_calls s f) ≡ enters e (with_calls s g)
same_enters e s f g h = λ i on args mem.
    (let w : World = same_run s f g h s.code.routine.instrs zero (length s.code.routine.instrs) (first_world on args mem) i in
    record { value = λ j. word_in s.code.routine.result (w.lane j); stop = λ j. (w.lane j).stop; mem = w.mem })
  where
    first_world : (ℕ → Bool) → (ℕ → ℕ → ℕ) → Memory → World
    first_world on args mem = record { lane = first_lane s.entry.lanes s.code.routine.params args on; mem = logged (Calls e) mem }

all_at : (p : ℕ → Bool) (xs : List ℕ) (k n : ℕ) → list_all p xs ≡ true → slice_get xs k ≡ Some n → p n ≡ true
all_at p [] zero n h e = cc
all_at p [] (suc k) n h e = cc
all_at p (x ∷ xs) zero n h e = subst (λ y. p y ≡ true) (some_same x n e) (both_first (p x) (list_all p xs) h)
  where
    some_same : (a b : ℕ) → slice_get (a ∷ xs) 0 ≡ Some b → a ≡ b
    some_same a b k = cc
all_at p (x ∷ xs) (suc k) n h e = all_at p xs k n (both_second (p x) (list_all p xs) h) e

abbrev both_within : (ℕ → Bool) → LoopTargets → Bool
both_within p t = p t.chunk && p t.rest

abbrev BothWithin : (ℕ → Bool) → LoopTargets → Type 0
BothWithin p t = (p t.chunk ≡ true) × (p t.rest ≡ true)

all_loops_at : (p : ℕ → Bool) (xs : List LoopTargets) (k : ℕ) (t : LoopTargets) → list_all (both_within p) xs ≡ true → slice_get xs k ≡ Some t → BothWithin p t
all_loops_at p [] zero t h e = cc
all_loops_at p [] (suc k) t h e = cc
all_loops_at p (x ∷ xs) zero t h e = subst (BothWithin p) (some_same x t e) (both_first (p x.chunk) (p x.rest) (both_first (p x.chunk && p x.rest) (list_all (both_within p) xs) h), both_second (p x.chunk) (p x.rest) (both_first (p x.chunk && p x.rest) (list_all (both_within p) xs) h))
  where
    some_same : (a b : LoopTargets) → slice_get (a ∷ xs) 0 ≡ Some b → a ≡ b
    some_same a b k = cc
all_loops_at p (x ∷ xs) (suc k) t h e = all_loops_at p xs k t (both_second (p x.chunk && p x.rest) (list_all (both_within p) xs) h) e

-- what an entry calls is the same with more levels
same_below : (image : Tables) (turns d d' : ℕ) (x : EntryLists) → ((e : ℕ) → is_within image d e ≡ true → entry_at image turns d e ≡ entry_at image turns d' e) → calls_within (is_within image d) x ≡ true →
    SameCalls x (entry_at image turns d) (entry_at image turns d')
same_below image turns d d' x same h = record {
  targets = λ k n e. same n (all_at (is_within image d) x.targets k n (both_first (list_all (is_within image d) x.targets) (list_all (both_within (is_within image d)) x.loops) h) e);
  chunks = λ k t e. same t.chunk ((all_loops_at (is_within image d) x.loops k t (both_second (list_all (is_within image d) x.targets) (list_all (both_within (is_within image d)) x.loops) h) e).0);
  rests = λ k t e. same t.rest ((all_loops_at (is_within image d) x.loops k t (both_second (list_all (is_within image d) x.targets) (list_all (both_within (is_within image d)) x.loops) h) e).1);
}

same_code : (image : Tables) (turns d d' e : ℕ) (x : EntryLists) (c : Option Listing) → SameCalls x (entry_at image turns d) (entry_at image turns d') →
    enters_some e (option_map (site_at image turns (entry_at image turns d) x) c) ≡ enters_some e (option_map (site_at image turns (entry_at image turns d') x) c)
same_code image turns d d' e x None h = refl
same_code image turns d d' e x (Some c) h = same_enters e (site_at image turns (entry_at image turns d) x c) (entry_at image turns d) (entry_at image turns d') h

same_entry : (image : Tables) (turns d d' e : ℕ) (o : Option EntryLists) → ((n : ℕ) → is_within image d n ≡ true → entry_at image turns d n ≡ entry_at image turns d' n) → holds (calls_within (is_within image d)) o ≡ true →
    enters_some e (option_and_then (λ (x : EntryLists). option_map (site_at image turns (entry_at image turns d) x) (code_of image x)) o) ≡
    enters_some e (option_and_then (λ (x : EntryLists). option_map (site_at image turns (entry_at image turns d') x) (code_of image x)) o)
same_entry image turns d d' e None same h = cc
same_entry image turns d d' e (Some x) same h = same_code image turns d d' e x (code_of image x) (same_below image turns d d' x same h)

-- with more levels an entry does the same
pub deeper : (image : Tables) (turns d d' e : ℕ) → d ≤ d' → is_within image d e ≡ true → entry_at image turns d e ≡ entry_at image turns d' e
deeper image turns zero d' e l h = cc
deeper image turns (suc d) zero e l h = absurd (omega arith)
deeper image turns (suc d) (suc d') e l h = same_entry image turns d d' e (slice_get image.entries e) (λ n k. deeper image turns d d' n (omega arith) k) h
