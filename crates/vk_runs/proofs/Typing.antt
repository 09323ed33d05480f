-- Registers keep words of their types while the code of an image runs.
use Rattle.std.proofs.Common.{◌≡◌, ℕ, zero, suc, ◌+◌, ◌-◌, ◌^◌, ◌<◌, ◌≤◌, ◌==◌, nat_le, nat_lt, min, Bool, true, false, ◌&&◌, cond, ℤ, List, [], ◌∷◌, ◌++◌, length, Option, Some, None, refl, ap, sym, subst, ◌∙◌, arith}
use Rattle.std.proofs.lemmas.Bool.{eqb-true, false≢true, ltb-true}
use Rattle.std.proofs.lemmas.List.Folds.{list_all-append}
use Rattle.std.specs.Option.{option_and_then, option_map}
use Rattle.std.specs.Prelude.{slice_get}
use Rattle.vk_types.specs.declared.types.Stop.{Stop}
use Rattle.vk_types.specs.declared.types.Stop.TheVariants.{Turns}
use Rattle.vk_kinds.specs.declared.heads.CType.{CType}
use Rattle.vk_kinds.specs.declared.heads.CType.TheVariants.{Void, Int, Ptr}
use Rattle.vk_kinds.specs.declared.kinds.Kind.{Kind}
use Rattle.vk_kinds.specs.declared.kinds.Kind.TheVariants.{Vector, Uniform, Linear, Ref, Val, Uval}
use Rattle.vk_types.specs.Formats.{type_number}
use Rattle.vk_code.specs.declared.instruction.Instr.{Instr}
use Rattle.vk_code.specs.declared.instruction.Operation.{Operation}
use Rattle.vk_code.specs.declared.instruction.Operation.TheVariants.{Call, SimdLoop}
use Rattle.vk_code.specs.Instruction.{block_of, operation_of}
use Rattle.vk_code.specs.Listing.{CallSite, Listing, number_of_some, reg_type}
use Rattle.vk_code.specs.Tests.{all_good, holds}
use Rattle.vk_code.specs.Valid.{Environment, instr_verdicts, is_good_instr, is_typed, result_type}
use Rattle.vk_code.proofs.Faults.{and_left, and_right}
use Rattle.vk_object.specs.Images.{arg_types, code_of, is_call, is_equal, is_image, names_of, param_types, result_of}
use Rattle.vk_code.specs.Tests.{pairs}
use Rattle.vk_object.specs.Tables.{EntryLists, Tables}
use Rattle.vk_object.specs.Memory.{Calls, Memory, logged}
use Rattle.vk_object.specs.Lane.{LaneState, View, acts, is_live, number_at, with_stop}
use Rattle.vk_object.specs.Machine.{Called, Given, Ran, Simd, Site, Target, World, again, all_calls, all_out_of_turns, any_live, arg_reg, body_args, call_all, call_one, calls_target, enters, enters_some, entry_at, first_lane, first_live, guard_holds, iterations, kind_at, lane_args, moved_by, passed, performs, performs_some, run, runs, runs_simd, simd_in, simd_of, site_at, site_of, sweep, takes, target_of, word_in}
use Rattle.vk_runs.specs.Words.{AreArguments, HasWords, HaveWords, IsWordOf}
use Rattle.vk_runs.proofs.Operators.{HasOperator, HasSomeOperator, has_operator}
use Rattle.vk_runs.proofs.Reached.{IsTarget, carried, code_good, lanes_few, pairs_at, slots_linked, target_types}
use Rattle.vk_runs.proofs.Typed.{acts_words, view_words}
use Rattle.vk_runs.proofs.Words.{at_number, canonical_wrap, no_integer, put_word, zero_word}

lane_words : (regs : List CType) (a b : LaneState) (t : Bool) → HasWords regs a → HasWords regs b → HasWords regs (cond t a b)
lane_words regs a b true h k = h
lane_words regs a b false h k = k

world_words : (regs : List CType) (a b : World) (t : Bool) → HaveWords regs a → HaveWords regs b → HaveWords regs (cond t a b)
world_words regs a b true h k = h
world_words regs a b false h k = k

sweep_words : (regs : List CType) (n : ℕ) (step : ℕ → View → View) → ((j : ℕ) (v : View) → j < n → HasWords regs v.lane → HasWords regs (step j v).lane) → (w : World) → HaveWords regs w → HaveWords regs (sweep n step w)
sweep_words regs zero step h w k j = k j
sweep_words regs (suc n) step h w k j =
    let u : World = sweep n step w in
    let before : HaveWords regs u = sweep_words regs n step (λ i v l. h i v (omega (arith, l))) w k in
    lane_words regs (step n (record { lane = u.lane n; mem = u.mem })).lane (u.lane j) (j == n) (h n (record { lane = u.lane n; mem = u.mem }) (omega arith) (before n)) (before j)

-- ---- calls

-- what entries give is of their result's type, where their arguments are of their parameters' types
abbrev pub GiveWords : Tables → (ℕ → Called) → Type 0
GiveWords image calls = (n : ℕ) (x : EntryLists) (c : Listing) → slice_get image.entries n ≡ Some x → code_of image x ≡ Some c →
    (on : ℕ → Bool) (args : ℕ → ℕ → ℕ) (mem : Memory) → AreArguments x.lanes c args → (j : ℕ) → IsWordOf (result_of c) ((calls n on args mem).value j)

moved_word : (o : Option CType) (w : ℕ) (z : ℤ) → IsWordOf (number_of_some o) w → IsWordOf (number_of_some o) (moved_by o w z)
moved_word None w z h = h
moved_word (Some Void) w z h = h
moved_word (Some (Int t)) w z h = at_number (type_number t) t _ refl (canonical_wrap t _)
moved_word (Some (Ptr t true)) w z h = no_integer (8 + type_number t) _ (omega arith)
moved_word (Some (Ptr t false)) w z h = no_integer (16 + type_number t) _ (omega arith)

passed_word : (o : Option CType) (number : ℕ → ℤ) (kind : Kind) (word : ℕ → ℕ) (k i : ℕ) → ((j : ℕ) → IsWordOf (number_of_some o) (word j)) → IsWordOf (number_of_some o) (passed o number kind word k i)
passed_word o number Vector word k i h = h i
passed_word o number Uniform word k i h = h k
passed_word o number (Linear step) word k i h = moved_word o (word k) _ (h k)
passed_word o number (Ref step) word k i h = h i
passed_word o number (Val step) word k i h = h i
passed_word o number (Uval step) word k i h = h i

taken_words : (regs : List CType) (result : Option ℕ) (l : LaneState) (w : ℕ) (o : Option Stop) → HasWords regs l → IsWordOf (result_type regs result) w → HasWords regs (takes result l w o)
taken_words regs result l w (Some x) h k = h
taken_words regs None l w None h k = h
taken_words regs (Some r) l w None h k = put_word regs l r w h k

module _ (image : Tables) (turns : ℕ) (calls : ℕ → Called) (given : GiveWords image calls) (x : EntryLists) (c : Listing) where
  abbrev site : Site
  site = site_at image turns calls x c

  abbrev regs : List CType
  regs = c.routine.regs

  call_words : (m : ℕ) (t : Target) → slice_get image.entries t.number ≡ Some t.entry → IsTarget image c t.slot t.entry → (w : World) → HaveWords regs w → HaveWords regs (calls_target site m (Some t) w)
  call_words m t found is w h =
      let callee : Listing = is.code in
      let same : pairs is_equal (arg_types c t.slot) (param_types callee) ≡ true = and_left (pairs is_equal (arg_types c t.slot) (param_types callee)) (result_type regs t.slot.result == result_of callee) is.types in
      let result : result_type regs t.slot.result ≡ result_of callee = eqb-true (result_type regs t.slot.result) (result_of callee) (and_right (pairs is_equal (arg_types c t.slot) (param_types callee)) (result_type regs t.slot.result == result_of callee) is.types) in
      let back : (n : ℕ) → IsWordOf (result_of callee) n → IsWordOf (result_type regs t.slot.result) n = λ n k. subst (λ r. IsWordOf r n) (sym result) k in
      let all : Given = calls t.number (λ j. is_live m (w.lane j)) (lane_args site t.slot t.entry w.lane (first_live x.lanes m w.lane)) w.mem in
      world_words regs (sweep x.lanes (call_one m t.slot (calls t.number)) w) (call_all site m t.slot t.entry (calls t.number) w) (t.entry.lanes == 1)
      (sweep_words regs x.lanes (call_one m t.slot (calls t.number))
      (λ j v l k.
      let one : Given = calls t.number (λ i. i == 0) (λ p i. v.lane.reg (arg_reg t.slot p)) v.mem in
      view_words regs (record { lane = takes t.slot.result v.lane (one.value 0) (one.stop 0); mem = one.mem }) v (is_live m v.lane)
      (taken_words regs t.slot.result v.lane (one.value 0) (one.stop 0) k
      (back (one.value 0) (given t.number t.entry callee found is.found (λ i. i == 0) (λ p i. v.lane.reg (arg_reg t.slot p)) v.mem
      (λ p i below in_lanes. carried regs callee.routine.regs t.slot.args callee.routine.params same p below (v.lane.reg (arg_reg t.slot p)) (k (arg_reg t.slot p))) 0)))
      k)
      w h)
      (world_words regs (record { lane = λ j. cond (is_live m (w.lane j)) (takes t.slot.result (w.lane j) (all.value j) (all.stop j)) (w.lane j); mem = all.mem }) w (any_live x.lanes m w.lane)
      (λ j. lane_words regs (takes t.slot.result (w.lane j) (all.value j) (all.stop j)) (w.lane j) (is_live m (w.lane j))
      (taken_words regs t.slot.result (w.lane j) (all.value j) (all.stop j) (h j)
      (back (all.value j) (given t.number t.entry callee found is.found (λ i. is_live m (w.lane i)) (lane_args site t.slot t.entry w.lane (first_live x.lanes m w.lane)) w.mem
      (λ p i below in_lanes. carried regs callee.routine.regs t.slot.args callee.routine.params same p below _
      (passed_word (slice_get regs (arg_reg t.slot p)) _ (kind_at t.entry p) (λ n. (w.lane n).reg (arg_reg t.slot p)) (first_live x.lanes m w.lane) i (λ n. h n (arg_reg t.slot p)))) j)))
      (h j))
      h)

  some_call_words : (m : ℕ) (slot : CallSite) (n : ℕ) → is_call image x c slot n ≡ true → (o : Option EntryLists) → slice_get image.entries n ≡ o → (w : World) → HaveWords regs w →
      HaveWords regs (calls_target site m (option_map (λ e. record { slot = slot; number = n; entry = e }) o) w)
  some_call_words m slot n good None found w h = h
  some_call_words m slot n good (Some e) found w h = call_words m (record { slot = slot; number = n; entry = e }) found (target_types image x c slot n e good found) w h

  slot_words : (m k : ℕ) → pairs (is_call image x c) c.routine.slots x.targets ≡ true → (o : Option CallSite) → slice_get c.routine.slots k ≡ o → (p : Option ℕ) → slice_get x.targets k ≡ p → (w : World) → HaveWords regs w →
      HaveWords regs (calls_target site m (option_and_then (λ slot. option_and_then (λ n. option_map (λ e. record { slot = slot; number = n; entry = e }) (slice_get image.entries n)) p) o) w)
  slot_words m k linked None e p f w h = h
  slot_words m k linked (Some slot) e None f w h = h
  slot_words m k linked (Some slot) e (Some n) f w h = some_call_words m slot n (pairs_at (is_call image x c) c.routine.slots x.targets linked k slot n e f) (slice_get image.entries n) refl w h

  -- ---- simd loops

  after_words : (n : ℕ) (lane : LaneState) (r : Ran) (o : Option Stop) → HasWords regs lane → HasWords regs (elim o as (λ _. View) [
    | Some y ↦ record { lane = with_stop lane y; mem = r.mem }
    | None ↦ record { lane = cond (nat_lt turns n) (with_stop lane Turns) lane; mem = r.mem }
  ]).lane
  after_words n lane r None h = lane_words regs (with_stop lane Turns) lane (nat_lt turns n) h h
  after_words n lane r (Some y) h = h

  simd_words : (m : ℕ) (o : Option Simd) (w : World) → HaveWords regs w → HaveWords regs (runs_simd site m o w)
  simd_words m None w h = h
  simd_words m (Some l) w h = sweep_words regs 1 (λ j v. cond (is_live m v.lane) (simd_in site l v) v)
      (λ j v below k.
      let n : ℕ = iterations (number_at regs v.lane l.site.low) (number_at regs v.lane l.site.high) in
      let r : Ran = all_calls (calls l.chunk) (calls l.rest) (body_args site l.site v.lane) l.lanes (guard_holds v.lane l.site.guards) (min n turns) v.mem in
      view_words regs (simd_in site l v) v (is_live m v.lane) (after_words n v.lane r r.stop k) k) w h

  -- ---- code

  module _ (linked : pairs (is_call image x c) c.routine.slots x.targets ≡ true) (few : x.lanes ≤ 256) where
    operation_words : (m : ℕ) (o : Operation) → HasOperator o → is_typed (names_of image) c.routine o ≡ true → (w : World) → HaveWords regs w → HaveWords regs (performs site m o w)
    operation_words m (Call k) p t w h = slot_words m k linked (slice_get c.routine.slots k) refl (slice_get x.targets k) refl w h
    operation_words m (SimdLoop k) p t w h = simd_words m (simd_of site k) w h
    operation_words m o p t w h = sweep_words regs x.lanes (λ j v. acts site.arrays regs m j o v)
        (λ j v below k. acts_words (names_of image) c.routine site.arrays m j o v (omega (arith, below, few)) p t k) w h

    some_words : (m : ℕ) (o : Option Operation) → HasSomeOperator o → holds (is_typed (names_of image) c.routine) o ≡ true → (w : World) → HaveWords regs w → HaveWords regs (performs_some site m o w)
    some_words m None p t w h = h
    some_words m (Some o) p t w h = operation_words m o p t w h

    again_words : (m : ℕ) (block : World → World) → ((w : World) → HaveWords regs w → HaveWords regs (block w)) → (n : ℕ) (w : World) → HaveWords regs w → HaveWords regs (again x.lanes m block n w)
    again_words m block b zero w h = world_words regs (all_out_of_turns m w) w (any_live x.lanes m w.lane) (λ j. lane_words regs (with_stop (w.lane j) Turns) (w.lane j) (is_live m (w.lane j)) (h j) (h j)) h
    again_words m block b (suc n) w h = world_words regs (again x.lanes m block n (block w)) w (any_live x.lanes m w.lane) (again_words m block b n (block w) (b w h)) h

    -- the instructions after an instruction
    abbrev Later : List Instr → Type 0
    Later is = (room skip count : ℕ) → all_good (instr_verdicts (names_of image) c.routine room is skip count) ≡ true → (w : World) → HaveWords regs w → HaveWords regs (run site is skip count w)

    block_words : (room : ℕ) (i : Instr) (is : List Instr) (n : ℕ) → Later is → (o : Option ℕ) → all_good (elim o as (λ _. List Bool) [
      | None ↦ is_good_instr (names_of image) c.routine i ∷ instr_verdicts (names_of image) c.routine room is zero n
      | Some k ↦ (is_good_instr (names_of image) c.routine i && nat_le k n && nat_lt 0 room) ∷ (instr_verdicts (names_of image) c.routine (room - 1) is zero k ++ instr_verdicts (names_of image) c.routine room is k (n - k))
    ]) ≡ true → (w : World) → HaveWords regs w → HaveWords regs (elim o as (λ _. World) [
      | None ↦ run site is zero n (performs_some site i.m (operation_of i) w)
      | Some k ↦ run site is k (n - k) (again x.lanes i.m (λ v. run site is zero k v) turns w)
    ])
    block_words room i is n later None good w h =
        let here = and_left (is_good_instr (names_of image) c.routine i) (all_good (instr_verdicts (names_of image) c.routine room is zero n)) good in
        later room zero n (and_right (is_good_instr (names_of image) c.routine i) (all_good (instr_verdicts (names_of image) c.routine room is zero n)) good)
        (performs_some site i.m (operation_of i) w)
        (some_words i.m (operation_of i) (has_operator i) (and_right (nat_lt i.m c.routine.masks) (holds (is_typed (names_of image) c.routine) (operation_of i)) here) w h)
    block_words room i is n later (Some k) good w h =
        let head : Bool = is_good_instr (names_of image) c.routine i && nat_le k n && nat_lt 0 room in
        let inner : List Bool = instr_verdicts (names_of image) c.routine (room - 1) is zero k in
        let outer : List Bool = instr_verdicts (names_of image) c.routine room is k (n - k) in
        let both : (all_good inner && all_good outer) ≡ true = sym (list_all-append (λ b. b) inner outer) ∙ and_right head (all_good (inner ++ outer)) good in
        later room k (n - k) (and_right (all_good inner) (all_good outer) both) (again x.lanes i.m (λ v. run site is zero k v) turns w)
        (again_words i.m (λ v. run site is zero k v) (λ v g. later (room - 1) zero k (and_left (all_good inner) (all_good outer) both) v g) turns w h)

    run_words : (is : List Instr) → Later is
    run_words [] room skip count good w h = h
    run_words (i ∷ is) room (suc skip) count good w h = run_words is room skip count good w h
    run_words (i ∷ is) room zero zero good w h = h
    run_words (i ∷ is) room zero (suc n) good w h = block_words room i is n (λ room skip count g v k. run_words is room skip count g v k) (block_of i) good w h

-- ---- entries

first_words : (lanes : ℕ) (c : Listing) (args : ℕ → ℕ → ℕ) (on : ℕ → Bool) → AreArguments lanes c args → (j : ℕ) → HasWords c.routine.regs (first_lane lanes c.routine.params args on j)
first_words lanes c args on h j r = either (nat_lt j lanes) (nat_lt r c.routine.params) (ltb-true j lanes) (ltb-true r c.routine.params)
  where
    either : (a b : Bool) → (a ≡ true → j < lanes) → (b ≡ true → r < c.routine.params) → IsWordOf (reg_type c.routine.regs r) (cond (a && b) (args r j) 0)
    either true true f g = h r j (g refl) (f refl)
    either true false f g = zero_word (reg_type c.routine.regs r)
    either false b f g = zero_word (reg_type c.routine.regs r)

result_word : (types : List CType) (o : Option ℕ) (l : LaneState) → HasWords types l → IsWordOf (result_type types o) (word_in o l)
result_word types None l h = zero_word 255
result_word types (Some r) l h = h r

-- the code of an entry keeps words in its registers
code_words : (image : Tables) → is_image image ≡ true → (turns : ℕ) (calls : ℕ → Called) → GiveWords image calls → (e : ℕ) (x : EntryLists) (c : Listing) → slice_get image.entries e ≡ Some x → code_of image x ≡ Some c →
    (w : World) → HaveWords c.routine.regs w → HaveWords c.routine.regs (run (site_at image turns calls x c) c.routine.instrs zero (length c.routine.instrs) w)
code_words image good turns calls given e x c found code w h =
    run_words image turns calls given x c (slots_linked image good e x c found code) (lanes_few image good e x found) c.routine.instrs 64 zero (length c.routine.instrs) (code_good image good x.code c code) w h

entry_words : (image : Tables) → is_image image ≡ true → (turns depth : ℕ) → GiveWords image (entry_at image turns depth)
entry_words image good turns zero n x c found code on args mem h j = zero_word (result_of c)
entry_words image good turns (suc depth) n x c found code on args mem h j =
    let calls : ℕ → Called = entry_at image turns depth in
    let s : Site = site_at image turns calls x c in
    let start : World = record { lane = first_lane x.lanes c.routine.params args on; mem = logged (Calls n) mem } in
    let entered : HaveWords c.routine.regs (run s c.routine.instrs zero (length c.routine.instrs) start) =
    code_words image good turns calls (entry_words image good turns depth) n x c found code start (first_words x.lanes c args on h) in
    subst (λ (o : Option EntryLists). IsWordOf (result_of c) ((enters_some n (option_and_then (λ (y : EntryLists). option_map (site_at image turns calls y) (code_of image y)) o) on args mem).value j)) (sym found)
    (subst (λ (o : Option Listing). IsWordOf (result_of c) ((enters_some n (option_map (site_at image turns calls x) o) on args mem).value j)) (sym code)
    (result_word c.routine.regs c.routine.result _ (entered j)))

-- while an entry of an image runs, from words of the registers' types on, they stay so
pub words_kept : (image : Tables) → is_image image ≡ true → (turns depth e : ℕ) (x : EntryLists) (c : Listing) → slice_get image.entries e ≡ Some x → code_of image x ≡ Some c →
    (w : World) → HaveWords c.routine.regs w → HaveWords c.routine.regs (run (site_at image turns (entry_at image turns depth) x c) c.routine.instrs zero (length c.routine.instrs) w)
words_kept image good turns depth e x c found code w h = code_words image good turns (entry_at image turns depth) (entry_words image good turns depth) e x c found code w h

-- what an entry gives has its result's type
pub words_given : (image : Tables) → is_image image ≡ true → (turns e : ℕ) (x : EntryLists) (c : Listing) → slice_get image.entries e ≡ Some x → code_of image x ≡ Some c →
    (on : ℕ → Bool) (args : ℕ → ℕ → ℕ) (mem : Memory) → AreArguments x.lanes c args → (j : ℕ) → IsWordOf (result_of c) ((runs image turns e on args mem).value j)
words_given image good turns e x c found code on args mem h j = entry_words image good turns 64 e x c found code on args mem h j
