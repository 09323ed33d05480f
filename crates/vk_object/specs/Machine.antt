-- What the entries of an image do: code at a number of lanes, which calls other entries.
use Rattle.std.specs.Prelude.{ℕ, zero, suc, ◌+◌, ◌-◌, ◌*◌, ◌/◌, ◌%◌, ◌==◌, nat_lt, min, Bool, true, false, not, ◌&&◌, ◌||◌, cond, ℤ, pos, ◌+ℤ◌, ◌-ℤ◌, ◌*ℤ◌, int_div, int_le, unsigned_abs, List, [], ◌∷◌, length, map, Option, Some, None, slice_get}
use Rattle.std.specs.Option.{option_and_then, option_map}
use Rattle.vk_types.specs.declared.types.Stop.{Stop}
use Rattle.vk_types.specs.declared.types.Stop.TheVariants.{Turns}
use Rattle.vk_types.specs.declared.types.Word.{Word}
use Rattle.vk_types.specs.Numbers.{number_of, width_of, word_of, wrap_number}
use Rattle.vk_kinds.specs.declared.heads.CType.{CType}
use Rattle.vk_kinds.specs.declared.heads.CType.TheVariants.{Int, Ptr}
use Rattle.vk_kinds.specs.declared.kinds.Kind.{Kind}
use Rattle.vk_kinds.specs.declared.kinds.Kind.TheVariants.{Vector, Uniform, Linear, Ref, Val, Uval}
use Rattle.vk_kinds.specs.declared.kinds.Step.{Step}
use Rattle.vk_kinds.specs.declared.kinds.Step.TheVariants.{One, By, Arg}
use Rattle.vk_kinds.specs.declared.kinds.Param.{Param}
use Rattle.vk_code.specs.declared.code.Guard.{Guard}
use Rattle.vk_code.specs.declared.code.SlotArg.{SlotArg}
use Rattle.vk_code.specs.declared.instruction.Instr.{Instr}
use Rattle.vk_code.specs.declared.instruction.Operation.{Operation}
use Rattle.vk_code.specs.declared.instruction.Operation.TheVariants.{Call, SimdLoop}
use Rattle.vk_code.specs.Instruction.{block_of, operation_of}
use Rattle.vk_code.specs.Listing.{CallSite, Listing, SimdSite}
use Rattle.vk_object.specs.declared.tables.LoopTargets.{LoopTargets}
use Rattle.vk_object.specs.Images.{code_of}
use Rattle.vk_object.specs.Tables.{ArrayLists, EntryLists, Tables}
use Rattle.vk_object.specs.Memory.{Memory, Calls, Extent, array_of, at_offset, logged, offset_of}
use Rattle.vk_object.specs.Lane.{LaneState, View, acts, is_live, number_at, out_of_turns, with_reg, with_stop}

-- the lanes of a frame, and the memory
pub record World : Type 0 where
  pub lane : ℕ → LaneState
  pub mem : Memory

-- what a call of an entry gives
pub record Given : Type 0 where
  pub value : ℕ → ℕ
  pub stop : ℕ → Option Stop
  pub mem : Memory

-- an entry as a function: of the lanes that are on, of the word of each parameter in each lane, and of the memory
abbrev pub Called : Type 0
Called = (ℕ → Bool) → (ℕ → ℕ → ℕ) → Memory → Given

-- where code runs: the arrays, the entry with its code, the other entries and what they do, and how many turns a loop may make
pub record Site : Type 0 where
  pub arrays : List Extent
  pub entry : EntryLists
  pub code : Listing
  pub entries : List EntryLists
  pub calls : ℕ → Called
  pub turns : ℕ

abbrev pub put : (ℕ → LaneState) → ℕ → LaneState → ℕ → LaneState
put f j l i = cond (i == j) l (f i)

-- a step of one lane
abbrev pub in_lane : (ℕ → View → View) → ℕ → World → World
in_lane step j w =
    let v : View = step j (record { lane = w.lane j; mem = w.mem }) in
    record { lane = put w.lane j v.lane; mem = v.mem }

-- the same in each of the first lanes, in ascending order
abbrev pub sweep : ℕ → (ℕ → View → View) → World → World
sweep zero step w = w
sweep (suc n) step w = in_lane step n (sweep n step w)

-- some lane below n is live in mask m
abbrev pub any_live : ℕ → ℕ → (ℕ → LaneState) → Bool
any_live zero m lane = false
any_live (suc n) m lane = any_live n m lane || is_live m (lane n)

-- the first lane below n that is live in mask m, else n
abbrev pub first_live : ℕ → ℕ → (ℕ → LaneState) → ℕ
first_live zero m lane = 0
first_live (suc n) m lane = cond (any_live n m lane) (first_live n m lane) (cond (is_live m (lane n)) n (n + 1))

-- the register of argument p
abbrev pub reg_of : Option SlotArg → ℕ
reg_of None = 0
reg_of (Some a) = a.reg

abbrev pub arg_reg : CallSite → ℕ → ℕ
arg_reg slot p = reg_of (slice_get slot.args p)

-- the kind of parameter p, which is that of scalar code where none is stated
abbrev pub kind_in : Option Param → Kind
kind_in None = Vector
kind_in (Some p) = p.kind

abbrev pub kind_at : EntryLists → ℕ → Kind
kind_at e p = kind_in (slice_get e.params p)

-- a number of bytes, in elements of a pointer
abbrev pub in_elements : Option CType → ℤ → ℤ
in_elements (Some (Ptr t written)) z = int_div z (pos (width_of t / 8))
in_elements c z = z

-- the step of a linear argument: `number` tells the number of an argument
abbrev pub step_of : Option CType → (ℕ → ℤ) → Step → ℤ
step_of c number One = in_elements c (pos 1)
step_of c number (By n) = in_elements c n
step_of c number (Arg q) = number q

-- a word moved by z: a pointer's offset modulo 2^32, an integer within its type
abbrev pub moved_by : Option CType → ℕ → ℤ → ℕ
moved_by (Some (Ptr t written)) w z = at_offset w (offset_of w +ℤ z)
moved_by (Some (Int t)) w z = word_of (wrap_number t (number_of t w +ℤ z))
moved_by c w z = w

-- the word that lane i gets of an argument, k being the first live lane
abbrev pub passed : Option CType → (ℕ → ℤ) → Kind → (ℕ → ℕ) → ℕ → ℕ → ℕ
passed c number Vector word k i = word i
passed c number Uniform word k i = word k
passed c number (Linear step) word k i = moved_by c (word k) ((pos i -ℤ pos k) *ℤ step_of c number step)
passed c number (Ref step) word k i = word i
passed c number (Val step) word k i = word i
passed c number (Uval step) word k i = word i

-- the words of a call from lanes of which k is the first live one
abbrev pub lane_args : Site → CallSite → EntryLists → (ℕ → LaneState) → ℕ → ℕ → ℕ → ℕ
lane_args s slot e lanes k p i =
    passed (slice_get s.code.routine.regs (arg_reg slot p)) (λ q. number_at s.code.routine.regs (lanes k) (arg_reg slot q)) (kind_at e p) (λ j. (lanes j).reg (arg_reg slot p)) k i

-- what a lane has of a call: the stop, or the result in its register
abbrev pub takes : Option ℕ → LaneState → ℕ → Option Stop → LaneState
takes result l w (Some x) = with_stop l x
takes None l w None = l
takes (Some r) l w None = with_reg l r w

-- one call for all lanes
abbrev pub call_all : Site → ℕ → CallSite → EntryLists → Called → World → World
call_all s m slot e called w =
    let g : Given = called (λ j. is_live m (w.lane j)) (lane_args s slot e w.lane (first_live s.entry.lanes m w.lane)) w.mem in
    cond (any_live s.entry.lanes m w.lane)
    (record { lane = λ j. cond (is_live m (w.lane j)) (takes slot.result (w.lane j) (g.value j) (g.stop j)) (w.lane j); mem = g.mem })
    w

-- a call for one lane alone, of an entry of one lane
abbrev pub call_one : ℕ → CallSite → Called → ℕ → View → View
call_one m slot called j v =
    let g : Given = called (λ i. i == 0) (λ p i. v.lane.reg (arg_reg slot p)) v.mem in
    cond (is_live m v.lane) (record { lane = takes slot.result v.lane (g.value 0) (g.stop 0); mem = g.mem }) v

-- a slot, the entry that it calls, and that entry's number
pub record Target : Type 0 where
  pub slot : CallSite
  pub number : ℕ
  pub entry : EntryLists

abbrev pub target_of : Site → ℕ → Option Target
target_of s k = option_and_then (λ slot. option_and_then (λ n. option_map (λ e. record { slot = slot; number = n; entry = e }) (slice_get s.entries n)) (slice_get s.entry.targets k)) (slice_get s.code.routine.slots k)

abbrev pub calls_target : Site → ℕ → Option Target → World → World
calls_target s m None w = w
calls_target s m (Some t) w =
    cond (t.entry.lanes == 1)
    (sweep s.entry.lanes (call_one m t.slot (s.calls t.number)) w)
    (call_all s m t.slot t.entry (s.calls t.number) w)

-- the lowest stop below n
abbrev pub lowest_stop : ℕ → (ℕ → Option Stop) → Option Stop
lowest_stop zero stop = None
lowest_stop (suc n) stop = elim (lowest_stop n stop) as (λ _. Option Stop) [ Some x ↦ Some x | None ↦ stop n ]

-- how calls of a loop's body ended
pub record Ran : Type 0 where
  pub stop : Option Stop
  pub mem : Memory

-- `count` calls of an entry for `lanes` iterations each, until one stops; the first has the number c
abbrev pub calls_in_turn : Called → (ℕ → ℕ → ℕ → ℕ) → ℕ → ℕ → ℕ → Memory → Ran
calls_in_turn called args lanes zero c mem = record { stop = None; mem = mem }
calls_in_turn called args lanes (suc count) c mem =
    let g : Given = called (λ i. nat_lt i lanes) (args c) mem in
    elim (lowest_stop lanes g.stop) as (λ _. Ran) [ Some x ↦ record { stop = Some x; mem = g.mem } | None ↦ calls_in_turn called args lanes count (c + 1) g.mem ]

abbrev pub then_calls : Ran → (Memory → Ran) → Ran
then_calls r next = elim r.stop as (λ _. Ran) [ Some x ↦ r | None ↦ next r.mem ]

-- the words of call c of a loop's body, from iteration `base` on: in lane i the number low + base + c * lanes + i, then the captured words
abbrev pub body_args : Site → SimdSite → LaneState → ℕ → ℕ → ℕ → ℕ → ℕ → ℕ
body_args s l lane lanes base c zero i = word_of (number_at s.code.routine.regs lane l.low +ℤ pos (base + c * lanes + i))
body_args s l lane lanes base c (suc p) i = elim (slice_get l.captures p) as (λ _. ℕ) [ None ↦ 0 | Some r ↦ lane.reg r ]

-- the pointers of each pair name different arrays
abbrev pub guard_holds : LaneState → List Guard → Bool
guard_holds lane [] = true
guard_holds lane (g ∷ gs) = not (array_of (lane.reg g.first) == array_of (lane.reg g.second)) && guard_holds lane gs

-- how many iterations: the greater of 0 and high minus low
abbrev pub iterations : ℤ → ℤ → ℕ
iterations low high = cond (int_le low high) (unsigned_abs (high -ℤ low)) 0

-- all calls for n iterations, in chunks of `lanes` where `fast`; `args lanes base` has the words of the calls from iteration `base` on
abbrev pub all_calls : Called → Called → (ℕ → ℕ → ℕ → ℕ → ℕ → ℕ) → ℕ → Bool → ℕ → Memory → Ran
all_calls chunk rest args lanes fast n mem =
    cond fast
    (then_calls (calls_in_turn chunk (args lanes 0) lanes (n / lanes) 0 mem) (λ m. calls_in_turn rest (args 1 (n / lanes * lanes)) 1 (n % lanes) 0 m))
    (calls_in_turn rest (args 1 0) 1 n 0 mem)

-- a simd loop: its site, the entries of its body, and the lanes of the first
pub record Simd : Type 0 where
  pub site : SimdSite
  pub chunk : ℕ
  pub rest : ℕ
  pub lanes : ℕ

abbrev pub simd_of : Site → ℕ → Option Simd
simd_of s k = option_and_then (λ (l : SimdSite). option_and_then (λ (t : LoopTargets). option_map (λ (e : EntryLists). record { site = l; chunk = t.chunk; rest = t.rest; lanes = e.lanes }) (slice_get s.entries t.chunk)) (slice_get s.entry.loops k)) (slice_get s.code.loops k)

-- the running lane stops where a call stopped, or where more than `turns` iterations were asked for
abbrev pub after_calls : ℕ → ℕ → LaneState → Ran → View
after_calls n turns lane r = elim r.stop as (λ _. View) [
  | Some x ↦ record { lane = with_stop lane x; mem = r.mem }
  | None ↦ record { lane = cond (nat_lt turns n) (with_stop lane Turns) lane; mem = r.mem }
]

abbrev pub simd_in : Site → Simd → View → View
simd_in s l v =
    let n : ℕ = iterations (number_at s.code.routine.regs v.lane l.site.low) (number_at s.code.routine.regs v.lane l.site.high) in
    after_calls n s.turns v.lane
    (all_calls (s.calls l.chunk) (s.calls l.rest) (body_args s l.site v.lane) l.lanes (guard_holds v.lane l.site.guards) (min n s.turns) v.mem)

abbrev pub runs_simd : Site → ℕ → Option Simd → World → World
runs_simd s m None w = w
runs_simd s m (Some l) w = in_lane (λ j v. cond (is_live m v.lane) (simd_in s l v) v) 0 w

-- one instruction that is no Loop
abbrev pub performs : Site → ℕ → Operation → World → World
performs s m (Call k) w = calls_target s m (target_of s k) w
performs s m (SimdLoop k) w = runs_simd s m (simd_of s k) w
performs s m o w = sweep s.entry.lanes (λ j v. acts s.arrays s.code.routine.regs m j o v) w

abbrev pub performs_some : Site → ℕ → Option Operation → World → World
performs_some s m None w = w
performs_some s m (Some o) w = performs s m o w

abbrev pub all_out_of_turns : ℕ → World → World
all_out_of_turns m w = record { lane = λ j. out_of_turns m (w.lane j); mem = w.mem }

-- a block again and again, while a lane is live in mask m, for at most n more turns
abbrev pub again : ℕ → ℕ → (World → World) → ℕ → World → World
again lanes m block zero w = cond (any_live lanes m w.lane) (all_out_of_turns m w) w
again lanes m block (suc n) w = cond (any_live lanes m w.lane) (again lanes m block n (block w)) w

-- passes over `skip` instructions, and runs the `count` instructions after them
abbrev pub run : Site → List Instr → ℕ → ℕ → World → World
run s [] skip count w = w
run s (i ∷ is) (suc skip) count w = run s is skip count w
run s (i ∷ is) zero zero w = w
run s (i ∷ is) zero (suc n) w = elim (block_of i) as (λ _. World) [
  | None ↦ run s is zero n (performs_some s i.m (operation_of i) w)
  | Some x ↦ run s is x (n - x) (again s.entry.lanes i.m (λ v. run s is zero x v) s.turns w)
]

-- the first lanes of a frame: the parameters, then registers of 0; mask 0 has the lanes that are on. Past its lanes all is 0
abbrev pub first_lane : ℕ → ℕ → (ℕ → ℕ → ℕ) → (ℕ → Bool) → ℕ → LaneState
first_lane lanes params args on j =
    record { reg = λ r. cond (nat_lt j lanes && nat_lt r params) (args r j) 0; on = λ m. nat_lt j lanes && (m == 0) && on j; stop = None }

abbrev pub word_in : Option ℕ → LaneState → ℕ
word_in None l = 0
word_in (Some r) l = l.reg r

-- entry number e is called, and its code runs
abbrev pub runs_entry : ℕ → Site → World → World
runs_entry e s w = run s s.code.routine.instrs zero (length s.code.routine.instrs) (record { lane = w.lane; mem = logged (Calls e) w.mem })

-- a call of entry number e, whose code runs at this site
abbrev pub enters : ℕ → Site → Called
enters e s on args mem =
    let w : World = runs_entry e s (record { lane = first_lane s.entry.lanes s.code.routine.params args on; mem = mem }) in
    record { value = λ j. word_in s.code.routine.result (w.lane j); stop = λ j. (w.lane j).stop; mem = w.mem }

-- where there is no entry
abbrev pub nothing : Called
nothing on args mem = record { value = λ j. 0; stop = λ j. None; mem = mem }

abbrev pub extent_of : ArrayLists → Extent
extent_of a = record { ty = a.ty; length = a.length }

abbrev pub site_at : Tables → ℕ → (ℕ → Called) → EntryLists → Listing → Site
site_at image turns calls x c = record { arrays = map extent_of image.arrays; entry = x; code = c; entries = image.entries; calls = calls; turns = turns }

-- where entry e runs
abbrev pub site_of : Tables → ℕ → (ℕ → Called) → ℕ → Option Site
site_of image turns calls e = option_and_then (λ (x : EntryLists). option_map (site_at image turns calls x) (code_of image x)) (slice_get image.entries e)

abbrev pub enters_some : ℕ → Option Site → Called
enters_some e None = nothing
enters_some e (Some s) = enters e s

-- what an entry does, where its calls are at most `depth` deep
abbrev pub entry_at : Tables → ℕ → ℕ → ℕ → Called
entry_at image turns zero e = nothing
entry_at image turns (suc depth) e = enters_some e (site_of image turns (entry_at image turns depth) e)

-- the word of a cell at first
abbrev pub first_word : Option Word → ℕ
first_word None = 0
first_word (Some w) = w.0

abbrev pub first_cell : Option ArrayLists → ℕ → ℕ
first_cell None i = 0
first_cell (Some a) i = first_word (slice_get a.elements i)

abbrev pub first_memory : Tables → Memory
first_memory image = record { cells = λ a i. first_cell (slice_get image.arrays a) i; log = [] }

-- a call of an entry of an image, from this memory: calls in an image are at most 64 deep
abbrev pub runs : Tables → ℕ → ℕ → Called
runs image turns e = entry_at image turns 64 e
