-- A slot's call, from what is known of the entry.
use Rattle.std.specs.Prelude.{◌≡◌, ◌≢◌, ℕ, ◌<◌, ◌≤◌, true, false, List, [], length}
use Rattle.vk_kinds.specs.declared.heads.CType.{CType}
use Rattle.vk_kinds.specs.declared.heads.CType.TheVariants.{Void}
use Rattle.vk_kinds.specs.declared.kinds.Kind.{Kind}
use Rattle.vk_meaning.specs.World.{Array, array_at, Memory as Cells, Event}
use Rattle.vk_meaning.specs.Data.{Datum, Value, got, halts}
use Rattle.vk_meaning.specs.Meaning.{memory_of}
use Rattle.vk_meaning.specs.Lanes.{Words, arguments_of, datum_of, IsWord, IsPointed, NamesCell, ReadsArray, AreFitting}
use Rattle.vk_meaning.specs.Types.{type_at}
use Rattle.vk_code.specs.Listing.{CallSite}
use Rattle.vk_object.specs.Memory.{Event as Logged}
use Rattle.vk_object.specs.Lane.{is_live}
use Rattle.vk_object.specs.Machine.{Target, arg_reg, lane_args, first_live}
use Rattle.vk_lane.specs.Runs.{events_of, Bodies, IsQuiet}
use Rattle.vk_lane.specs.Places.{Share, Shares, Place, lanes_of, IsFine, reg_type}
use Rattle.vk_lane_calls.specs.Callees.{SameEnding}

-- the words that the lanes pass
abbrev pub passed_words : Place → ℕ → Target → Shares → Words
passed_words x m t hs p j = lane_args x.site t.slot t.entry (λ k. (hs k).lane) (first_live (lanes_of x) m (λ k. (hs k).lane)) p j

-- the words of the registers
abbrev pub own_words : CallSite → Share → Words
own_words slot h p j = h.lane.reg (arg_reg slot p)

-- the argument registers of a live lane have fine pointers
pub record HasArguments (x : Place) (slot : CallSite) (ts : List CType) (j : ℕ) (h : Share) : Type 0 where
  pub fine : (p : ℕ) → p < length ts → IsFine x j (type_at ts p) (datum_of (type_at ts p) (h.lane.reg (arg_reg slot p)))
  pub pointed : (p : ℕ) → p < length ts → IsPointed x.context.arrays (type_at ts p) (datum_of (type_at ts p) (h.lane.reg (arg_reg slot p)))

-- what is passed is what the live lanes have: shapes tell it
pub record Passes (x : Place) (m : ℕ) (t : Target) (ts : List CType) (kinds : List Kind) (hs : Shares) : Type 0 where
  pub same : (p j : ℕ) → p < length ts → j < lanes_of x → is_live m (hs j).lane ≡ true → passed_words x m t hs p j ≡ own_words t.slot (hs j) p j
  pub typed : (p j : ℕ) → p < length ts → j < lanes_of x → IsWord (type_at ts p) (passed_words x m t hs p j)
  pub fits : AreFitting ts kinds (lanes_of x) (passed_words x m t hs) (λ j. is_live m (hs j).lane)

-- the result is one of the type, if it is no stop
abbrev pub IsOfType : CType → Value → Type 0
IsOfType rt (got d w) = (word : ℕ) × (d ≡ datum_of rt word) × IsWord rt word
IsOfType rt (halts z w) = Unit {0}

-- calls that print nothing and call no loop's body leave what is told
pub record HushesOver (x : Place) (b : Bodies) : Type 0 where
  pub told : (log log' : List Logged) (es : List Event) → IsQuiet b log log' → x.Told log es → x.Told log' es
  pub counted : (log log' : List Logged) (es : List Event) → IsQuiet b log log' → x.Counted log es → x.Counted log' es

-- what a call on these arguments may look at: what a written pointer names, the arrays of its read pointers, `const` arrays, and arrays
-- that are not there
pub data Reaches (ts : List CType) (arrays : List Array) (words : Words) (j a i : ℕ) : Type 0 where
  by_name : NamesCell ts arrays (arguments_of ts words j) a i → Reaches ts arrays words j a i
  by_array : ReadsArray ts (arguments_of ts words j) a → Reaches ts arrays words j a i
  by_const : (array_at arrays a).fixed ≡ true → Reaches ts arrays words j a i
  by_absent : length arrays ≤ a → Reaches ts arrays words j a i

-- What the scalar meaning has to say of each function with directives that is called: a call depends on what it reaches, changes what
-- its written pointers name, has no events, and gives a word of its type.
pub record IsLocalCall (ts : List CType) (rt : CType) (arrays : List Array) (scalar : List Datum → Cells → Value) : Type 0 where
  pub same : (words : Words) (j : ℕ) (m n : Cells) → ((a i : ℕ) → Reaches ts arrays words j a i → m a i ≡ n a i) → SameEnding (Reaches ts arrays words j) (scalar (arguments_of ts words j) m) (scalar (arguments_of ts words j) n)
  pub keeps : (words : Words) (j : ℕ) (m : Cells) (a i : ℕ) → (NamesCell ts arrays (arguments_of ts words j) a i → ⊥) → memory_of (scalar (arguments_of ts words j) m) a i ≡ m a i
  pub silent : (ds : List Datum) (m : Cells) → events_of (scalar ds m) ≡ []
  pub typed : (ds : List Datum) (m : Cells) → IsOfType rt (scalar ds m)

-- no lane owns a cell of a `const` array, or of an array that is not there
pub record OwnsOpenCells (x : Place) : Type 0 where
  pub open_cells : (k a i : ℕ) → x.Own k a i → (array_at x.context.arrays a).fixed ≡ false
  pub there : (k a i : ℕ) → x.Own k a i → a < length x.context.arrays

-- the register of a result has the result's type, and may be written; a void function has none
pub record IsResultRegister (x : Place) (rt : CType) (r : ℕ) : Type 0 where
  pub typed : reg_type x r ≡ rt
  pub free : x.fixed r ≡ false
  pub some : rt ≢ Void
