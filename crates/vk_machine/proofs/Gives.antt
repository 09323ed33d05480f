-- A call by the run of its entry.
use Rattle.std.proofs.Common.{◌≡◌, ℕ, true, List, [], IsOk, Result, Ok, Err, refl, ap, sym, subst, arith}
use Rattle.std.proofs.lemmas.Bool.{false≢true}
use Rattle.vk_io.specs.declared.outside.Outside.{Outside}
use Rattle.vk_io.specs.declared.outside.Outside.TheVariants.{Failed, Memory as NoMemory}
use Rattle.vk_lanes.specs.Masks.{is_on, lane_count}
use Rattle.vk_object.specs.Lane.{LaneState}
use Rattle.vk_types.specs.declared.types.Word.{Word}
use Rattle.vk_lanes.specs.declared.mask.LaneMask.{LaneMask}
use Rattle.vk_lanes.specs.Kernels.{Writes}
use Rattle.vk_object.specs.Machine.{Given, enters, first_lane, runs, runs_entry}
use Rattle.vk_steps.specs.Places.{entry, image_tables, listing, site}
use Rattle.vk_access.specs.Outer.{Outer, Runs}
use Rattle.vk_direct.specs.declared.call.DirectCall.{DirectCall}
use Rattle.vk_direct.specs.Calls.{IsEntry, entered, given_words}
use Rattle.vk_direct.specs.Given.{Calls, IsIn, Leaves, gives_on}
use Rattle.vk_direct.proofs.Given.{calls, calls_in}
use Rattle.vk_machine.specs.declared.machine.Machine.{Machine}
use Rattle.vk_machine.specs.Machines.{called, cells}

module _ (call : DirectCall) (h : IsEntry call) (l : ℕ → LaneState) (first : l ≡ first_lane (entry call.place).lanes (listing call.place).routine.params (given_words (lane_count call.mask.now) call.words.now) (is_on call.mask.now)) where
  given_is : (cells : ℕ → ℕ → ℕ) → enters call.place.number (site call.place) (is_on call.mask.now) (given_words (lane_count call.mask.now) call.words.now) (record { cells = cells; log = [] }) ≡ entered call cells
  unfolding entered
  given_is cells = sym (ap (λ f. f (is_on call.mask.now) (given_words (lane_count call.mask.now) call.words.now) (record { cells = cells; log = [] })) h.place.does)

  pub entry_calls : (r : Result (Unit {0}) Outside) (k : ℕ → LaneState) (a b : Outer) → Runs r l k a b (runs_entry call.place.number (site call.place)) → Calls r (entered call a.cells) a b
  entry_calls r k a b run =
      subst (λ g. Calls r g a b) (given_is a.cells)
      (calls call.place.number (site call.place) (is_on call.mask.now) (given_words (lane_count call.mask.now) call.words.now) l first r k a b run)

  pub entry_in : (r : Result (Unit {0}) Outside) (k : ℕ → LaneState) (a b : Outer) → Runs r l k a b (runs_entry call.place.number (site call.place)) → IsOk r → IsIn (entered call a.cells) (listing call.place).routine.result k
  entry_in r k a b run ok =
      subst (λ g. IsIn g (listing call.place).routine.result k) (given_is a.cells)
      (calls_in call.place.number (site call.place) (is_on call.mask.now) (given_words (lane_count call.mask.now) call.words.now) l first r k a b run ok)

-- a lean sink without faults never fails
pub never_fails : (r : Result (Unit {0}) Outside) (g : Given) (a b : Outer) → Calls r g a b → a.sink.faults ≡ 0 → b.sink.faults ≡ 0 → a.sink.is_lean ≡ true → IsOk r
never_fails (Ok done) g a b h e f l = refl
never_fails (Err Failed) g a b h e f l = let rose = h.failed refl in absurd (omega (arith, rose, e, f))
never_fails (Err NoMemory) g a b h e f l = absurd (h.lean l refl)

pub leaves_ok : (r : Result (Unit {0}) Outside) (g : Given) (a b : Outer) → Calls r g a b → IsOk r → Leaves g a b
leaves_ok (Ok done) g a b h ok = h
leaves_ok (Err fault) g a b h ok = absurd (false≢true ok)

-- what the call gives on a machine
pub called_is : (m : Machine) (turns e : ℕ) (mask : LaneMask) (args : List Word) (call : DirectCall) → call.place.image.now ≡ m.image → call.place.number ≡ e → call.place.turns ≡ turns → call.mask.now ≡ mask → call.words.now ≡ args →
    entered call (cells m) ≡ called m turns e mask args
unfolding entered called
called_is m turns e mask args call h n t k w = λ i. runs (image_tables (h i)) (t i) (n i) (is_on (k i)) (given_words (lane_count (k i)) (w i)) (record { cells = cells m; log = [] })

pub results_called : (mask : LaneMask) (g g' : Given) (call : DirectCall) (old new : List Word) → call.mask.now ≡ mask → g ≡ g' → Writes (gives_on (is_on call.mask.now) g) g.value old new → Writes (gives_on (is_on mask) g') g'.value old new
results_called mask g g' call old new k e h = subst (λ l. Writes (gives_on (is_on l) g') g'.value old new) k (subst (λ f. Writes (gives_on (is_on call.mask.now) f) f.value old new) e h)
