-- How the run of a program ends, by what its call answers.
use Rattle.std.proofs.Common.{◌≡◌, ℕ, nat_lt, [], Option, Some, IsOk, Result, Ok, Err, refl, ap, sym, ◌∙◌}
use Rattle.vk_types.specs.declared.types.Stop.{Stop}
use Rattle.vk_io.specs.declared.outside.Outside.{Outside}
use Rattle.vk_io.specs.declared.outside.Outside.TheVariants.{Failed, Memory as NoMemory}
use Rattle.vk_object.specs.declared.image.Image.{Image}
use Rattle.vk_object.specs.Machine.{Given, first_memory, runs}
use Rattle.vk_steps.specs.Places.{image_tables}
use Rattle.vk_access.specs.Outer.{Outer}
use Rattle.vk_direct.specs.declared.call.DirectCall.{DirectCall}
use Rattle.vk_lanes.specs.Masks.{is_on, lane_count}
use Rattle.vk_direct.specs.Calls.{entered}
use Rattle.vk_direct.specs.Given.{Calls}
use Rattle.vk_machine.specs.Ends.{Ends, end_of, ending, main_number, program}

pub ends_by : (r : Result (Unit {0}) Outside) (stop : Option Stop) (g : Given) (a b : Outer) → Calls r g a b → (IsOk r → stop ≡ g.stop 0) → Ends (ending r stop) g a b
ends_by (Ok done) stop g a b h k = (ap end_of (k refl), h)
ends_by (Err Failed) stop g a b h k = (h.failed refl, record { front = h.front; stays = h.stays })
ends_by (Err NoMemory) stop g a b h k = ((λ t. h.lean t refl), record { front = h.front; stays = h.stays })

-- the call of main from the first cells is the program's run
pub main_call : (image : Image) (n turns : ℕ) (call : DirectCall) (cells : ℕ → ℕ → ℕ) → call.place.image.now ≡ image → call.place.number ≡ n → call.place.turns ≡ turns → image.main ≡ Some n → call.words.now ≡ [] →
    ((j : ℕ) → is_on call.mask.now j ≡ nat_lt j 1) → cells ≡ (first_memory (image_tables image)).cells → entered call cells ≡ program (image_tables image) turns
unfolding entered program
main_call image n turns call cells h e t m w on c =
    (λ i. runs (image_tables (h i)) (t i) (e i) (λ j. on j i) (Rattle.vk_direct.specs.Calls.given_words (lane_count call.mask.now) (w i)) (record { cells = c i; log = [] }))
    ∙ ap (λ o. runs (image_tables image) turns (main_number o) (λ j. nat_lt j 1) (λ p j. 0) (first_memory (image_tables image))) (sym m)
