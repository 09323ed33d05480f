-- A printed number is the next event.
use Rattle.std.proofs.Common.{◌≡◌, ℕ, true, List, [], ◌∷◌, ◌++◌, ℤ, Result, Ok, Err, refl, sym, ap, subst, ◌∙◌, append_assoc, append-nil, flat_map}
use Rattle.std.proofs.lemmas.List.Concat.{flat_map-append}
use Rattle.std.proofs.lemmas.List.Elements.{filter_map-append}
use Rattle.vk_io.specs.Counts.{Rose}
use Rattle.vk_io.specs.Sink.{SinkState, GrowsWithin, Stays}
use Rattle.vk_meaning.specs.World.{Array, Event, World, printed, with_event}
use Rattle.vk_meaning.specs.Data.{Datum, number_in}
use Rattle.vk_meaning.specs.Meaning.{line_of, printed_number, print_first}
use Rattle.vk_meaning.specs.declared.reading.RunFail.{RunFail}
use Rattle.vk_meaning.specs.declared.reading.RunFail.TheVariants.{Write, Memory}
use Rattle.vk_reading.specs.declared.cells.Row.{Row}
use Rattle.vk_reading.specs.declared.held.Held.TheVariants.{Nothing}
use Rattle.vk_reading.specs.declared.held.Halt.TheVariants.{Halted, Failed}
use Rattle.vk_reading_steps.specs.Runs.{Run, text_of, Stands, HasFront, IsRise, Does, run_of}

text_append : (es fs : List Event) → text_of (es ++ fs) ≡ text_of es ++ text_of fs
text_append es fs = ap (λ zs. flat_map line_of zs) (filter_map-append printed_number es fs) ∙ flat_map-append line_of _ _

text_more : (es : List Event) (z : ℤ) → text_of (es ++ printed z ∷ []) ≡ text_of es ++ line_of z
text_more es z = text_append es (printed z ∷ []) ∙ ap (λ l. text_of es ++ l) (append-nil (line_of z))

module _ (arrays : List Array) (rows : List Row) (a b : SinkState) (d : Datum) (z : ℤ) (number : z ≡ number_in d) (stays : Stays a b) where
  after : World → World
  after w = with_event w (printed (number_in d))

  grown_by : (start : List ℕ) (w : World) (front : List ℕ) → Stands arrays start (run_of rows a) w → a.tells ≡ true → b.bytes ≡ a.bytes ++ front → b.bytes ≡ start ++ (text_of w.events ++ front)
  grown_by start w front s t e = e ∙ ap (λ l. l ++ front) (s.text t) ∙ append_assoc start (text_of w.events) front

  pub does_print : (a.tells ≡ true → b.bytes ≡ a.bytes ++ line_of z) → Does arrays (run_of rows a) (print_first (d ∷ [])) (run_of rows b) (Ok Nothing)
  does_print put = record {
    ends = λ start w s. (
      refl,
      record {
        rows = s.rows;
        memory = s.memory;
        text = λ t. let told = sym stays.tells ∙ t in
            grown_by start w (line_of z) s told (put told) ∙ ap (λ (l : List ℕ). start ++ l) (sym (text_more w.events z) ∙ ap (λ (n : ℤ). text_of (w.events ++ printed n ∷ [])) number);
      },
    );
    stays = stays;
    rise = tt;
  }

  pub fails_print : (fail : RunFail) → (a.tells ≡ true → GrowsWithin a.bytes b.bytes (line_of z)) → (fail ≡ Write → Rose a.faults b.faults) →
      Does arrays (run_of rows a) (print_first (d ∷ [])) (run_of rows b) (Err (Failed fail))
  fails_print fail put risen = record {
    ends = λ start w s. record {
      front = λ t. let told = sym stays.tells ∙ t in
          record {
            front = text_of w.events ++ (put told).front;
            rest = (put told).rest;
            parts = ap (λ (n : ℤ). text_of (w.events ++ printed n ∷ [])) (sym number) ∙ text_more w.events z ∙ ap (λ (l : List ℕ). text_of w.events ++ l) (put told).parts
                ∙ sym (append_assoc (text_of w.events) (put told).front (put told).rest);
            grown = grown_by start w (put told).front s told (put told).grown;
          };
    };
    stays = stays;
    rise = by fail risen;
  }
    where
      by : (f : RunFail) → (f ≡ Write → Rose a.faults b.faults) → IsRise a.faults b.faults (Err (Failed f))
      by Write h = h refl
      by Memory h = tt
