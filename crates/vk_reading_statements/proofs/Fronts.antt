-- Fronts of texts, and counts of faults.
use Rattle.std.proofs.Common.{◌≡◌, ℕ, ◌≤◌, List, [], ◌++◌, Result, Ok, Err, sym, ap, ◌∙◌, append_assoc, append-nil, flat_map, arith}
use Rattle.std.proofs.lemmas.List.Concat.{flat_map-append}
use Rattle.std.proofs.lemmas.List.Elements.{filter_map-append}
use Rattle.vk_io.specs.Counts.{Rose}
use Rattle.vk_io.specs.Sink.{SinkState, Stays}
use Rattle.vk_meaning.specs.World.{Array, Event, World}
use Rattle.vk_meaning.specs.Meaning.{line_of, printed_number}
use Rattle.vk_meaning.specs.declared.reading.RunFail.TheVariants.{Write, Memory}
use Rattle.vk_reading.specs.declared.held.Halt.{Halt}
use Rattle.vk_reading.specs.declared.held.Halt.TheVariants.{Halted, Failed}
use Rattle.vk_reading.specs.Reading.{AreFirst}
use Rattle.vk_reading_steps.specs.Runs.{Run, text_of, Stands, HasFront, IsRise}
use Rattle.vk_reading_statements.specs.Acts.{HasRisen}

pub text_append : (es fs : List Event) → text_of (es ++ fs) ≡ text_of es ++ text_of fs
text_append es fs = ap (λ zs. flat_map line_of zs) (filter_map-append printed_number es fs) ∙ flat_map-append line_of _ _

-- a front of the text of the first events is one of all
pub front_further : {start : List ℕ} {r : Run} {es fs : List Event} → HasFront start r es → AreFirst es fs → HasFront start r fs
front_further {es = es} h k = record {
  front = λ t. record {
    front = (h.front t).front;
    rest = (h.front t).rest ++ text_of k.rest;
    parts = ap text_of k.parts ∙ text_append es k.rest ∙ ap (λ xs. xs ++ text_of k.rest) (h.front t).parts ∙ append_assoc (h.front t).front _ _;
    grown = (h.front t).grown;
  };
}

pub stands_front : {arrays : List Array} {start : List ℕ} {s : Run} {w : World} → Stands arrays start s w → HasFront start s w.events
stands_front {w = w} h = record { front = λ t. record { front = text_of w.events; rest = []; parts = sym (append-nil (text_of w.events)); grown = h.text t } }

pub stays_trans : {a b c : SinkState} → Stays a b → Stays b c → Stays a c
stays_trans h k = record { tells = k.tells ∙ h.tells; is_lean = k.is_lean ∙ h.is_lean; faults = omega arith }

rose_later : (a b c : ℕ) → a ≤ b → Rose b c → Rose a c
rose_later a b c h k = omega arith

pub risen_later : {T : Type 0} (a b c : ℕ) (r : Result T Halt) → a ≤ b → HasRisen b c r → HasRisen a c r
risen_later a b c (Err (Failed Write)) h k = rose_later a b c h k
risen_later a b c (Err (Failed Memory)) h k = tt
risen_later a b c (Err (Halted x)) h k = tt
risen_later a b c (Ok x) h k = tt

-- the rise of an evaluation that failed
pub risen : (T : Type 0) (a b : ℕ) (x : Halt) → IsRise a b (Err x) → HasRisen a b {T = T} (Err x)
risen T a b (Failed Write) k = k
risen T a b (Failed Memory) k = tt
risen T a b (Halted x) k = tt
