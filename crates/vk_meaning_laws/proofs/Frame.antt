-- A call does in the middle of a run what it does from its memory alone.
use Rattle.std.proofs.Common.{◌≡◌, ℕ, List, [], ◌∷◌, ◌++◌, refl, sym, ap, ◌∙◌, append_assoc, append-nil}
use Rattle.vk_rules_book.specs.Rules.{Subject}
use Rattle.vk_meaning.specs.World.{Memory, Event, World, with_cell}
use Rattle.vk_meaning.specs.Data.{Datum, Value, got, halts}
use Rattle.vk_meaning.specs.Meaning.{call_of, means}
use Rattle.vk_meaning_laws.specs.Reach.{behind_events}
use Rattle.vk_meaning_laws.proofs.Sights.{Sight, AlikeValues, both_got, both_halt, IsReadable}
use Rattle.vk_meaning_laws.proofs.Calls.{free_call}

-- the same memory, and these events before
record IsBehind (before : List Event) (w w' : World) : Type 0 where
  memory : w.memory ≡ w'.memory
  events : w'.events ≡ before ++ w.events

abbrev behind : (before : List Event) → Sight
behind before = record {
  Seen = λ a i. Unit {0};
  Own = λ a i. Unit {0};
  Word = λ a x. Unit {0};
  Alike = IsBehind before;
  own_seen = λ a i o. tt;
  reads = λ w w' h a i s. ap (λ (m : Memory). m a i) h.memory;
  writes = λ w w' h a i x o t. record { memory = ap (λ (m : Memory). with_cell m a i x) h.memory; events = h.events };
  tells = λ w w' h e. record { memory = h.memory; events = ap (λ (es : List Event). es ++ e ∷ []) h.events ∙ append_assoc before w.events (e ∷ []) };
}

pub stands_behind : (units : List Subject) (turns : ℕ) (text : List ℕ) (ds : List Datum) (w : World) → call_of units turns text ds w ≡ behind_events w.events (means units turns text ds w.memory)
stands_behind units turns text ds w = go _ _ ((free_call {v = behind w.events} units turns (λ a z. tt) (λ a i. tt) 32 text ds).from (record { memory = w.memory; events = [] }) w
    (record { memory = refl; events = sym (append-nil w.events) }))
  where
    go : (x x' : Value) → AlikeValues (behind w.events) (IsReadable (behind w.events)) x x' → x' ≡ behind_events w.events x
    go x x' (both_got d u u' p h) = λ i. got d (record { memory = sym h.memory i; events = h.events i })
    go x x' (both_halt s u u' h) = λ i. halts s (record { memory = sym h.memory i; events = h.events i })
