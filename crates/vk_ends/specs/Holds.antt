-- What holds with each answer of a command that reads files and prints: one record for all such commands.
--
-- What the contents of its files make of a command is two relations. `Prints text stop`: it prints this text, and then it is
-- done, or stops so. `Refuses refusal`: this refusal is due. `Allows end` says which ends the command has at all.
use Rattle.std.specs.Prelude.{◌≡◌, ◌⊎◌, ⊤, ℕ, List, ◌++◌, Option, None, Some, IsTrue}
use Rattle.vk_types.specs.declared.types.Stop.{Stop}
use Rattle.vk_io.specs.Counts.{IsOneOf, Rose}
use Rattle.vk_io.specs.Sink.{GrowsWithin, SinkState, Stays}
use Rattle.vk_io.specs.Store.{Reads, StoreState}
use Rattle.vk_ends.specs.Inputs.{HasFailed}
use Rattle.vk_ends.specs.declared.ends.Refusal.{Refusal}
use Rattle.vk_ends.specs.declared.ends.End.{End}
use Rattle.vk_ends.specs.declared.ends.End.TheVariants.{Done, Refused, Words, Stopped, ReadFault, WriteFault, Memory}

-- the end behind a text that was printed
abbrev pub end_of : Option Stop → End
end_of None = Done
end_of (Some stop) = Stopped stop

-- an answer that comes before anything is written
abbrev pub IsEarly : End → Type 0
IsEarly (Refused refusal) = ⊤
IsEarly (Words fault) = ⊤
IsEarly (ReadFault input) = ⊤
IsEarly _ = ⊥

-- the cause of each answer
abbrev pub IsAnswer : (List ℕ → Option Stop → Type 0) → (Refusal → Type 0) → End → Type 0
IsAnswer Prints Refuses Done = (text : List ℕ) × Prints text None
IsAnswer Prints Refuses (Refused refusal) = Refuses refusal
IsAnswer Prints Refuses (Words fault) = ⊥
IsAnswer Prints Refuses (Stopped stop) = (text : List ℕ) × Prints text (Some stop)
IsAnswer Prints Refuses (ReadFault input) = ⊤
IsAnswer Prints Refuses WriteFault = (text : List ℕ) × (stop : Option Stop) × Prints text stop
IsAnswer Prints Refuses Memory = ⊤

-- a front of the text was written
abbrev pub WritesFront : (List ℕ → Option Stop → Type 0) → (old new : List ℕ) → Type 0
WritesFront Prints old new = (text : List ℕ) × (stop : Option Stop) × Prints text stop × GrowsWithin old new text

-- what was written with each answer: the whole text, a front of it, or nothing
abbrev pub Writes : (List ℕ → Option Stop → Type 0) → (old new : List ℕ) → End → Type 0
Writes Prints old new Done = (text : List ℕ) × Prints text None × (new ≡ old ++ text)
Writes Prints old new (Refused refusal) = new ≡ old
Writes Prints old new (Words fault) = new ≡ old
Writes Prints old new (Stopped stop) = (text : List ℕ) × Prints text (Some stop) × (new ≡ old ++ text)
Writes Prints old new (ReadFault input) = new ≡ old
Writes Prints old new WriteFault = WritesFront Prints old new
Writes Prints old new Memory = (new ≡ old) ⊎ WritesFront Prints old new

-- a refusal that is due, unless a file could not be read or memory ran out
abbrev pub IsRefusal : (Refusal → Type 0) → End → Type 0
IsRefusal Refuses (Refused refusal) = Refuses refusal
IsRefusal Refuses (ReadFault input) = ⊤
IsRefusal Refuses Memory = ⊤
IsRefusal Refuses _ = ⊥

-- a file could not be read, or memory ran out
abbrev pub IsFault : End → Type 0
IsFault (ReadFault input) = ⊤
IsFault Memory = ⊤
IsFault _ = ⊥

-- what a command does, answer by answer
pub record Acts (files : List (List ℕ)) (Prints : List ℕ → Option Stop → Type 0) (Refuses : Refusal → Type 0) (Allows : End → Type 0)
    (store store_now : StoreState) (out out_now : SinkState) (end : End) : Type 0 where
  pub answers : IsTrue store.tells → IsAnswer Prints Refuses end
  pub writes : IsTrue store.tells → IsTrue out.tells → Writes Prints out.bytes out_now.bytes end
  -- where the store does not tell its files
  pub early : IsTrue out.tells → IsEarly end → out_now.bytes ≡ out.bytes
  pub allowed : Allows end
  -- faults of the outside come only where their counts rose
  pub failed : (input : ℕ) → end ≡ ReadFault input → HasFailed files input store store_now
  pub unwritten : end ≡ WriteFault → Rose out.faults out_now.faults
  pub reads : Reads files store store_now
  pub stays : Stays out out_now

-- what holds with each answer of a command
pub record Holds (files : List (List ℕ)) (Prints : List ℕ → Option Stop → Type 0) (Refuses : Refusal → Type 0) (Allows : End → Type 0)
    (store store_now : StoreState) (out out_now : SinkState) (end : End) : Type 0 where
  pub acts : Acts files Prints Refuses Allows store store_now out out_now end
  -- where it prints a text, all of it was written with the end behind it, a front of it with every other answer
  pub whole : IsTrue store.tells → IsTrue out.tells → (text : List ℕ) (stop : Option Stop) → Prints text stop → end ≡ end_of stop →
      out_now.bytes ≡ out.bytes ++ text
  pub front : IsTrue store.tells → IsTrue out.tells → (text : List ℕ) (stop : Option Stop) → Prints text stop →
      GrowsWithin out.bytes out_now.bytes text
  -- where it prints none, nothing was written, whatever the answer
  pub quiet : IsTrue store.tells → IsTrue out.tells → ((text : List ℕ) (stop : Option Stop) → Prints text stop → ⊥) →
      out_now.bytes ≡ out.bytes
  -- where a refusal is due, one that is due is told
  pub due : IsTrue store.tells → (refusal : Refusal) → Refuses refusal → IsRefusal Refuses end
  -- where it neither prints nor is refused, as where a file is absent
  pub faulty : IsTrue store.tells → ((text : List ℕ) (stop : Option Stop) → Prints text stop → ⊥) → ((refusal : Refusal) → Refuses refusal → ⊥) →
      IsFault end
  -- where no count rose it prints its text to the end, or memory ran out
  pub complete : IsTrue store.tells → (text : List ℕ) (stop : Option Stop) → Prints text stop →
      ((file : List ℕ) → IsOneOf files file → Rose (store.reads file) (store_now.reads file) → ⊥) → (Rose out.faults out_now.faults → ⊥) →
      (end ≡ end_of stop) ⊎ (end ≡ Memory)

-- the files make a command print one text with one end, or they have it refused, and not both
pub record Agrees (Prints : List ℕ → Option Stop → Type 0) (Refuses : Refusal → Type 0) : Type 0 where
  pub one : (t u : List ℕ) (p q : Option Stop) → Prints t p → Prints u q → (t ≡ u) × (p ≡ q)
  pub apart : (t : List ℕ) (p : Option Stop) (refusal : Refusal) → Prints t p → Refuses refusal → ⊥
