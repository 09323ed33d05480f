-- A run only appends to the log.
use Rattle.std.proofs.Common.{ℕ, ℤ, List, [], ◌∷◌, ◌++◌, ◌≡◌, Some, Bool, map, refl, ap, sym, ◌∙◌, append_assoc}
use Rattle.std.proofs.lemmas.List.{append-nil}
use Rattle.vk_object.specs.Machine.{extent_of, runs}
use Rattle.vk_types.specs.Numbers.{word_of, wrap_number}
use Rattle.vk_object.specs.Memory.{Cell, Event, Extent, Memory, cell_of, logged, with_cell}
use Rattle.vk_object.specs.Tables.{Tables}
use Rattle.vk_runs.specs.Logs.{Grows}
use Rattle.vk_runs.proofs.Memories.{entry_keeps}

pub grows_same : (m : Memory) → Grows m m
grows_same m = record { events = []; appended = sym (append-nil m.log) }

pub grows_then : (a b c : Memory) → Grows a b → Grows b c → Grows a c
grows_then a b c g h = record { events = g.events ++ h.events; appended = h.appended ∙ (ap (λ l. l ++ h.events) g.appended ∙ append_assoc a.log g.events h.events) }

pub grows_noted : (e : Event) (m : Memory) → Grows m (logged e m)
grows_noted e m = record { events = e ∷ []; appended = refl }

pub grows_stored : (arrays : List Extent) (m : Memory) (p : ℕ) (z : ℤ) (c : Cell) → cell_of arrays p ≡ Some c → Grows m (with_cell m c.array c.index (word_of (wrap_number c.ty z)))
grows_stored arrays m p z c found = record { events = []; appended = sym (append-nil m.log) }

-- the log of a run is the log before it and some events more
pub log_grows : (image : Tables) (turns e : ℕ) (on : ℕ → Bool) (args : ℕ → ℕ → ℕ) (mem : Memory) → Grows mem (runs image turns e on args mem).mem
log_grows image turns e on args mem =
    entry_keeps (map extent_of image.arrays) Grows grows_same grows_then grows_noted (grows_stored (map extent_of image.arrays)) image refl turns 64 e on args mem
