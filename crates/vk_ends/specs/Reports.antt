-- The line that a command writes on standard error.
use Rattle.std.specs.Prelude.{◌≡◌, ◌⊎◌, ℕ, List, ◌++◌, IsTrue, Result, Ok, Err}
use Rattle.vk_io.specs.Counts.{Rose, next_count}
use Rattle.vk_io.specs.Sink.{GrowsWithin, SinkState, Stays}
use Rattle.vk_io.specs.declared.outside.Outside.{Outside}
use Rattle.vk_io.specs.declared.outside.Outside.TheVariants.{Failed, Memory as NoMemory}
use Rattle.vk_ends.specs.Ends.{message_of}
use Rattle.vk_ends.specs.declared.ends.End.{End}
use Rattle.vk_ends.specs.declared.ends.End.TheVariants.{Memory}

-- the line of an end over these input files was put, by one call at most
pub record Reports (files : List (List ℕ)) (end : End) (err err_now : SinkState) : Type 0 where
  pub whole : IsTrue err.tells → (end ≡ Memory → ⊥) → (Rose err.faults err_now.faults → ⊥) → err_now.bytes ≡ err.bytes ++ message_of files end
  pub front : IsTrue err.tells → (end ≡ Memory → ⊥) → GrowsWithin err.bytes err_now.bytes (message_of files end)
  -- memory may have run out when another line was put, but not in a sink that needs none
  pub memory : IsTrue err.tells → end ≡ Memory → (begun : End) × GrowsWithin err.bytes err_now.bytes (message_of files begun)
  pub lean : IsTrue err.tells → IsTrue err.is_lean → end ≡ Memory → GrowsWithin err.bytes err_now.bytes (message_of files Memory)
  pub calls : (err_now.calls ≡ err.calls) ⊎ (err_now.calls ≡ next_count err.calls)
  pub stays : Stays err err_now

-- the end that is told where its line was put so
abbrev pub told_end : End → Result (Unit {0}) Outside → End
told_end end (Ok x) = end
told_end end (Err Failed) = end
told_end end (Err NoMemory) = Memory
