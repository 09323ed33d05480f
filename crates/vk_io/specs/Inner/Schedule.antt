-- Calls that are to fail, by their numbers from 1 on.
use Rattle.std.specs.Prelude.{ℕ, List, Contains}
use Rattle.vk_io.specs.Counts.{next_count}
use Rattle.vk_io.specs.declared.schedule.Schedule.{Schedule}

-- the next call's number is in the list
abbrev pub IsListed : List ℕ → ℕ → Type 0
IsListed failing calls = Contains failing (next_count calls)

-- the next call is to fail
abbrev pub IsNextToFail : Schedule → Type 0
IsNextToFail schedule = IsListed schedule.failing.items schedule.calls
