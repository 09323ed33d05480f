-- What a store in memory holds.
use Rattle.std.specs.Prelude.{ℕ, List, true, false}
use Rattle.vk_io.specs.Inner.FileMap.{contents}
use Rattle.vk_io.specs.Inner.Tally.{count_of}
use Rattle.vk_io.specs.Store.{StoreState}
use Rattle.vk_io.specs.declared.memory_store.MemStore.{MemStore}

-- its files, which it tells, and its counts
abbrev pub state_of : MemStore → StoreState
state_of store = record { tells = true; file = contents store.files; reads = count_of store.reads; writes = count_of store.writes; is_sound = false }

-- the numbers of the calls that are to fail
abbrev pub failing_of : MemStore → List ℕ
failing_of store = store.schedule.failing.items

-- how many calls there were
abbrev pub calls_of : MemStore → ℕ
calls_of store = store.schedule.calls
