-- What a store in memory that fails only where a file is absent holds.
use Rattle.std.specs.Prelude.{true}
use Rattle.vk_io.specs.Inner.FileMap.{contents}
use Rattle.vk_io.specs.Inner.Tally.{count_of}
use Rattle.vk_io.specs.Store.{StoreState}
use Rattle.vk_io.specs.declared.pure_store.PureStore.{PureStore}

-- its files, which it tells, and its counts: those of writing are 0. It is sound
abbrev pub state_of : PureStore → StoreState
state_of store = record { tells = true; file = contents store.files; reads = count_of store.reads; writes = λ _. 0; is_sound = true }
