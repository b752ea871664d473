-- The store in memory, as its callers see it.
use Rattle.store.specs.Store.{StoreState}
use Rattle.store.specs.Memory.{memory_state}
use Rattle.store.specs.Held.{records_of}
use Rattle.store.specs.declared.memory.MemStore.{MemStore}

-- its state
abbrev pub memory_store_state : MemStore → StoreState
memory_store_state s = memory_state s.record_format (records_of s.entries)
