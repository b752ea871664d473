-- The system in memory: what its fields are to its callers.
use Rattle.std.specs.Prelude.{ℕ, List, Option}
use Rattle.systems.specs.declared.entries.NamedContent.{NamedContent}
use Rattle.systems.specs.declared.listener.MemListener.{MemListener}
use Rattle.systems.specs.declared.memory.MemSystem.{MemSystem}
use Rattle.systems.specs.Systems.{SystemState}
use Rattle.systems.specs.Memory.{memory_state}

-- its entries
abbrev pub entries_of : {D : Type 0} → MemSystem D → List (NamedContent D)
entries_of s = s.entries.items

-- its port, and who listens there; none where that is bound
abbrev pub port_of : {D : Type 0} → MemSystem D → ℕ
port_of s = s.port

abbrev pub listener_of : {D : Type 0} → MemSystem D → Option MemListener
listener_of s = s.listener

-- its state
abbrev pub system_state : {D : Type 0} → MemSystem D → SystemState D MemListener
system_state s = memory_state s.entries.items s.port s.listener s.failures
