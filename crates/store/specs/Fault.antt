-- What a fault of a store is to a reader of records.
use Rattle.store.specs.declared.fault.StoreFault.{StoreFault}
use Rattle.store.specs.declared.fault.StoreFault.TheVariants as store
use Rattle.store.specs.declared.fault.Fault.{Fault}
use Rattle.store.specs.declared.fault.Fault.TheVariants.{Memory, Device}

-- Memory is Memory, and all else Device
abbrev pub fault_of : StoreFault → Fault
fault_of store.Memory = Memory
fault_of store.Full = Device
fault_of store.Device = Device
fault_of store.Number = Device
