-- Why a dump was not read.
use Rattle.store.specs.declared.fault.Fault.{Fault}
use Rattle.store.specs.declared.fault.Fault.TheVariants as read
use Rattle.dumps.specs.declared.fault.DumpFault.{DumpFault}
use Rattle.dumps.specs.declared.fault.DumpFault.TheVariants.{Damaged, Memory, Device}

-- of a read of a part of it
abbrev pub of_read : Fault → DumpFault
of_read read.Memory = Memory
of_read read.Device = Device
of_read read.Damaged = Damaged
