-- How many pages a dump has.
use Rattle.std.specs.Prelude.{◌≤◌, ◌<◌, ◌/◌, ℕ, Result, Ok, Err}
use Rattle.sector_device.specs.Device.{DeviceState, HasFailed}
use Rattle.store.specs.declared.fault.Fault.TheVariants as read
use Rattle.store.specs.declared.fault.StoreFault.TheVariants as write
use Rattle.store.specs.Readers.{HasFaultCause}
use Rattle.store.specs.Store.{StoreState}
use Rattle.cow_pages.specs.declared.open.OpenFault.TheVariants as pages
use Rattle.journal_store.specs.DeviceOpening.{IsNamedFor}
use Rattle.copies.specs.declared.fault.CopyFault.{CopyFault}
use Rattle.copies.specs.declared.fault.CopyFault.TheVariants.{Pages, Read, Write, Full}
use Rattle.databases.specs.Databases.{MeansNone}

-- as many pages as a file may have, at most; or more, if that is what is answered
abbrev pub HasPageCount : Result ℕ CopyFault → Type 0
HasPageCount (Ok count) = count ≤ 65536
HasPageCount (Err (Full count)) = 65536 < count
HasPageCount (Err fault) = Unit {0}

-- why the records of a map were not counted: the fault of a read stands in the source
abbrev pub HasRecordsCause : CopyFault → StoreState → StoreState → Type 0
HasRecordsCause (Read fault) old new = HasFaultCause fault old new
HasRecordsCause (Write write.Memory) old new = Unit {0}
HasRecordsCause fault old new = ⊥

-- why the pages of a dump were not: for that, or since a file may not have so many
abbrev pub HasCountCause : CopyFault → StoreState → StoreState → Type 0
HasCountCause (Read fault) old new = HasFaultCause fault old new
HasCountCause (Write write.Memory) old new = Unit {0}
HasCountCause (Full count) old new = Unit {0}
HasCountCause fault old new = ⊥

-- they were counted; or not, for memory or for the source: its device failed, or the fault stands in what it holds. No other fault comes
abbrev pub CountsPages : DeviceState → DeviceState → Result ℕ CopyFault → Type 0
CountsPages d e (Ok count) = Unit {0}
CountsPages d e (Err (Pages pages.Device)) = HasFailed d e
CountsPages d e (Err (Pages fault)) = IsNamedFor fault d
CountsPages d e (Err (Read read.Memory)) = Unit {0}
CountsPages d e (Err (Read read.Device)) = HasFailed d e
CountsPages d e (Err (Read read.Damaged)) = MeansNone (d.sectors / 8) d.content
CountsPages d e (Err (Write write.Memory)) = Unit {0}
CountsPages d e (Err (Full count)) = Unit {0}
CountsPages d e (Err fault) = ⊥
