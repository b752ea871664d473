-- Why a command over a file was not carried out, by why a call below it failed.
use Rattle.sector_device.specs.declared.open_file.FileFault.{FileFault}
use Rattle.sector_device.specs.declared.open_file.FileFault.TheVariants as file
use Rattle.sector_device.specs.declared.system_cause.SystemCause.TheVariants.{NotFound, Other}
use Rattle.store.specs.declared.fault.Fault.{Fault}
use Rattle.store.specs.declared.fault.Fault.TheVariants as read
use Rattle.store.specs.declared.fault.StoreFault.{StoreFault}
use Rattle.store.specs.declared.fault.StoreFault.TheVariants as commit
use Rattle.cow_pages.specs.declared.open.OpenFault.{OpenFault}
use Rattle.cow_pages.specs.declared.open.OpenFault.TheVariants as pages
use Rattle.journal_store.specs.declared.switch_fault.SwitchFault.{SwitchFault}
use Rattle.journal_store.specs.declared.switch_fault.SwitchFault.TheVariants.{Unopened, NotMigrated, Refused}
use Rattle.recovery.specs.declared.fault.OpeningFault.{OpeningFault}
use Rattle.recovery.specs.declared.fault.OpeningFault.TheVariants.{Read, Commit}
use Rattle.systems.specs.declared.fault.OpenPathFault.{OpenPathFault}
use Rattle.systems.specs.declared.fault.OpenPathFault.TheVariants as path
use Rattle.databases.specs.declared.fault.DatabaseFault.{DatabaseFault}
use Rattle.databases.specs.declared.fault.DatabaseFault.TheVariants.{Pages, Records}
use Rattle.cli.specs.declared.fault.CommandFault.{CommandFault}
use Rattle.cli.specs.declared.fault.CommandFault.TheVariants.{Exists, InUse, PrintedTo, Memory, Device, WrongSize, NotADatabase, NewerFormat, Damaged, Full, Number, FirstFormat, NoSwitchRoom, NoSwitchNumber}

-- of opening the device of a path
abbrev pub of_path : OpenPathFault → CommandFault
of_path path.Missing = Device NotFound
of_path path.InUse = InUse
of_path path.PrintedTo = PrintedTo
of_path path.Memory = Memory
of_path (path.Device cause) = Device cause

-- of making a file
abbrev pub of_file : FileFault → CommandFault
of_file file.Exists = Exists
of_file file.Memory = Memory
of_file (file.Device cause) = Device cause

-- of opening the pages of a device, or of making them
abbrev pub of_pages : OpenFault → CommandFault
of_pages pages.WrongSize = WrongSize
of_pages pages.NotADatabase = NotADatabase
of_pages (pages.NewerFormat format) = NewerFormat format
of_pages pages.Damaged = Damaged
of_pages pages.Device = Device Other
of_pages pages.Memory = Memory

-- of reading records
abbrev pub of_read : Fault → CommandFault
of_read read.Memory = Memory
of_read read.Device = Device Other
of_read read.Damaged = Damaged

-- of committing records
abbrev pub of_commit : StoreFault → CommandFault
of_commit commit.Full = Full
of_commit commit.Memory = Memory
of_commit commit.Device = Device Other
of_commit commit.Number = Number

-- of opening a server over a store
abbrev pub of_records : OpeningFault → CommandFault
of_records (Read fault) = of_read fault
of_records (Commit fault) = of_commit fault

-- of opening the database that a device holds
abbrev pub of_opening : DatabaseFault → CommandFault
of_opening (Pages fault) = of_pages fault
of_opening (Records fault) = of_records fault

-- of turning the journal of a device on or off
abbrev pub of_switch : SwitchFault → CommandFault
of_switch (Unopened fault) = of_pages fault
of_switch NotMigrated = FirstFormat
of_switch (Refused commit.Full) = NoSwitchRoom
of_switch (Refused commit.Number) = NoSwitchNumber
of_switch (Refused commit.Memory) = Memory
of_switch (Refused commit.Device) = Device Other
