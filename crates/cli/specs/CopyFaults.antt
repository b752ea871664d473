-- Why the database in a file was not copied, by why a call below failed.
use Rattle.std.specs.Prelude.{ℕ}
use Rattle.sector_device.specs.declared.open_file.FileFault.{FileFault}
use Rattle.sector_device.specs.declared.open_file.FileFault.TheVariants as file
use Rattle.copies.specs.declared.fault.CopyFault.{CopyFault}
use Rattle.copies.specs.declared.fault.CopyFault.TheVariants.{Pages, Read, Write, WrongSize, Full}
use Rattle.cli.specs.declared.copy_fault.CopyRefusal.{CopyRefusal}
use Rattle.cli.specs.declared.copy_fault.CopyRefusal.TheVariants.{File, New}
use Rattle.cli.specs.declared.fault.CommandFault.{CommandFault}
use Rattle.cli.specs.declared.fault.CommandFault.TheVariants as command
use Rattle.cli.specs.Faults.{of_commit, of_pages, of_read}

-- of a copy from one device to another, of so many pages
abbrev pub of_copy : ℕ → CopyFault → CopyRefusal
of_copy pages (Pages fault) = File (of_pages fault)
of_copy pages (Read fault) = File (of_read fault)
of_copy pages (Write fault) = New (of_commit fault)
of_copy pages WrongSize = New command.WrongSize
of_copy pages (Full least) = New (command.NoRoom pages least)

-- of making the file under the name that it has until it is whole
abbrev pub of_partial : FileFault → CopyRefusal
of_partial file.Exists = New command.Partial
of_partial file.Memory = New command.Memory
of_partial (file.Device cause) = New (command.Device cause)

-- why it was refused, whichever file it was refused for
abbrev pub fault_in : CopyRefusal → CommandFault
fault_in (File fault) = fault
fault_in (New fault) = fault
