-- What making a database of the dump in a file does, in a new file; and what checking a file that is a dump answers.
use Rattle.std.specs.Prelude.{◌≡◌, ◌⊎◌, ℕ, Bool, true, false, List, Result, Ok, Err, IfErr, OnOk}
use Rattle.sector_device.specs.Device.{DeviceState}
use Rattle.sector_device.specs.declared.device.Device.{Ghosts}
use Rattle.sector_device.specs.declared.system_cause.SystemCause.TheVariants.{Other}
use Rattle.store.specs.declared.fault.StoreFault.TheVariants as commit
use Rattle.systems.specs.Systems.{IsReadable, IsSame, IsSameBut, SystemState}
use Rattle.copies.specs.declared.fault.CopyFault.TheVariants.{Write}
use Rattle.copies.specs.DatabaseCopies.{IsCopyOf}
use Rattle.abstract_database.specs.Database.{Database}
use Rattle.stored_database.specs.BothRecordFormats.{Stands}
use Rattle.databases.specs.Databases.{IsUnwritten}
use Rattle.dumps.specs.Form.{TheDump}
use Rattle.dumps.specs.OnDevice.{HoldsDump}
use Rattle.dumps.specs.Reading.{IsUnread}
use Rattle.dumps.specs.declared.fault.DumpFault.{DumpFault}
use Rattle.dumps.specs.declared.fault.DumpFault.TheVariants as dump
use Rattle.database_dumps.specs.Restoring.{RestoresDump, contents_of}
use Rattle.database_dumps.specs.declared.roles.RestoredRoles.{RestoredRoles}
use Rattle.database_dumps.specs.declared.fault.RestoreFault.{RestoreFault}
use Rattle.database_dumps.specs.declared.fault.RestoreFault.TheVariants as restore
use Rattle.cli.specs.declared.fault.CommandFault.{CommandFault}
use Rattle.cli.specs.declared.fault.CommandFault.TheVariants as command
use Rattle.cli.specs.declared.copy_fault.CopyRefusal.{CopyRefusal}
use Rattle.cli.specs.declared.copy_fault.CopyRefusal.TheVariants.{File, New}
use Rattle.cli.specs.CopyFaults.{of_copy}
use Rattle.cli.specs.Formatting.{IsNoSize}
use Rattle.cli.specs.NewFiles.{IsFileMade, LeavesMade, MakesFile, Making}

-- why a dump was not read
abbrev pub of_dump : DumpFault → CommandFault
of_dump dump.NotADump = command.NotADump
of_dump (dump.OtherVersion version) = command.OtherDump version
of_dump dump.Damaged = command.DamagedDump
of_dump dump.Memory = command.Memory
of_dump dump.Device = command.Device Other

-- why no database of so many pages was made of one
abbrev pub of_restore : ℕ → RestoreFault → CopyRefusal
of_restore pages (restore.Dump fault) = File (of_dump fault)
of_restore pages (restore.New (Write commit.Full)) = New (command.NoDumpRoom pages)
of_restore pages (restore.New fault) = of_copy pages fault

-- one device is a dump of a database, and each image that a stop leaves of the other stands for that
pub record IsOfDump (d made : DeviceState) : Type 0 where
  pub dump : TheDump
  pub holds : HoldsDump d dump
  pub database : Database
  pub stands : Stands (contents_of dump) database
  pub whole : IsCopyOf database made

-- how a database of so many pages is made of a dump
abbrev pub restoring : {D : Type 0} → Ghosts D → ℕ → Making D RestoredRoles RestoreFault
restoring g pages = record {
  does = λ count result device left blank made. (count ≡ pages) × RestoresDump (g.state device) (g.state left) result (g.state blank) (g.state made);
  refusal = of_restore;
  unbegun = λ fault device left. ⊥;
  whole = λ device made. IsOfDump (g.state device) (g.state made);
}

-- no database is of so many pages, and nothing was done
pub record IsOfNoSize {D L : Type 0} (old : SystemState D L) (pages : ℕ) (fault : CopyRefusal) (new : SystemState D L) : Type 0 where
  pub is : fault ≡ New command.WrongSize
  pub no_size : IsNoSize pages
  pub same : IsSame old new

-- a database was made of the dump in the file of this path, in a new file of so many pages, or not
abbrev pub RestoresFile : {D L S : Type 0} → Ghosts D → (S → SystemState D L) → SystemState D L → List ℕ → List ℕ → ℕ → Result RestoredRoles CopyRefusal → SystemState D L → Type 0
RestoresFile g state old path target pages (Ok roles) new = IsFileMade g state (restoring g pages) old path target roles new
RestoresFile g state old path target pages (Err fault) new = IsOfNoSize old pages fault new ⊎ MakesFile g state (restoring g pages) old path target (Err fault) new

-- under the name of the new file a stop leaves what it might have left before, or the whole database of the dump that the file of this path
-- holds
abbrev pub LeavesRestored : {D L : Type 0} → Ghosts D → List ℕ → List ℕ → ℕ → SystemState D L → SystemState D L → Type 0
LeavesRestored g path target pages old new = LeavesMade (restoring g pages) path target old new

-- ---- a check

-- what is answered of a file in which no database is, by what reading it as a dump came to: what was answered before, where it is no dump
abbrev pub answer_of : Result (Unit {0}) CommandFault → Result (Unit {0}) DumpFault → Result (Unit {0}) CommandFault
answer_of checked (Ok x) = Ok tt
answer_of checked (Err dump.NotADump) = checked
answer_of checked (Err fault) = Err (of_dump fault)

-- the path named this device and names that one now, of which not one sector was written, and it was read as a dump: that it is a whole
-- one was answered only where it is, and a dump was refused only for memory or for the device
pub record ReadsDump {D L : Type 0} (g : Ghosts D) (old : SystemState D L) (path : List ℕ) (checked result : Result (Unit {0}) CommandFault) (new : SystemState D L) : Type 0 where
  pub device : D
  pub left : D
  pub whole : Result (Unit {0}) DumpFault
  pub answered : result ≡ answer_of checked whole
  pub opened : old.faithful → IsReadable old path device
  pub closed : old.faithful → IsReadable new path left
  pub unwritten : old.faithful → IsUnwritten (g.state device) (g.state left)
  pub others : old.faithful → IsSameBut path old new
  pub is_whole : old.faithful → OnOk whole ((it : TheDump) × HoldsDump (g.state device) it)
  pub refused : old.faithful → (it : TheDump) → HoldsDump (g.state device) it → IfErr whole (λ fault. IsUnread fault (g.state device) (g.state left))

-- a file in which no database is was opened and read as a dump; or it was not opened, and all is as it was
abbrev pub ChecksAsDump : {D L : Type 0} → Ghosts D → SystemState D L → List ℕ → Result (Unit {0}) CommandFault → Result (Unit {0}) CommandFault → SystemState D L → Type 0
ChecksAsDump g old path checked result new = ((result ≡ checked) × (old.faithful → IsSame old new)) ⊎ ReadsDump g old path checked result new

-- whether what checking a file answers is that no database is there
abbrev pub has_no_database : Result (Unit {0}) CommandFault → Bool
has_no_database (Err command.NotADatabase) = true
has_no_database (Err command.WrongSize) = true
has_no_database checked = false

-- a file was checked: where no database is there it is read as a dump, and else nothing more is done
abbrev pub ChecksBy : {D L : Type 0} → Bool → Ghosts D → SystemState D L → List ℕ → Result (Unit {0}) CommandFault → Result (Unit {0}) CommandFault → SystemState D L → Type 0
ChecksBy true g old path checked result new = ChecksAsDump g old path checked result new
ChecksBy false g old path checked result new = (result ≡ checked) × (old.faithful → IsSame old new)

abbrev pub ChecksOrDump : {D L : Type 0} → Ghosts D → SystemState D L → List ℕ → Result (Unit {0}) CommandFault → Result (Unit {0}) CommandFault → SystemState D L → Type 0
ChecksOrDump g old path checked result new = ChecksBy (has_no_database checked) g old path checked result new
