-- What dumping the database in a file to a new file does.
use Rattle.std.specs.Prelude.{◌≡◌, ℕ, List, Result, Ok, Err}
use Rattle.sector_device.specs.declared.device.Device.{Ghosts}
use Rattle.systems.specs.Systems.{SystemState}
use Rattle.copies.specs.declared.fault.CopyFault.{CopyFault}
use Rattle.database_dumps.specs.Counting.{CountsPages}
use Rattle.database_dumps.specs.Dumping.{DumpsDatabase, IsDumpOf}
use Rattle.cli.specs.declared.copy_fault.CopyRefusal.{CopyRefusal}
use Rattle.cli.specs.CopyFaults.{of_copy}
use Rattle.cli.specs.NewFiles.{LeavesMade, MakesFile, Making}

-- the new device is a dump of the database on the other, also after a stop; or why it is not
abbrev pub WritesDump : {D : Type 0} → Ghosts D → Result (Unit {0}) CopyFault → D → D → D → D → Type 0
WritesDump g (Ok x) device left blank dump = IsDumpOf (g.state device) (g.state dump)
WritesDump g (Err why) device left blank dump = DumpsDatabase (g.state device) (g.state left) (Err why) (g.state blank) (g.state dump)

-- the pages of a dump were not counted, or are more than a file may have
abbrev pub IsUncounted : {D : Type 0} → Ghosts D → CopyRefusal → D → D → Type 0
IsUncounted g fault device left = (why : CopyFault) × (fault ≡ of_copy 65536 why) × CountsPages (g.state device) (g.state left) (Err why)

-- how a dump is made
abbrev pub dumping : {D : Type 0} → Ghosts D → Making D (Unit {0}) CopyFault
dumping g = record {
  does = λ pages result device left blank dump. WritesDump g result device left blank dump;
  refusal = of_copy;
  unbegun = λ fault device left. IsUncounted g fault device left;
  whole = λ device dump. IsDumpOf (g.state device) (g.state dump);
}

-- the database in the file of this path was dumped to a new file, or not
abbrev pub DumpsFile : {D L S : Type 0} → Ghosts D → (S → SystemState D L) → SystemState D L → List ℕ → List ℕ → Result (Unit {0}) CopyRefusal → SystemState D L → Type 0
DumpsFile g state old path target result new = MakesFile g state (dumping g) old path target result new

-- under the name of the dump a stop leaves what it might have left before, or a whole dump of the database that the file of this path holds
abbrev pub LeavesDump : {D L : Type 0} → Ghosts D → List ℕ → List ℕ → SystemState D L → SystemState D L → Type 0
LeavesDump g path target old new = LeavesMade (dumping g) path target old new
