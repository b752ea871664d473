-- What the program does for `dump` and `restore`.
use Rattle.std.specs.Prelude.{◌≡◌, ◌⊎◌, ◌++◌, ℕ, Bool, true, false, List, codes, decimal, Result, Ok, Err}
use Rattle.std.specs.Borrow.{Bor}
use Rattle.sector_device.specs.declared.device.Device.{Ghosts}
use Rattle.wire.specs.ScriptRun.{Known}
use Rattle.systems.specs.Systems.{SystemState}
use Rattle.database_dumps.specs.declared.roles.RestoredRoles.{RestoredRoles}
use Rattle.cli.specs.declared.copy_fault.CopyRefusal.{CopyRefusal}
use Rattle.cli.specs.CopyFaults.{fault_in}
use Rattle.cli.specs.CopyCommand.{copy_subject}
use Rattle.cli.specs.Switching.{SwitchesFile}
use Rattle.cli.specs.Dumping.{DumpsFile}
use Rattle.cli.specs.Restoring.{RestoresFile}
use Rattle.cli.specs.declared.fault.CommandFault.{CommandFault}
use Rattle.cli.specs.declared.fault.CommandFault.TheVariants as fault
use Rattle.cli.specs.declared.ending.Ending.{Ending}
use Rattle.cli.specs.declared.ending.Ending.TheVariants as ending
use Rattle.cli.specs.declared.ending.Exit.{Exit}
use Rattle.cli.specs.Ending.{Exits}
use Rattle.cli.specs.Printing.{IsPrinted}

-- where the dump was made that was printed; else its fault is the end, and nothing was
abbrev pub IsDumpAnswered : Result (Unit {0}) CopyRefusal → Known → Ending → Known → Type 0
IsDumpAnswered (Ok x) before e after = IsPrinted (codes "ok DUMP\n") before e after
IsDumpAnswered (Err f) before e after = (e ≡ ending.Fault (fault_in f)) × (after ≡ before)

-- a dump of the database in the file was written to a new file, or why not was told
pub record Dumps {D L S : Type 0} (g : Ghosts D) (state : S → SystemState D L) (old : SystemState D L) (file target : Bor (List ℕ)) (exit : Exit) (new : SystemState D L) (out_before out_after err_before err_after : Known) : Type 0 where
  pub dumped : Result (Unit {0}) CopyRefusal
  pub dumps : DumpsFile g state old file.now target.now dumped new
  pub ending : Ending
  pub answered : IsDumpAnswered dumped out_before ending out_after
  pub ends : Exits (copy_subject file target dumped) ending exit err_before err_after

-- that a database was made, and of how many roles that may do everything or log in
abbrev pub roles_text : RestoredRoles → List ℕ
roles_text roles = codes "ok RESTORE superusers: " ++ (decimal roles.superusers ++ (codes ", logins: " ++ (decimal roles.logins ++ codes "\n")))

-- whether it was made
abbrev pub without_roles : Result RestoredRoles CopyRefusal → Result (Unit {0}) CopyRefusal
without_roles (Ok roles) = Ok tt
without_roles (Err f) = Err f

-- memory was refused for the text, and nothing was printed
abbrev pub IsUntold : Known → Ending → Known → Type 0
IsUntold before e after = (e ≡ ending.Fault fault.Memory) × (after ≡ before)

-- where the database was made, and given a journal that was asked for, that was printed, unless memory was refused; else its fault is the end
abbrev pub IsRestoreAnswered : Result RestoredRoles CopyRefusal → Result (Unit {0}) CommandFault → Known → Ending → Known → Type 0
IsRestoreAnswered (Ok roles) (Ok y) before e after = IsPrinted (roles_text roles) before e after ⊎ IsUntold before e after
IsRestoreAnswered (Ok roles) (Err f) before e after = (e ≡ ending.Fault f) × (after ≡ before)
IsRestoreAnswered (Err f) given before e after = (e ≡ ending.Fault (fault_in f)) × (after ≡ before)

-- the database was made and has its name, and then it was given a journal, or it was not; `state` is what a system is at one moment
pub record RestoresAndGives {D L S : Type 0} (g : Ghosts D) (state : S → SystemState D L) (old : SystemState D L) (file target : List ℕ) (pages : ℕ) (roles : RestoredRoles) (given : Result (Unit {0}) CommandFault) (new : SystemState D L) : Type 0 where
  pub made : S
  pub restores : RestoresFile g state old file target pages (Ok roles) (state made)
  pub gives : SwitchesFile g (state made) target true given new

-- a database was made of the dump in the file, in a new file, or it was not; one that was made was given a journal, where one was asked for
abbrev pub RestoresWith : {D L S : Type 0} (g : Ghosts D) (state : S → SystemState D L) → SystemState D L → List ℕ → List ℕ → ℕ → Bool → Result RestoredRoles CopyRefusal → Result (Unit {0}) CommandFault → SystemState D L → Type 0
RestoresWith g state old file target pages true (Ok roles) given new = RestoresAndGives g state old file target pages roles given new
RestoresWith g state old file target pages true (Err f) given new = (given ≡ Ok tt) × RestoresFile g state old file target pages (Err f) new
RestoresWith g state old file target pages false restored given new = (given ≡ Ok tt) × RestoresFile g state old file target pages restored new

-- a database was made of the dump in a new file, which was given a journal where one was asked for, or why not was told
pub record Restores {D L S : Type 0} (g : Ghosts D) (state : S → SystemState D L) (old : SystemState D L) (file target : Bor (List ℕ)) (pages : ℕ) (journal : Bool) (exit : Exit) (new : SystemState D L) (out_before out_after err_before err_after : Known) : Type 0 where
  pub restored : Result RestoredRoles CopyRefusal
  pub given : Result (Unit {0}) CommandFault
  pub restores : RestoresWith g state old file.now target.now pages journal restored given new
  pub ending : Ending
  pub answered : IsRestoreAnswered restored given out_before ending out_after
  pub ends : Exits (copy_subject file target (without_roles restored)) ending exit err_before err_after
