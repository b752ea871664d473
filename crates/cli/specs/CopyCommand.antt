-- What the program does for `copy`.
use Rattle.std.specs.Prelude.{◌≡◌, ℕ, Bool, true, false, List, codes, Result, Ok, Err}
use Rattle.std.specs.Borrow.{Bor}
use Rattle.sector_device.specs.declared.device.Device.{Ghosts}
use Rattle.wire.specs.ScriptRun.{Known}
use Rattle.systems.specs.Systems.{SystemState}
use Rattle.cli.specs.declared.copy_fault.CopyRefusal.{CopyRefusal}
use Rattle.cli.specs.declared.copy_fault.CopyRefusal.TheVariants as copy
use Rattle.cli.specs.CopyFaults.{fault_in}
use Rattle.cli.specs.Copying.{CopiesFile}
use Rattle.cli.specs.Switching.{SwitchesFile}
use Rattle.cli.specs.declared.fault.CommandFault.{CommandFault}
use Rattle.cli.specs.declared.fault.CommandFault.TheVariants as fault
use Rattle.cli.specs.declared.ending.Ending.{Ending}
use Rattle.cli.specs.declared.ending.Ending.TheVariants as ending
use Rattle.cli.specs.declared.ending.Exit.{Exit}
use Rattle.cli.specs.declared.ending.Subject.{Subject}
use Rattle.cli.specs.declared.ending.Subject.TheVariants as subject
use Rattle.cli.specs.Ending.{Exits}
use Rattle.cli.specs.Printing.{IsPrinted}

-- what the end of a copy is about: the file, where that was refused; else the new one, or what it is called until it is whole
abbrev pub copy_subject : Bor (List ℕ) → Bor (List ℕ) → Result (Unit {0}) CopyRefusal → Subject
copy_subject file new (Ok x) = subject.Named new
copy_subject file new (Err (copy.File f)) = subject.Named file
copy_subject file new (Err (copy.New fault.Partial)) = subject.Partial new
copy_subject file new (Err (copy.New f)) = subject.Named new

-- a copy that was made was given a journal, where one was asked for; else nothing more was done
abbrev pub GivesJournal : {D L S : Type 0} (g : Ghosts D) → (S → SystemState D L) → Bool → Result (Unit {0}) CopyRefusal → S → List ℕ → Result (Unit {0}) CommandFault → S → Type 0
GivesJournal g state true (Ok x) old target given new = SwitchesFile g (state old) target true given (state new)
GivesJournal g state true (Err f) old target given new = (given ≡ Ok tt) × (new ≡ old)
GivesJournal g state false copied old target given new = (given ≡ Ok tt) × (new ≡ old)

-- the copy was made and has its name, and then it was given a journal, or it was not; `state` is what a system is at one moment
pub record CopiesAndGives {D L S : Type 0} (g : Ghosts D) (state : S → SystemState D L) (old : SystemState D L) (file target : List ℕ) (pages : ℕ) (given : Result (Unit {0}) CommandFault) (new : SystemState D L) : Type 0 where
  pub made : S
  pub copies : CopiesFile g state old file target pages (Ok tt) (state made)
  pub gives : SwitchesFile g (state made) target true given new

-- the database in the file was copied to a new file, or it was not; a copy that was made was given a journal, where one was asked for
abbrev pub CopiesWith : {D L S : Type 0} (g : Ghosts D) (state : S → SystemState D L) → SystemState D L → List ℕ → List ℕ → ℕ → Bool → Result (Unit {0}) CopyRefusal → Result (Unit {0}) CommandFault → SystemState D L → Type 0
CopiesWith g state old file target pages true (Ok x) given new = CopiesAndGives g state old file target pages given new
CopiesWith g state old file target pages true (Err f) given new = (given ≡ Ok tt) × CopiesFile g state old file target pages (Err f) new
CopiesWith g state old file target pages false copied given new = (given ≡ Ok tt) × CopiesFile g state old file target pages copied new

-- where the copy was made, and given a journal that was asked for, that was printed; else its fault is the end, and nothing was
abbrev pub IsCopyAnswered : Result (Unit {0}) CopyRefusal → Result (Unit {0}) CommandFault → Known → Ending → Known → Type 0
IsCopyAnswered (Ok x) (Ok y) before e after = IsPrinted (codes "ok COPY\n") before e after
IsCopyAnswered (Ok x) (Err f) before e after = (e ≡ ending.Fault f) × (after ≡ before)
IsCopyAnswered (Err f) given before e after = (e ≡ ending.Fault (fault_in f)) × (after ≡ before)

-- the database in the file was copied to a new file, which was given a journal where one was asked for, or why not was told
pub record Copies {D L S : Type 0} (g : Ghosts D) (state : S → SystemState D L) (old : SystemState D L) (file target : Bor (List ℕ)) (pages : ℕ) (journal : Bool) (exit : Exit) (new : SystemState D L) (out_before out_after err_before err_after : Known) : Type 0 where
  pub copied : Result (Unit {0}) CopyRefusal
  pub given : Result (Unit {0}) CommandFault
  pub copies : CopiesWith g state old file.now target.now pages journal copied given new
  pub ending : Ending
  pub answered : IsCopyAnswered copied given out_before ending out_after
  pub ends : Exits (copy_subject file target copied) ending exit err_before err_after
