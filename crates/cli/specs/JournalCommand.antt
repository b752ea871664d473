-- What the program does for `journal`.
use Rattle.std.specs.Prelude.{◌≡◌, ℕ, Bool, List, codes, Result, Ok, Err}
use Rattle.std.specs.Borrow.{Bor}
use Rattle.sector_device.specs.declared.device.Device.{Ghosts}
use Rattle.wire.specs.ScriptRun.{Known}
use Rattle.systems.specs.Systems.{SystemState}
use Rattle.cli.specs.Switching.{SwitchesFile}
use Rattle.cli.specs.declared.fault.CommandFault.{CommandFault}
use Rattle.cli.specs.declared.ending.Ending.{Ending}
use Rattle.cli.specs.declared.ending.Ending.TheVariants as ending
use Rattle.cli.specs.declared.ending.Exit.{Exit}
use Rattle.cli.specs.declared.ending.Subject.TheVariants as subject
use Rattle.cli.specs.Ending.{Exits}
use Rattle.cli.specs.Printing.{IsPrinted}

-- where it was turned on or off that was printed; else its fault is the end, and nothing was
abbrev pub IsSwitchAnswered : Result (Unit {0}) CommandFault → Known → Ending → Known → Type 0
IsSwitchAnswered (Ok x) before e after = IsPrinted (codes "ok JOURNAL\n") before e after
IsSwitchAnswered (Err f) before e after = (e ≡ ending.Fault f) × (after ≡ before)

-- the journal of the database in the file was turned on or off, or why not was told
pub record Switches {D L : Type 0} (g : Ghosts D) (old : SystemState D L) (file : Bor (List ℕ)) (on : Bool) (exit : Exit) (new : SystemState D L) (out_before out_after err_before err_after : Known) : Type 0 where
  pub switched : Result (Unit {0}) CommandFault
  pub switches : SwitchesFile g old file.now on switched new
  pub ending : Ending
  pub answered : IsSwitchAnswered switched out_before ending out_after
  pub ends : Exits (subject.Named file) ending exit err_before err_after
