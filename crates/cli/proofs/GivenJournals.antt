-- A copy, and the journal that it is given.
use Rattle.std.proofs.Common.{◌≡◌, ℕ, Bool, true, false, List, sym, subst}
use Rattle.std.specs.Prelude.{Result, Ok, Err}
use Rattle.sector_device.specs.declared.device.Device.{Ghosts}
use Rattle.systems.specs.Systems.{SystemState}
use Rattle.cli.specs.declared.copy_fault.CopyRefusal.{CopyRefusal}
use Rattle.cli.specs.declared.fault.CommandFault.{CommandFault}
use Rattle.cli.specs.Copying.{CopiesFile}
use Rattle.cli.specs.CopyCommand.{CopiesWith, GivesJournal}

module _ {D L S : Type 0} (g : Ghosts D) (state : S → SystemState D L) (old : SystemState D L) (file target : List ℕ) (pages : ℕ) where
  -- where the system stayed as the copy had left it, so does what the copy did
  still_copied : (copied : Result (Unit {0}) CopyRefusal) (made new : S) → new ≡ made → CopiesFile g state old file target pages copied (state made) → CopiesFile g state old file target pages copied (state new)
  still_copied copied made new same copies = subst (λ (s : S). CopiesFile g state old file target pages copied (state s)) (sym same) copies

  -- a copy that was made, and then given a journal where one was asked for
  pub copied_with : (journal : Bool) (copied : Result (Unit {0}) CopyRefusal) (given : Result (Unit {0}) CommandFault) (made new : S) →
      CopiesFile g state old file target pages copied (state made) → GivesJournal g state journal copied made target given new →
      CopiesWith g state old file target pages journal copied given (state new)
  copied_with true (Ok tt) given made new copies gives = record { made = made; copies = copies; gives = gives }
  copied_with true (Err f) given made new copies (none, same) = (none, still_copied (Err f) made new same copies)
  copied_with false copied given made new copies (none, same) = (none, still_copied copied made new same copies)
