-- A database that is made of the dump in a file, by what was done one after the other.
use Rattle.std.proofs.Common.{◌≡◌, ℕ, Bool, true, false, List, Result, Ok, Err, inr, refl, sym, subst}
use Rattle.sector_device.specs.Device.{KeepsHistory}
use Rattle.sector_device.specs.declared.device.Device.{Ghosts}
use Rattle.systems.specs.Systems.{HoldsZeros, IsUnnamed, SystemState}
use Rattle.cow_pages.specs.Held.{KeepsContent}
use Rattle.database_dumps.specs.Restoring.{IsRestored, RestoresDump}
use Rattle.database_dumps.specs.declared.roles.RestoredRoles.{RestoredRoles}
use Rattle.database_dumps.specs.declared.fault.RestoreFault.{RestoreFault}
use Rattle.cli.specs.declared.copy_fault.CopyRefusal.{CopyRefusal}
use Rattle.cli.specs.declared.fault.CommandFault.{CommandFault}
use Rattle.cli.specs.CopyCommand.{GivesJournal}
use Rattle.cli.specs.DumpCommands.{RestoresWith, without_roles}
use Rattle.cli.specs.NewFiles.{IsTried, MakesFile}
use Rattle.cli.specs.Restoring.{IsOfDump, RestoresFile, restoring}
use Rattle.cli.proofs.Blank.{blank_of_zeros}

-- one was tried on a new device
module _ {D L : Type 0} (g : Ghosts D) (old : SystemState D L) (partial target : List ℕ) (pages : ℕ) (device left blank made : D) (free : old.faithful → IsUnnamed old partial) (zeros : old.faithful → HoldsZeros pages (g.state blank))
    (history : KeepsHistory (g.state device) (g.state left)) (content : (g.state device).faithful → KeepsContent (g.state device) (g.state left)) where
  pub restore_tried : (result : Result RestoredRoles RestoreFault) → ((g.state device).faithful → (g.state blank).faithful → RestoresDump (g.state device) (g.state left) result (g.state blank) (g.state made)) → IsTried g (restoring g pages) old partial target device pages result left blank made
  restore_tried result restores = record {
    is_blank = λ is. record { new = free is; zeros = zeros is; blank = blank_of_zeros pages (g.state blank) (zeros is) };
    does = λ is faithful. (refl, restores faithful (zeros is).faithful);
    history = history;
    content = content;
  }

-- what is made is the database of the dump
pub of_dump : {D : Type 0} (g : Ghosts D) (device made : D) (roles : RestoredRoles) → IsRestored (g.state device) roles (g.state made) → IsOfDump (g.state device) (g.state made)
of_dump g device made roles is = record { dump = is.dump; holds = is.holds; database = is.database; stands = is.stands; whole = is.whole }

pub restores_file : {D L S : Type 0} (g : Ghosts D) (state : S → SystemState D L) (old new : SystemState D L) (path target : List ℕ) (pages : ℕ) (result : Result RestoredRoles CopyRefusal) → MakesFile g state (restoring g pages) old path target result new
    → RestoresFile g state old path target pages result new
restores_file g state old new path target pages (Ok roles) it = it
restores_file g state old new path target pages (Err fault) it = inr it

-- ---- the journal that it is given

module _ {D L S : Type 0} (g : Ghosts D) (state : S → SystemState D L) (old : SystemState D L) (file target : List ℕ) (pages : ℕ) where
  still_restored : (restored : Result RestoredRoles CopyRefusal) (made new : S) → new ≡ made → RestoresFile g state old file target pages restored (state made) → RestoresFile g state old file target pages restored (state new)
  still_restored restored made new same restores = subst (λ (s : S). RestoresFile g state old file target pages restored (state s)) (sym same) restores

  -- a database that was made, and then given a journal where one was asked for
  pub restored_with : (journal : Bool) (restored : Result RestoredRoles CopyRefusal) (given : Result (Unit {0}) CommandFault) (made new : S) → RestoresFile g state old file target pages restored (state made)
      → GivesJournal g state journal (without_roles restored) made target given new → RestoresWith g state old file target pages journal restored given (state new)
  restored_with true (Ok roles) given made new restores gives = record { made = made; restores = restores; gives = gives }
  restored_with true (Err f) given made new restores (none, same) = (none, still_restored (Err f) made new same restores)
  restored_with false restored given made new restores (none, same) = (none, still_restored restored made new same restores)
