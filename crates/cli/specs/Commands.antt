-- What checks and runs over the database in a file do.
use Rattle.std.specs.Prelude.{◌≡◌, ℕ, Bool, true, List, MatchResult}
use Rattle.sector_device.specs.Device.{IsSynced}
use Rattle.sector_device.specs.declared.device.Device.{Ghosts}
use Rattle.systems.specs.Systems.{SystemState}
use Rattle.abstract_database.specs.Runs.{ReadingRelation}
use Rattle.journal_store.specs.DeviceStores.{store_state}
use Rattle.wire.specs.declared.script_run.ScriptEnd.{ScriptEnd}
use Rattle.wire.specs.declared.sink.Sink.{Ghosts as SinkGhosts}
use Rattle.wire.specs.Closing.{LeavesNoSession}
use Rattle.wire.specs.ScriptRun.{Known}
use Rattle.databases.specs.declared.database.Opened.{Opened}
use Rattle.databases.specs.Openings.{IsOpenedOn, device_under, state_under}
use Rattle.databases.specs.Runs.{RunsScriptFrom}
use Rattle.cli.specs.declared.fault.CommandFault.{CommandFault}
use Rattle.cli.specs.declared.opened.CommandEnd.{CommandEnd}
use Rattle.cli.specs.Files.{ChangesDevice, IsUnopened}
use Rattle.cli.specs.Migrations.{TellsMigration}

-- `X` decides events, `g` is what is said of devices, `old` the system before, and `path` that of the file
module _ (X : Type 0) {D L : Type 0} (g : Ghosts D) (old : SystemState D L) (path : List ℕ) where
  -- the database on this device was opened, and standard error was told so where it was migrated
  pub record IsFileOpened (told : Bool) (before after : Known) : Type 0 where
    pub device : D
    pub opened : Opened D X g
    pub is_opened : old.faithful → IsOpenedOn (g.state device) opened
    pub tells : TellsMigration opened.was_migrated path told before after

  -- none was opened, and nothing was told
  pub record IsFileUnopened (fault : CommandFault) (told : Bool) (before : Known) (new : SystemState D L) (after : Known) : Type 0 where
    pub unopened : IsUnopened g old path fault new
    pub told_all : told ≡ true
    pub silent : after ≡ before

  -- ---- check

  -- the database was opened, and the file is there as opening it has left it
  pub record IsFileChecked (told : Bool) (before : Known) (new : SystemState D L) (after : Known) : Type 0 where
    pub file : IsFileOpened told before after
    pub changes : old.faithful → ChangesDevice g old path file.device (device_under file.opened.server) new

  abbrev pub ChecksFile : Known → CommandEnd (Unit {0}) → SystemState D L → Known → Type 0
  ChecksFile before end new after =
      MatchResult end.outcome (λ x. IsFileChecked end.told before new after) (λ fault. IsFileUnopened fault end.told before new after)

-- ---- run

-- `k` is what is said of the sink that takes the answers
module _ (X : Type 0) {D L K : Type 0} (g : Ghosts D) (k : SinkGhosts K) (Reads : ReadingRelation) (old : SystemState D L) (path : List ℕ) where
  -- the script was run over the database that was opened, of which a stop left each sector as it was read before the first line, and the
  -- file is there as the run has left it; no session is open, unless the server has stopped
  pub record IsFileRun (script : List ℕ) (out_before : K) (told : Bool) (err_before : Known) (end : ScriptEnd) (new : SystemState D L) (out_after : K) (err_after : Known) : Type 0 where
    pub file : IsFileOpened X g old path told err_before err_after
    pub renewed : old.faithful → IsSynced (state_under file.opened.server)
    pub left : D
    pub runs : RunsScriptFrom g k Reads file.opened.server script out_before end left out_after
    pub closed : old.faithful → LeavesNoSession store_state runs.last
    pub changes : old.faithful → ChangesDevice g old path file.device left new

  -- none was opened, and nothing was told
  abbrev pub IsFileNotRun : CommandFault → K → Bool → Known → SystemState D L → K → Known → Type 0
  IsFileNotRun fault out_before told err_before new out_after err_after =
      IsFileUnopened X g old path fault told err_before new err_after × (out_after ≡ out_before)

  abbrev pub RunsFile : List ℕ → K → Known → CommandEnd ScriptEnd → SystemState D L → K → Known → Type 0
  RunsFile script out_before err_before end new out_after err_after =
      MatchResult end.outcome (λ script_end. IsFileRun script out_before end.told err_before script_end new out_after err_after)
      (λ fault. IsFileNotRun fault out_before end.told err_before new out_after err_after)
