-- What appending a record to the journal of a device does.
use Rattle.std.specs.Prelude.{ℕ, List, length, Result, OnOk, OnErr}
use Rattle.sector_device.specs.Timeline.{LeavesOnly}
use Rattle.sector_device.specs.Device.{DeviceState, HasFailed, IsSynced, KeepsHistory, timeline}
use Rattle.sector_device.specs.Page.{IsAlone, IsOutside}
use Rattle.sector_device.specs.Sectors.{MayHoldSectors}
use Rattle.journal.specs.Chain.{Entry}
use Rattle.journal.specs.Journals.{CanAppend, HasEither, IsAppended}

-- where the sectors are those of a record that can be appended, a stop leaves the records that were there, or these and the new one
abbrev pub LeavesOldOrAppended : ℕ → List (List ℕ) → DeviceState → DeviceState → Type 0
LeavesOldOrAppended first sectors old new = (start room root top : ℕ) (es : List Entry) (entry : Entry)
    → CanAppend start room root top es entry first sectors old → LeavesOnly (HasEither start room root es entry) (timeline old) (timeline new)

-- and from now on it leaves the new one too
abbrev pub HasAppended : ℕ → List (List ℕ) → DeviceState → DeviceState → Type 0
HasAppended first sectors old new = (start room root top : ℕ) (es : List Entry) (entry : Entry)
    → CanAppend start room root top es entry first sectors old → IsAppended start room root es entry new

-- these sectors are written from `first` on, and no other
pub record Appends {E : Type 0} (first : ℕ) (sectors : List (List ℕ)) (result : Result (Unit {0}) E) (old new : DeviceState) : Type 0 where
  pub history : KeepsHistory old new
  pub any_moment : old.faithful → LeavesOnly (MayHoldSectors first sectors old) (timeline old) (timeline new)
  pub alone : old.faithful → (s : ℕ) → IsOutside first (length sectors) s → IsAlone old new s
  pub synced : old.faithful → OnOk result (IsSynced new)
  pub leaves : old.faithful → LeavesOldOrAppended first sectors old new
  pub appended : old.faithful → OnOk result (HasAppended first sectors old new)
  pub cause : OnErr result (HasFailed old new)
