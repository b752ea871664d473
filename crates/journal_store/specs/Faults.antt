-- What is the same where a journal is turned on and where it is turned off.
use Rattle.std.specs.Prelude.{◌≡◌, ◌⊎◌, ◌/◌, Option, Some}
use Rattle.sector_device.specs.Timeline.{LeavesOnly}
use Rattle.sector_device.specs.Device.{DeviceState, HasFailed}
use Rattle.store.specs.Store.{Contents}
use Rattle.journal_store.specs.DeviceImages.{HasContents, records_on}

-- a stop leaves what it might have left before, or these contents
abbrev pub MayLeave : DeviceState → Contents → Option Contents → Type 0
MayLeave d contents x = (records_on d).left x ⊎ (x ≡ Some contents)

-- The device had these contents. A stop at any moment since leaves these, with a journal or without, or what it might have left before;
-- now it leaves these alone.
pub record KeepsContents (contents : Contents) (d e : DeviceState) : Type 0 where
  pub had : HasContents (d.sectors / 8) contents d.content
  pub any_moment : LeavesOnly (MayLeave d contents) (records_on d) (records_on e)
  pub now : (x : Option Contents) → (records_on e).left x → x ≡ Some contents

-- the device failed, and a stop leaves the contents that it had
pub record IsFailed (d e : DeviceState) : Type 0 where
  pub contents : Contents
  pub keeps : KeepsContents contents d e
  pub cause : HasFailed d e
