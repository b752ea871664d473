-- What a stop leaves while a new database is made, and how a device with no database is refused.
use Rattle.std.specs.Prelude.{◌≡◌, ◌⊎◌, ◌/◌, ℕ, Some, Result, Ok, Err}
use Rattle.sector_device.specs.Timeline.{LeavesOnly}
use Rattle.sector_device.specs.Device.{DeviceState, Image, HasFailed, IsLeft, timeline}
use Rattle.store.specs.Store.{Contents}
use Rattle.cow_pages.specs.declared.open.OpenFault.TheVariants as image
use Rattle.cow_pages.specs.Image.{first_fault}
use Rattle.cow_pages.specs.Held.{KeepsContent}
use Rattle.journal_store.specs.DeviceImages.{HasContents}
use Rattle.abstract_database.specs.Database.{Database}
use Rattle.server.specs.Standing.{Stands}
use Rattle.databases.specs.declared.fault.DatabaseFault.{DatabaseFault}
use Rattle.databases.specs.declared.fault.DatabaseFault.TheVariants.{Pages}
use Rattle.databases.specs.Stopping.{IsLeftAt}

-- an image of so many sectors in which there is no database
abbrev pub IsNone : ℕ → Image → Type 0
IsNone sectors content = first_fault sectors content ≡ Some image.NotADatabase

-- one in which there is none, or this one
abbrev pub IsNoneOr : Database → ℕ → Image → Type 0
IsNoneOr db sectors image = IsNone sectors image ⊎ ((contents : Contents) × HasContents (sectors / 8) contents image × Stands contents db)

-- this database is made: a stop at any moment leaves none or this one
abbrev pub Makes : Database → DeviceState → DeviceState → Type 0
Makes db old new = LeavesOnly (IsNoneOr db old.sectors) (timeline old) (timeline new)

-- a stop at this moment may have left each image that the next device may have
pub record IsLeftOf (new : DeviceState) (stop : ℕ) (next : DeviceState) : Type 0 where
  pub sectors : next.sectors ≡ new.sectors
  pub left : (image : Image) → IsLeft next image → IsLeftAt (timeline new) stop image

-- a device with no database is refused as such, or for itself where it failed, and no sector of it is written
abbrev pub IsRefusedAsNone : Result (Unit {0}) DatabaseFault → DeviceState → DeviceState → Type 0
IsRefusedAsNone (Ok x) old new = ⊥
IsRefusedAsNone (Err fault) old new = ((fault ≡ Pages image.NotADatabase) ⊎ ((fault ≡ Pages image.Device) × HasFailed old new)) × KeepsContent old new
