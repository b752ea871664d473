-- Which database a device holds, and what a stop leaves of it.
use Rattle.std.specs.Prelude.{◌≡◌, ◌/◌, ℕ}
use Rattle.storage_sizes.specs.declared.record_format.RecordFormat.TheVariants.{V1}
use Rattle.sector_device.specs.Timeline.{LeavesOnly}
use Rattle.sector_device.specs.Device.{DeviceState, Image, KeepsHistory}
use Rattle.cow_pages.specs.Held.{KeepsContent}
use Rattle.store.specs.Store.{StoreState, Contents, stored}
use Rattle.journal_store.specs.DeviceImages.{HasContents}
use Rattle.abstract_database.specs.Database.{Database}
use Rattle.server.specs.Standing.{Stands}
pub use Rattle.databases.specs.OnDevice.{records_on, LeavesDatabase}

-- an image of so many pages stands for this database: its contents do
pub record MeansDatabase (pages : ℕ) (image : Image) (db : Database) : Type 0 where
  pub contents : Contents
  pub has : HasContents pages contents image
  pub stands : Stands contents db

-- a store has the contents for which an image stands for a database, under their number
pub record KeepsRecords {pages : ℕ} {image : Image} {db : Database} (means : MeansDatabase pages image db) (s : StoreState) : Type 0 where
  pub contents : stored s ≡ means.contents
  pub number : s.number ≡ means.has.number

-- an image of so many pages has contents, which stand for no database
pub record MeansNone (pages : ℕ) (image : Image) : Type 0 where
  pub contents : Contents
  pub has : HasContents pages contents image
  pub none : (db : Database) → Stands contents db → ⊥

-- the device holds this database
abbrev pub HoldsDatabase : DeviceState → Database → Type 0
HoldsDatabase d db = MeansDatabase (d.sectors / 8) d.content db

-- the device holds contents of record format 1
pub record HoldsRecordFormat1 (d : DeviceState) : Type 0 where
  pub contents : Contents
  pub has : HasContents (d.sectors / 8) contents d.content
  pub first : contents.record_format ≡ V1

-- not one sector was written: each has the content that it had, and a stop leaves no more than before
pub record IsUnwritten (old new : DeviceState) : Type 0 where
  pub history : KeepsHistory old new
  pub content : KeepsContent old new

-- nothing was changed: a stop leaves records that it might have left before
abbrev pub LeavesAsBefore : DeviceState → DeviceState → Type 0
LeavesAsBefore old new = LeavesOnly (records_on old).left (records_on old) (records_on new)
