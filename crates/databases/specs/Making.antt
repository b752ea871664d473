-- What making a new database on a device does.
use Rattle.std.specs.Prelude.{◌≡◌, ◌⊎◌, ◌/◌, ℕ, Bool, true, false, Some, Result, Ok, Err}
use Rattle.storage_sizes.specs.CurrentRecordFormat.{current}
use Rattle.sector_device.specs.Timeline.{LeavesOnly}
use Rattle.sector_device.specs.Device.{DeviceState, Image, KeepsHistory, KeepsSize, HasFailed, IsLeft, IsSynced, timeline}
use Rattle.sector_device.specs.declared.device.Device.{Ghosts}
use Rattle.cow_pages.specs.declared.open.OpenFault.{OpenFault}
use Rattle.cow_pages.specs.declared.open.OpenFault.TheVariants.{WrongSize, NotADatabase, NewerFormat, Damaged, Device, Memory}
use Rattle.cow_pages.specs.Image.{first_fault, is_size}
use Rattle.cow_pages.specs.Formatting.{IsBlank}
use Rattle.store.specs.Records.{Record}
use Rattle.store.specs.Store.{Contents}
use Rattle.kv_store.specs.Numbered.{HasContentsUnder}
use Rattle.kv_store.specs.Formatting.{Formats}
use Rattle.journal_store.specs.Formatting.{GoesOn, Formats as FormatsJournaled}
use Rattle.journal_store.specs.Images.{IsJournaledUnder}
use Rattle.abstract_database.specs.Lists.{TheName}
use Rattle.abstract_database.specs.Database.{new_database}
use Rattle.databases.specs.Databases.{MeansDatabase}

-- the root of an image says that there is a journal, or that there is none, and it has these contents under this number
abbrev pub HasContentsOfKind : Bool → ℕ → ℕ → Contents → Image → Type 0
HasContentsOfKind true pages number contents image = IsJournaledUnder pages number contents image
HasContentsOfKind false pages number contents image = HasContentsUnder false pages number contents image

-- the image stands for the new database of this administrator, under number 1, with a journal or without
pub record IsNew (journal : Bool) (sectors : ℕ) (admin : TheName) (image : Image) : Type 0 where
  pub means : MeansDatabase (sectors / 8) image (new_database admin)
  pub first : means.has.number ≡ 1
  pub kind : HasContentsOfKind journal (sectors / 8) 1 means.contents image

-- no database yet, or the new one
abbrev pub IsNoneOrNew : Bool → ℕ → TheName → Image → Type 0
IsNoneOrNew journal sectors admin image = (first_fault sectors image ≡ Some NotADatabase) ⊎ IsNew journal sectors admin image

-- what is left alone: the device's size, and its clock goes on; without a journal the sectors beside, too
abbrev pub KeepsDevice : Bool → DeviceState → DeviceState → Type 0
KeepsDevice true old new = KeepsSize old new × (old.faithful → GoesOn old new)
KeepsDevice false old new = KeepsHistory old new

-- its sectors, of the right number, are written: on a blank device a stop at any moment leaves no database or the new one
pub record WritesNew (journal : Bool) (admin : TheName) (old new : DeviceState) : Type 0 where
  pub size : is_size old.sectors ≡ true
  pub keeps : KeepsDevice journal old new
  pub any_moment : old.faithful → IsBlank old → LeavesOnly (IsNoneOrNew journal old.sectors admin) (timeline old) (timeline new)

-- a stop leaves the new database and nothing else
pub record IsMade (journal : Bool) (admin : TheName) (old new : DeviceState) : Type 0 where
  pub left : (image : Image) → IsLeft new image → IsNew journal old.sectors admin image
  pub synced : IsSynced new

-- the new database is made; or the device has another size, or memory is refused, before anything is written; or the device fails; no other fault comes
abbrev pub Makes : {D : Type 0} → (D → DeviceState) → Bool → TheName → Result (Unit {0}) OpenFault → D → D → Type 0
Makes state journal admin (Ok x) old new = WritesNew journal admin (state old) (state new) × ((state old).faithful → IsMade journal admin (state old) (state new))
Makes state journal admin (Err Memory) old new = (is_size (state old).sectors ≡ true) × (new ≡ old)
Makes state journal admin (Err Device) old new = WritesNew journal admin (state old) (state new) × HasFailed (state old) (state new)
Makes state journal admin (Err WrongSize) old new = (is_size (state old).sectors ≡ false) × (new ≡ old)
Makes state journal admin (Err NotADatabase) old new = ⊥
Makes state journal admin (Err (NewerFormat format)) old new = ⊥
Makes state journal admin (Err Damaged) old new = ⊥

-- what making the store of a new database does, with a journal or without
abbrev pub FormatsOfKind : {D : Type 0} (g : Ghosts D) → Bool → Record → Result (Unit {0}) OpenFault → D → D → Type 0
FormatsOfKind g true first result old new = FormatsJournaled g first result old new
FormatsOfKind g false first result old new = Formats g current first result old new
