-- What making a new store with a journal does, by its answer.
use Rattle.std.specs.Prelude.{◌≡◌, ◌≤◌, ◌⊎◌, ◌/◌, ℕ, [], ◌∷◌, Some, Result, Ok, Err}
use Rattle.storage_sizes.specs.declared.record_format.RecordFormat.TheVariants.{V2}
use Rattle.sector_device.specs.Timeline.{LeavesOnly, Passes}
use Rattle.sector_device.specs.Device.{DeviceState, Image, KeepsSize, HasFailed, IsLeft, IsSynced, IsBehindRoots, timeline}
use Rattle.sector_device.specs.Page.{IsAlone, IsOutside}
use Rattle.sector_device.specs.declared.device.Device.{Ghosts}
use Rattle.journal.specs.Sectors.{zeros}
use Rattle.cow_pages.specs.declared.open.OpenFault.{OpenFault}
use Rattle.cow_pages.specs.declared.open.OpenFault.TheVariants.{WrongSize, NotADatabase, NewerFormat, Damaged, Device, Memory}
use Rattle.cow_pages.specs.Image.{first_fault}
use Rattle.cow_pages.specs.Formatting.{IsBlank}
use Rattle.store.specs.Records.{Record}
use Rattle.store.specs.Store.{Contents}
use Rattle.journal_store.specs.Meaning.{HasJournaledContents}

-- the contents of a new store
abbrev pub first_contents : Record → Contents
first_contents entry = record { record_format = V2; records = entry ∷ [] }

-- an image has this record and no other, under a root of number 1 that says that there is a journal
abbrev pub HasFirst : ℕ → Record → Image → Type 0
HasFirst pages entry image = (has : HasJournaledContents pages (first_contents entry) image) × (has.root ≡ 1)

-- no sector behind the root sectors holds a part of a record, so that none has a number
abbrev pub HasNoParts : Image → Type 0
HasNoParts image = (s : ℕ) → IsBehindRoots s → image s ≡ zeros

-- no database yet, or one that has this record and no other, and a journal without a number
abbrev pub IsNoneOrFirst : ℕ → Record → Image → Type 0
IsNoneOrFirst sectors entry image = (first_fault sectors image ≡ Some NotADatabase) ⊎ (HasFirst (sectors / 8) entry image × HasNoParts image)

-- a clock that goes on
abbrev pub GoesOn : DeviceState → DeviceState → Type 0
GoesOn old new = Passes (λ image. Unit {0}) (timeline old) (timeline new)

-- The sectors of a new store are written. On a blank device a stop at any moment leaves no database or the new one whole.
pub record WritesStore (entry : Record) (old new : DeviceState) : Type 0 where
  pub size : KeepsSize old new
  pub time : old.faithful → GoesOn old new
  pub any_moment : old.faithful → IsBlank old → LeavesOnly (IsNoneOrFirst old.sectors entry) (timeline old) (timeline new)
  pub others : old.faithful → (s : ℕ) → 8 ≤ s → IsOutside 8 16 s → IsAlone old new s

-- a stop leaves the new store and nothing else
pub record IsMade (entry : Record) (old new : DeviceState) : Type 0 where
  pub left : (image : Image) → IsLeft new image → HasFirst (old.sectors / 8) entry image × HasNoParts image
  pub synced : IsSynced new

-- a new store is made, or memory is refused before anything is written, or the device fails; no other fault comes
abbrev pub Formats : {D : Type 0} (g : Ghosts D) → Record → Result (Unit {0}) OpenFault → D → D → Type 0
Formats g entry (Ok x) old new = WritesStore entry (g.state old) (g.state new) × ((g.state old).faithful → IsMade entry (g.state old) (g.state new))
Formats g entry (Err WrongSize) old new = ⊥
Formats g entry (Err NotADatabase) old new = ⊥
Formats g entry (Err (NewerFormat format)) old new = ⊥
Formats g entry (Err Damaged) old new = ⊥
Formats g entry (Err Memory) old new = new ≡ old
Formats g entry (Err Device) old new = WritesStore entry (g.state old) (g.state new) × HasFailed (g.state old) (g.state new)
