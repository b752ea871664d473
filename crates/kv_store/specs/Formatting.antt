-- What making a new store does, by its answer.
use Rattle.std.specs.Prelude.{◌≡◌, ◌≤◌, ◌⊎◌, ◌/◌, ℕ, List, [], ◌∷◌, Some, Result, Ok, Err}
use Rattle.sector_device.specs.Timeline.{LeavesOnly}
use Rattle.sector_device.specs.Device.{DeviceState, Image, KeepsHistory, HasFailed, IsLeft, IsSynced, timeline}
use Rattle.sector_device.specs.Page.{IsAlone, IsOutside}
use Rattle.sector_device.specs.declared.device.Device.{Ghosts}
use Rattle.storage_sizes.specs.declared.record_format.RecordFormat.{RecordFormat}
use Rattle.page_roots.specs.Formats.{format_of}
use Rattle.cow_pages.specs.declared.open.OpenFault.{OpenFault}
use Rattle.cow_pages.specs.declared.open.OpenFault.TheVariants.{WrongSize, NotADatabase, NewerFormat, Damaged, Device, Memory}
use Rattle.cow_pages.specs.Image.{first_fault}
use Rattle.cow_pages.specs.Formatting.{IsBlank, HasFirstBytes}
use Rattle.page_nodes.specs.declared.cell.NodeKind.TheVariants.{Leaf}
use Rattle.page_nodes.specs.Node.{IsNode}
use Rattle.store.specs.Records.{Record}
use Rattle.kv_store.specs.Contents.{HasContents}

-- an image has this record and no other, in this record format and under number 1
abbrev pub HasFirst : ℕ → RecordFormat → Record → Image → Type 0
HasFirst pages record_format entry image = (has : HasContents pages (record { record_format = record_format; records = entry ∷ [] }) image) × (has.number ≡ 1)

-- no database yet, or one that has this record and no other
abbrev pub IsNoneOrFirst : ℕ → RecordFormat → Record → Image → Type 0
IsNoneOrFirst sectors record_format entry image = (first_fault sectors image ≡ Some NotADatabase) ⊎ HasFirst (sectors / 8) record_format entry image

-- The sectors of a new store are written. On a blank device a stop at any moment leaves no database or the new one whole.
pub record WritesStore (record_format : RecordFormat) (entry : Record) (old new : DeviceState) : Type 0 where
  pub history : KeepsHistory old new
  pub any_moment : old.faithful → IsBlank old → LeavesOnly (IsNoneOrFirst old.sectors record_format entry) (timeline old) (timeline new)
  pub others : old.faithful → (s : ℕ) → 2 ≤ s → IsOutside 8 16 s → IsAlone old new s

-- a stop leaves the new store and nothing else, whose first page is the leaf of the record
pub record IsMade (record_format : RecordFormat) (entry : Record) (old new : DeviceState) : Type 0 where
  pub left : (image : Image) → IsLeft new image → HasFirst (old.sectors / 8) record_format entry image
  pub synced : IsSynced new
  pub page : List ℕ
  pub leaf : IsNode Leaf [] (entry ∷ []) page
  pub bytes : HasFirstBytes (old.sectors / 8) (format_of record_format) page new.content

-- a new store is made, or memory is refused before anything is written, or the device fails; no other fault comes
abbrev pub Formats : {D : Type 0} (g : Ghosts D) → RecordFormat → Record → Result (Unit {0}) OpenFault → D → D → Type 0
Formats g record_format entry (Ok x) old new = WritesStore record_format entry (g.state old) (g.state new) × ((g.state old).faithful → IsMade record_format entry (g.state old) (g.state new))
Formats g record_format entry (Err WrongSize) old new = ⊥
Formats g record_format entry (Err NotADatabase) old new = ⊥
Formats g record_format entry (Err (NewerFormat format)) old new = ⊥
Formats g record_format entry (Err Damaged) old new = ⊥
Formats g record_format entry (Err Memory) old new = new ≡ old
Formats g record_format entry (Err Device) old new = WritesStore record_format entry (g.state old) (g.state new) × HasFailed (g.state old) (g.state new)
