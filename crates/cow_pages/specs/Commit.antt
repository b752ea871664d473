-- How the durable root changes.
use Rattle.std.specs.Prelude.{◌≡◌, ◌<◌, ◌≤◌, ◌+◌, ◌*◌, ◌⊎◌, ℕ, List, Result, MatchResult, length, slice_index}
use Rattle.sector_device.specs.Timeline.{LeavesOnly}
use Rattle.sector_device.specs.Device.{DeviceState, Image, timeline}
use Rattle.sector_device.specs.Page.{IsOutside}
use Rattle.page_roots.specs.declared.format.Format.{Format}
use Rattle.page_roots.specs.Root.{RootFields}
use Rattle.page_roots.specs.Reach.{IsSound}
use Rattle.pages.specs.State.{Array}
use Rattle.cow_pages.specs.Image.{array_of, bytes_of_page, Means}
use Rattle.cow_pages.specs.Held.{AreSpelled, IsSettled, IsRecoverable}
use Rattle.cow_pages.specs.Dirty.{DirtyBytes, overlaid_array}
use Rattle.cow_pages.specs.declared.page_map.PageMap.{PageMap}
use Rattle.cow_pages.specs.PageMap.{IsNextRoot}

-- a sector of none of these pages, where 0 is no page
abbrev pub IsApart : List ℕ → ℕ → Type 0
IsApart pages s = (j : ℕ) → 0 < slice_index pages j → IsOutside (8 * slice_index pages j) 8 s

-- what a stop might have left of the device, but for the sectors of these pages
abbrev pub AgreesApart : List ℕ → DeviceState → Image → Type 0
AgreesApart pages d image = (s : ℕ) → s < d.sectors → IsApart pages s → d.left s (image s)

-- the one array in this format and under this number, or the other in the next format and under the next number
abbrev pub IsEither : ℕ → Format → ℕ → Format → Array → Array → Image → Type 0
IsEither pages format number next before after image = Means pages format number before image ⊎ Means pages next (number + 1) after image

-- the array of the durable map as its root says, or that of the working map in the next format and under the next number
abbrev pub IsBeforeOrAfter : DeviceState → RootFields → Format → List ℕ → List ℕ → Image → Type 0
IsBeforeOrAfter d root next durable working image = IsEither root.pages root.format root.number next (array_of d.content durable) (array_of d.content working) image

-- what the write of the next root needs: it is sound, and the content of its map pages spells the working map
pub record CanSwitch (d : DeviceState) (root : RootFields) (durable : List ℕ) (next : RootFields) (working : List ℕ) : Type 0 where
  pub faithful : d.faithful
  pub settled : IsSettled d root durable
  pub number_is : next.number ≡ root.number + 1
  pub pages_is : next.pages ≡ root.pages
  pub spelled : AreSpelled (bytes_of_page d.content) next.maps working
  pub sound : IsSound next.pages next.maps working

-- what the write of map pages needs: these pages, where 0 is none, are on the device, no two are the same, and the entries have a part for each
pub record CanWriteMaps (d : DeviceState) (pages entries : List ℕ) : Type 0 where
  pub inside : (j : ℕ) → 8 * slice_index pages j + 8 ≤ d.sectors
  pub size : d.sectors ≤ 524288
  pub differ : (j k : ℕ) → 0 < slice_index pages j → slice_index pages j ≡ slice_index pages k → j ≡ k
  pub count : length entries ≡ 65536

-- what a commit begins with, once the pages of its new map pages are reserved
pub record CanCommit (d : DeviceState) (map : PageMap) (next : RootFields) : Type 0 where
  pub faithful : d.faithful
  pub settled : IsSettled d map.root map.durable.items
  pub next_is : IsNextRoot map.root next map.durable.items map.reserved map.working.items

-- The durable root changes, or the device fails. At each moment a stop leaves the array before, or the one after in the
-- format of the next root and under its number. At the end the next root is settled, or after a failure the device is recoverable for the old one, whose
-- pages are as they were.
pub record ChangesRoot {E : Type 0} (before after : Array) (root : RootFields) (durable : List ℕ) (next : RootFields) (working : List ℕ)
    (result : Result (Unit {0}) E) (d e : DeviceState) : Type 0 where
  pub any_moment : LeavesOnly (IsEither root.pages root.format root.number next.format before after) (timeline d) (timeline e)
  pub outcome : MatchResult result (λ _. IsSettled e next working × ((l : ℕ) → array_of e.content working l ≡ after l))
      (λ _. IsRecoverable e root durable × ((l : ℕ) → array_of e.content durable l ≡ before l))

-- the root sector is written, where the pages of both arrays are on the device
abbrev pub SwitchesRoot : {E : Type 0} → RootFields → List ℕ → RootFields → List ℕ → Result (Unit {0}) E → DeviceState → DeviceState → Type 0
SwitchesRoot root durable next working result d e =
    ChangesRoot (array_of d.content durable) (array_of d.content working) root durable next working result d e

-- and before it the map pages
abbrev pub WritesNext : {E : Type 0} → PageMap → RootFields → Result (Unit {0}) E → DeviceState → DeviceState → Type 0
WritesNext map next result d e = SwitchesRoot map.root map.durable.items next map.working.items result d e

-- and before those the dirty pages
abbrev pub WritesChanges : {E : Type 0} → DirtyBytes → PageMap → RootFields → Result (Unit {0}) E → DeviceState → DeviceState → Type 0
WritesChanges dirty map next result d e =
    ChangesRoot (array_of d.content map.durable.items) (overlaid_array dirty d.content map.working.items)
    map.root map.durable.items next map.working.items result d e
