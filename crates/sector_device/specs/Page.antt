-- Pages of eight sectors, read and written sector by sector.
use Rattle.std.specs.Prelude.{◌<◌, ◌≡◌, ◌⊎◌, ◌≤◌, ◌+◌, ℕ, List}
use Rattle.std.specs.List.{flat_map, range_with_len}
use Rattle.storage_sizes.specs.Sizes.{sectors_per_page}
use Rattle.sector_device.specs.Timeline.{LeavesOnly}
use Rattle.sector_device.specs.Device.{DeviceState, Image, IsLeft, timeline}
use Rattle.sector_device.specs.FileState.{sector_of}

-- the bytes of the page of eight sectors from the first on
abbrev pub page_at : Image → ℕ → List ℕ
page_at image first = flat_map image (range_with_len first sectors_per_page)

-- the sectors from the first on hold the parts of these bytes
abbrev pub HoldsPage : ℕ → List ℕ → Image → Type 0
HoldsPage first bytes image = (k : ℕ) → k < sectors_per_page → image (first + k) ≡ sector_of k bytes

-- one of the eight sectors from the first on, and its part of these bytes
pub record IsPart (first : ℕ) (bytes : List ℕ) (sector : ℕ) (content : List ℕ) : Type 0 where
  pub part : ℕ
  pub within : part < sectors_per_page
  pub place : sector ≡ first + part
  pub is : content ≡ sector_of part bytes

-- in each sector what a stop might have left of the device, or the sector's part of these bytes
abbrev pub MayHoldParts : ℕ → List ℕ → DeviceState → Image → Type 0
MayHoldParts first bytes d image = (s : ℕ) → s < d.sectors → d.left s (image s) ⊎ IsPart first bytes s (image s)

-- a write of a page, sector by sector, whether it succeeds or not: each of its sectors is written whole or not at all
pub record WritesPage (first : ℕ) (bytes : List ℕ) (old new : DeviceState) : Type 0 where
  pub content : (s : ℕ) → (new.content s ≡ old.content s) ⊎ IsPart first bytes s (new.content s)
  pub left : (s : ℕ) (c : List ℕ) → new.left s c → old.left s c ⊎ IsPart first bytes s c
  pub any_moment : LeavesOnly (MayHoldParts first bytes old) (timeline old) (timeline new)

-- a read of a page, sector by sector, whether it succeeds or not
pub record ReadsPage (old new : DeviceState) : Type 0 where
  pub content : (s : ℕ) → new.content s ≡ old.content s
  pub left : (s : ℕ) (c : List ℕ) → new.left s c → old.left s c
  pub any_moment : LeavesOnly (IsLeft old) (timeline old) (timeline new)

-- a sector that calls left alone: its content is the same, and a stop leaves no more in it than before
pub record IsAlone (old new : DeviceState) (s : ℕ) : Type 0 where
  pub content : new.content s ≡ old.content s
  pub left : (c : List ℕ) → new.left s c → old.left s c

-- not among so many sectors from the first on
abbrev pub IsOutside : ℕ → ℕ → ℕ → Type 0
IsOutside first count s = (s < first) ⊎ (first + count ≤ s)

-- what a stop might have left of the device, but for these sectors
abbrev pub AgreesOutside : ℕ → ℕ → DeviceState → Image → Type 0
AgreesOutside first count d image = (s : ℕ) → s < d.sectors → IsOutside first count s → d.left s (image s)
