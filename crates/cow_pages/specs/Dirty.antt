-- Dirty pages: their bytes are in memory, laid over those of the device.
use Rattle.std.specs.Prelude.{◌<◌, ◌≤◌, ◌*◌, ℕ, zero, suc, List, Option, Some, None, IsSome, slice_index}
use Rattle.sector_device.specs.Device.{DeviceState, Image}
use Rattle.sector_device.specs.Page.{IsOutside}
use Rattle.page_roots.specs.Reach.{InReach}
use Rattle.pages.specs.State.{Array}
use Rattle.cow_pages.specs.Image.{bytes_of_page}

-- the bytes of each dirty physical page
abbrev pub DirtyBytes : Type 0
DirtyBytes = ℕ → Option (List ℕ)

-- the dirty bytes, or else those on the device
abbrev pub overlaid_bytes : Option (List ℕ) → List ℕ → List ℕ
overlaid_bytes (Some bytes) there = bytes
overlaid_bytes None there = there

-- what an entry of a map stands for, where these pages are dirty
abbrev pub overlaid_page : DirtyBytes → Image → ℕ → Option (List ℕ)
overlaid_page dirty image zero = None
overlaid_page dirty image (suc page) = Some (overlaid_bytes (dirty (suc page)) (bytes_of_page image (suc page)))

-- the array of a map, where these pages are dirty
abbrev pub overlaid_array : DirtyBytes → Image → List ℕ → Array
overlaid_array dirty image entries l = overlaid_page dirty image (slice_index entries l)

-- a page of the device outside the reach of the durable root
abbrev pub IsOutsideReach : ℕ → List ℕ → List ℕ → ℕ → Type 0
IsOutsideReach pages maps durable page = (1 ≤ page) × (page < pages) × (InReach maps durable page → ⊥)

-- only such pages are dirty
abbrev pub AreOutsideReach : ℕ → List ℕ → List ℕ → DirtyBytes → Type 0
AreOutsideReach pages maps durable dirty = (page : ℕ) → IsSome (dirty page) → IsOutsideReach pages maps durable page

-- a sector of no dirty page
abbrev pub IsClean : DirtyBytes → ℕ → Type 0
IsClean dirty s = (page : ℕ) → IsSome (dirty page) → IsOutside (8 * page) 8 s

-- what a stop might have left of the device, but for the sectors of the dirty pages
abbrev pub AgreesOnClean : DirtyBytes → DeviceState → Image → Type 0
AgreesOnClean dirty d image = (s : ℕ) → s < d.sectors → IsClean dirty s → d.left s (image s)
