-- Pages over a device: what they are, and what calls between two commits leave.
use Rattle.std.specs.Prelude.{◌≡◌, ◌≢◌, ◌≤◌, ◌<◌, ◌⊎◌, ℕ, List, Option, Bool, Contains, IsSome, true, false, length, slice_index, get_or, unwrap_or}
use Rattle.sector_device.specs.Timeline.{LeavesOnly}
use Rattle.sector_device.specs.Device.{DeviceState, KeepsHistory, HasFailed, timeline}
use Rattle.sector_device.specs.declared.device.Device.{Ghosts}
use Rattle.page_roots.specs.declared.format.Format.{Format}
use Rattle.page_roots.specs.Root.{RootFields}
use Rattle.page_roots.specs.Reach.{InReach, IsPage}
use Rattle.cow_pages.specs.declared.cow.CowPages.{CowPages}
use Rattle.pages.specs.State.{Array, OwnPages}
use Rattle.cow_pages.specs.Image.{array_of, Means}
use Rattle.cow_pages.specs.Held.{IsSettled}
use Rattle.cow_pages.specs.PageMap.{HasNoMapRoom}
use Rattle.cow_pages.specs.Commit.{IsEither}
use Rattle.cow_pages.specs.Dirty.{overlaid_array}
use Rattle.cow_pages.specs.declared.cow.PageLocation.{PageLocation}
use Rattle.cow_pages.specs.declared.cow.PageLocation.TheVariants.{Dirty, Cached, Read}
use Rattle.cow_pages.specs.declared.dirty_pages.DirtyPages.{DirtyPages}
use Rattle.cow_pages.specs.DirtyPages.{dirty_bytes, HasSpace}
use Rattle.page_cache.specs.declared.cache.PageCache.{PageCache}
use Rattle.page_cache.specs.Held.{bytes_in, held_bytes}

-- the device below
abbrev pub device_of : {D : Type 0} {g : Ghosts D} → CowPages D g → D
device_of p = p.device

-- what it is to the code above
abbrev pub device_below : {D : Type 0} {g : Ghosts D} → CowPages D g → DeviceState
device_below {D} {g} p = g.state p.device

-- a call of the device has failed
abbrev pub has_failed : {D : Type 0} {g : Ghosts D} → CowPages D g → Bool
has_failed p = p.has_failed

-- the durable root
abbrev pub root_of : {D : Type 0} {g : Ghosts D} → CowPages D g → RootFields
root_of p = p.map.root

-- the physical page of each logical page, 0 where it is not in use: in the durable array and in the working one
abbrev pub durable_map : {D : Type 0} {g : Ghosts D} → CowPages D g → List ℕ
durable_map p = p.map.durable.items

abbrev pub working_map : {D : Type 0} {g : Ghosts D} → CowPages D g → List ℕ
working_map p = p.map.working.items

-- the array that a stop leaves between two commits
abbrev pub durable_array : {D : Type 0} {g : Ghosts D} → CowPages D g → Array
durable_array {D} {g} p = array_of (g.state p.device).content p.map.durable.items

-- the array that is read and written, and that the next commit makes durable: dirty pages have their bytes in memory
abbrev pub working_array : {D : Type 0} {g : Ghosts D} → CowPages D g → Array
working_array {D} {g} p = overlaid_array (dirty_bytes p.dirty) (g.state p.device).content p.map.working.items

-- the bytes that are lent of the page that was fetched last
abbrev pub bytes_at : PageLocation → DirtyPages → PageCache → List ℕ → List ℕ
bytes_at (Dirty index) dirty cache page = get_or dirty.bytes.items index page
bytes_at (Cached slot) dirty cache page = unwrap_or (bytes_in cache slot) page
bytes_at Read dirty cache page = page

abbrev pub fetched_bytes : {D : Type 0} {g : Ghosts D} → CowPages D g → List ℕ
fetched_bytes p = bytes_at p.place p.dirty p.cache p.page

-- the bytes of a logical page are in memory, and not yet on the device
abbrev pub IsDirty : {D : Type 0} {g : Ghosts D} → ℕ → CowPages D g → Type 0
IsDirty page p = IsSome (dirty_bytes p.dirty (slice_index p.map.working.items page))

-- the bytes of a logical page are in the cache
abbrev pub IsCached : {D : Type 0} {g : Ghosts D} → ℕ → CowPages D g → Type 0
IsCached page p = IsSome (held_bytes p.cache (slice_index p.map.working.items page))

-- there is room in memory for one dirty page more
abbrev pub HasDirtySpace : {D : Type 0} {g : Ghosts D} → CowPages D g → Type 0
HasDirtySpace p = HasSpace p.dirty

-- the device is faithful and holds the durable array, and no call has failed
pub record IsOpen {D : Type 0} {g : Ghosts D} (p : CowPages D g) : Type 0 where
  pub faithful : (g.state p.device).faithful
  pub has_not_failed : p.has_failed ≡ false
  pub settled : IsSettled (g.state p.device) p.map.root p.map.durable.items

-- the device is as it was
abbrev pub MakesNoDeviceCall : {D : Type 0} {g : Ghosts D} → CowPages D g → CowPages D g → Type 0
MakesNoDeviceCall old new = new.device ≡ old.device

-- whatever the device does, it keeps its history, and the root and the durable map are as they were
pub record KeepsRoot {D : Type 0} {g : Ghosts D} (old new : CowPages D g) : Type 0 where
  pub history : KeepsHistory (g.state old.device) (g.state new.device)
  pub root : new.map.root ≡ old.map.root
  pub durable : new.map.durable.items ≡ old.map.durable.items

-- the root, both maps and the dirty pages are as they were
pub record KeepsMemory {D : Type 0} {g : Ghosts D} (old new : CowPages D g) : Type 0 where
  pub root : new.map.root ≡ old.map.root
  pub durable : new.map.durable.items ≡ old.map.durable.items
  pub working : new.map.working.items ≡ old.map.working.items
  pub dirty : new.dirty ≡ old.dirty

-- a stop at any moment between the two leaves the durable array, and no more is said of what lay before
abbrev pub LeavesDurable : {D : Type 0} {g : Ghosts D} → CowPages D g → CowPages D g → Type 0
LeavesDurable {D} {g} old new =
    LeavesOnly (Means old.map.root.pages old.map.root.format old.map.root.number (durable_array old)) (timeline (g.state old.device)) (timeline (g.state new.device))

-- and from the new one on it leaves that array still
pub record StaysDurable {D : Type 0} {g : Ghosts D} (old new : CowPages D g) : Type 0 where
  pub settled : IsSettled (g.state new.device) old.map.root old.map.durable.items
  pub same : (l : ℕ) → durable_array new l ≡ durable_array old l

-- a stop at any moment between the two leaves the durable array, and so it does from the new one on
pub record KeepsDurableArray {D : Type 0} {g : Ghosts D} (old new : CowPages D g) : Type 0 where
  pub leaves : LeavesDurable old new
  pub stays : StaysDurable old new

-- a logical page has these bytes, or with none is in use no more, and no other has changed
pub record ChangesPage {D : Type 0} {g : Ghosts D} (page : ℕ) (bytes : Option (List ℕ)) (old new : CowPages D g) : Type 0 where
  pub here : working_array new page ≡ bytes
  pub others : (l : ℕ) → l ≢ page → working_array new l ≡ working_array old l

-- nothing was done
pub record IsRefused {D : Type 0} {g : Ghosts D} (old new : CowPages D g) : Type 0 where
  pub memory : KeepsMemory old new
  pub device : new.device ≡ old.device
  pub has_not_failed : new.has_failed ≡ false

-- the device failed in the call, or had failed before
pub record IsFaulted {D : Type 0} {g : Ghosts D} (old new : CowPages D g) : Type 0 where
  pub has_failed : new.has_failed ≡ true
  pub cause : (old.has_failed ≡ true) ⊎ HasFailed (g.state old.device) (g.state new.device)

-- each page after page 0 is in the durable reach or named by the working map
abbrev pub HasNoRoom : {D : Type 0} {g : Ghosts D} → CowPages D g → Type 0
HasNoRoom p = (page : ℕ) → 1 ≤ page → page < p.map.root.pages → InReach p.map.root.maps p.map.durable.items page ⊎ IsPage p.map.working.items page

-- a physical page is free: neither the durable reach nor the working map has it
pub record IsFree {D : Type 0} {g : Ghosts D} (p : CowPages D g) (page : ℕ) : Type 0 where
  pub some : 1 ≤ page
  pub inside : page < p.map.root.pages
  pub apart : InReach p.map.root.maps p.map.durable.items page → ⊥
  pub unnamed : IsPage p.map.working.items page → ⊥

-- fewer pages than these are free
pub record HasFewerFree {D : Type 0} {g : Ghosts D} (wanted : ℕ) (p : CowPages D g) : Type 0 where
  pub free : List ℕ
  pub few : length free < wanted
  pub all : (page : ℕ) → IsFree p page → Contains free page

-- a logical page has this physical page for its own: it is not the durable one
pub record HasOwnPage {D : Type 0} {g : Ghosts D} (p : CowPages D g) (logical page : ℕ) : Type 0 where
  pub some : 0 < page
  pub named : slice_index p.map.working.items logical ≡ page
  pub apart : page ≢ slice_index p.map.durable.items logical

abbrev pub own_pages : {D : Type 0} {g : Ghosts D} → CowPages D g → OwnPages
own_pages p = λ l page. HasOwnPage p l page

-- no page is left for a map page that a commit has to write: fewer are free than such map pages
abbrev pub HasNoRoomForMaps : {D : Type 0} {g : Ghosts D} → CowPages D g → Type 0
HasNoRoomForMaps p = HasNoMapRoom p.map.root.pages p.map.root.maps p.map.durable.items p.map.working.items

-- a stop at any moment between the two leaves the durable array, or the working one in the next format and under the next number
abbrev pub LeavesBeforeOrAfter : {D : Type 0} {g : Ghosts D} → Format → CowPages D g → CowPages D g → Type 0
LeavesBeforeOrAfter {D} {g} next old new = LeavesOnly (IsEither old.map.root.pages old.map.root.format old.map.root.number next (durable_array old) (working_array old))
    (timeline (g.state old.device)) (timeline (g.state new.device))
