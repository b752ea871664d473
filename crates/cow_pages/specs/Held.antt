-- How a device holds an array while its content changes.
use Rattle.std.specs.Prelude.{◌<◌, ◌≡◌, ◌≤◌, ◌+◌, ◌*◌, ◌⊎◌, ℕ, List, length, take, drop, slice_index}
use Rattle.sector_device.specs.Timeline.{LeavesOnly}
use Rattle.sector_device.specs.Device.{DeviceState, IsFixed, IsLeft, timeline}
use Rattle.page_roots.specs.Root.{RootFields, home}
use Rattle.page_roots.specs.Sector.{root_at}
use Rattle.page_roots.specs.Chosen.{IsOlder}
use Rattle.page_roots.specs.MapPage.{entries_in}
use Rattle.page_roots.specs.Reach.{IsSound, InReach}
use Rattle.page_roots.specs.declared.sector.RootSector.TheVariants.{Found}
use Rattle.cow_pages.specs.Image.{bytes_of_page}

-- one call or several that write nothing: each content is as it was, and a stop leaves no more than before
pub record KeepsContent (old new : DeviceState) : Type 0 where
  pub content : (s : ℕ) → new.content s ≡ old.content s
  pub left : (s : ℕ) (c : List ℕ) → new.left s c → old.left s c
  pub leaves : LeavesOnly (IsLeft old) (timeline old) (timeline new)

-- the 1,024 entries of a map that its map page of this index holds
abbrev pub part_of : List ℕ → ℕ → List ℕ
part_of entries index = take 1024 (drop (1024 * index) entries)

-- each map page spells its part of the entries
abbrev pub SpellsEach : (ℕ → List ℕ) → List ℕ → List ℕ → Type 0
SpellsEach page maps entries = (j : ℕ) → j < length maps → entries_in (page (slice_index maps j)) ≡ part_of entries j

-- each map page spells its part of the entries, and there are no entries after them
pub record AreSpelled (page : ℕ → List ℕ) (maps entries : List ℕ) : Type 0 where
  pub each : (j : ℕ) → j < length maps → entries_in (page (slice_index maps j)) ≡ part_of entries j
  pub enough : 1024 * length maps ≤ length entries
  pub beyond : (l : ℕ) → 1024 * length maps ≤ l → slice_index entries l ≡ 0

-- a stop leaves the content of each of the page's sectors and nothing else
abbrev pub IsFixedPage : DeviceState → ℕ → Type 0
IsFixedPage d page = (k : ℕ) → k < 8 → IsFixed d (8 * page + k)

-- the map pages spell the entries, and each page of the reach can be left in one way only
pub record IsHeld (d : DeviceState) (pages : ℕ) (maps entries : List ℕ) : Type 0 where
  pub spelled : AreSpelled (bytes_of_page d.content) maps entries
  pub sound : IsSound pages maps entries
  pub fixed : (page : ℕ) → InReach maps entries page → IsFixedPage d page

-- the root's own sector and its reach can be left in one way only
pub record IsDurable (d : DeviceState) (root : RootFields) (entries : List ℕ) : Type 0 where
  pub sectors : d.sectors ≡ 8 * root.pages
  pub room : 1 ≤ root.pages
  pub here : root_at (home root.number) (d.content (home root.number)) ≡ Found root
  pub here_fixed : IsFixed d (home root.number)
  pub held : IsHeld d root.pages root.maps entries

-- What holds at every moment, also within a commit: the array is durable, and the other root sector can be left only
-- empty, or with an older root, or with the next one, the reach of which can be left in one way only.
pub record IsRecoverable (d : DeviceState) (root : RootFields) (entries : List ℕ) : Type 0 where
  pub durable : IsDurable d root entries
  pub other : (c : List ℕ) → d.left (home (root.number + 1)) c → IsOlder (root_at (home (root.number + 1)) c) root.number
      ⊎ ((next : RootFields) × (next_entries : List ℕ) × (root_at (home (root.number + 1)) c ≡ Found next) × (next.number ≡ root.number + 1)
      × (next.pages ≡ root.pages) × IsHeld d next.pages next.maps next_entries)

-- between two commits there is no next one
pub record IsSettled (d : DeviceState) (root : RootFields) (entries : List ℕ) : Type 0 where
  pub durable : IsDurable d root entries
  pub other : (c : List ℕ) → d.left (home (root.number + 1)) c → IsOlder (root_at (home (root.number + 1)) c) root.number
