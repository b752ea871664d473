-- What calls on the maps change.
use Rattle.std.specs.Prelude.{◌≡◌, ◌-◌, ◌+◌, ◌*◌, ◌^◌, ◌<◌, ◌≤◌, ◌⊎◌, ℕ, List, length, slice_index, slice_set}
use Rattle.page_roots.specs.Root.{RootFields}
use Rattle.cow_pages.specs.declared.page_map.PageMap.{PageMap}
use Rattle.cow_pages.specs.declared.page_map.CommitFault.{CommitFault}
use Rattle.cow_pages.specs.declared.page_map.CommitFault.TheVariants.{Number, NoFirstPage, Full as NoRoom, Device as CommitFailed}
use Rattle.cow_pages.specs.PageMap.{IsOwn, IsUsedUp, IsChanged, IsNeeded, HasMapPage, IsNextRoot, HasNoMapRoom}

-- the root, the durable map and the reserved pages are as they were
pub record ChangesWorkingMap (old new : PageMap) : Type 0 where
  pub root : new.root ≡ old.root
  pub durable : new.durable.items ≡ old.durable.items
  pub reserved : new.reserved ≡ old.reserved

-- the root and both maps are as they were
pub record KeepsMaps (old new : PageMap) : Type 0 where
  pub root : new.root ≡ old.root
  pub durable : new.durable.items ≡ old.durable.items
  pub working : new.working.items ≡ old.working.items

-- the logical page has its durable physical page
abbrev pub IsShared : PageMap → ℕ → Type 0
IsShared map logical = slice_index map.working.items logical ≡ slice_index map.durable.items logical

-- the logical page has the durable one, or none
abbrev pub HasNoOwnPage : PageMap → ℕ → Type 0
HasNoOwnPage map logical = (slice_index map.working.items logical ≡ 0) ⊎ IsShared map logical

-- the logical page is not in use
abbrev pub IsUnmapped : PageMap → ℕ → Type 0
IsUnmapped map logical = (logical < 65536) × (slice_index map.working.items logical ≡ 0)

-- the logical page has this physical page now, which no other has, and which is outside the durable reach
pub record GetsPage (logical page : ℕ) (old new : PageMap) : Type 0 where
  pub own : IsOwn old.root.pages old.root.maps old.durable.items old.working.items logical page
  pub working : new.working.items ≡ slice_set old.working.items logical page

-- no page is free, and the working map is as it was
pub record FindsNoPage (old new : PageMap) : Type 0 where
  pub used_up : IsUsedUp old.root.pages old.root.maps old.durable.items old.reserved old.working.items
  pub working : new.working.items ≡ old.working.items

-- the root that a commit makes the durable one, with the pages reserved now for its map pages
abbrev pub IsNextOf : RootFields → PageMap → PageMap → Type 0
IsNextOf next old new = IsNextRoot old.root next old.durable.items new.reserved old.working.items

-- there is a next root, with so many map pages, for each of which a page is reserved or the durable one stays
pub record HasNextRoot (map : PageMap) (count : ℕ) : Type 0 where
  pub number : map.root.number < 2 ^ 64 - 1
  pub used : 0 < slice_index map.working.items 0
  pub least : length map.root.maps ≤ count
  pub most : count ≤ 64
  pub each : (j : ℕ) → j < count → HasMapPage map.root.maps map.durable.items map.working.items map.reserved j
  pub unreserved : (j : ℕ) → count ≤ j → slice_index map.reserved j ≡ 0
  pub beyond : (l : ℕ) → 1024 * count ≤ l → slice_index map.working.items l ≡ 0

-- why there is no next root
abbrev pub CannotPrepare : CommitFault → PageMap → Type 0
CannotPrepare NoRoom map = HasNoMapRoom map.root.pages map.root.maps map.durable.items map.working.items
CannotPrepare Number map = map.root.number ≡ 2 ^ 64 - 1
CannotPrepare NoFirstPage map = slice_index map.working.items 0 ≡ 0
CannotPrepare CommitFailed map = ⊥

-- in this part of the working map each entry is the durable one
abbrev pub RestoresPart : ℕ → PageMap → PageMap → Type 0
RestoresPart index old new = (l : ℕ) → 1024 * index ≤ l → l < 1024 * index + 1024
    → slice_index new.working.items l ≡ slice_index old.durable.items l

-- in each other part each entry is as it was
abbrev pub KeepsOtherParts : ℕ → PageMap → PageMap → Type 0
KeepsOtherParts index old new = (l : ℕ) → (l < 1024 * index) ⊎ (1024 * index + 1024 ≤ l)
    → slice_index new.working.items l ≡ slice_index old.working.items l

-- no entry of this part is in use
abbrev pub IsUnusedPart : PageMap → ℕ → Type 0
IsUnusedPart map index = (l : ℕ) → 1024 * index ≤ l → l < 1024 * index + 1024 → slice_index map.working.items l ≡ 0

-- an entry of this part or after it is in use
abbrev pub IsUsedFrom : PageMap → ℕ → Type 0
IsUsedFrom map index = (l : ℕ) × (1024 * index ≤ l) × (0 < slice_index map.working.items l)

-- the map page of this index has to be written for the next root
abbrev pub IsChangedAt : PageMap → ℕ → Type 0
IsChangedAt map index = IsChanged map.root.maps map.durable.items map.working.items index

-- the next root has a map page of this index
abbrev pub IsNeededAt : PageMap → ℕ → Type 0
IsNeededAt map index = IsNeeded map.root.maps map.working.items index

-- where these pages are reserved, the map page of this index has one, or stays as it is
abbrev pub HasMapPageIn : PageMap → List ℕ → ℕ → Type 0
HasMapPageIn map reserved index = HasMapPage map.root.maps map.durable.items map.working.items reserved index

-- where these pages are reserved, no page is free
abbrev pub IsFullWith : PageMap → List ℕ → Type 0
IsFullWith map reserved = IsUsedUp map.root.pages map.root.maps map.durable.items reserved map.working.items

-- the page that the next root's map page of this index has: the reserved one, or else the durable one
abbrev pub IsNextMapPage : PageMap → ℕ → ℕ → Type 0
IsNextMapPage map index page = ((0 < slice_index map.reserved index) × (page ≡ slice_index map.reserved index))
    ⊎ ((slice_index map.reserved index ≡ 0) × (index < length map.root.maps) × (page ≡ slice_index map.root.maps index))

-- the durable map page of this index that a new one replaces, 0 for none
abbrev pub IsReplacedMapPage : PageMap → ℕ → ℕ → Type 0
IsReplacedMapPage map index page =
    ((0 < slice_index map.reserved index) × (index < length map.root.maps) × (page ≡ slice_index map.root.maps index))
    ⊎ ((page ≡ 0) × ((slice_index map.reserved index ≡ 0) ⊎ (length map.root.maps ≤ index)))
