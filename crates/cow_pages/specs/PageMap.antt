-- What the maps of a device are between two calls, whatever the device does.
use Rattle.std.specs.Prelude.{◌<◌, ◌≡◌, ◌≢◌, ◌≤◌, ◌+◌, ◌*◌, ◌⊎◌, ℕ, Bool, false, List, length, slice_index, slice_index_or}
use Rattle.page_roots.specs.Root.{RootFields}
use Rattle.page_roots.specs.Reach.{IsSound, InReach, is_reached}
use Rattle.cow_pages.specs.Held.{part_of}
use Rattle.cow_pages.specs.declared.spans.Span.{Span}
use Rattle.page_allocator.specs.TakenPages.{TakenPages, AreReached}

-- the maps of the durable and of the working root, and the pages reserved for map pages of the working root, 0 for none
pub record IsConsistent (pages : ℕ) (maps durable reserved working : List ℕ) (marks : TakenPages) : Type 0 where
  pub least : 64 ≤ pages
  pub most : pages ≤ 65536
  pub durable_count : length durable ≡ 65536
  pub working_count : length working ≡ 65536
  pub reserved_count : length reserved ≡ 64
  -- the durable root's reach is sound
  pub sound : IsSound pages maps durable
  -- the working map names pages of the device, each once
  pub inside : (l : ℕ) → slice_index working l < pages
  pub differ : (l k : ℕ) → 0 < slice_index working l → slice_index working l ≡ slice_index working k → l ≡ k
  -- a logical page that has another physical page than the durable one has one outside the durable reach
  pub fresh : (l : ℕ) → 0 < slice_index working l → slice_index working l ≢ slice_index durable l → InReach maps durable (slice_index working l) → ⊥
  -- the reserved pages are pages of the device, each reserved once, outside the durable reach and not in the working map
  pub reserved_inside : (j : ℕ) → slice_index reserved j < pages
  pub reserved_differ : (j k : ℕ) → 0 < slice_index reserved j → slice_index reserved j ≡ slice_index reserved k → j ≡ k
  pub reserved_apart : (j : ℕ) → 0 < slice_index reserved j → InReach maps durable (slice_index reserved j) → ⊥
  pub reserved_unnamed : (j l : ℕ) → 0 < slice_index reserved j → slice_index working l ≢ slice_index reserved j
  -- a page is taken exactly where it is in the durable reach, reserved, or named by the working map
  pub marks_count : length marks ≡ pages
  pub taken : AreReached marks (is_reached maps durable) (is_reached reserved working)

-- which parts of the working map have changed, one for each map page: in each other part each entry is the durable one
pub record AreChangedParts (durable working : List ℕ) (changed_parts : List Bool) : Type 0 where
  pub count : length changed_parts ≡ 64
  pub same : (j l : ℕ) → slice_index_or changed_parts j false ≡ false → 1024 * j ≤ l → l < 1024 * j + 1024 → slice_index working l ≡ slice_index durable l

-- an entry is not in a span
abbrev pub IsOutside : Span → ℕ → Type 0
IsOutside span l = (l < span.from) ⊎ (span.to ≤ l)

-- each entry outside a span is the durable one
abbrev pub DiffersWithin : Span → List ℕ → List ℕ → Type 0
DiffersWithin span durable working = (l : ℕ) → IsOutside span l → slice_index working l ≡ slice_index durable l

-- after the entries of these map pages none is in use
abbrev pub EndsWith : List ℕ → List ℕ → Type 0
EndsWith maps entries = (l : ℕ) → 1024 * length maps ≤ l → slice_index entries l ≡ 0

-- each logical page below this one is in use
abbrev pub IsUsedBelow : List ℕ → ℕ → Type 0
IsUsedBelow entries end = (l : ℕ) → l < end → 0 < slice_index entries l

-- a page of its own for a logical page: outside the durable reach, and no other logical page has it
pub record IsOwn (pages : ℕ) (maps durable working : List ℕ) (logical page : ℕ) : Type 0 where
  pub some : 1 ≤ page
  pub inside : page < pages
  pub apart : InReach maps durable page → ⊥
  pub unshared : (l : ℕ) → l ≢ logical → slice_index working l ≢ page

-- each page after page 0 is in the durable reach, reserved, or named by the working map
abbrev pub IsUsedUp : ℕ → List ℕ → List ℕ → List ℕ → List ℕ → Type 0
IsUsedUp pages maps durable reserved working = (page : ℕ) → 1 ≤ page → page < pages → InReach maps durable page ⊎ InReach reserved working page

-- nothing is reserved, as between two commits
abbrev pub IsIdle : List ℕ → Type 0
IsIdle reserved = (j : ℕ) → slice_index reserved j ≡ 0

-- the map page of the next root at this index is to be written: it has other entries than the durable one, or there is none
abbrev pub IsChanged : List ℕ → List ℕ → List ℕ → ℕ → Type 0
IsChanged maps durable working index = (length maps ≤ index) ⊎ (part_of working index ≢ part_of durable index)

-- the next root has a map page at this index: the durable one has, or an entry there or after it is in use
abbrev pub IsNeeded : List ℕ → List ℕ → ℕ → Type 0
IsNeeded maps working index = (index < length maps) ⊎ ((l : ℕ) × (1024 * index ≤ l) × (0 < slice_index working l))

-- it has a page to be written to, or it stays as it is, with the same entries
abbrev pub HasMapPage : List ℕ → List ℕ → List ℕ → List ℕ → ℕ → Type 0
HasMapPage maps durable working reserved index = (0 < slice_index reserved index)
    ⊎ ((slice_index reserved index ≡ 0) × (index < length maps) × (part_of working index ≡ part_of durable index))

-- the map pages of the next root: the reserved pages, and the durable map pages at the other indexes
pub record IsNext (maps reserved next : List ℕ) : Type 0 where
  pub least : length maps ≤ length next
  pub each : (j : ℕ) → j < length next → ((0 < slice_index reserved j) × (slice_index next j ≡ slice_index reserved j))
      ⊎ ((slice_index reserved j ≡ 0) × (j < length maps) × (slice_index next j ≡ slice_index maps j))
  pub beyond : (j : ℕ) → length next ≤ j → slice_index reserved j ≡ 0

-- the durable map pages that new ones replace, by their indexes, 0 for none
pub record AreReplaced (maps reserved replaced : List ℕ) : Type 0 where
  pub count : length replaced ≡ 64
  pub each : (j : ℕ) → ((0 < slice_index reserved j) × (j < length maps) × (slice_index replaced j ≡ slice_index maps j))
      ⊎ ((slice_index replaced j ≡ 0) × ((slice_index reserved j ≡ 0) ⊎ (length maps ≤ j)))

-- The root that a commit makes the durable one: the next number, and new map pages where the entries changed.
pub record IsNextRoot (root next : RootFields) (durable reserved working : List ℕ) : Type 0 where
  pub number_is : next.number ≡ root.number + 1
  pub pages_is : next.pages ≡ root.pages
  pub used : 0 < slice_index working 0
  pub maps : IsNext root.maps reserved next.maps
  pub most : length next.maps ≤ 64
  -- a map page that stays has the same entries
  pub stays : (j : ℕ) → j < length next.maps → slice_index reserved j ≡ 0 → part_of working j ≡ part_of durable j
  pub beyond : (l : ℕ) → 1024 * length next.maps ≤ l → slice_index working l ≡ 0

-- Each page after page 0 is in the reach of the durable root, named by the working map, or taken for one of the map pages
-- that a commit has to write, each of which takes one page at most, and one of which has none.
pub record HasNoMapRoom (pages : ℕ) (maps durable working : List ℕ) : Type 0 where
  pub reserved : List ℕ
  pub used_up : IsUsedUp pages maps durable reserved working
  pub needed : (j : ℕ) → 0 < slice_index reserved j → IsNeeded maps working j
  pub changed : (j : ℕ) → 0 < slice_index reserved j → IsChanged maps durable working j
  pub index : ℕ
  pub none : slice_index reserved index ≡ 0
  pub index_needed : IsNeeded maps working index
  pub index_changed : IsChanged maps durable working index
