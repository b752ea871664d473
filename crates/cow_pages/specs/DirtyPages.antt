-- The dirty pages in memory.
use Rattle.std.specs.Prelude.{◌≡◌, ◌<◌, ◌⊎◌, ℕ, Bool, true, false, List, [], Option, Some, None, IsSome, length, get_or, nat_eq}
use Rattle.indexmap.specs.IndexMap.{get, index_map_len, insert_index}
use Rattle.cow_pages.specs.declared.dirty_pages.DirtyPages.{DirtyPages}
use Rattle.cow_pages.specs.Dirty.{DirtyBytes}

-- the bytes of an entry, where its page is dirty
abbrev pub held_in : Option Bool → List ℕ → Option (List ℕ)
held_in (Some true) bytes = Some bytes
held_in (Some false) bytes = None
held_in None bytes = None

-- the index of the bytes of a page: that of its entry
abbrev pub index_of : DirtyPages → ℕ → ℕ
index_of dirty page = insert_index nat_eq dirty.pages page

-- the bytes of each dirty page
abbrev pub dirty_bytes : DirtyPages → DirtyBytes
dirty_bytes dirty page = held_in (get nat_eq dirty.pages page) (get_or dirty.bytes.items (index_of dirty page) [])

-- these bytes are at an index
pub record HasBytesAt (dirty : DirtyPages) (index : ℕ) (bytes : List ℕ) : Type 0 where
  pub inside : index < length dirty.bytes.items
  pub there : bytes ≡ get_or dirty.bytes.items index []

-- a page is dirty, and its bytes are at this index
pub record IsIndexOf (dirty : DirtyPages) (page index : ℕ) : Type 0 where
  pub inside : index < length dirty.bytes.items
  pub bytes : dirty_bytes dirty page ≡ Some (get_or dirty.bytes.items index [])

-- there is room for one dirty page more
abbrev pub HasSpace : DirtyPages → Type 0
HasSpace dirty = index_map_len dirty.pages < length dirty.bytes.items

-- the page has an entry, or there is room for one more
abbrev pub HasRoom : DirtyPages → ℕ → Type 0
HasRoom dirty page = IsSome (get nat_eq dirty.pages page) ⊎ HasSpace dirty
