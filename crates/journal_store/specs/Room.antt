-- Whether the pages have room for what waits, and for a batch behind it.
use Rattle.std.specs.Prelude.{◌≡◌, ◌<◌, ◌≤◌, ◌+◌, ◌-◌, ◌*◌, ◌/◌, ◌^◌, ℕ, List, [], ◌∷◌, length}
use Rattle.sector_device.specs.declared.device.Device.{Ghosts}
use Rattle.cow_pages.specs.Free.{HasFreePages}
use Rattle.store.specs.Records.{Records, Changes, IsOrdered, applied}
use Rattle.transactions.specs.Views.{applied_all}
use Rattle.kv_store.specs.declared.reserve.Reserve.{Reserve}
use Rattle.kv_store.specs.declared.reserve.Reserve.TheVariants.{Kept, Open}
use Rattle.kv_store.specs.Batches.{HadNoRoom, most_taken}
use Rattle.kv_store.specs.TreeStore.{pages_of}
use Rattle.journal_store.specs.declared.stores.JournalStore.{JournalStore}
use Rattle.journal_store.specs.Stores.{device_under, base_of}

-- how many changes these lists have
abbrev pub changes_in : List Changes → ℕ
changes_in [] = 0
changes_in (list ∷ lists) = length list + changes_in lists

-- The most levels that a tree has which stands in fewer than so many pages: an inner node has two children at least, so a tree of
-- n levels has 2 ^ n - 1 pages.
abbrev pub IsHighest : ℕ → ℕ → Type 0
IsHighest levels pages = (2 ^ levels ≤ pages) × (pages < 2 ^ (levels + 1))

-- The free pages of a device of so many are enough for so many changes: each takes at most what a change of a tree takes that has
-- grown by a level, and all together each map page once.
pub record AreEnough (pages free changes : ℕ) : Type 0 where
  pub levels : ℕ
  pub highest : IsHighest levels (pages - free)
  pub enough : changes * most_taken levels + (pages / 1024 + 1) ≤ free

-- the pages that are free are enough for so many changes
pub record HasRoomFor {D : Type 0} {g : Ghosts D} (changes : ℕ) (s : JournalStore D g) : Type 0 where
  pub free : ℕ
  pub free_is : HasFreePages free (pages_of s.store)
  pub enough : AreEnough ((device_under s).sectors / 8) free changes

-- What waits may take the reserve by itself, so that it can be committed to the pages: a record is made only where these have room
-- for it. With a batch behind it the reserve is kept.
abbrev pub reserve_for : Changes → Reserve
reserve_for [] = Open
reserve_for (c ∷ cs) = Kept

-- the pages had no room for these changes: all that waited, and then those of a batch
pub record HadNoRoomFor {D : Type 0} {g : Ghosts D} (batch : Changes) (s : JournalStore D g) : Type 0 where
  pub changes : Changes
  pub all : (es : Records) → IsOrdered es → applied changes es ≡ applied batch (applied_all s.waiting es)
  pub none : HadNoRoom (reserve_for batch) changes (base_of s).records (pages_of s.store)
