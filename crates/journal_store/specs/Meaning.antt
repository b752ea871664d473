-- What an image of pages with a journal contains: the contents of its pages, with the batches of the records behind their root made.
use Rattle.std.specs.Prelude.{◌≡◌, ◌⊎◌, ◌≤◌, ◌++◌, ℕ, true, List, [], ◌∷◌, Option, Some, None}
use Rattle.storage_sizes.specs.declared.record_format.RecordFormat.TheVariants.{V2}
use Rattle.sector_device.specs.Device.{Image}
use Rattle.journal.specs.Chain.{Part, Region, Entry, Holds}
use Rattle.journal.specs.Journal.{NumbersUpTo}
use Rattle.journal.specs.Changes.{Spells}
use Rattle.journal.specs.Journals.{HasJournal}
use Rattle.store.specs.Records.{Changes}
use Rattle.store.specs.Store.{Contents}
use Rattle.transactions.specs.Views.{applied_all}
use Rattle.kv_store.specs.Numbered.{HasContentsUnder}

-- the six sectors behind the root sectors
abbrev pub journal_start : ℕ
journal_start = 2

abbrev pub journal_room : ℕ
journal_room = 6

-- parts, one after the other
abbrev pub joined_parts : List (List ℕ) → List ℕ
joined_parts [] = []
joined_parts (part ∷ parts) = part ++ joined_parts parts

-- each record spells the batch of its place
abbrev pub SpellBatches : List Entry → List Changes → Type 0
SpellBatches [] [] = Unit {0}
SpellBatches [] (b ∷ bs) = ⊥
SpellBatches (e ∷ es) [] = ⊥
SpellBatches (e ∷ es) (b ∷ bs) = Spells (joined_parts e.parts) b × SpellBatches es bs

-- the contents after these batches, the first of them first
abbrev pub with_batches : List Changes → Contents → Contents
with_batches batches base = record { record_format = base.record_format; records = applied_all batches base.records }

-- The image of a device of so many pages has these contents: its pages have others, of record format 2, under a root that says
-- that there is a journal, and its sectors behind the root sectors are a journal of that root, each record of which spells a batch. Where a sector is none that a
-- journal of the root has, or a record spells no batch, the image has no contents.
pub record HasJournaledContents (pages : ℕ) (contents : Contents) (image : Image) : Type 0 where
  pub root : ℕ
  pub base : Contents
  pub under : HasContentsUnder true pages root base image
  pub second : base.record_format ≡ V2
  pub es : List Entry
  pub journal : HasJournal journal_start journal_room root es image
  pub batches : List Changes
  pub spelled : SpellBatches es batches
  pub is : contents ≡ with_batches batches base

-- what is read of an image: its contents, or None where it has none
abbrev pub IsJournalReadAs : ℕ → Image → Option Contents → Type 0
IsJournalReadAs pages image (Some contents) = HasJournaledContents pages contents image
IsJournalReadAs pages image None = (contents : Contents) → HasJournaledContents pages contents image → ⊥

-- the number of an image: the greatest of its root's and of those in its journal, of whatever root
pub record IsNumberOf (number root : ℕ) (region : Region) : Type 0 where
  pub not_below : root ≤ number
  pub up_to : NumbersUpTo number region
  pub reached : (number ≡ root) ⊎ ((q : ℕ) × (part : Part) × (region q ≡ Holds part) × (part.number ≡ number))
