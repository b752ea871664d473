-- What an image contains, whether its root says that there is a journal or not.
use Rattle.std.specs.Prelude.{◌⊎◌, ℕ, false, Option, Some, None}
use Rattle.sector_device.specs.Device.{Image}
use Rattle.journal.specs.Journals.{region_in}
use Rattle.store.specs.Store.{Contents}
use Rattle.kv_store.specs.Numbered.{HasContentsUnder}
use Rattle.journal_store.specs.Meaning.{HasJournaledContents, IsNumberOf, journal_start, journal_room}

-- an image with a journal has these contents, under this number: the greatest of its root's and of those in the journal
pub record IsJournaledUnder (pages number : ℕ) (contents : Contents) (image : Image) : Type 0 where
  pub has : HasJournaledContents pages contents image
  pub number_is : IsNumberOf number has.root (region_in journal_start journal_room image)

-- The image of a device of so many pages has these contents, under this number: those of its pages, under the number of their root,
-- where the root says that there is no journal; where it says that there is one, those with the batches of the journal made.
pub record HasContents (pages : ℕ) (contents : Contents) (image : Image) : Type 0 where
  pub number : ℕ
  pub is : HasContentsUnder false pages number contents image ⊎ IsJournaledUnder pages number contents image

-- what is read of an image: its contents, or None where it has none
abbrev pub IsReadAs : ℕ → Image → Option Contents → Type 0
IsReadAs pages image (Some contents) = HasContents pages contents image
IsReadAs pages image None = (contents : Contents) → HasContents pages contents image → ⊥
