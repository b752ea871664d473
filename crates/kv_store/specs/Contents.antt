-- What an image of sectors contains, and how pages over a device hold contents.
use Rattle.std.specs.Prelude.{◌≡◌, ◌⊎◌, ℕ, Bool, false, Option, Some, None}
use Rattle.sector_device.specs.Timeline.{LeavesOnly}
use Rattle.sector_device.specs.Device.{Image, timeline}
use Rattle.sector_device.specs.declared.device.Device.{Ghosts}
use Rattle.page_roots.specs.Formats.{record_format_of, has_journal}
use Rattle.page_roots.specs.declared.format.Format.{Format}
use Rattle.pages.specs.State.{Array}
use Rattle.cow_pages.specs.declared.cow.CowPages.{CowPages}
use Rattle.cow_pages.specs.Image.{Means}
use Rattle.cow_pages.specs.Cow.{device_below, root_of, durable_array, working_array, IsOpen}
use Rattle.page_tree.specs.Forest.{Represents}
use Rattle.page_tree.specs.Walk.{records_of}
use Rattle.store.specs.Store.{Contents}

-- The pages of an image of so many have these contents: its root of greater number names an array of pages, the tree of that
-- array has these records, and the format of the root says how they are spelled and whether there is a journal.
pub record HasContentsWith (journal : Bool) (pages : ℕ) (contents : Contents) (image : Image) : Type 0 where
  pub format : Format
  pub number : ℕ
  pub array : Array
  pub means : Means pages format number array image
  pub kind : has_journal format ≡ journal
  pub spelled : record_format_of format ≡ contents.record_format
  pub represents : Represents contents.records array

-- what is read of the pages of an image: their contents, or None where they have none
abbrev pub IsReadWith : Bool → ℕ → Image → Option Contents → Type 0
IsReadWith journal pages image (Some contents) = HasContentsWith journal pages contents image
IsReadWith journal pages image None = (contents : Contents) → HasContentsWith journal pages contents image → ⊥

-- The image of a device of so many pages has these contents: its pages have them, and its root says that there is no journal.
-- Where it says that there is one, the records behind the pages may change them.
abbrev pub HasContents : ℕ → Contents → Image → Type 0
HasContents pages contents image = HasContentsWith false pages contents image

-- what is read of an image: its contents, or None where it has none
abbrev pub IsReadAs : ℕ → Image → Option Contents → Type 0
IsReadAs pages image x = IsReadWith false pages image x

-- whether the root says that there is a journal
abbrev pub is_journaled : {D : Type 0} {g : Ghosts D} → CowPages D g → Bool
is_journaled p = has_journal (root_of p).format

-- the records that a walk of the durable array meets, and how they are spelled
abbrev pub contents_of : {D : Type 0} {g : Ghosts D} → CowPages D g → Contents
contents_of p = record { record_format = record_format_of (root_of p).format; records = records_of (durable_array p) }

-- pages that are open hold these contents, and nothing has changed since the last commit
pub record HoldsContents {D : Type 0} {g : Ghosts D} (contents : Contents) (p : CowPages D g) : Type 0 where
  pub is_open : IsOpen p
  pub spelled : record_format_of (root_of p).format ≡ contents.record_format
  pub durable : Represents contents.records (durable_array p)
  pub same : (l : ℕ) → working_array p l ≡ durable_array p l

-- a stop at any moment between the two leaves the one contents or the other
abbrev pub LeavesContents : {D : Type 0} {g : Ghosts D} → Contents → Contents → CowPages D g → CowPages D g → Type 0
LeavesContents before after old new =
    LeavesOnly (λ image. HasContentsWith (is_journaled old) (root_of old).pages before image ⊎ HasContentsWith (is_journaled old) (root_of old).pages after image)
    (timeline (device_below old)) (timeline (device_below new))
