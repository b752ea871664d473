-- What a stop leaves of a commit, with the number of the root.
use Rattle.std.specs.Prelude.{◌≡◌, ◌⊎◌, ◌+◌, ℕ, Bool, Result, Ok, Err}
use Rattle.sector_device.specs.Timeline.{LeavesOnly}
use Rattle.sector_device.specs.Device.{Image, timeline}
use Rattle.sector_device.specs.declared.device.Device.{Ghosts}
use Rattle.page_roots.specs.Formats.{record_format_of, has_journal}
use Rattle.page_roots.specs.declared.format.Format.{Format}
use Rattle.pages.specs.State.{Array}
use Rattle.cow_pages.specs.declared.cow.CowPages.{CowPages}
use Rattle.cow_pages.specs.Image.{Means}
use Rattle.cow_pages.specs.Cow.{device_below, root_of}
use Rattle.page_tree.specs.Forest.{Represents}
use Rattle.store.specs.Store.{Contents}
use Rattle.kv_store.specs.Contents.{is_journaled}
use Rattle.store.specs.declared.fault.StoreFault.{StoreFault}
use Rattle.store.specs.declared.fault.StoreFault.TheVariants.{Full, Memory, Device, Number}

-- the pages of an image of so many have these contents, under a root of this number that says whether there is a journal
pub record HasContentsUnder (journal : Bool) (pages number : ℕ) (contents : Contents) (image : Image) : Type 0 where
  pub format : Format
  pub array : Array
  pub means : Means pages format number array image
  pub kind : has_journal format ≡ journal
  pub spelled : record_format_of format ≡ contents.record_format
  pub represents : Represents contents.records array

-- a stop leaves the contents before, under the old root
abbrev pub LeavesBefore : {D : Type 0} {g : Ghosts D} → Contents → CowPages D g → CowPages D g → Type 0
LeavesBefore before old new =
    LeavesOnly (HasContentsUnder (is_journaled old) (root_of old).pages (root_of old).number before) (timeline (device_below old)) (timeline (device_below new))

-- a stop leaves the contents before, under the old root, or those after under the next number
abbrev pub LeavesEither : {D : Type 0} {g : Ghosts D} → Contents → Contents → CowPages D g → CowPages D g → Type 0
LeavesEither before after old new =
    LeavesOnly (λ image. HasContentsUnder (is_journaled old) (root_of old).pages (root_of old).number before image ⊎ HasContentsUnder (is_journaled old) (root_of old).pages ((root_of old).number + 1) after image)
    (timeline (device_below old)) (timeline (device_below new))

-- where a commit is refused, a stop leaves what was there
abbrev pub LeavesNumbered : {D : Type 0} {g : Ghosts D} → Result (Unit {0}) StoreFault → Contents → Contents → CowPages D g → CowPages D g → Type 0
LeavesNumbered (Ok x) before after old new = LeavesEither before after old new
LeavesNumbered (Err Full) before after old new = LeavesBefore before old new
LeavesNumbered (Err Memory) before after old new = LeavesBefore before old new
LeavesNumbered (Err Device) before after old new = LeavesEither before after old new
LeavesNumbered (Err Number) before after old new = LeavesBefore before old new
