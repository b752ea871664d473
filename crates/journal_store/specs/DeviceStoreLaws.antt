-- A store on a device that works: a stop leaves its contents and nothing else.
use Rattle.std.proofs.Common.{◌≡◌, ◌/◌, inl, inr, ℕ, false, Option, Some, refl, subst, arith}
use Rattle.sector_device.specs.Device.{Image, IsLeft}
use Rattle.sector_device.specs.declared.device.Device.{Ghosts}
use Rattle.cow_pages.specs.declared.cow.CowPages.{CowPages}
use Rattle.cow_pages.specs.Cow.{device_below, root_of, durable_array, durable_map}
use Rattle.cow_pages.proofs.Meaning.{settled_left}
use Rattle.store.specs.Store.{Contents, stored}
use Rattle.kv_store.specs.declared.page_store.PageStore.{PageStore}
use Rattle.kv_store.specs.PageStore.{pages_of, store_state as pages_state}
use Rattle.kv_store.specs.Numbered.{HasContentsUnder}
use Rattle.journal_store.specs.ImageLaws.{has_journaled, read_has}
use Rattle.journal_store.specs.StoreLaws.{image_left as journaled_left, content_under}
use Rattle.journal_store.specs.Stores.{device_under, journal_state}
use Rattle.journal_store.specs.declared.device_stores.DeviceStore.{DeviceStore}
use Rattle.journal_store.specs.declared.device_stores.DeviceStore.TheVariants.{Pages, Journaled}
use Rattle.journal_store.specs.DeviceImages.{HasContents}
use Rattle.journal_store.specs.DeviceStores.{state_under, store_state}

-- a page has eight sectors
pub sectors_are : {D : Type 0} {g : Ghosts D} (p : CowPages D g) → (root_of p).pages ≡ (device_below p).sectors / 8
sectors_are {D} {g} p = omega (arith, p.sized)

-- an image that a stop leaves of pages without a journal
pages_left : {D : Type 0} {g : Ghosts D} (s : PageStore D g) → (pages_state s).sound → (pages_state s).has_failed ≡ false → (image : Image) → IsLeft (device_below (pages_of s)) image
    → HasContentsUnder false ((device_below (pages_of s)).sectors / 8) (pages_state s).number (stored (pages_state s)) image
pages_left {D} {g} s sound works image left =
    let p = pages_of s in
    let held = sound.works works in
    subst (λ (n : ℕ). HasContentsUnder false n (pages_state s).number (stored (pages_state s)) image) (sectors_are p) (record {
      format = (root_of p).format;
      array = durable_array p;
      means = settled_left (device_below p) image (root_of p) (durable_map p) held.is_open.settled left;
      kind = s.plain;
      spelled = refl;
      represents = held.durable;
    })

-- each image that a stop may leave has the contents
pub image_left : {D : Type 0} {g : Ghosts D} (s : DeviceStore D g) → (store_state s).sound → (store_state s).has_failed ≡ false → (image : Image) → IsLeft (state_under s) image
    → HasContents ((state_under s).sectors / 8) (stored (store_state s)) image
image_left (Pages s) sound works image left = record { number = (pages_state s).number; is = inl (pages_left s sound works image left) }
image_left (Journaled s) sound works image left = has_journaled image ((device_under s).sectors / 8) (stored (journal_state s)) (journaled_left s sound works image left)

pub settled_on : {D : Type 0} {g : Ghosts D} (s : DeviceStore D g) (x : Option Contents) → (store_state s).sound → (store_state s).has_failed ≡ false → (store_state s).time.left x → x ≡ Some (stored (store_state s))
settled_on s x sound works left = read_has left.0 ((state_under s).sectors / 8) (stored (store_state s)) x (image_left s sound works left.0 left.1) left.2

-- the content has them, under the number of the store
pub content_has : {D : Type 0} {g : Ghosts D} (s : DeviceStore D g) → (store_state s).sound → (store_state s).has_failed ≡ false → IsLeft (state_under s) (state_under s).content
    → (has : HasContents ((state_under s).sectors / 8) (stored (store_state s)) (state_under s).content) × (has.number ≡ (store_state s).number)
content_has (Pages s) sound works left = (
  record { number = (pages_state s).number; is = inl (pages_left s sound works (device_below (pages_of s)).content left) },
  refl,
)
content_has (Journaled s) sound works left = (
  record {
    number = (journal_state s).number;
    is = inr (content_under s sound works left);
  },
  refl,
)
