-- No sector beside is written: the first page is written as it is read, and nothing changes.
use Rattle.std.proofs.Common.{◌≡◌, ◌≢◌, ◌⊎◌, ◌∙◌, ℕ, List, [], true, inl, inr, ⊎_elim, arith, refl, sym}
use Rattle.sector_device.specs.Timeline.{IsPresent, weakened}
use Rattle.sector_device.specs.Device.{DeviceState, KeepsHistory, KeepsSize, HasFailed, IsLeft, timeline}
use Rattle.sector_device.specs.Sectors.{IsSectorOf, MayHoldSectors, WritesSectors}
use Rattle.sector_device.specs.declared.device.Device.{Ghosts}
use Rattle.cow_pages.specs.declared.cow.CowPages.{CowPages}
use Rattle.cow_pages.specs.Held.{KeepsContent}
use Rattle.cow_pages.specs.Cow.{device_below, has_failed, KeepsMemory}
use Rattle.cow_pages.proofs.Preserving.{preserved_read}
use Rattle.pages.specs.declared.array.PageFault.{PageFault}
use Rattle.pages.specs.declared.array.PageFault.TheVariants as page
use Rattle.store.specs.declared.fault.StoreFault.{StoreFault}
use Rattle.store.specs.declared.fault.StoreFault.TheVariants.{Full, Memory, Device, Number}
use Rattle.kv_store.specs.declared.tree_store.TreeStore.{TreeStore}
use Rattle.kv_store.specs.TreeStore.{CountsRefusal}
use Rattle.kv_store.specs.Unwritten.{WritesNothing}

module _ (first : ℕ) (old new : DeviceState) (size : KeepsSize old new) (writes : old.faithful → WritesSectors first [] old new) where
  none : (s : ℕ) (c : List ℕ) → IsSectorOf first [] s c → ⊥
  none s c is = omega (arith, is.within)

  pub content_renewed : old.faithful → KeepsContent old new
  content_renewed faithful =
      let is = writes faithful in
      record {
        content = λ s. ⊎_elim (λ same. same) (λ one. absurd (none s (new.content s) one)) (is.content s);
        left = λ s c now. ⊎_elim (λ was. was) (λ one. absurd (none s c one)) (is.left s c now);
        leaves = weakened (MayHoldSectors first [] old) (IsLeft old) (timeline old) (timeline new)
            (λ image may s inside. ⊎_elim (λ was. was) (λ one. absurd (none s (image s) one)) (may s inside)) is.any_moment;
      }

  pub history_renewed : KeepsHistory old new
  history_renewed = record {
    sectors = size.sectors;
    faithful = size.faithful;
    was_faithful = size.was_faithful;
    failures = size.failures;
    same_beside = size.same_beside;
    beside = λ faithful.
        let kept = content_renewed faithful in
        record {
          content = λ s is. kept.content s;
          left = λ s c is left. kept.left s c left;
          any_moment = record {
            later = kept.leaves.later;
            past = kept.leaves.past;
            now = λ image left s inside is. kept.leaves.now image left s inside;
            before = λ a image le stop. ⊎_elim (λ was. inl was) (λ may. inr (λ s inside is. may s inside)) (kept.leaves.before a image le stop);
          };
        };
  }

-- so it is of the pages
pub renewed : {D : Type 0} {g : Ghosts D} → ((device : D) → (g.state device).faithful → IsPresent (timeline (g.state device))) → (p q : CowPages D g) (first : ℕ) → KeepsSize (device_below p) (device_below q)
    → ((device_below p).faithful → WritesSectors first [] (device_below p) (device_below q)) → KeepsMemory p q → (has_failed q ≡ true → (has_failed p ≡ true) ⊎ HasFailed (device_below p) (device_below q))
    → (has_failed p ≡ true → has_failed q ≡ true) → WritesNothing p q
renewed {D} {g} present p q first size writes memory cause remains =
    let kept = content_renewed first (device_below p) (device_below q) size writes in
    record {
      preserved = preserved_read present p q
          (record { history = history_renewed first (device_below p) (device_below q) size writes; root = memory.root; durable = memory.durable }) cause remains kept;
      content = λ is. kept is.faithful;
      stays = λ is. (let faithful = size.faithful is.faithful in record { faithful = faithful; present = present q.device faithful });
    }

-- the fault that the device failed is answered as that
pub not_full : (fault : PageFault) → fault ≡ page.Device → fault ≢ page.Full
not_full fault is bad = let no : page.Device ≡ page.Full = sym is ∙ bad in cc

pub answers_device : {D : Type 0} {g : Ghosts D} (fault : PageFault) (answer : StoreFault) (old new : TreeStore D g) → fault ≡ page.Device → CountsRefusal fault answer old new → answer ≡ Device
answers_device fault Full old new is counts = absurd counts
answers_device fault Memory old new is counts = absurd (let no : page.Device ≡ page.Memory = sym is ∙ counts.0 in let bad : ⊥ = cc in bad)
answers_device fault Device old new is counts = refl
answers_device fault Number old new is counts = absurd counts
