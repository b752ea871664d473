-- What a stop leaves of a batch, with the number of the root.
use Rattle.std.proofs.Common.{◌≡◌, ◌⊎◌, ◌+◌, inl, inr, Result, Ok, Err, MatchResult, refl, sym, ap, ◌∙◌, subst}
use Rattle.sector_device.specs.Timeline.{LeavesOnly, weakened, joined}
use Rattle.sector_device.specs.Device.{Image, timeline}
use Rattle.sector_device.specs.declared.device.Device.{Ghosts}
use Rattle.page_roots.specs.Formats.{record_format_of, has_journal}
use Rattle.page_roots.specs.declared.format.Format.{Format}
use Rattle.page_roots.specs.Root.{RootFields}
use Rattle.cow_pages.specs.declared.cow.CowPages.{CowPages}
use Rattle.cow_pages.specs.Image.{Means}
use Rattle.cow_pages.specs.Commit.{IsEither}
use Rattle.cow_pages.specs.Cow.{device_below, root_of, durable_array, working_array, LeavesDurable, LeavesBeforeOrAfter}
use Rattle.cow_pages.specs.Calls.{IsCommitted}
use Rattle.page_tree.specs.Forest.{Represents}
use Rattle.store.specs.Store.{Contents}
use Rattle.store.specs.declared.fault.StoreFault.{StoreFault}
use Rattle.store.specs.declared.fault.StoreFault.TheVariants.{Full, Memory, Device, Number}
use Rattle.kv_store.specs.Batches.{CannotFinish}
use Rattle.kv_store.specs.Contents.{HoldsContents, is_journaled}
use Rattle.kv_store.specs.Numbered.{HasContentsUnder, LeavesBefore, LeavesEither, LeavesNumbered}

module _ {D : Type 0} {g : Ghosts D} (before after : Contents) (old mid : CowPages D g) (holds : HoldsContents before old) (leaves : LeavesDurable old mid) where
  -- the changes before their commit
  before_mid : LeavesBefore before old mid
  before_mid = weakened _ (HasContentsUnder (is_journaled old) (root_of old).pages (root_of old).number before) (timeline (device_below old)) (timeline (device_below mid))
      (λ image means. record { format = (root_of old).format; array = durable_array old; means = means; kind = refl; spelled = holds.spelled; represents = holds.durable }) leaves

  -- a call that leaves the device alone leaves no more
  pub before_still : (new : CowPages D g) → new.device ≡ mid.device → LeavesBefore before old new
  before_still new device =
      subst (λ (d : D). LeavesOnly (HasContentsUnder (is_journaled old) (root_of old).pages (root_of old).number before) (timeline (device_below old)) (timeline (g.state d))) (sym device) before_mid

  module _ (next : Format) (spelled : record_format_of next ≡ after.record_format) (kind : has_journal next ≡ is_journaled old) (root : root_of mid ≡ root_of old) (was : Represents before.records (durable_array mid)) (is : Represents after.records (working_array mid)) where
    abbrev Either : Image → Type 0
    Either image = HasContentsUnder (is_journaled old) (root_of old).pages (root_of old).number before image ⊎ HasContentsUnder (is_journaled old) (root_of old).pages ((root_of old).number + 1) after image

    either_under : (image : Image) → IsEither (root_of mid).pages (root_of mid).format (root_of mid).number next (durable_array mid) (working_array mid) image → Either image
    either_under image either = elim either [
      | inl means ↦ inl (record {
        format = (root_of mid).format;
        array = durable_array mid;
        means = subst (λ (r : RootFields). Means r.pages (root_of mid).format r.number (durable_array mid) image) root means;
        kind = ap (λ (r : RootFields). has_journal r.format) root;
        spelled = ap (λ (r : RootFields). record_format_of r.format) root ∙ holds.spelled;
        represents = was;
      })
      | inr means ↦ inr (record {
        format = next;
        array = working_array mid;
        means = subst (λ (r : RootFields). Means r.pages next (r.number + 1) (working_array mid) image) root means;
        kind = kind;
        spelled = spelled;
        represents = is;
      })
    ]

    either_new : (new : CowPages D g) → LeavesBeforeOrAfter next mid new → LeavesEither before after old new
    either_new new both =
        joined Either (timeline (device_below old)) (timeline (device_below mid)) (timeline (device_below new))
        (weakened _ Either (timeline (device_below old)) (timeline (device_below mid)) (λ image has. inl has) before_mid)
        (weakened _ Either (timeline (device_below mid)) (timeline (device_below new)) either_under both)

    -- the commit, by its answer
    pub numbered_by : (new : CowPages D g) (result : Result (Unit {0}) StoreFault) → LeavesBeforeOrAfter next mid new
        → MatchResult result (λ _. IsCommitted next mid new) (λ fault. CannotFinish fault mid new) → LeavesNumbered result before after old new
    numbered_by new (Ok x) both outcome = either_new new both
    numbered_by new (Err Full) both outcome = before_still new outcome.1.device
    numbered_by new (Err Memory) both outcome = absurd outcome
    numbered_by new (Err Device) both outcome = either_new new both
    numbered_by new (Err Number) both outcome = before_still new outcome.1.device

  -- the changes are given up for want of pages or memory, or the device failed
  pub numbered_failed : (new : CowPages D g) → new.device ≡ mid.device → LeavesNumbered (Err Device) before after old new
  numbered_failed new device =
      weakened _ (λ image. HasContentsUnder (is_journaled old) (root_of old).pages (root_of old).number before image ⊎ HasContentsUnder (is_journaled old) (root_of old).pages ((root_of old).number + 1) after image)
      (timeline (device_below old)) (timeline (device_below new)) (λ image has. inl has) (before_still new device)
