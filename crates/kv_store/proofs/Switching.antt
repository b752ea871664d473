-- A commit that changes what the root says of a journal.
use Rattle.std.proofs.Common.{◌≡◌, ◌⊎◌, ◌+◌, inl, inr, Bool, Result, Ok, Err, MatchResult, OnOk, refl, sym, ap, ◌∙◌}
use Rattle.sector_device.specs.Timeline.{IsPresent, weakened}
use Rattle.sector_device.specs.Device.{Image, timeline}
use Rattle.sector_device.specs.declared.device.Device.{Ghosts}
use Rattle.page_roots.specs.Formats.{record_format_of, has_journal}
use Rattle.page_roots.specs.Root.{RootFields}
use Rattle.page_roots.specs.declared.format.Format.{Format}
use Rattle.cow_pages.specs.declared.cow.CowPages.{CowPages}
use Rattle.cow_pages.specs.Commit.{IsEither}
use Rattle.cow_pages.specs.Cow.{device_below, root_of, durable_array, working_array, LeavesBeforeOrAfter}
use Rattle.cow_pages.specs.Calls.{IsCommitted}
use Rattle.cow_pages.proofs.Preserving.{open_holds}
use Rattle.store.specs.Store.{Contents}
use Rattle.store.specs.declared.fault.StoreFault.{StoreFault}
use Rattle.store.specs.declared.fault.StoreFault.TheVariants.{Full, Memory, Device, Number}
use Rattle.kv_store.specs.Batches.{IsGivenUp, Finishes}
use Rattle.kv_store.specs.Contents.{HoldsContents, is_journaled}
use Rattle.kv_store.specs.Numbered.{HasContentsUnder}
use Rattle.kv_store.specs.Switching.{LeavesSwitched, IsSwitched, IsNotSwitched, CannotSwitch}
use Rattle.page_tree.proofs.Represented.{map_of_same}
use Rattle.kv_store.proofs.Batches.{working_holds}
use Rattle.kv_store.proofs.Numbering.{before_still}

module _ {D : Type 0} {g : Ghosts D} (present : (device : D) → (g.state device).faithful → IsPresent (timeline (g.state device)))
    (next : Format) (journal : Bool) (contents : Contents) (old new : CowPages D g) (holds : HoldsContents contents old) (spelled : record_format_of next ≡ contents.record_format) (kind : has_journal next ≡ journal) where
  abbrev Either : Image → Type 0
  Either image = HasContentsUnder (is_journaled old) (root_of old).pages (root_of old).number contents image ⊎ HasContentsUnder journal (root_of old).pages ((root_of old).number + 1) contents image

  either_under : (image : Image) → IsEither (root_of old).pages (root_of old).format (root_of old).number next (durable_array old) (working_array old) image → Either image
  either_under image either = elim either [
    | inl means ↦ inl (record { format = (root_of old).format; array = durable_array old; means = means; kind = refl; spelled = holds.spelled; represents = holds.durable })
    | inr means ↦ inr (record { format = next; array = working_array old; means = means; kind = kind; spelled = spelled; represents = working_holds contents old holds })
  ]

  leaves : LeavesBeforeOrAfter next old new → LeavesSwitched journal contents old new
  leaves both = weakened _ Either (timeline (device_below old)) (timeline (device_below new)) either_under both

  switched : LeavesBeforeOrAfter next old new → (root_of new).number ≡ (root_of old).number + 1 → IsCommitted next old new → IsSwitched journal contents old new
  switched both number is =
      let durable = is.durable holds.is_open in
      record {
        holds = record {
          is_open = durable.is_open;
          spelled = ap record_format_of is.format ∙ spelled;
          durable = map_of_same (working_array old) (durable_array new) contents.records (λ l. sym (durable.durable l)) (working_holds contents old holds);
          same = λ l. durable.working l ∙ sym (durable.durable l);
        };
        pages = durable.pages;
        kind = ap has_journal is.format ∙ kind;
        number_is = number;
        leaves = leaves both;
      }

  not_switched : IsGivenUp old new → IsNotSwitched contents old new
  not_switched is = record {
    holds = record {
      is_open = is.is_open;
      spelled = ap (λ (r : RootFields). record_format_of r.format) is.keeps.root ∙ holds.spelled;
      durable = map_of_same (durable_array old) (durable_array new) contents.records (λ l. sym (is.keeps.same l)) holds.durable;
      same = is.working;
    };
    root = is.keeps.root;
    leaves = before_still contents contents old old holds (open_holds old (present old.device holds.is_open.faithful) holds.is_open).now new is.device;
  }

  pub switches_by : (result : Result (Unit {0}) StoreFault) → Finishes next result old new → OnOk result ((root_of new).number ≡ (root_of old).number + 1)
      → MatchResult result (λ _. IsSwitched journal contents old new) (λ fault. CannotSwitch fault journal contents old new)
  switches_by (Ok x) is number = switched is.leaves number is.outcome
  switches_by (Err Full) is number = (is.outcome.0, not_switched is.outcome.1)
  switches_by (Err Memory) is number = absurd is.outcome
  switches_by (Err Device) is number = (is.outcome.cause, leaves is.leaves)
  switches_by (Err Number) is number = (is.outcome.0, not_switched is.outcome.1)
