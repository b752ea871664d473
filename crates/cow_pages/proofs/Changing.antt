-- The maps of a commit once the pages of its map pages are reserved.
use Rattle.std.proofs.Common.{◌≡◌, ℕ, List, sym, subst}
use Rattle.sector_device.specs.Timeline.{LeavesOnly}
use Rattle.sector_device.specs.Device.{DeviceState, timeline}
use Rattle.page_roots.specs.declared.format.Format.{Format}
use Rattle.page_roots.specs.Root.{RootFields}
use Rattle.cow_pages.specs.declared.page_map.PageMap.{PageMap}
use Rattle.cow_pages.specs.Image.{array_of}
use Rattle.cow_pages.specs.Held.{IsSettled, IsRecoverable}
use Rattle.cow_pages.specs.PageMap.{IsNextRoot}
use Rattle.cow_pages.specs.MapCalls.{KeepsMaps, IsNextOf}
use Rattle.cow_pages.specs.Commit.{CanCommit, IsEither}
use Rattle.cow_pages.specs.Dirty.{DirtyBytes, overlaid_array}
use Rattle.cow_pages.specs.PreservedLaws.{same_settled}

module _ (old new : PageMap) (same : KeepsMaps old new) where
  pub next_as : (next : RootFields) → IsNextOf next old new → IsNextRoot new.root next new.durable.items new.reserved new.working.items
  next_as next is =
      subst (λ (r : RootFields). IsNextRoot r next new.durable.items new.reserved new.working.items) (sym same.root)
      (subst (λ (es : List ℕ). IsNextRoot old.root next es new.reserved new.working.items) (sym same.durable)
      (subst (λ (es : List ℕ). IsNextRoot old.root next old.durable.items new.reserved es) (sym same.working) is))

  pub next_was : (next : RootFields) → IsNextOf next new new → IsNextOf next old new
  next_was next is =
      subst (λ (r : RootFields). IsNextRoot r next old.durable.items new.reserved old.working.items) same.root
      (subst (λ (es : List ℕ). IsNextRoot new.root next es new.reserved old.working.items) same.durable
      (subst (λ (es : List ℕ). IsNextRoot new.root next new.durable.items new.reserved es) same.working is))

  pub can_commit : (d : DeviceState) (next : RootFields) → d.faithful → IsSettled d old.root old.durable.items → IsNextOf next old new → CanCommit d new next
  can_commit d next faithful settled is = record {
    faithful = faithful;
    settled = same_settled d old.root new.root old.durable.items new.durable.items (sym same.root) (sym same.durable) settled;
    next_is = next_as next is;
  }

  pub recoverable_was : (d : DeviceState) → IsRecoverable d new.root new.durable.items → IsRecoverable d old.root old.durable.items
  recoverable_was d is = subst (λ (r : RootFields). IsRecoverable d r old.durable.items) same.root (subst (λ (es : List ℕ). IsRecoverable d new.root es) same.durable is)

  pub either_was : (d e : DeviceState) (dirty : DirtyBytes) (format next : Format) → format ≡ next
      → LeavesOnly (IsEither new.root.pages new.root.format new.root.number format (array_of d.content new.durable.items) (overlaid_array dirty d.content new.working.items)) (timeline d) (timeline e)
      → LeavesOnly (IsEither old.root.pages old.root.format old.root.number next (array_of d.content old.durable.items) (overlaid_array dirty d.content old.working.items)) (timeline d) (timeline e)
  either_was d e dirty format next is leaves =
      subst (λ (f : Format). LeavesOnly (IsEither old.root.pages old.root.format old.root.number f (array_of d.content old.durable.items) (overlaid_array dirty d.content old.working.items)) (timeline d) (timeline e)) is
      (subst (λ (r : RootFields). LeavesOnly (IsEither r.pages r.format r.number format (array_of d.content old.durable.items) (overlaid_array dirty d.content old.working.items)) (timeline d) (timeline e)) same.root
      (subst (λ (es : List ℕ). LeavesOnly (IsEither new.root.pages new.root.format new.root.number format (array_of d.content es) (overlaid_array dirty d.content old.working.items)) (timeline d) (timeline e)) same.durable
      (subst (λ (es : List ℕ). LeavesOnly (IsEither new.root.pages new.root.format new.root.number format (array_of d.content new.durable.items) (overlaid_array dirty d.content es)) (timeline d) (timeline e)) same.working leaves)))
