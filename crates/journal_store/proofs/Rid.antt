-- The last step of turning a journal off: the root sector beside that of the root.
use Rattle.std.specs.Prelude.{MatchResult}
use Rattle.std.proofs.Common.{◌≡◌, ◌≤◌, ◌<◌, ◌+◌, ◌/◌, ◌⊎◌, inl, ℕ, Bool, false, List, Some, Result, Ok, Err, sym, subst}
use Rattle.sector_device.specs.Timeline.{LeavesOnly, IsPresent, weakened, joined}
use Rattle.sector_device.specs.Device.{DeviceState, Image, IsLeft, HasFailed, timeline}
use Rattle.sector_device.specs.declared.device.Device.{Ghosts}
use Rattle.page_roots.specs.Root.{home}
use Rattle.page_roots.specs.Sector.{root_at}
use Rattle.cow_pages.specs.declared.cow.CowPages.{CowPages}
use Rattle.cow_pages.specs.Cow.{device_of, device_below, root_of}
use Rattle.cow_pages.specs.Held.{KeepsContent}
use Rattle.cow_pages.specs.ReadingLaws.{reads_joined}
use Rattle.cow_pages.proofs.Meaning.{homes}
use Rattle.store.specs.Store.{Contents}
use Rattle.kv_store.specs.declared.page_store.PageStore.{PageStore}
use Rattle.kv_store.specs.Contents.{HoldsContents, contents_of, is_journaled}
use Rattle.kv_store.specs.Numbered.{HasContentsUnder}
use Rattle.kv_store.specs.PageStore.{pages_of}
use Rattle.journal_store.proofs.Formatted.{failed_later}
use Rattle.journal_store.specs.declared.device_stores.DeviceStore.TheVariants.{Pages}
use Rattle.journal_store.specs.DeviceImages.{HasContents, records_on}
use Rattle.journal_store.specs.DeviceOpening.{IsOpened}
use Rattle.journal_store.specs.DeviceStoreLaws.{sectors_are}
use Rattle.store.specs.declared.fault.StoreFault.TheVariants.{Device}
use Rattle.journal_store.specs.declared.switch_fault.SwitchFault.{SwitchFault}
use Rattle.journal_store.specs.declared.switch_fault.SwitchFault.TheVariants.{Refused}
use Rattle.journal_store.specs.Emptying.{SaysNoJournal, IsRid, RidsOfOlder}
use Rattle.journal_store.specs.Faults.{KeepsContents}
use Rattle.journal_store.specs.TurningOff.{HadNone, HadOne, IsOff, CannotTurnOff}
use Rattle.journal_store.proofs.Beginning.{has_plain, left_under}
use Rattle.journal_store.proofs.Emptied.{leaves_emptied, none_says}
use Rattle.journal_store.proofs.Kept.{kept, read_leaves, stays, pages_are, had_under}

-- over pages that hold what the device had, under a root that says that there is no journal
module _ {D : Type 0} {g : Ghosts D} (d m e : DeviceState) (q : CowPages D g) (c : Contents) (holds : HoldsContents c q) (kind : is_journaled q ≡ false)
    (same : m.sectors ≡ d.sectors) (sectors : (device_below q).sectors ≡ d.sectors) (failures : d.failures ≤ (device_below q).failures)
    (had : HasContents (d.sectors / 8) c d.content) (reads : KeepsContent d m) (so_far : LeavesOnly (λ x. x ≡ Some c) (records_on m) (records_on (device_below q)))
    (result : Result ℕ SwitchFault) (rids : RidsOfOlder (root_of q).number result (device_below q) e) where
  plain_image : (image : Image) → HasContentsUnder (is_journaled q) (root_of q).pages (root_of q).number c image → HasContentsUnder false (root_of q).pages (root_of q).number c image
  plain_image image has = subst (λ (journal : Bool). HasContentsUnder journal (root_of q).pages (root_of q).number c image) kind has

  module _ (faithful : (device_below q).faithful) where
    leaves : LeavesOnly (HasContents (root_of q).pages c) (timeline (device_below q)) (timeline e)
    leaves = weakened _ (HasContents (root_of q).pages c) (timeline (device_below q)) (timeline e)
        (λ image has. has_plain (root_of q).pages (root_of q).number c image (plain_image image has)) (leaves_emptied q c holds e (rids.empties faithful))

    keeps : KeepsContents c d e
    keeps = kept c d m e same had reads
        (joined (λ x. x ≡ Some c) (records_on m) (records_on (device_below q)) (records_on e) so_far
        (read_leaves c (device_below q) e rids.history.sectors
        (subst (λ (n : ℕ). LeavesOnly (HasContents n c) (timeline (device_below q)) (timeline e)) (sectors_are q) leaves)))

    is_off : IsRid (home ((root_of q).number + 1)) (device_below q) e → HadNone (root_of q).number c d e ⊎ HadOne (root_of q).number c d → IsOff (root_of q).number d e
    is_off rid how = record {
      contents = c;
      keeps = keeps;
      left = λ image left. (
        subst (λ (n : ℕ). HasContentsUnder false n (root_of q).number c image) (pages_are d q sectors) (plain_image image ((leaves_emptied q c holds e (rids.empties faithful)).now image left)),
        none_says q c holds e (rids.empties faithful) rids.history.sectors kind rid image left,
      );
      how = how;
    }

    pub off_by : (result : Result ℕ SwitchFault) → MatchResult result (λ n. (n ≡ (root_of q).number) × IsRid (home ((root_of q).number + 1)) (device_below q) e) (λ fault. (fault ≡ Refused Device) × HasFailed (device_below q) e)
        → (IsRid (home ((root_of q).number + 1)) (device_below q) e → HadNone (root_of q).number c d e ⊎ HadOne (root_of q).number c d)
        → MatchResult result (λ number. IsOff number d e) (λ fault. CannotTurnOff g fault d e)
    off_by (Ok n) is how = subst (λ (k : ℕ). IsOff k d e) (sym is.0) (is_off is.1 (how is.1))
    off_by (Err fault) is how = subst (λ (f : SwitchFault). CannotTurnOff g f d e) (sym is.0)
        (record { contents = c; keeps = keeps; cause = failed_later d (device_below q) e failures rids.history.failures is.1 })

-- there was no journal
module _ {D : Type 0} {g : Ghosts D} (present : (device : D) → (g.state device).faithful → IsPresent (timeline (g.state device)))
    (content_left : (device : D) (s : ℕ) → (g.state device).faithful → s < (g.state device).sectors → (g.state device).left s ((g.state device).content s))
    (d e : DeviceState) (s : PageStore D g) (opened : IsOpened d (Pages s)) (result : Result ℕ SwitchFault) (rids : RidsOfOlder (root_of (pages_of s)).number result (device_below (pages_of s)) e) (faithful : d.faithful) where
  abbrev q : CowPages D g
  q = pages_of s

  abbrev c : Contents
  c = contents_of q

  faithful_now : (device_below q).faithful
  faithful_now = opened.history.faithful faithful

  holds : HoldsContents c q
  holds = (opened.holds faithful).sound.works opened.has_not_failed

  had : HasContentsUnder false (d.sectors / 8) (root_of q).number c d.content
  had = subst (λ (journal : Bool). HasContentsUnder journal (d.sectors / 8) (root_of q).number c d.content) s.plain
      (had_under d q opened.history.sectors c holds (opened.content faithful) (λ n inside. content_left (device_of q) n faithful_now inside))

  here : (image : Image) → IsLeft (device_below q) image → HasContents ((device_below q).sectors / 8) c image
  here image left = subst (λ (n : ℕ). HasContents n c image) (sectors_are q)
      (has_plain (root_of q).pages (root_of q).number c image
      (subst (λ (journal : Bool). HasContentsUnder journal (root_of q).pages (root_of q).number c image) s.plain (left_under c q holds image left)))

  had_none : IsRid (home ((root_of q).number + 1)) (device_below q) e → HadNone (root_of q).number c d e
  had_none rid = record {
    had = had;
    unwritten = λ none.
        let older : ℕ = home ((root_of q).number + 1) in
        reads_joined d (device_below q) e opened.history (opened.content faithful)
        (rid.unwritten (subst (λ (b : List ℕ). SaysNoJournal (root_at older b)) (sym ((opened.content faithful).content older)) (none older (homes (root_of q).number).1)));
  }

  pub off_already : MatchResult result (λ number. IsOff number d e) (λ fault. CannotTurnOff g fault d e)
  off_already = off_by d (device_below q) e q c holds s.plain opened.history.sectors opened.history.sectors opened.history.failures
      (has_plain (d.sectors / 8) (root_of q).number c d.content had) (opened.content faithful) (stays c (device_below q) (present (device_of q) faithful_now) here)
      result rids faithful_now result (rids.outcome faithful_now) (λ rid. inl (had_none rid))
