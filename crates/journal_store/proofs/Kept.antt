-- A device whose contents stay: what it had when it was opened, and what a stop leaves of it then.
use Rattle.std.proofs.Common.{◌≡◌, ◌≤◌, ◌/◌, inl, inr, ℕ, Option, Some, refl, sym, ap, subst, ◌∙◌, arith}
use Rattle.std.proofs.Math.Path.{fun_ext}
use Rattle.sector_device.specs.Timeline.{Timeline, LeavesOnly, IsPresent, read_by, weakened, joined}
use Rattle.sector_device.proofs.Runs.{lifted, started}
use Rattle.sector_device.specs.Device.{DeviceState, Image, IsLeft, KeepsHistory, KeepsSize, timeline}
use Rattle.sector_device.specs.declared.device.Device.{Ghosts}
use Rattle.cow_pages.specs.declared.cow.CowPages.{CowPages}
use Rattle.cow_pages.specs.Cow.{device_below, root_of}
use Rattle.cow_pages.specs.Held.{KeepsContent}
use Rattle.store.specs.Store.{Contents}
use Rattle.kv_store.specs.Contents.{HoldsContents, is_journaled}
use Rattle.kv_store.specs.Numbered.{HasContentsUnder}
use Rattle.journal_store.specs.ImageLaws.{read_has}
use Rattle.journal_store.specs.DeviceImages.{HasContents, IsReadAs, records_on}
use Rattle.journal_store.specs.DeviceStoreLaws.{sectors_are}
use Rattle.journal_store.specs.Faults.{MayLeave, KeepsContents}
use Rattle.journal_store.proofs.Beginning.{left_under}

-- read as images of so many sectors
abbrev pub read_in : ℕ → DeviceState → Timeline (Option Contents)
read_in sectors d = read_by (IsReadAs (sectors / 8)) (timeline d)

-- a stop leaves images that have the contents
pub read_leaves : (c : Contents) (m e : DeviceState) → e.sectors ≡ m.sectors → LeavesOnly (HasContents (m.sectors / 8) c) (timeline m) (timeline e) → LeavesOnly (λ x. x ≡ Some c) (records_on m) (records_on e)
read_leaves c m e sectors leaves = subst (λ (n : ℕ). LeavesOnly (λ x. x ≡ Some c) (records_on m) (read_in n e)) (sym sectors)
    (lifted (IsReadAs (m.sectors / 8)) (HasContents (m.sectors / 8) c) (λ x. x ≡ Some c) (timeline m) (timeline e) (λ image x has read. read_has image (m.sectors / 8) c x has read) leaves)

-- calls that wrote nothing
reads_leave : (d m : DeviceState) → m.sectors ≡ d.sectors → KeepsContent d m → LeavesOnly (records_on d).left (records_on d) (records_on m)
reads_leave d m sectors reads = subst (λ (n : ℕ). LeavesOnly (records_on d).left (records_on d) (read_in n m)) (sym sectors)
    (lifted (IsReadAs (d.sectors / 8)) (IsLeft d) (records_on d).left (timeline d) (timeline m) (λ image x left read. (image, left, read)) reads.leaves)

-- it was read, and from then on a stop leaves the contents
pub kept : (c : Contents) (d m e : DeviceState) → m.sectors ≡ d.sectors → HasContents (d.sectors / 8) c d.content → KeepsContent d m → LeavesOnly (λ x. x ≡ Some c) (records_on m) (records_on e) → KeepsContents c d e
kept c d m e sectors had reads leaves = record {
  had = had;
  any_moment = joined (MayLeave d c) (records_on d) (records_on m) (records_on e)
      (weakened (records_on d).left (MayLeave d c) (records_on d) (records_on m) (λ x left. inl left) (reads_leave d m sectors reads))
      (weakened (λ x. x ≡ Some c) (MayLeave d c) (records_on m) (records_on e) (λ x is. inr is) leaves);
  now = leaves.now;
}

-- from a moment at which a stop leaves them
pub stays : (c : Contents) (m : DeviceState) → IsPresent (timeline m) → ((image : Image) → IsLeft m image → HasContents (m.sectors / 8) c image) → LeavesOnly (λ x. x ≡ Some c) (records_on m) (records_on m)
stays c m present has = read_leaves c m m refl (started (HasContents (m.sectors / 8) c) (timeline m) present has)

-- calls, and then calls that may write sectors beside
pub size_after : (d m e : DeviceState) → KeepsHistory d m → KeepsSize m e → KeepsSize d e
size_after d m e first second = record {
  sectors = second.sectors ∙ first.sectors;
  faithful = λ is. second.faithful (first.faithful is);
  was_faithful = λ is. first.was_faithful (second.was_faithful is);
  failures = omega (arith, first.failures, second.failures);
  same_beside = λ s. (λ is. (second.same_beside s).0 ((first.same_beside s).0 is), λ is. (first.same_beside s).1 ((second.same_beside s).1 is));
}

pub size_kept : (d e : DeviceState) → KeepsHistory d e → KeepsSize d e
size_kept d e history = record { sectors = history.sectors; faithful = history.faithful; was_faithful = history.was_faithful; failures = history.failures; same_beside = history.same_beside }

-- the first page is there
pub has_first_page : {D : Type 0} {g : Ghosts D} (p : CowPages D g) → 8 ≤ (device_below p).sectors
has_first_page p = omega (arith, p.sized, p.map.consistent.least)

-- pages that were opened on it
module _ {D : Type 0} {g : Ghosts D} (d : DeviceState) (p : CowPages D g) (sectors : (device_below p).sectors ≡ d.sectors) where
  pub pages_are : (root_of p).pages ≡ d.sectors / 8
  pages_are = sectors_are p ∙ ap (λ (n : ℕ). n / 8) sectors

  pub had_under : (c : Contents) → HoldsContents c p → KeepsContent d (device_below p) → IsLeft (device_below p) (device_below p).content
      → HasContentsUnder (is_journaled p) (d.sectors / 8) (root_of p).number c d.content
  had_under c holds reads here =
      subst (λ (n : ℕ). HasContentsUnder (is_journaled p) n (root_of p).number c d.content) pages_are
      (subst (λ (image : Image). HasContentsUnder (is_journaled p) (root_of p).pages (root_of p).number c image) (fun_ext reads.content) (left_under c p holds (device_below p).content here))
