use Rattle.std.proofs.Common.{◌≡◌, false, sym, ap, subst, ◌∙◌, ⊎_elim}
use Rattle.std.proofs.lemmas.Bool.{false≢true}
use Rattle.sector_device.specs.Timeline.{LeavesOnly}
use Rattle.sector_device.specs.Device.{timeline}
use Rattle.page_roots.specs.Formats.{has_journal}
use Rattle.page_roots.specs.Root.{RootFields}
use Rattle.cow_pages.specs.Cow.{device_below, root_of}
use Rattle.kv_store.specs.Contents.{contents_of, is_journaled}
use Rattle.kv_store.specs.TreeStore.{pages_of}
use Rattle.journal_store.proofs.Clearing.{clears_some, all_cleared}
use Rattle.journal_store.specs.Images.{HasContents}
use Rattle.journal_store.specs.Beginning.{Begins}
use Rattle.journal_store.proofs.Beginning.{before_leaves, begins, number_risen}
use Rattle.journal_store.proofs.on.begin_journal.Goals as goal

pub returns-in_default-clause-begins : goal.returns-in_default-clause-begins
returns-in_default-clause-begins g c sound kind second =
    let p = pages_of c.args.store.now in
    let held = sound.works c.requires.works in
    record {
      leaves = before_leaves p (pages_of c.write_protected.new.self) (contents_of p) kind (c.in_default.ensures.leaves (contents_of p) held);
      outcome = ⊎_elim (λ had. absurd (false≢true (sym c.requires.works ∙ had))) (λ counted. counted.1 sound) c.in_default.ensures.outcome.1.cause;
    }

pub returns-clause-begins : goal.returns-clause-begins
returns-clause-begins g c sound kind second =
    let s = c.args.store.now in
    let p = pages_of s in
    let q = pages_of c.write_protected.new.self in
    let r = pages_of c.commit_kind.new.self in
    let is = c.in-Ok.ensures in
    let held = sound.works c.requires.works in
    let same : root_of q ≡ root_of p = is.keeps.root in
    let first : LeavesOnly (HasContents (root_of q).pages (contents_of p)) (timeline (device_below p)) (timeline (device_below q)) =
    subst (λ (root : RootFields). LeavesOnly (HasContents root.pages (contents_of p)) (timeline (device_below p)) (timeline (device_below q))) (sym same)
    (before_leaves p q (contents_of p) kind (is.leaves (contents_of p) held)) in
    let kind_now : is_journaled q ≡ false = ap (λ (root : RootFields). has_journal root.format) same ∙ kind in
    subst (λ (root : RootFields). Begins g.D.Device (contents_of p) c.commit_kind.result root (device_below p) (device_below r)) same
    (begins g.met.D.Device.only_now g.met.D.JournalDevice.all_beside (device_below p) q r (contents_of p) c.requires.room is.device.size
    (clears_some (device_below p) (device_below q) (is.device.writes sound.faithful)) (all_cleared (device_below p) (device_below q) (is.device.written sound.faithful) (is.device.synced sound.faithful))
    (is.outcome.holds (contents_of p) held) second kind_now first c.commit_kind.ensures.history c.commit_kind.result c.commit_kind.ensures.switches)

pub returns-clause-number : goal.returns-clause-number
returns-clause-number g c sound second =
    let p = pages_of c.args.store.now in
    let is = c.in-Ok.ensures in
    number_risen p (pages_of c.write_protected.new.self) (pages_of c.commit_kind.new.self) (contents_of p) is.keeps.root (is.outcome.holds (contents_of p) (sound.works c.requires.works)) second c.commit_kind.result c.commit_kind.ensures.switches
