use Rattle.std.proofs.Common.{◌≤◌, ◌∙◌, ℕ, false, Ok, Err, ap, sym, subst, arith}
use Rattle.sector_device.specs.Device.{DeviceState, KeepsHistory, history_joined}
use Rattle.cow_pages.specs.Cow.{device_below}
use Rattle.store.specs.Contents.{changed_by_batch}
use Rattle.store.specs.Records.{Changes}
use Rattle.store.specs.Store.{Commits, stored}
use Rattle.store.specs.declared.fault.StoreFault.{StoreFault}
use Rattle.kv_store.specs.declared.tree_store.TreeStore.{TreeStore}
use Rattle.kv_store.specs.Switching.{SwitchesKind}
use Rattle.kv_store.specs.TreeStore.{pages_of}
use Rattle.journal_store.specs.Room.{HadNoRoomFor}
use Rattle.journal_store.specs.Stores.{device_under, journal_state}
use Rattle.journal_store.specs.declared.switch_fault.SwitchFault.TheVariants.{Refused}
use Rattle.journal_store.specs.Emptying.{RidsOfOlder}
use Rattle.journal_store.specs.TurningOff.{TurnsOff}
use Rattle.journal_store.proofs.Ended.{not_ended, holds_all, second_still, not_switched, switched}
use Rattle.journal_store.proofs.SwitchJournaled.{sound_then}
use Rattle.journal_store.proofs.Kept.{has_first_page}
use Rattle.journal_store.proofs.turning_off.end_journal.Goals as goal

pub commit_kind-requires : goal.commit_kind-requires
commit_kind-requires g c = record {
  works = ap (λ (x : TreeStore g.row.D.Denot g.D.Device). x.has_failed) c.into_pages-pages.ensures.pages ∙ (c.in-Ok.ensures.commits.failed ∙ c.requires);
}

pub rid_of_older-requires : goal.rid_of_older-requires
rid_of_older-requires g c =
    subst (λ (x : g.row.D.Denot). 2 ≤ (g.D.Device.state x).sectors) (sym c.into_device.ensures) (omega (arith, has_first_page (pages_of c.commit_kind.new.self)))

pub returns-in-Ok-commit_kind : goal.returns-in-Ok-commit_kind
returns-in-Ok-commit_kind g c device opened =
    let state = g.D.Device.state in
    let d : DeviceState = state device in
    let present = g.met.D.Device.only_now in
    let left = g.met.D.Device.content_left in
    let beside = g.met.D.JournalDevice.all_beside in
    let s = c.args.store in
    let t = c.checkpoint.new.self in
    let q = pages_of c.commit_kind.new.self in
    let e : DeviceState = state c.rid_of_older.result.0 in
    let first = c.in-Ok.ensures in
    let commits = subst (λ (none : Changes). Commits (Ok tt) (changed_by_batch none (stored (journal_state s))) (journal_state s) (journal_state t)) c.new-nothing.ensures first.commits in
    let second = subst (λ (x : TreeStore g.row.D.Denot g.D.Device). KeepsHistory (device_below (pages_of x)) (device_below q) × SwitchesKind false (Ok tt) (pages_of x) q)
    c.into_pages-pages.ensures.pages (c.in-Ok-commit_kind.ensures.history, c.in-Ok-commit_kind.ensures.switches) in
    let rids = subst (λ (n : ℕ). RidsOfOlder n c.rid_of_older.result.1 (device_below q) e) c.number-number.ensures
    (subst (λ (x : g.row.D.Denot). RidsOfOlder c.number-number.result c.rid_of_older.result.1 (state x) e) c.into_device.ensures c.rid_of_older.ensures) in
    record {
      history = history_joined d (device_below q) e (history_joined d (device_under t) (device_below q) (history_joined d (device_under s) (device_under t) opened.history first.history) second.0) rids.history;
      outcome = λ faithful. switched present left beside d s t opened first.history faithful commits first.anew first.cleared q second.0
          (second.1 (stored (journal_state s)) (holds_all present left beside d s t opened first.history faithful commits first.anew first.cleared)
          (second_still present left beside d s t opened first.history faithful commits first.anew first.cleared)) e c.rid_of_older.result.1 rids;
    }

pub returns-in-Ok : goal.returns-in-Ok
returns-in-Ok g c device opened =
    let state = g.D.Device.state in
    let d : DeviceState = state device in
    let present = g.met.D.Device.only_now in
    let left = g.met.D.Device.content_left in
    let beside = g.met.D.JournalDevice.all_beside in
    let s = c.args.store in
    let t = c.checkpoint.new.self in
    let q = pages_of c.commit_kind.new.self in
    let first = c.in-Ok.ensures in
    let fault = c.in-Err-commit_kind.fault in
    let commits = subst (λ (none : Changes). Commits (Ok tt) (changed_by_batch none (stored (journal_state s))) (journal_state s) (journal_state t)) c.new-nothing.ensures first.commits in
    let second = subst (λ (x : TreeStore g.row.D.Denot g.D.Device). KeepsHistory (device_below (pages_of x)) (device_below q) × SwitchesKind false (Err fault) (pages_of x) q)
    c.into_pages-pages.ensures.pages (c.in-Err-commit_kind.ensures.history, c.in-Err-commit_kind.ensures.switches) in
    subst (λ (x : g.row.D.Denot). TurnsOff g.D.Device d (Err (Refused fault)) (state x)) (sym c.into_device-in-Err-commit_kind.ensures) (record {
      history = history_joined d (device_under t) (device_below q) (history_joined d (device_under s) (device_under t) opened.history first.history) second.0;
      outcome = λ faithful. not_switched present left beside d s t opened first.history faithful commits first.anew first.cleared q second.0 fault
          (second.1 (stored (journal_state s)) (holds_all present left beside d s t opened first.history faithful commits first.anew first.cleared)
          (second_still present left beside d s t opened first.history faithful commits first.anew first.cleared));
    })

pub returns : goal.returns
returns g c device opened =
    let state = g.D.Device.state in
    let d : DeviceState = state device in
    let s = c.args.store in
    let t = c.checkpoint.new.self in
    let is = c.in-Err.ensures in
    let commits = subst (λ (none : Changes). Commits (Err c.in-Err.fault) (changed_by_batch none (stored (journal_state s))) (journal_state s) (journal_state t)) c.new-nothing.ensures is.commits in
    subst (λ (x : g.row.D.Denot). TurnsOff g.D.Device d (Err (Refused c.in-Err.fault)) (state x)) (sym c.into_device-in-Err.ensures) (record {
      history = history_joined d (device_under s) (device_under t) opened.history is.history;
      outcome = λ faithful. not_ended g.met.D.Device.only_now g.met.D.Device.content_left g.met.D.JournalDevice.all_beside d s t opened is.history faithful c.in-Err.fault commits
          (λ full. subst (λ (none : Changes). HadNoRoomFor none s) c.new-nothing.ensures (is.room (sound_then g.met.D.Device.content_left d s opened faithful) (ap (λ (f : StoreFault). Err f) full)));
    })
