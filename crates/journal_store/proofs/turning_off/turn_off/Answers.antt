use Rattle.std.proofs.Common.{◌≤◌, ℕ, sym, subst, arith}
use Rattle.sector_device.specs.Device.{DeviceState, history_joined}
use Rattle.cow_pages.specs.Cow.{device_below}
use Rattle.kv_store.specs.PageStore.{pages_of}
use Rattle.journal_store.specs.declared.device_stores.DeviceStore.{DeviceStore}
use Rattle.journal_store.specs.DeviceOpening.{IsOpened}
use Rattle.journal_store.specs.Emptying.{RidsOfOlder}
use Rattle.journal_store.proofs.Kept.{has_first_page}
use Rattle.journal_store.proofs.Rid.{off_already}
use Rattle.journal_store.proofs.turning_off.turn_off.Goals as goal

pub rid_of_older-requires : goal.rid_of_older-requires
rid_of_older-requires g c =
    subst (λ (x : g.row.D.Denot). 2 ≤ (g.D.Device.state x).sectors) (sym c.into_device.ensures) (omega (arith, has_first_page (pages_of c.in-Ok-Pages.store)))

pub returns-in-Ok-Pages : goal.returns-in-Ok-Pages
returns-in-Ok-Pages g c =
    let state = g.D.Device.state in
    let d : DeviceState = state c.args.device in
    let e : DeviceState = state c.rid_of_older.result.0 in
    let s = c.in-Ok-Pages.store in
    let opened = subst (λ (x : DeviceStore g.row.D.Denot g.D.Device). IsOpened d x) c.in-Ok-Pages.field-0-is c.in-Ok-Pages.ensures in
    let rids = subst (λ (n : ℕ). RidsOfOlder n c.rid_of_older.result.1 (device_below (pages_of s)) e) c.number-number.ensures
    (subst (λ (x : g.row.D.Denot). RidsOfOlder c.number-number.result c.rid_of_older.result.1 (state x) e) c.into_device.ensures c.rid_of_older.ensures) in
    record {
      history = history_joined d (device_below (pages_of s)) e opened.history rids.history;
      outcome = λ faithful. off_already g.met.D.Device.only_now g.met.D.Device.content_left d e s opened c.rid_of_older.result.1 rids faithful;
    }

pub end_journal-requires : goal.end_journal-requires
end_journal-requires g c =
    (subst (λ (x : DeviceStore g.row.D.Denot g.D.Device). IsOpened (g.D.Device.state c.args.device) x) c.in-Ok-Journaled.field-0-is c.in-Ok-Journaled.ensures).has_not_failed

pub returns-in-Ok-Journaled : goal.returns-in-Ok-Journaled
returns-in-Ok-Journaled g c =
    let d : DeviceState = g.D.Device.state c.args.device in
    c.end_journal.ensures c.args.device (subst (λ (x : DeviceStore g.row.D.Denot g.D.Device). IsOpened d x) c.in-Ok-Journaled.field-0-is c.in-Ok-Journaled.ensures)

pub returns-in-Err : goal.returns-in-Err
returns-in-Err g c = record { history = c.in-Err.ensures.history; outcome = λ faithful. c.in-Err.ensures }
