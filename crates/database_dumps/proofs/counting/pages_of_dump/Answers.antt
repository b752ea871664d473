use Rattle.std.proofs.Common.{sym, subst}
use Rattle.sector_device.specs.Device.{KeepsHistory as DeviceHistory}
use Rattle.cow_pages.specs.Held.{KeepsContent}
use Rattle.journal_store.specs.DeviceStores.{state_under, store_state}
use Rattle.journal_store.proofs.Since.{history_since, content_since}
use Rattle.copies.proofs.Copying.{failed_from}
use Rattle.database_dumps.specs.Counting.{CountsPages}
use Rattle.database_dumps.proofs.Counted.{counts_pages, refused_count}
use Rattle.database_dumps.proofs.counting.pages_of_dump.Goals as goal

pub returns-in-Err-clause-counts : goal.returns-in-Err-clause-counts
returns-in-Err-clause-counts g c = λ faithful.
    refused_count (g.D.Device.state c.args.source) (g.D.Device.state c.in-Err.source) c.in-Err.fault (c.in-Err.ensures.named faithful) c.in-Err.ensures.cause

pub returns-clause-history : goal.returns-clause-history
returns-clause-history g c =
    subst (λ x. DeviceHistory (g.D.Device.state c.args.source) (g.D.Device.state x)) (sym c.into_device.ensures)
    (history_since (g.D.Device.state c.args.source) c.in-Ok.store c.pages_of_store-counted.new.store c.in-Ok.ensures c.pages_of_store-counted.ensures.preserved)

pub returns-clause-unwritten : goal.returns-clause-unwritten
returns-clause-unwritten g c = λ faithful.
    subst (λ x. KeepsContent (g.D.Device.state c.args.source) (g.D.Device.state x)) (sym c.into_device.ensures)
    (content_since (g.D.Device.state c.args.source) c.in-Ok.store c.pages_of_store-counted.new.store c.in-Ok.ensures c.pages_of_store-counted.ensures.preserved g.met.D.Device.only_now faithful)

pub returns-clause-counts : goal.returns-clause-counts
returns-clause-counts g c = λ faithful.
    let d = g.D.Device.state c.args.source in
    let s = c.in-Ok.store in
    let t = c.pages_of_store-counted.new.store in
    let holds = c.in-Ok.ensures.holds faithful in
    subst (λ x. CountsPages d (g.D.Device.state x) c.pages_of_store-counted.result) (sym c.into_device.ensures)
    (counts_pages d (state_under t) (store_state s) (store_state t) c.pages_of_store-counted.result holds (failed_from d s t c.in-Ok.ensures c.pages_of_store-counted.ensures.history faithful)
    c.pages_of_store-counted.ensures.cause (c.pages_of_store-counted.ensures.damaged holds.sound))
