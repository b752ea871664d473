use Rattle.std.proofs.Common.{sym, subst}
use Rattle.sector_device.specs.Device.{KeepsHistory as DeviceHistory}
use Rattle.cow_pages.specs.Held.{KeepsContent}
use Rattle.store.specs.Store.{stored}
use Rattle.journal_store.specs.DeviceStores.{state_under, store_state}
use Rattle.journal_store.proofs.Since.{history_since, content_since}
use Rattle.copies.specs.DatabaseCopies.{CopiesDatabase}
use Rattle.copies.proofs.Copying.{copies_database, failed_from, refused_pages}
use Rattle.copies.proofs.database_copies.copy_database.Goals as goal

pub returns-in-Err-clause-copies : goal.returns-in-Err-clause-copies
returns-in-Err-clause-copies g c = λ faithful.
    let d = g.D.Device.state c.args.source in
    let e = g.D.Device.state c.in-Err.source in
    refused_pages g.E.Device.state d e c.in-Err.fault c.args.target (c.in-Err.ensures.named faithful) c.in-Err.ensures.cause

pub returns-clause-history : goal.returns-clause-history
returns-clause-history g c =
    let s = c.in-Ok.store in
    let t = c.copy_store-target.new.store in
    subst (λ x. DeviceHistory (g.D.Device.state c.args.source) (g.D.Device.state x)) (sym c.into_device.ensures)
    (history_since (g.D.Device.state c.args.source) s t c.in-Ok.ensures c.copy_store-target.ensures.preserved)

pub returns-clause-unwritten : goal.returns-clause-unwritten
returns-clause-unwritten g c = λ faithful.
    subst (λ x. KeepsContent (g.D.Device.state c.args.source) (g.D.Device.state x)) (sym c.into_device.ensures)
    (content_since (g.D.Device.state c.args.source) c.in-Ok.store c.copy_store-target.new.store c.in-Ok.ensures c.copy_store-target.ensures.preserved g.met.D.Device.only_now faithful)

pub returns-clause-copies : goal.returns-clause-copies
returns-clause-copies g c = λ faithful.
    let d = g.D.Device.state c.args.source in
    let s = c.in-Ok.store in
    let t = c.copy_store-target.new.store in
    let holds = c.in-Ok.ensures.holds faithful in
    subst (λ x. CopiesDatabase d (g.D.Device.state x) g.E.Device.state c.copy_store-target.result.1 c.args.target c.copy_store-target.result.0) (sym c.into_device.ensures)
    (copies_database g.E.Device.state d (state_under t) (stored (store_state s)) holds.contents (store_state s) (store_state t) (failed_from d s t c.in-Ok.ensures c.copy_store-target.ensures.history faithful)
    c.copy_store-target.result.1 c.args.target c.copy_store-target.result.0 (c.copy_store-target.ensures.copies holds.sound) c.copy_store-target.ensures.cause)
