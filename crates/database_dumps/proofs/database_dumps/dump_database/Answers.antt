use Rattle.std.proofs.Common.{refl, sym, subst}
use Rattle.sector_device.specs.Device.{KeepsHistory as DeviceHistory}
use Rattle.cow_pages.specs.Held.{KeepsContent}
use Rattle.journal_store.specs.DeviceStores.{state_under, store_state}
use Rattle.journal_store.proofs.Since.{history_since, content_since}
use Rattle.copies.proofs.Copying.{failed_from}
use Rattle.database_dumps.specs.Dumping.{DumpsDatabase}
use Rattle.database_dumps.proofs.Stored.{dumps_database, opened_answer, refused_pages}
use Rattle.database_dumps.proofs.database_dumps.dump_database.Goals as goal

pub returns-in-Err-clause-dumps : goal.returns-in-Err-clause-dumps
returns-in-Err-clause-dumps g c = λ faithful.
    let new = g.E.Device.state c.args.target in
    refused_pages (g.D.Device.state c.args.source) (g.D.Device.state c.in-Err.source) new new c.in-Err.fault (c.in-Err.ensures.named faithful) c.in-Err.ensures.cause

pub returns-clause-history : goal.returns-clause-history
returns-clause-history g c =
    subst (λ x. DeviceHistory (g.D.Device.state c.args.source) (g.D.Device.state x)) (sym c.into_device.ensures)
    (history_since (g.D.Device.state c.args.source) c.in-Ok.store c.dump_store-dumped.new.store c.in-Ok.ensures c.dump_store-dumped.ensures.preserved)

pub returns-clause-unwritten : goal.returns-clause-unwritten
returns-clause-unwritten g c = λ faithful.
    subst (λ x. KeepsContent (g.D.Device.state c.args.source) (g.D.Device.state x)) (sym c.into_device.ensures)
    (content_since (g.D.Device.state c.args.source) c.in-Ok.store c.dump_store-dumped.new.store c.in-Ok.ensures c.dump_store-dumped.ensures.preserved g.met.D.Device.only_now faithful)

pub returns-clause-dumps : goal.returns-clause-dumps
returns-clause-dumps g c = λ faithful.
    let d = g.D.Device.state c.args.source in
    let s = c.in-Ok.store in
    let t = c.dump_store-dumped.new.store in
    let old = g.E.Device.state c.args.target in
    let new = g.E.Device.state c.dump_store-dumped.new.target in
    let holds = c.in-Ok.ensures.holds faithful in
    subst (λ x. DumpsDatabase d (g.D.Device.state x) c.dump_store-dumped.result old new) (sym c.into_device.ensures)
    (dumps_database d (state_under t) old new (store_state s) (store_state t) c.dump_store-dumped.result holds (failed_from d s t c.in-Ok.ensures c.dump_store-dumped.ensures.history faithful)
    (c.dump_store-dumped.ensures.dumped holds.sound) c.dump_store-dumped.ensures.cause (c.dump_store-dumped.ensures.damaged holds.sound))

-- ---- what was not written

pub returns-in-Err-clause-unopened : goal.returns-in-Err-clause-unopened
returns-in-Err-clause-unopened g c = λ fault is. refl

pub returns-in-Err-clause-refused : goal.returns-in-Err-clause-refused
returns-in-Err-clause-refused g c = λ faithful is. refl

pub returns-clause-unopened : goal.returns-clause-unopened
returns-clause-unopened g c = λ fault is.
    let dumped = c.dump_store-dumped in
    absurd (opened_answer dumped.result fault (store_state c.in-Ok.store) (store_state dumped.new.store) (g.E.Device.state c.args.target) (g.E.Device.state dumped.new.target) dumped.ensures.cause is)

pub returns-clause-refused : goal.returns-clause-refused
returns-clause-refused g c = λ faithful is. c.dump_store-dumped.ensures.refused (c.in-Ok.ensures.holds faithful).sound is
