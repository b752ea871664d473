use Rattle.std.specs.Prelude.{OnErr}
use Rattle.std.proofs.Common.{ℕ, List, Result, Ok, Err, sym, subst, ◌∙◌}
use Rattle.std.proofs.lemmas.Bool.{false≢true}
use Rattle.sector_device.specs.Device.{DeviceState, HasFailed, IsSynced, history_joined}
use Rattle.sector_device.proofs.Pages.{on_ok}
use Rattle.page_roots.specs.Sector.{root_at}
use Rattle.cow_pages.specs.PreservedLaws.{failed_later}
use Rattle.journal_store.specs.Emptying.{SaysNoJournal, IsRid}
use Rattle.journal_store.proofs.Emptied.{emptied_by_read, emptied_by_reads, emptied_by_write, then_read, rid_already, rid_now}
use Rattle.journal_store.proofs.emptying.empty_sector_of_journal.Goals as goal

-- what holds on an error holds with less
on_err : {T E : Type 0} (r : Result T E) (P Q : Type 0) → (P → Q) → OnErr r P → OnErr r Q
on_err (Ok x) P Q less holds = holds
on_err (Err fault) P Q less holds = less holds

err_of : {T E : Type 0} (r : Result T E) (P : Type 0) → P → OnErr r P
err_of (Ok x) P holds = tt
err_of (Err fault) P holds = holds

-- ---- it is not read

pub returns-in_err-read-clause-empties : goal.returns-in_err-read-clause-empties
returns-in_err-read-clause-empties g c faithful =
    let state = g.D.Device.state in
    emptied_by_read c.args.sector (state c.args.device.now) (state c.read.new.self) (g.met.D.Device.only_now c.args.device.now faithful) c.in_err-read.ensures.history (c.in_err-read.ensures.only_reads faithful)

-- ---- it says that there is no journal

pub returns-then-says_no_journal-clause-history : goal.returns-then-says_no_journal-clause-history
returns-then-says_no_journal-clause-history g c =
    let state = g.D.Device.state in
    history_joined (state c.args.device.now) (state c.read.new.self) (state c.sync.new.self) c.in_ok-read.ensures.history c.sync.ensures.history

pub returns-then-says_no_journal-clause-empties : goal.returns-then-says_no_journal-clause-empties
returns-then-says_no_journal-clause-empties g c faithful =
    let state = g.D.Device.state in
    emptied_by_reads c.args.sector (state c.args.device.now) (state c.read.new.self) (state c.sync.new.self) (g.met.D.Device.only_now c.args.device.now faithful)
    c.in_ok-read.ensures.history c.sync.ensures.history (c.in_ok-read.ensures.only_reads faithful) (c.sync.ensures.only_reads (c.in_ok-read.ensures.history.faithful faithful))

pub returns-then-says_no_journal-clause-rid : goal.returns-then-says_no_journal-clause-rid
returns-then-says_no_journal-clause-rid g c faithful =
    let state = g.D.Device.state in
    let d : DeviceState = state c.args.device.now in
    let e : DeviceState = state c.sync.new.self in
    let faithful_then = c.in_ok-read.ensures.history.faithful faithful in
    let says : SaysNoJournal (root_at c.args.sector (d.content c.args.sector)) =
    subst (λ (b : List ℕ). SaysNoJournal (root_at c.args.sector b)) (c.in_ok-read.ensures.bytes faithful) (c.says_no_journal.ensures.0 c.if-says_no_journal.true) in
    on_ok c.sync.result (IsSynced e) (IsRid c.args.sector d e)
    (λ synced. rid_already c.args.sector d (state c.read.new.self) e (g.met.D.Device.only_now c.args.device.now faithful)
    c.in_ok-read.ensures.history c.sync.ensures.history (c.in_ok-read.ensures.only_reads faithful) (c.sync.ensures.only_reads faithful_then) synced says) (c.sync.ensures.synced faithful_then)

pub returns-then-says_no_journal-clause-cause : goal.returns-then-says_no_journal-clause-cause
returns-then-says_no_journal-clause-cause g c =
    let state = g.D.Device.state in
    let d : DeviceState = state c.args.device.now in
    let m : DeviceState = state c.read.new.self in
    let e : DeviceState = state c.sync.new.self in
    on_err c.sync.result (HasFailed m e) (HasFailed d e) (failed_later d m e c.in_ok-read.ensures.history c.sync.ensures.history) c.sync.ensures.cause

-- ---- it is not written

pub returns-in_err-write-clause-history : goal.returns-in_err-write-clause-history
returns-in_err-write-clause-history g c =
    let state = g.D.Device.state in
    history_joined (state c.args.device.now) (state c.read.new.self) (state c.write.new.self) c.in_ok-read.ensures.history c.in_err-write.ensures.history

pub returns-in_err-write-clause-empties : goal.returns-in_err-write-clause-empties
returns-in_err-write-clause-empties g c faithful =
    let state = g.D.Device.state in
    emptied_by_write c.args.sector c.empty_sector.result (c.empty_sector.ensures.read c.args.sector) (state c.args.device.now) (state c.read.new.self) (state c.write.new.self)
    (g.met.D.Device.only_now c.args.device.now faithful) c.in_ok-read.ensures.history c.in_err-write.ensures.history (c.in_ok-read.ensures.only_reads faithful)
    (c.in_err-write.ensures.writes (c.in_ok-read.ensures.history.faithful faithful))

pub returns-in_err-write-clause-cause : goal.returns-in_err-write-clause-cause
returns-in_err-write-clause-cause g c =
    let state = g.D.Device.state in
    let d : DeviceState = state c.args.device.now in
    let w : DeviceState = state c.write.new.self in
    err_of _ (HasFailed d w) (failed_later d (state c.read.new.self) w c.in_ok-read.ensures.history c.in_err-write.ensures.history c.in_err-write.ensures.cause)

-- ---- it is written

pub returns-clause-history : goal.returns-clause-history
returns-clause-history g c =
    let state = g.D.Device.state in
    history_joined (state c.args.device.now) (state c.write.new.self) (state c.sync-2.new.self)
    (history_joined (state c.args.device.now) (state c.read.new.self) (state c.write.new.self) c.in_ok-read.ensures.history c.in_ok-write.ensures.history) c.sync-2.ensures.history

pub returns-clause-empties : goal.returns-clause-empties
returns-clause-empties g c faithful =
    let state = g.D.Device.state in
    let d : DeviceState = state c.args.device.now in
    let m : DeviceState = state c.read.new.self in
    let w : DeviceState = state c.write.new.self in
    let e : DeviceState = state c.sync-2.new.self in
    let faithful_then = c.in_ok-read.ensures.history.faithful faithful in
    then_read c.args.sector d w e (c.sync-2.ensures.history.sectors ∙ c.in_ok-write.ensures.history.sectors ∙ c.in_ok-read.ensures.history.sectors)
    (emptied_by_write c.args.sector c.empty_sector.result (c.empty_sector.ensures.read c.args.sector) d m w
    (g.met.D.Device.only_now c.args.device.now faithful) c.in_ok-read.ensures.history c.in_ok-write.ensures.history (c.in_ok-read.ensures.only_reads faithful)
    (c.in_ok-write.ensures.writes faithful_then)) (c.sync-2.ensures.only_reads (c.in_ok-write.ensures.history.faithful faithful_then))

pub returns-clause-rid : goal.returns-clause-rid
returns-clause-rid g c faithful =
    let state = g.D.Device.state in
    let d : DeviceState = state c.args.device.now in
    let w : DeviceState = state c.write.new.self in
    let e : DeviceState = state c.sync-2.new.self in
    let faithful_then = c.in_ok-read.ensures.history.faithful faithful in
    let faithful_now = c.in_ok-write.ensures.history.faithful faithful_then in
    on_ok c.sync-2.result (IsSynced e) (IsRid c.args.sector d e)
    (λ synced. rid_now c.args.sector c.empty_sector.result (c.empty_sector.ensures.read c.args.sector) d w e (c.in_ok-write.ensures.written faithful_then) (c.sync-2.ensures.only_reads faithful_now) synced
    (λ says. false≢true (sym c.if-says_no_journal.false ∙ c.says_no_journal.ensures.1 (subst (λ (b : List ℕ). SaysNoJournal (root_at c.args.sector b)) (sym (c.in_ok-read.ensures.bytes faithful)) says))))
    (c.sync-2.ensures.synced faithful_now)

pub returns-clause-cause : goal.returns-clause-cause
returns-clause-cause g c =
    let state = g.D.Device.state in
    let d : DeviceState = state c.args.device.now in
    let w : DeviceState = state c.write.new.self in
    let e : DeviceState = state c.sync-2.new.self in
    on_err c.sync-2.result (HasFailed w e) (HasFailed d e)
    (failed_later d w e (history_joined d (state c.read.new.self) w c.in_ok-read.ensures.history c.in_ok-write.ensures.history) c.sync-2.ensures.history) c.sync-2.ensures.cause
