use Rattle.std.proofs.Common.{◌∙◌}
use Rattle.sector_device.specs.Device.{history_joined}
use Rattle.cow_pages.specs.ReadingLaws.{reads_joined}
use Rattle.cow_pages.specs.PreservedLaws.{failed_later}
use Rattle.cow_pages.proofs.Answered.{on_ok_always, on_ok_also, on_err_always, on_err_also}
use Rattle.cow_pages.proofs.Reading.{reads_only, synced_along}
use Rattle.cow_pages.proofs.open.read_roots.Goals as goal

pub returns-in_err-sync-clause-reads : goal.returns-in_err-sync-clause-reads
returns-in_err-sync-clause-reads g c first =
    reads_only _ _ (g.met.D.Device.only_now c.args.device.now first) c.sync.ensures.history (c.sync.ensures.only_reads first)

pub returns-in_err-read-clause-history : goal.returns-in_err-read-clause-history
returns-in_err-read-clause-history g c = history_joined _ _ (g.D.Device.state c.read.new.self) c.sync.ensures.history c.read.ensures.history

pub returns-in_err-read-clause-reads : goal.returns-in_err-read-clause-reads
returns-in_err-read-clause-reads g c first =
    let state = g.D.Device.state in
    let second = c.sync.ensures.history.faithful first in
    reads_joined _ _ (state c.read.new.self) c.sync.ensures.history
    (reads_only _ (state c.sync.new.self) (g.met.D.Device.only_now c.args.device.now first) c.sync.ensures.history (c.sync.ensures.only_reads first))
    (reads_only _ _ (g.met.D.Device.only_now c.sync.new.self second) c.read.ensures.history (c.read.ensures.only_reads second))

pub returns-in_err-read-clause-cause : goal.returns-in_err-read-clause-cause
returns-in_err-read-clause-cause g c =
    on_err_always _ (failed_later _ _ (g.D.Device.state c.read.new.self) c.sync.ensures.history c.read.ensures.history c.in_err-read.ensures.cause)

pub returns-clause-history : goal.returns-clause-history
returns-clause-history g c =
    let mid = g.D.Device.state c.read.new.self in
    history_joined _ mid (g.D.Device.state c.read-2.new.self) (history_joined _ _ mid c.sync.ensures.history c.read.ensures.history) c.read-2.ensures.history

pub returns-clause-reads : goal.returns-clause-reads
returns-clause-reads g c first =
    let state = g.D.Device.state in
    let mid = state c.read.new.self in
    let second = c.sync.ensures.history.faithful first in
    let third = c.read.ensures.history.faithful second in
    let before = reads_joined _ _ mid c.sync.ensures.history
    (reads_only _ (state c.sync.new.self) (g.met.D.Device.only_now c.args.device.now first) c.sync.ensures.history (c.sync.ensures.only_reads first))
    (reads_only _ _ (g.met.D.Device.only_now c.sync.new.self second) c.read.ensures.history (c.read.ensures.only_reads second)) in
    reads_joined _ mid (state c.read-2.new.self) (history_joined _ _ mid c.sync.ensures.history c.read.ensures.history) before
    (reads_only mid _ (g.met.D.Device.only_now c.read.new.self third) c.read-2.ensures.history (c.read-2.ensures.only_reads third))

pub returns-clause-synced : goal.returns-clause-synced
returns-clause-synced g c first =
    let state = g.D.Device.state in
    let mid = state c.read.new.self in
    let second = c.sync.ensures.history.faithful first in
    let third = c.read.ensures.history.faithful second in
    let before = synced_along (state c.sync.new.self) mid c.read.ensures.history (reads_only _ _ (g.met.D.Device.only_now c.sync.new.self second) c.read.ensures.history (c.read.ensures.only_reads second)) (c.in_ok-sync.ensures.synced first) in
    on_ok_always c.read-2.result (synced_along mid (state c.read-2.new.self) c.read-2.ensures.history (reads_only mid _ (g.met.D.Device.only_now c.read.new.self third) c.read-2.ensures.history (c.read-2.ensures.only_reads third)) before)

pub returns-clause-even : goal.returns-clause-even
returns-clause-even g c first =
    let second = c.sync.ensures.history.faithful first in
    on_ok_always c.read-2.result (c.in_ok-read.ensures.bytes second ∙ (c.sync.ensures.only_reads first).content 0)

pub returns-clause-odd : goal.returns-clause-odd
returns-clause-odd g c first =
    let second = c.sync.ensures.history.faithful first in
    let third = c.read.ensures.history.faithful second in
    on_ok_also c.read-2.result (c.read-2.ensures.bytes third) (λ bytes. bytes ∙ (c.read.ensures.only_reads second).content 1 ∙ (c.sync.ensures.only_reads first).content 1)

pub returns-clause-cause : goal.returns-clause-cause
returns-clause-cause g c =
    let mid = g.D.Device.state c.read.new.self in
    on_err_also c.read-2.result c.read-2.ensures.cause (failed_later _ mid (g.D.Device.state c.read-2.new.self) (history_joined _ _ mid c.sync.ensures.history c.read.ensures.history) c.read-2.ensures.history)
