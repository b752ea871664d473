use Rattle.std.proofs.Common.{◌≡◌, ℕ}
use Rattle.store.specs.Walks.{count_to, span}
use Rattle.journal_store.specs.declared.device_stores.DeviceStore.{DeviceStore}
use Rattle.journal_store.specs.DeviceStores.{store_state}
use Rattle.journal_store.proofs.Journaled.{goes_in_journal}
use Rattle.journal_store.proofs.DeviceReading.{goes_in_pages}
use Rattle.journal_store.proofs.device_reads.DeviceStoreMap.count_to.Goals as goal

pub returns-in-Pages-clause-goes : goal.returns-in-Pages-clause-goes
returns-in-Pages-clause-goes g c =
    let x = c.args.self.now in
    let s = c.in-Pages.store in
    let t = c.count_to.new.self in
    let nothing = c.count_to.ensures.preserved in
    goes_in_pages g.met.D.Device.only_now s t nothing x c.in-Pages.is (λ (y : DeviceStore g.row.D.Denot g.D.Device) (count : ℕ). count ≡ count_to c.args.most (span c.args.start.now c.args.stop.now (store_state y).map)) _ c.count_to.ensures.goes

pub returns-in-Journaled-clause-goes : goal.returns-in-Journaled-clause-goes
returns-in-Journaled-clause-goes g c =
    let x = c.args.self.now in
    let s = c.in-Journaled.store in
    let t = c.count_to-in-Journaled.new.self in
    goes_in_journal x s t c.in-Journaled.is (λ (y : DeviceStore g.row.D.Denot g.D.Device) (count : ℕ). count ≡ count_to c.args.most (span c.args.start.now c.args.stop.now (store_state y).map)) _ c.count_to-in-Journaled.ensures.goes
