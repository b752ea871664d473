use Rattle.std.proofs.Common.{◌≡◌, Bool}
use Rattle.std.specs.Prelude.{is_some}
use Rattle.store.specs.Records.{lookup}
use Rattle.journal_store.specs.declared.device_stores.DeviceStore.{DeviceStore}
use Rattle.journal_store.specs.DeviceStores.{store_state}
use Rattle.journal_store.proofs.Journaled.{goes_in_journal}
use Rattle.journal_store.proofs.DeviceReading.{goes_in_pages}
use Rattle.journal_store.proofs.device_reads.DeviceStoreMap.contains.Goals as goal

pub returns-in-Pages-clause-goes : goal.returns-in-Pages-clause-goes
returns-in-Pages-clause-goes g c =
    let x = c.args.self.now in
    let s = c.in-Pages.store in
    let t = c.contains.new.self in
    let nothing = c.contains.ensures.preserved in
    goes_in_pages g.met.D.Device.only_now s t nothing x c.in-Pages.is (λ (y : DeviceStore g.row.D.Denot g.D.Device) (found : Bool). found ≡ is_some (lookup c.args.key.now (store_state y).map)) _ c.contains.ensures.goes

pub returns-in-Journaled-clause-goes : goal.returns-in-Journaled-clause-goes
returns-in-Journaled-clause-goes g c =
    let x = c.args.self.now in
    let s = c.in-Journaled.store in
    let t = c.contains-in-Journaled.new.self in
    goes_in_journal x s t c.in-Journaled.is (λ (y : DeviceStore g.row.D.Denot g.D.Device) (found : Bool). found ≡ is_some (lookup c.args.key.now (store_state y).map)) _ c.contains-in-Journaled.ensures.goes
