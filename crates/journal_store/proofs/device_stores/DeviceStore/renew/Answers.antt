use Rattle.journal_store.specs.declared.device_stores.DeviceStore.{DeviceStore}
use Rattle.journal_store.proofs.Journaled.{goes_in_journal}
use Rattle.journal_store.proofs.DeviceReading.{goes_in_pages}
use Rattle.journal_store.proofs.device_stores.DeviceStore.renew.Goals as goal

pub returns-in-Pages-clause-goes : goal.returns-in-Pages-clause-goes
returns-in-Pages-clause-goes g c =
    goes_in_pages g.met.D.Device.only_now c.in-Pages.store c.renew.new.self c.renew.ensures.preserved c.args.self.now c.in-Pages.is (λ (y : DeviceStore g.row.D.Denot g.D.Device) (x : Unit {0}). Unit {0}) _ c.renew.ensures.goes

pub returns-in-Journaled-clause-goes : goal.returns-in-Journaled-clause-goes
returns-in-Journaled-clause-goes g c =
    goes_in_journal c.args.self.now c.in-Journaled.store c.renew-in-Journaled.new.self c.in-Journaled.is (λ (y : DeviceStore g.row.D.Denot g.D.Device) (x : Unit {0}). Unit {0}) _ c.renew-in-Journaled.ensures.goes
