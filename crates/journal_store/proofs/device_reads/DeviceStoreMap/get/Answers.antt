use Rattle.store.specs.Records.{Records, entry_at}
use Rattle.journal_store.proofs.Journaled.{reads_in_journal}
use Rattle.journal_store.proofs.DeviceReading.{reads_in_pages}
use Rattle.journal_store.proofs.device_reads.DeviceStoreMap.get.Goals as goal

pub returns-in-Pages-clause-reads : goal.returns-in-Pages-clause-reads
returns-in-Pages-clause-reads g c =
    let x = c.args.self.now in
    let s = c.in-Pages.store in
    let t = c.get.new.self in
    let nothing = c.get.ensures.preserved in
    reads_in_pages g.met.D.Device.only_now s t nothing x c.in-Pages.is (λ (es : Records). entry_at c.args.key.now es) _ _ c.get.ensures.reads

pub returns-in-Journaled-clause-reads : goal.returns-in-Journaled-clause-reads
returns-in-Journaled-clause-reads g c =
    let x = c.args.self.now in
    let s = c.in-Journaled.store in
    let t = c.get-in-Journaled.new.self in
    reads_in_journal x s t c.in-Journaled.is (λ (es : Records). entry_at c.args.key.now es) _ _ c.get-in-Journaled.ensures.reads
