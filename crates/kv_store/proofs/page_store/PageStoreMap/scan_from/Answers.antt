use Rattle.kv_store.proofs.Plain.{plain_reads, plain_still}
use Rattle.kv_store.proofs.page_store.PageStoreMap.scan_from.Goals as goal

pub invariant_of-self : goal.invariant_of-self
invariant_of-self g c = record { plain = plain_still c.args.self.now c.scan_from.new.self c.scan_from.ensures.preserved }

pub returns : goal.returns
returns g c =
    let s = c.args.self.now in
    let is = c.scan_from.ensures in
    record { preserved = is.preserved; reads = plain_reads s.tree c.scan_from.new.self s.plain (plain_still s c.scan_from.new.self is.preserved) is.reads; still = is.still; counts = is.counts }
