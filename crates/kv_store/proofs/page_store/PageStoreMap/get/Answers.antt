use Rattle.kv_store.proofs.Plain.{plain_reads, plain_still}
use Rattle.kv_store.proofs.page_store.PageStoreMap.get.Goals as goal

pub invariant_of-self : goal.invariant_of-self
invariant_of-self g c = record { plain = plain_still c.args.self.now c.get.new.self c.get.ensures.preserved }

pub returns : goal.returns
returns g c =
    let s = c.args.self.now in
    let is = c.get.ensures in
    record { preserved = is.preserved; reads = plain_reads s.tree c.get.new.self s.plain (plain_still s c.get.new.self is.preserved) is.reads; still = is.still; counts = is.counts }
