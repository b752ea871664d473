use Rattle.kv_store.proofs.Plain.{plain_goes, plain_still}
use Rattle.kv_store.proofs.page_store.PageStoreMap.count_to.Goals as goal

pub invariant_of-self : goal.invariant_of-self
invariant_of-self g c = record { plain = plain_still c.args.self.now c.count_to.new.self c.count_to.ensures.preserved }

pub returns : goal.returns
returns g c =
    let s = c.args.self.now in
    let is = c.count_to.ensures in
    record { preserved = is.preserved; goes = plain_goes s.tree c.count_to.new.self s.plain (plain_still s c.count_to.new.self is.preserved) is.goes; still = is.still; counts = is.counts }
