use Rattle.kv_store.proofs.Plain.{plain_goes, plain_still}
use Rattle.kv_store.proofs.page_store.PageStoreMap.step_within.Goals as goal

pub invariant_of-self : goal.invariant_of-self
invariant_of-self g c = record { plain = plain_still c.args.self.now c.step_within.new.self c.step_within.ensures.preserved }

pub returns : goal.returns
returns g c =
    let s = c.args.self.now in
    let is = c.step_within.ensures in
    record { preserved = is.preserved; goes = plain_goes s.tree c.step_within.new.self s.plain (plain_still s c.step_within.new.self is.preserved) is.goes; still = is.still; counts = is.counts }
