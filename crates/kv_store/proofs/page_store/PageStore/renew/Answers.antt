use Rattle.kv_store.proofs.Plain.{plain_goes, plain_still}
use Rattle.kv_store.proofs.page_store.PageStore.renew.Goals as goal

pub invariant_of-self : goal.invariant_of-self
invariant_of-self g c = record { plain = plain_still c.args.self.now c.renew.new.self c.renew.ensures.preserved }

pub returns-clause-goes : goal.returns-clause-goes
returns-clause-goes g c =
    let s = c.args.self.now in
    let is = c.renew.ensures in
    plain_goes s.tree c.renew.new.self s.plain (plain_still s c.renew.new.self is.preserved) is.goes
