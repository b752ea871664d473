use Rattle.std.proofs.Common.{Option, sym, subst}
use Rattle.std.specs.Prelude.{nat_eq}
use Rattle.std.specs.declared.time.Duration.{Duration}
use Rattle.indexmap.specs.IndexMap.{get}
use Rattle.polled_clients.specs.ClientStates.{HasWaited}
use Rattle.polled_clients.proofs.clients.PolledClientsServedClients.may_wait_no_more.Goals as goal

pub returns-in-None : goal.returns-in-None
returns-in-None g c = λ is. subst (λ (o : Option Duration). HasWaited o (get nat_eq c.args.self.now.peers c.args.client)) (sym c.in-None.is) tt

pub returns-in-Some : goal.returns-in-Some
returns-in-Some g c = λ is. subst (λ (o : Option Duration). HasWaited o (get nat_eq c.args.self.now.peers c.args.client)) (sym c.in-Some.is) (c.has_waited.ensures is)
