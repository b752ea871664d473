use Rattle.std.proofs.Common.{◌∙◌, sym}
use Rattle.std.specs.Prelude.{nat_eq}
use Rattle.indexmap.specs.IndexMap.{get}
use Rattle.polled_clients.proofs.Expelling.{goes_lost, none_of}
use Rattle.polled_clients.proofs.clients.PolledClients.goes_first.Goals as goal

pub returns-clause-lost : goal.returns-clause-lost
returns-clause-lost g c sound =
    let self = c.args.self.now in
    goes_lost g.T.Talk g.C.Channel (g.M.Machine.Has c.args.machine.now) (g.M.Machine.LacksRole c.args.machine.now) self.came (get nat_eq self.peers) (g.A.Attend.closed self.attend) (g.A.Attend.coming self.attend)
    c.first_lost.result self.lock.expelled (none_of self.lock.expelled (sym c.is_some.ensures ∙ c.if-is_some.false)) (c.first_lost.ensures.some sound)
