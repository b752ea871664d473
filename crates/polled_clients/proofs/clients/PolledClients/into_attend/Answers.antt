use Rattle.std.specs.Prelude.{nat_eq}
use Rattle.indexmap.specs.IndexMap.{get}
use Rattle.polled_clients.proofs.Placing.{who_went}
use Rattle.polled_clients.proofs.clients.PolledClients.into_attend.Goals as goal

pub returns : goal.returns
returns g c =
    let self = c.args.self in
    λ client sent is. who_went g.T.Talk g.C.Channel self.came client (get nat_eq self.peers client) (g.A.Attend.closed self.attend client) (g.A.Attend.coming self.attend client) sent is
