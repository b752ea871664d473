use Rattle.std.specs.Prelude.{nat_eq}
use Rattle.indexmap.specs.IndexMap.{get}
use Rattle.polled_clients.proofs.Placing.{moved_one}
use Rattle.polled_clients.proofs.clients.PolledClients.turn_out.Goals as goal

pub returns-clause-moved : goal.returns-clause-moved
returns-clause-moved g c =
    let self = c.args.self.now in
    moved_one g.T.Talk g.C.Channel g.met.T.Talk.front_more g.met.T.Talk.bad_more (g.F.TalkMaker.makes c.args.self.now.maker) self.came c.args.client (get nat_eq self.peers) (get nat_eq c.turn_out.new.peers) (g.A.Attend.closed self.attend) (g.A.Attend.coming self.attend) c.turn_out.ensures.here c.turn_out.ensures.others
