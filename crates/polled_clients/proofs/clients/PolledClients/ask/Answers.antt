use Rattle.std.specs.Prelude.{nat_eq}
use Rattle.indexmap.specs.IndexMap.{get}
use Rattle.polled_clients.proofs.Placing.{moved_kept}
use Rattle.polled_clients.proofs.clients.PolledClients.ask.Goals as goal

pub returns-clause-moved : goal.returns-clause-moved
returns-clause-moved g c =
    let self = c.args.self.now in
    let old = self.attend in
    let new = c.wait-comes.new.self in
    moved_kept g.T.Talk g.C.Channel g.met.T.Talk.front_more g.met.T.Talk.bad_more (g.F.TalkMaker.makes c.args.self.now.maker) self.came (get nat_eq self.peers) (g.A.Attend.closed old) (g.A.Attend.coming old) (g.A.Attend.closed new) (g.A.Attend.coming new)
    c.wait-comes.ensures.closed c.wait-comes.ensures.coming
