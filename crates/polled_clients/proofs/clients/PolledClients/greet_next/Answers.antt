use Rattle.std.specs.Prelude.{nat_eq}
use Rattle.indexmap.specs.IndexMap.{get}
use Rattle.polled_clients.specs.ClientStates.{states}
use Rattle.polled_clients.proofs.Placing.{moved_kept, moved_on}
use Rattle.polled_clients.proofs.clients.PolledClients.greet_next.Goals as goal

pub returns-in-Some-clause-moved : goal.returns-in-Some-clause-moved
returns-in-Some-clause-moved g c =
    let self = c.args.self.now in
    let old = self.attend in
    let new = c.place.new.self in
    let at = states g.C.Channel g.A.Attend in
    moved_on g.T.Talk g.C.Channel g.met.T.Talk.front_more g.met.T.Talk.bad_more (g.F.TalkMaker.makes c.args.self.now.maker) (at self) (at (record self { attend = new })) (at c.greet_at.new.self)
    (moved_kept g.T.Talk g.C.Channel g.met.T.Talk.front_more g.met.T.Talk.bad_more (g.F.TalkMaker.makes c.args.self.now.maker) self.came (get nat_eq self.peers) (g.A.Attend.closed old) (g.A.Attend.coming old) (g.A.Attend.closed new) (g.A.Attend.coming new) c.place.ensures.closed c.place.ensures.coming)
    c.greet_at.ensures.moved

pub returns-in-None-clause-moved : goal.returns-in-None-clause-moved
returns-in-None-clause-moved g c =
    let self = c.args.self.now in
    let old = self.attend in
    let new = c.place.new.self in
    moved_kept g.T.Talk g.C.Channel g.met.T.Talk.front_more g.met.T.Talk.bad_more (g.F.TalkMaker.makes c.args.self.now.maker) self.came (get nat_eq self.peers) (g.A.Attend.closed old) (g.A.Attend.coming old) (g.A.Attend.closed new) (g.A.Attend.coming new) c.place.ensures.closed c.place.ensures.coming
