use Rattle.std.specs.Prelude.{nat_eq}
use Rattle.indexmap.specs.IndexMap.{get}
use Rattle.polled_clients.proofs.Placing.{moved_kept}
use Rattle.polled_clients.proofs.clients.PolledClients.turn_away.Goals as goal

pub returns-in-Came-clause-moved : goal.returns-in-Came-clause-moved
returns-in-Came-clause-moved g c =
    let self = c.args.self.now in
    let old = self.attend in
    let new = c.turn_away.new.self in
    moved_kept g.T.Talk g.C.Channel g.met.T.Talk.front_more g.met.T.Talk.bad_more (g.F.TalkMaker.makes c.args.self.now.maker) self.came (get nat_eq self.peers) (g.A.Attend.closed old) (g.A.Attend.coming old) (g.A.Attend.closed new) (g.A.Attend.coming new) c.turn_away.ensures.closed c.turn_away.ensures.coming

pub returns-in-Nobody-clause-moved : goal.returns-in-Nobody-clause-moved
returns-in-Nobody-clause-moved g c =
    let self = c.args.self.now in
    let old = self.attend in
    let new = c.turn_away.new.self in
    moved_kept g.T.Talk g.C.Channel g.met.T.Talk.front_more g.met.T.Talk.bad_more (g.F.TalkMaker.makes c.args.self.now.maker) self.came (get nat_eq self.peers) (g.A.Attend.closed old) (g.A.Attend.coming old) (g.A.Attend.closed new) (g.A.Attend.coming new) c.turn_away.ensures.closed c.turn_away.ensures.coming

pub returns-in-Later-clause-moved : goal.returns-in-Later-clause-moved
returns-in-Later-clause-moved g c =
    let self = c.args.self.now in
    let old = self.attend in
    let new = c.turn_away.new.self in
    moved_kept g.T.Talk g.C.Channel g.met.T.Talk.front_more g.met.T.Talk.bad_more (g.F.TalkMaker.makes c.args.self.now.maker) self.came (get nat_eq self.peers) (g.A.Attend.closed old) (g.A.Attend.coming old) (g.A.Attend.closed new) (g.A.Attend.coming new) c.turn_away.ensures.closed c.turn_away.ensures.coming

pub returns-in-Failed-clause-moved : goal.returns-in-Failed-clause-moved
returns-in-Failed-clause-moved g c =
    let self = c.args.self.now in
    let old = self.attend in
    let new = c.turn_away.new.self in
    moved_kept g.T.Talk g.C.Channel g.met.T.Talk.front_more g.met.T.Talk.bad_more (g.F.TalkMaker.makes c.args.self.now.maker) self.came (get nat_eq self.peers) (g.A.Attend.closed old) (g.A.Attend.coming old) (g.A.Attend.closed new) (g.A.Attend.coming new) c.turn_away.ensures.closed c.turn_away.ensures.coming
