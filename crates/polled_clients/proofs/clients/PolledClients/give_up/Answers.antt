use Rattle.std.specs.Prelude.{nat_eq}
use Rattle.indexmap.specs.IndexMap.{get}
use Rattle.talks.specs.declared.want.Want.TheVariants as want
use Rattle.polled_clients.proofs.Placing.{moved_one, may_give_up, wants_still}
use Rattle.polled_clients.proofs.clients.PolledClients.give_up.Goals as goal

pub give_up-requires : goal.give_up-requires
give_up-requires g c =
    let self = c.args.self.now in
    let client = c.args.client in
    may_give_up g.T.Talk g.C.Channel self.came client (get nat_eq self.peers client) (g.A.Attend.closed self.attend client) (g.A.Attend.coming self.attend client) c.requires.0 c.requires.1

pub returns-clause-moved : goal.returns-clause-moved
returns-clause-moved g c =
    let self = c.args.self.now in
    moved_one g.T.Talk g.C.Channel g.met.T.Talk.front_more g.met.T.Talk.bad_more (g.F.TalkMaker.makes c.args.self.now.maker) self.came c.args.client (get nat_eq self.peers) (get nat_eq c.give_up.new.peers) (g.A.Attend.closed self.attend) (g.A.Attend.coming self.attend) c.give_up.ensures.here c.give_up.ensures.others

pub returns-clause-wants : goal.returns-clause-wants
returns-clause-wants g c =
    let self = c.args.self.now in
    let client = c.args.client in
    wants_still g.T.Talk g.C.Channel self.came client (get nat_eq self.peers client) (get nat_eq c.give_up.new.peers client) (g.A.Attend.closed self.attend client) (g.A.Attend.coming self.attend client) c.requires.0
    want.OutOfMemory c.requires.1 c.give_up.ensures.here c.give_up.ensures.wants
