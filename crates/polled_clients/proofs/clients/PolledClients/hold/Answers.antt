use Rattle.polled_clients.specs.ClientStates.{states}
use Rattle.polled_clients.proofs.Placing.{moved_by, moved_on}
use Rattle.polled_clients.proofs.clients.PolledClients.hold.Goals as goal

pub returns-clause-moved : goal.returns-clause-moved
returns-clause-moved g c =
    let at = states g.C.Channel g.A.Attend in
    moved_on g.T.Talk g.C.Channel g.met.T.Talk.front_more g.met.T.Talk.bad_more (g.F.TalkMaker.makes c.args.self.now.maker) (at c.args.self.now) (at c.note_time.new.self) (at c.hold_until.new.self) c.note_time.ensures.moved
    (moved_by g.T.Talk g.C.Channel g.F.TalkMaker.makes c.args.self.now.maker c.note_time.new.self.maker (at c.note_time.new.self) (at c.hold_until.new.self) c.note_time.ensures.maker c.hold_until.ensures.moved)
