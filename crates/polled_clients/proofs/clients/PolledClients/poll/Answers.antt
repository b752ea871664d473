use Rattle.std.proofs.Common.{◌∙◌}
use Rattle.polled_clients.specs.ClientStates.{states}
use Rattle.polled_clients.proofs.Placing.{moved_by, moved_on}
use Rattle.polled_clients.proofs.clients.PolledClients.poll.Goals as goal

pub returns-clause-moved : goal.returns-clause-moved
returns-clause-moved g c =
    let at = states g.C.Channel g.A.Attend in
    let by = moved_by g.T.Talk g.C.Channel g.F.TalkMaker.makes c.args.self.now.maker in
    let on = moved_on g.T.Talk g.C.Channel g.met.T.Talk.front_more g.met.T.Talk.bad_more (g.F.TalkMaker.makes c.args.self.now.maker) in
    on (at c.args.self.now) (at c.ask.new.self) (at c.note_time-2.new.self)
    (on (at c.args.self.now) (at c.note_time.new.self) (at c.ask.new.self) c.note_time.ensures.moved
    (by c.note_time.new.self.maker (at c.note_time.new.self) (at c.ask.new.self) c.note_time.ensures.maker c.ask.ensures.moved))
    (by c.ask.new.self.maker (at c.ask.new.self) (at c.note_time-2.new.self) (c.ask.ensures.maker ∙ c.note_time.ensures.maker) c.note_time-2.ensures.moved)
