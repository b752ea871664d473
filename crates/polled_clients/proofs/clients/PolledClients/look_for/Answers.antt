use Rattle.std.proofs.Common.{inl, refl}
use Rattle.polled_clients.specs.ClientStates.{states}
use Rattle.polled_clients.proofs.Expelling.{expels_by, expels_through, same_maker}
use Rattle.polled_clients.proofs.clients.PolledClients.look_for.Goals as goal

pub returns-clause-expels : goal.returns-clause-expels
returns-clause-expels g c sound =
    let before = c.args.self.now in
    let noted = c.expel_lost.new.self in
    let after = c.unless_lost.new.self in
    expels_by g.T.Talk g.C.Channel g.F.TalkMaker.makes before.maker noted.maker (g.M.Machine.Has c.args.machine.now) (g.M.Machine.LacksRole c.args.machine.now)
    (states g.C.Channel g.A.Attend before) (states g.C.Channel g.A.Attend after) before.lock.expelled after.lock.expelled (same_maker g.C.Channel g.A.Attend before noted c.expel_lost.ensures.same)
    (expels_through g.C.Channel g.A.Attend g.T.Talk (g.M.Machine.Has c.args.machine.now) (g.M.Machine.LacksRole c.args.machine.now) g.met.T.Talk.front_more g.met.T.Talk.bad_more (g.F.TalkMaker.makes noted.maker)
    before noted c.look.new.self after c.expel_lost.ensures.same (c.expel_lost.ensures.expels sound) c.look.ensures.moved c.look.ensures.contention c.unless_lost.ensures.same (c.unless_lost.ensures.expels sound))

pub returns-in_err-next-clause-expels : goal.returns-in_err-next-clause-expels
returns-in_err-next-clause-expels g c sound =
    let before = c.args.self.now in
    let noted = c.expel_lost.new.self in
    let after = c.look.new.self in
    expels_by g.T.Talk g.C.Channel g.F.TalkMaker.makes before.maker noted.maker (g.M.Machine.Has c.args.machine.now) (g.M.Machine.LacksRole c.args.machine.now)
    (states g.C.Channel g.A.Attend before) (states g.C.Channel g.A.Attend after) before.lock.expelled after.lock.expelled (same_maker g.C.Channel g.A.Attend before noted c.expel_lost.ensures.same)
    (expels_through g.C.Channel g.A.Attend g.T.Talk (g.M.Machine.Has c.args.machine.now) (g.M.Machine.LacksRole c.args.machine.now) g.met.T.Talk.front_more g.met.T.Talk.bad_more (g.F.TalkMaker.makes noted.maker)
    before noted after after c.expel_lost.ensures.same (c.expel_lost.ensures.expels sound) c.look.ensures.moved c.look.ensures.contention refl (inl refl))
