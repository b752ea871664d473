use Rattle.std.proofs.Common.{◌∙◌, inl, refl}
use Rattle.talks.proofs.Turning.{cut_or_expelled_on}
use Rattle.polled_clients.specs.LockWatches.{contention_of}
use Rattle.polled_clients.specs.ClientStates.{states}
use Rattle.polled_clients.proofs.Placing.{moved_by, moved_none, moved_on}
use Rattle.polled_clients.proofs.Expelling.{expels_by, expels_on}
use Rattle.polled_clients.proofs.clients.PolledClientsServedClients.next.Goals as goal

pub looking-init : goal.looking-init
looking-init g c = (moved_none g.T.Talk g.C.Channel g.met.T.Talk.front_more g.met.T.Talk.bad_more (g.F.TalkMaker.makes c.args.self.now.maker) (states g.C.Channel g.A.Attend c.args.self.now), refl, refl, inl refl, refl, λ sound. inl refl)

pub returns-in-Some-clause-moved : goal.returns-in-Some-clause-moved
returns-in-Some-clause-moved g c =
    let at = states g.C.Channel g.A.Attend in
    moved_on g.T.Talk g.C.Channel g.met.T.Talk.front_more g.met.T.Talk.bad_more (g.F.TalkMaker.makes c.args.self.now.maker) (at c.args.self.now) (at c.looking.self) (at c.look_for.new.self) c.looking.invariant.0
    (moved_by g.T.Talk g.C.Channel g.F.TalkMaker.makes c.args.self.now.maker c.looking.self.maker (at c.looking.self) (at c.look_for.new.self) c.looking.invariant.4 c.look_for.ensures.moved)

pub returns-in-Some-clause-contention : goal.returns-in-Some-clause-contention
returns-in-Some-clause-contention g c =
    cut_or_expelled_on (contention_of c.args.self.now.lock) (contention_of c.looking.self.lock) (contention_of c.look_for.new.self.lock) c.looking.invariant.3 c.look_for.ensures.contention

pub returns-in-Some-clause-expels : goal.returns-in-Some-clause-expels
returns-in-Some-clause-expels g c sound =
    let at = states g.C.Channel g.A.Attend in
    expels_on g.T.Talk g.C.Channel g.met.T.Talk.front_more g.met.T.Talk.bad_more (g.F.TalkMaker.makes c.args.self.now.maker) (g.M.Machine.Has c.args.machine.now) (g.M.Machine.LacksRole c.args.machine.now) (at c.args.self.now) (at c.looking.self) (at c.look_for.new.self)
    c.args.self.now.lock.expelled c.looking.self.lock.expelled c.look_for.new.self.lock.expelled c.looking.invariant.0
    (moved_by g.T.Talk g.C.Channel g.F.TalkMaker.makes c.args.self.now.maker c.looking.self.maker (at c.looking.self) (at c.look_for.new.self) c.looking.invariant.4 c.look_for.ensures.moved)
    (c.looking.invariant.5 sound)
    (expels_by g.T.Talk g.C.Channel g.F.TalkMaker.makes c.args.self.now.maker c.looking.self.maker (g.M.Machine.Has c.args.machine.now) (g.M.Machine.LacksRole c.args.machine.now) (at c.looking.self) (at c.look_for.new.self) c.looking.self.lock.expelled c.look_for.new.self.lock.expelled c.looking.invariant.4 (c.look_for.ensures.expels sound))

pub returns-clause-contention : goal.returns-clause-contention
returns-clause-contention g c = c.looking.invariant.3

pub returns-clause-expels : goal.returns-clause-expels
returns-clause-expels g c = c.looking.invariant.5

pub looking-preserved : goal.looking-preserved
looking-preserved g c =
    let at = states g.C.Channel g.A.Attend in
    let moved = moved_by g.T.Talk g.C.Channel g.F.TalkMaker.makes c.args.self.now.maker c.looking.self.maker (at c.looking.self) (at c.look_for.new.self) c.looking.invariant.4 c.look_for.ensures.moved in (
      moved_on g.T.Talk g.C.Channel g.met.T.Talk.front_more g.met.T.Talk.bad_more (g.F.TalkMaker.makes c.args.self.now.maker) (at c.args.self.now) (at c.looking.self) (at c.look_for.new.self) c.looking.invariant.0 moved,
      c.look_for.ensures.waiting ∙ c.looking.invariant.1,
      c.look_for.ensures.limits ∙ c.looking.invariant.2,
      cut_or_expelled_on (contention_of c.args.self.now.lock) (contention_of c.looking.self.lock) (contention_of c.look_for.new.self.lock) c.looking.invariant.3 c.look_for.ensures.contention,
      c.look_for.ensures.maker ∙ c.looking.invariant.4,
      λ sound. expels_on g.T.Talk g.C.Channel g.met.T.Talk.front_more g.met.T.Talk.bad_more (g.F.TalkMaker.makes c.args.self.now.maker) (g.M.Machine.Has c.args.machine.now) (g.M.Machine.LacksRole c.args.machine.now) (at c.args.self.now) (at c.looking.self) (at c.look_for.new.self)
          c.args.self.now.lock.expelled c.looking.self.lock.expelled c.look_for.new.self.lock.expelled c.looking.invariant.0 moved (c.looking.invariant.5 sound)
          (expels_by g.T.Talk g.C.Channel g.F.TalkMaker.makes c.args.self.now.maker c.looking.self.maker (g.M.Machine.Has c.args.machine.now) (g.M.Machine.LacksRole c.args.machine.now) (at c.looking.self) (at c.look_for.new.self) c.looking.self.lock.expelled c.look_for.new.self.lock.expelled c.looking.invariant.4 (c.look_for.ensures.expels sound)),
    )
