use Rattle.std.proofs.Common.{inl, refl, ap}
use Rattle.polled_clients.specs.LockWatches.{contention_of}
use Rattle.polled_clients.specs.ClientStates.{states}
use Rattle.polled_clients.proofs.Placing.{moved_none}
use Rattle.polled_clients.proofs.clients.PolledClients.look.Goals as goal

pub returns-in-Some-clause-moved : goal.returns-in-Some-clause-moved
returns-in-Some-clause-moved g c = moved_none g.T.Talk g.C.Channel g.met.T.Talk.front_more g.met.T.Talk.bad_more (g.F.TalkMaker.makes c.args.self.now.maker) (states g.C.Channel g.A.Attend c.args.self.now)

pub returns-in-Some-clause-next : goal.returns-in-Some-clause-next
returns-in-Some-clause-next g c = (c.in-Some.ensures.ends, (λ leaves. c.in-Some.ensures.waiting))

pub returns-in-Some-pick-clause-moved : goal.returns-in-Some-pick-clause-moved
returns-in-Some-pick-clause-moved g c = c.serve.ensures.moved

pub returns-in-Some-pick-clause-next : goal.returns-in-Some-pick-clause-next
returns-in-Some-pick-clause-next g c = c.serve.ensures.next

pub returns-in-None-clause-moved : goal.returns-in-None-clause-moved
returns-in-None-clause-moved g c = c.gather.ensures.moved

pub returns-in-Some-clause-contention : goal.returns-in-Some-clause-contention
returns-in-Some-clause-contention g c = inl refl

pub returns-in-Some-pick-clause-contention : goal.returns-in-Some-pick-clause-contention
returns-in-Some-pick-clause-contention g c = inl (ap contention_of c.serve.ensures.lock)

pub returns-in-None-clause-contention : goal.returns-in-None-clause-contention
returns-in-None-clause-contention g c = c.gather.ensures.contention
