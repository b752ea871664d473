use Rattle.std.proofs.Common.{inl, ap}
use Rattle.polled_clients.specs.LockWatches.{contention_of}
use Rattle.polled_clients.proofs.clients.PolledClients.gather.Goals as goal

pub returns-in-Some-clause-moved : goal.returns-in-Some-clause-moved
returns-in-Some-clause-moved g c = c.wake.ensures.moved

pub returns-then-may_greet-clause-moved : goal.returns-then-may_greet-clause-moved
returns-then-may_greet-clause-moved g c = c.greet.ensures.moved

pub returns-else-may_greet-clause-moved : goal.returns-else-may_greet-clause-moved
returns-else-may_greet-clause-moved g c = c.end_round.ensures.moved

pub returns-in-Some-clause-contention : goal.returns-in-Some-clause-contention
returns-in-Some-clause-contention g c = inl (ap contention_of c.wake.ensures.lock)

pub returns-then-may_greet-clause-contention : goal.returns-then-may_greet-clause-contention
returns-then-may_greet-clause-contention g c = inl (ap contention_of c.greet.ensures.lock)

pub returns-else-may_greet-clause-contention : goal.returns-else-may_greet-clause-contention
returns-else-may_greet-clause-contention g c = c.end_round.ensures.contention
