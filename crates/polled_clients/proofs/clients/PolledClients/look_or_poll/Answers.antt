use Rattle.polled_clients.proofs.clients.PolledClients.look_or_poll.Goals as goal

pub returns-in-Some-clause-moved : goal.returns-in-Some-clause-moved
returns-in-Some-clause-moved g c = c.look_at_index.ensures.moved

pub returns-in-None-clause-moved : goal.returns-in-None-clause-moved
returns-in-None-clause-moved g c = c.poll.ensures.moved
