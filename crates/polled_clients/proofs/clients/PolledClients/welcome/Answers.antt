use Rattle.polled_clients.proofs.clients.PolledClients.welcome.Goals as goal

pub returns-then-end_stranger-clause-moved : goal.returns-then-end_stranger-clause-moved
returns-then-end_stranger-clause-moved g c = c.end_stranger.ensures.moved

pub returns-else-end_stranger-clause-moved : goal.returns-else-end_stranger-clause-moved
returns-else-end_stranger-clause-moved g c = c.end_stranger.ensures.moved
