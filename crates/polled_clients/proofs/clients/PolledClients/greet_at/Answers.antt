use Rattle.polled_clients.proofs.clients.PolledClients.greet_at.Goals as goal

pub returns-then-is_full-clause-moved : goal.returns-then-is_full-clause-moved
returns-then-is_full-clause-moved g c = c.turn_away.ensures.moved

pub returns-else-is_full-clause-moved : goal.returns-else-is_full-clause-moved
returns-else-is_full-clause-moved g c = c.take.ensures.moved
