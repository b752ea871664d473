use Rattle.polled_clients.proofs.Locking.{is_uncut, was_cut_off, was_expelled}
use Rattle.polled_clients.proofs.clients.PolledClients.serve.Goals as goal

pub returns-in-Nothing-clause-moved : goal.returns-in-Nothing-clause-moved
returns-in-Nothing-clause-moved g c = c.turn.ensures.moved

pub returns-in-Step-clause-moved : goal.returns-in-Step-clause-moved
returns-in-Step-clause-moved g c = c.turn.ensures.moved

pub returns-in-Step-clause-next : goal.returns-in-Step-clause-next
returns-in-Step-clause-next g c = let it = c.in-Step.ensures.need in (it.0, it.1, it.2, is_uncut c.args.pick.client c.turn.new.self.lock it.3)

pub returns-in-Question-clause-moved : goal.returns-in-Question-clause-moved
returns-in-Question-clause-moved g c = c.turn.ensures.moved

pub returns-in-Question-clause-next : goal.returns-in-Question-clause-next
returns-in-Question-clause-next g c = let it = c.in-Question.ensures.need in (it.0, it.1, it.2, is_uncut c.args.pick.client c.turn.new.self.lock it.3)

pub returns-in-Left-clause-moved : goal.returns-in-Left-clause-moved
returns-in-Left-clause-moved g c = c.turn.ensures.moved

pub returns-in-Left-clause-next : goal.returns-in-Left-clause-next
returns-in-Left-clause-next g c = let it = c.in-Left.ensures.need in (it.0, it.1, it.2, (λ is. was_cut_off c.args.pick.client c.turn.new.self.lock (it.3 is)), (λ is. was_expelled c.args.pick.client c.turn.new.self.lock (it.4 is)))
