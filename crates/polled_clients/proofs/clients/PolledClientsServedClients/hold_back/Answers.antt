use Rattle.std.proofs.Common.{true, ap}
use Rattle.polled_clients.proofs.Locking.{noted}
use Rattle.polled_clients.specs.LockWatches.{contention_of}
use Rattle.std.proofs.Common.{◌∙◌, inl, inr}
use Rattle.polled_clients.proofs.clients.PolledClientsServedClients.hold_back.Goals as goal

pub give_up-requires : goal.give_up-requires
give_up-requires g c = c.requires

pub returns-in-Ok-clause-moved : goal.returns-in-Ok-clause-moved
returns-in-Ok-clause-moved g c = c.hold.ensures.moved

pub returns-in-Ok-clause-waiting : goal.returns-in-Ok-clause-waiting
returns-in-Ok-clause-waiting g c = inl (c.hold.ensures.waiting ∙ c.in-Ok.ensures.ok)

pub returns-in-Err-clause-moved : goal.returns-in-Err-clause-moved
returns-in-Err-clause-moved g c = c.give_up.ensures.moved

pub returns-in-Err-clause-waiting : goal.returns-in-Err-clause-waiting
returns-in-Err-clause-waiting g c = inr (c.give_up.ensures.waiting ∙ c.in-Err.ensures.err, c.give_up.ensures.wants)

pub returns-in-Ok-clause-contention : goal.returns-in-Ok-clause-contention
returns-in-Ok-clause-contention g c = (
  c.holder.result,
  c.holder.ensures,
  ap contention_of c.hold.ensures.lock ∙ noted c.holder.result c.args.client true c.args.self.now.lock c.note.new.self c.note.ensures,
)

pub returns-in-Err-clause-contention : goal.returns-in-Err-clause-contention
returns-in-Err-clause-contention g c = (
  c.holder.result,
  c.holder.ensures,
  ap contention_of c.give_up.ensures.lock ∙ noted c.holder.result c.args.client true c.args.self.now.lock c.note.new.self c.note.ensures,
)
