use Rattle.std.proofs.Common.{refl, arith}
use Rattle.std.proofs.lemmas.Bool.{le-ltb}
use Rattle.polled_clients.proofs.clients.PolledClients.new.Goals as goal

pub returns-clause-at : goal.returns-clause-at
returns-clause-at g c = λ n. rw (le-ltb n 0 (omega arith)) refl
