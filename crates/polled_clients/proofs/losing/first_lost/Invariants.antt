use Rattle.std.specs.Prelude.{nat_eq}
use Rattle.indexmap.specs.IndexMap.{get}
use Rattle.polled_clients.specs.ClientStates.{HasLostItsRole}
use Rattle.polled_clients.proofs.Expelling.{NoneOfFirst}
use Rattle.polled_clients.proofs.losing.first_lost.Given as goal

abbrev pub invariant-loop-place : goal.invariant-loop-place
invariant-loop-place g l = NoneOfFirst (λ c. HasLostItsRole g.T.Talk (g.M.Machine.Has l.machine) (g.M.Machine.LacksRole l.machine) l.came c (get nat_eq l.peers c)) l.place l.peers.entries
