use Rattle.std.proofs.Common.{◌≡◌, ◌-◌}
use Rattle.talks.specs.Clients.{CutsOffOrExpels, ExpelsLost, Moved}
use Rattle.polled_clients.specs.ClientStates.{states}
use Rattle.polled_clients.specs.LockWatches.{contention_of}
use Rattle.polled_clients.proofs.clients.PolledClientsServedClients.next.Given as goal

abbrev pub invariant-looking : goal.invariant-looking
invariant-looking g l = Moved g.T.Talk (g.F.TalkMaker.makes l.initial.self.maker) (states g.C.Channel g.A.Attend l.initial.self) (states g.C.Channel g.A.Attend l.self) × (l.self.waiting.items ≡ l.initial.self.waiting.items) × (l.self.limits ≡ l.initial.self.limits)
    × CutsOffOrExpels (contention_of l.initial.self.lock) (contention_of l.self.lock) × (l.self.maker ≡ l.initial.self.maker)
    × (g.M.Machine.IsSound l.machine → ExpelsLost g.T.Talk (g.F.TalkMaker.makes l.initial.self.maker) (g.M.Machine.Has l.machine) (g.M.Machine.LacksRole l.machine) (states g.C.Channel g.A.Attend l.initial.self) (states g.C.Channel g.A.Attend l.self) l.initial.self.lock.expelled l.self.lock.expelled)

abbrev pub decreases-looking : goal.decreases-looking
decreases-looking g l = 18446744073709551615 - l.self.looks
