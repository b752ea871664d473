use Rattle.std.proofs.Common.{◌≡◌, ◌-◌}
use Rattle.talks.specs.Clients.{Moved}
use Rattle.talks_tests.specs.Memory.{any_talk}
use Rattle.talks_tests.specs.TwoClients.{states}
use Rattle.talks_tests.proofs.clients.TwoClientsServedClients.next.Given as goal

abbrev pub invariant-looking : goal.invariant-looking
invariant-looking g l = Moved g.T.Talk any_talk (states l.initial.self) (states l.self) × (l.self.queue ≡ l.initial.self.queue) × (l.self.contended ≡ l.initial.self.contended)

abbrev pub decreases-looking : goal.decreases-looking
decreases-looking g l = 18446744073709551615 - l.self.looks
