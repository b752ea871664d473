use Rattle.std.proofs.Common.{◌≡◌, ◌==◌, ◌&&◌, false, take}
use Rattle.std.specs.List.{list_any}
use Rattle.abstract_database.specs.Machine.{client_of}
use Rattle.server.specs.Dropped.{lacks_role}
use Rattle.server.proofs.server.Server.has_lost_role.Given as goal

abbrev pub invariant-loop-place : goal.invariant-loop-place
invariant-loop-place g l = list_any (λ e. (client_of e.0 == l.client) && lacks_role l.self e.1.login) (take l.place l.self.sessions.entries) ≡ false
