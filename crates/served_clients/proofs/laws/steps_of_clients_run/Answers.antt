use Rattle.server.specs.Standing.{stops_of}
use Rattle.served_clients.proofs.Running.{runs, ran}
use Rattle.served_clients.proofs.laws.steps_of_clients_run.Goals as goal

pub returns-clause-moments : goal.returns-clause-moments
returns-clause-moments g c = λ first last ts w steps sound here. runs g.X.EventHandler.Reads g.S.Map.state first last ts w steps sound here

pub returns-clause-events : goal.returns-clause-events
returns-clause-events g c = λ first last ts w end is. ran g.X.EventHandler.Reads (stops_of (g.S.Map.state last.store).time) w end ts is
