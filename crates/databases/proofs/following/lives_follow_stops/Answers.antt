use Rattle.databases.proofs.GoingOn.{go_on}
use Rattle.databases.proofs.following.lives_follow_stops.Goals as goal

pub returns : goal.returns
returns g c = λ lives s found promised stopped. go_on g.D.Device g.row.X.Denot g.X.EventHandler.Reads (λ x. _) lives s found promised stopped
