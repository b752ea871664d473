use Rattle.databases.specs.OnDevice.{records_on}
use Rattle.databases.proofs.Cutting.{told_is_not_done}
use Rattle.databases.proofs.GoingOn.{told_done}
use Rattle.databases.proofs.stopping.told_answers_are_done.Goals as goal

pub returns-clause-done : goal.returns-clause-done
returns-clause-done g c = λ last life told moments is stop next stops index moment at up.
    told_done g.X.EventHandler.Reads last (records_on (g.D.Device.state life.begin)) (records_on (g.D.Device.state life.end)) life.events told moments is.0 stop next stops index moment at up

pub returns-clause-others : goal.returns-clause-others
returns-clause-others g c = λ last life told moments is stop next stops index moment at later.
    told_is_not_done g.X.EventHandler.Reads (records_on (g.D.Device.state life.end)) is.0.begin stop life.events told moments next stops index moment at later
