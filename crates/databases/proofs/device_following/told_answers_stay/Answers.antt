use Rattle.std.proofs.Common.{arith}
use Rattle.databases.specs.OnDevice.{records_on}
use Rattle.databases.proofs.GoingOn.{told_done}
use Rattle.databases.proofs.Telling.{has_moment}
use Rattle.databases.proofs.device_following.told_answers_stay.Goals as goal

pub returns : goal.returns
returns g c = λ run last it answered life stop next stops place t told up.
    let timely = has_moment run.begin run.end run.did it answered place t told in
    told_done g.X.EventHandler.Reads last (records_on (g.D.Device.state run.begin)) (records_on (g.D.Device.state run.end)) it.events it.answers it.moments life.0 stop next stops place timely.0
    timely.1 (omega (arith, timely.2, up))
