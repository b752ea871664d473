use Rattle.databases.proofs.DeviceGoingOn.{go_on}
use Rattle.databases.proofs.device_following.runs_follow_stops.Goals as goal

pub returns : goal.returns
returns g c = λ runs s found stopped. go_on (λ device faithful s lt. g.met.D.Device.content_left device s faithful lt) _ runs s found stopped
