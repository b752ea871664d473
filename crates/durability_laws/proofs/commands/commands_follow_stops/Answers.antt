use Rattle.durability_laws.proofs.Chains.{come_to}
use Rattle.durability_laws.proofs.commands.commands_follow_stops.Goals as goal

pub returns : goal.returns
returns g c = λ commands here found stopped. come_to (λ device faithful s lt. g.met.D.Device.content_left device s faithful lt) c.one_database.ensures _ commands here found stopped
