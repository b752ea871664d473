use Rattle.served_tenants.proofs.RunsApart.{look_ups_part_nothing}
use Rattle.served_tenants.proofs.apart.look_ups_told_alike_part_nothing.Goals as goal

pub returns : goal.returns
returns g c = look_ups_part_nothing g.X.EventHandler.Reads
