use Rattle.tenant_laws.proofs.DeviceLives.{devices_tell}
use Rattle.tenant_laws.proofs.devices.devices_tell_tenants_what_they_see.Goals as goal

pub returns : goal.returns
returns g c = devices_tell g.D.Device g.E.Device g.row.X.Denot g.row.X.Denot g.X.EventHandler.Reads
