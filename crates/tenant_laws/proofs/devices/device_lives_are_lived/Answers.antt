use Rattle.tenant_laws.proofs.DeviceLives.{whole_lives, stopped_lives}
use Rattle.tenant_laws.proofs.devices.device_lives_are_lived.Goals as goal

pub returns-clause-whole : goal.returns-clause-whole
returns-clause-whole g c = whole_lives g.D.Device g.row.X.Denot g.X.EventHandler.Reads

pub returns-clause-stopped : goal.returns-clause-stopped
returns-clause-stopped g c = stopped_lives g.D.Device g.X.EventHandler.Reads
