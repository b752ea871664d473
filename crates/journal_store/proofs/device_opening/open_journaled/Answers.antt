use Rattle.journal_store.proofs.DeviceOpened.{journal_opened}
use Rattle.journal_store.proofs.device_opening.open_journaled.Goals as goal

pub returns-in-Ok : goal.returns-in-Ok
returns-in-Ok g c = journal_opened (g.D.Device.state c.args.device) c.in-Ok.store c.in-Ok.ensures
