use Rattle.sector_device.proofs.Guarding.{guarded_writes_page}
use Rattle.sector_device.proofs.write_protected.WriteProtectedDevice.write_page.Goals as goal

pub returns-clause-history : goal.returns-clause-history
returns-clause-history g c = guarded_writes_page _ _ c.args.first c.args.bytes.now c.requires.not_beside c.write_page.ensures.history (λ is. c.write_page.ensures.writes is)
