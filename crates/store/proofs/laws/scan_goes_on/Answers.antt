use Rattle.store.proofs.Scans.{scanned}
use Rattle.store.proofs.laws.scan_goes_on.Goals as goal

pub returns : goal.returns
returns c = scanned
