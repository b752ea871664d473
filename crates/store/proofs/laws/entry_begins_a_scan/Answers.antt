use Rattle.store.proofs.Scans.{entry_scanned}
use Rattle.store.proofs.laws.entry_begins_a_scan.Goals as goal

pub returns : goal.returns
returns c = entry_scanned
