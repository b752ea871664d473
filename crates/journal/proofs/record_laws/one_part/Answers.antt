use Rattle.journal.proofs.Written.{sector_back}
use Rattle.journal.proofs.record_laws.one_part.Goals as goal

pub returns : goal.returns
returns c room part = sector_back room part
