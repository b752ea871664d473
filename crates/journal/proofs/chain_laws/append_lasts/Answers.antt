use Rattle.journal.proofs.Journals.{journal_with}
use Rattle.journal.proofs.chain_laws.append_lasts.Goals as goal

pub returns : goal.returns
returns c region image root room top es new = journal_with region image root room top es new
