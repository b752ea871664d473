use Rattle.journal_store.proofs.Meanings.{record_leaves}
use Rattle.journal_store.proofs.laws.record_leaves.Goals as goal

pub returns : goal.returns
returns c = record_leaves
