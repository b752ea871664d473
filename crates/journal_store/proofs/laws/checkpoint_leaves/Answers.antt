use Rattle.journal_store.proofs.Meanings.{checkpoint_leaves}
use Rattle.journal_store.proofs.laws.checkpoint_leaves.Goals as goal

pub returns : goal.returns
returns c = checkpoint_leaves
