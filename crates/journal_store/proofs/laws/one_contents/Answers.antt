use Rattle.journal_store.specs.MeaningLaws.{one_contents}
use Rattle.journal_store.proofs.laws.one_contents.Goals as goal

pub returns : goal.returns
returns c = one_contents
