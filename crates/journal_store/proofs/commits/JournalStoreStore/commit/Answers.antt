use Rattle.std.proofs.Common.{refl}
use Rattle.store.proofs.Reading.{on_any_err}
use Rattle.journal_store.proofs.commits.JournalStoreStore.commit.Goals as goal

-- the batch was only read
pub returns-clause-given_back : goal.returns-clause-given_back
returns-clause-given_back g c = on_any_err c.commit_lent.result refl
