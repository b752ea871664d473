use Rattle.std.proofs.Common.{ap}
use Rattle.storage_sizes.specs.declared.record_format.RecordFormat.{RecordFormat}
use Rattle.store.specs.Contents.{changed_in}
use Rattle.store.specs.Store.{stored}
use Rattle.journal_store.specs.Stores.{journal_state}
use Rattle.journal_store.proofs.InTurn.{commits_as}
use Rattle.journal_store.proofs.commits.JournalStoreStore.commit_migration.Goals as goal

pub returns-clause-commits : goal.returns-clause-commits
returns-clause-commits g c =
    let s = c.args.self.now in
    commits_as c.commit_lent.result _ _ (journal_state s) _ (λ sound works. ap (λ (x : RecordFormat). changed_in x c.args.batch.now (stored (journal_state s))) (sound.works works).second) c.commit_lent.ensures.commits
