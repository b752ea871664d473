use Rattle.storage_sizes.specs.declared.record_format.RecordFormat.TheVariants.{V2}
use Rattle.store.specs.Contents.{changed_in}
use Rattle.store.specs.Store.{Contents}
use Rattle.kv_store.specs.declared.reserve.Reserve.TheVariants.{Open}
use Rattle.journal_store.proofs.Committing.{commits_in_pages, kind_in_pages}
use Rattle.journal_store.proofs.Journaled.{commits_in_journal, kind_in_journal}
use Rattle.journal_store.proofs.writes.DeviceStoreStore.commit_migration.Goals as goal

pub returns-in-Pages : goal.returns-in-Pages
returns-in-Pages g c =
    let is = c.commit_migration.ensures in
    record {
      commits = commits_in_pages g.met.D.Device.only_now c.in-Pages.store c.commit_migration.new.self c.args.self.now c.in-Pages.is Open c.args.batch.now
          (λ (contents : Contents). changed_in V2 c.args.batch.now contents) _ is.commits is.batch is.still;
      kind = kind_in_pages g.met.D.Device.only_now c.in-Pages.store c.commit_migration.new.self c.args.self.now c.in-Pages.is Open c.args.batch.now
          (λ (contents : Contents). changed_in V2 c.args.batch.now contents) _ is.batch is.counts is.still;
    }

pub returns-in-Journaled : goal.returns-in-Journaled
returns-in-Journaled g c =
    let is = c.commit_migration-in-Journaled.ensures in
    record {
      commits = commits_in_journal c.args.self.now c.in-Journaled.store c.commit_migration-in-Journaled.new.self c.in-Journaled.is (λ (contents : Contents). changed_in V2 c.args.batch.now contents) _ is.commits;
      kind = kind_in_journal c.args.self.now c.in-Journaled.store c.commit_migration-in-Journaled.new.self c.in-Journaled.is Open c.args.batch.now (λ (contents : Contents). changed_in V2 c.args.batch.now contents) _ is.journal;
    }
