use Rattle.store.specs.Contents.{changed_by_batch}
use Rattle.store.specs.Store.{Contents}
use Rattle.kv_store.specs.declared.reserve.Reserve.TheVariants.{Kept}
use Rattle.journal_store.proofs.Committing.{commits_in_pages, kind_in_pages}
use Rattle.journal_store.proofs.Journaled.{commits_in_journal, kind_in_journal}
use Rattle.journal_store.proofs.writes.DeviceStoreStore.commit.Goals as goal

pub returns-in-Pages-clause-commits : goal.returns-in-Pages-clause-commits
returns-in-Pages-clause-commits g c =
    let x = c.args.self.now in
    let is = c.commit.ensures in
    commits_in_pages g.met.D.Device.only_now c.in-Pages.store c.commit.new.self x c.in-Pages.is Kept c.args.batch.now (λ (contents : Contents). changed_by_batch c.args.batch.now contents) _ is.commits is.batch is.still

pub returns-in-Journaled-clause-commits : goal.returns-in-Journaled-clause-commits
returns-in-Journaled-clause-commits g c =
    let x = c.args.self.now in
    let is = c.commit-in-Journaled.ensures in
    commits_in_journal x c.in-Journaled.store c.commit-in-Journaled.new.self c.in-Journaled.is (λ (contents : Contents). changed_by_batch c.args.batch.now contents) _ is.commits

pub returns-in-Pages-clause-kind : goal.returns-in-Pages-clause-kind
returns-in-Pages-clause-kind g c =
    let is = c.commit.ensures in
    kind_in_pages g.met.D.Device.only_now c.in-Pages.store c.commit.new.self c.args.self.now c.in-Pages.is Kept c.args.batch.now (λ (contents : Contents). changed_by_batch c.args.batch.now contents) _ is.batch is.counts is.still

pub returns-in-Journaled-clause-kind : goal.returns-in-Journaled-clause-kind
returns-in-Journaled-clause-kind g c =
    kind_in_journal c.args.self.now c.in-Journaled.store c.commit-in-Journaled.new.self c.in-Journaled.is Kept c.args.batch.now (λ (contents : Contents). changed_by_batch c.args.batch.now contents) _ c.commit-in-Journaled.ensures.journal
