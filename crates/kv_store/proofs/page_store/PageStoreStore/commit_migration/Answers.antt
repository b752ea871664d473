use Rattle.std.proofs.Common.{◌∙◌}
use Rattle.kv_store.proofs.Plain.{plain_commits}
use Rattle.kv_store.proofs.page_store.PageStoreStore.commit_migration.Goals as goal

pub invariant_of-self : goal.invariant_of-self
invariant_of-self g c = record { plain = c.commit_migration.ensures.kind ∙ c.args.self.now.plain }

pub returns : goal.returns
returns g c =
    let old = c.args.self.now in
    let is = c.commit_migration.ensures in
    record {
      commits = plain_commits old.tree c.commit_migration.new.self old.plain (is.kind ∙ old.plain) is.commits;
      batch = is.batch;
      still = is.still;
      counts = is.counts;
      rises = is.rises;
    }
