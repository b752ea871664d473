use Rattle.std.proofs.Common.{◌∙◌}
use Rattle.kv_store.proofs.Plain.{plain_commits}
use Rattle.kv_store.proofs.SameStore.{same_store}
use Rattle.kv_store.proofs.page_store.PageStoreStore.commit.Goals as goal

pub invariant_of-self : goal.invariant_of-self
invariant_of-self g c = record { plain = c.commit.ensures.kind ∙ c.args.self.now.plain }

pub returns : goal.returns
returns g c =
    let old = c.args.self.now in
    let is = c.commit.ensures in
    record {
      commits = plain_commits old.tree c.commit.new.self old.plain (is.kind ∙ old.plain) is.commits;
      empty = λ none works. let nothing = is.empty none works in (nothing.0, same_store c.commit.new.self _ old nothing.1);
      batch = is.batch;
      still = is.still;
      counts = is.counts;
      rises = is.rises;
      given_back = is.given_back;
    }
