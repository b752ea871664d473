use Rattle.std.proofs.Common.{refl, sym, ap, ◌∙◌, subst}
use Rattle.std.proofs.lemmas.Bool.{false≢true}
use Rattle.storage_sizes.specs.declared.record_format.RecordFormat.{RecordFormat}
use Rattle.sector_device.specs.Device.{history_none}
use Rattle.page_roots.specs.declared.format.Format.{Format}
use Rattle.page_roots.specs.Formats.{record_format_of}
use Rattle.store.specs.Store.{Commits, stored}
use Rattle.store.specs.Contents.{changed_in}
use Rattle.kv_store.specs.Batches.{CommitsBatch}
use Rattle.kv_store.specs.Numbered.{LeavesNumbered}
use Rattle.kv_store.specs.TreeStore.{store_state}
use Rattle.kv_store.proofs.Committing.{commit_closed}
use Rattle.kv_store.proofs.tree_store.TreeStore.checkpoint.Goals as goal

pub returns-then-self : goal.returns-then-self
returns-then-self g c = record {
  commits = commit_closed g.met.D.Device.only_now g.met.D.Device.content_left c.args.self.now _ c.if-self.true;
  anew = tt;
  numbered = λ worked contents holds. absurd (false≢true (sym worked ∙ c.if-self.true));
  batch = λ worked contents holds. absurd (false≢true (sym worked ∙ c.if-self.true));
  history = history_none _;
  still = λ had. (refl, refl);
  counts = refl;
  kind = refl;
}

pub returns : goal.returns
returns g c =
    let old = c.args.self.now in
    let new = c.change.new.self in
    let batch = c.args.batch.now in
    let is = c.change.ensures in
    record {
      commits = subst (λ (f : Format). Commits c.change.result (changed_in (record_format_of f) batch (stored (store_state old))) (store_state old) (store_state new)) c.format-durable.ensures is.commits;
      anew = is.anew refl;
      numbered = λ worked contents holds. subst (λ (s : RecordFormat). LeavesNumbered c.change.result contents (changed_in s batch contents) old.pages.below new.pages.below)
          (ap record_format_of c.format-durable.ensures ∙ holds.spelled) (is.numbered contents holds);
      batch = λ worked contents holds. subst (λ (s : RecordFormat). CommitsBatch c.args.reserve batch c.change.result contents (changed_in s batch contents) old.pages.below new.pages.below)
          (ap record_format_of c.format-durable.ensures ∙ holds.spelled) (is.batch worked contents holds);
      history = is.history;
      still = λ had. absurd (false≢true (sym c.if-self.false ∙ had));
      counts = is.counts;
      kind = is.kind;
    }
