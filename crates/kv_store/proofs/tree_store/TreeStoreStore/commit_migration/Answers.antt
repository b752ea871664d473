use Rattle.std.proofs.Common.{◌≡◌, refl, sym, ap, ◌∙◌, subst}
use Rattle.std.proofs.lemmas.Bool.{false≢true}
use Rattle.storage_sizes.specs.declared.record_format.RecordFormat.{RecordFormat}
use Rattle.storage_sizes.specs.declared.record_format.RecordFormat.TheVariants.{V1, V2}
use Rattle.store.specs.Store.{Contents, Commits, stored}
use Rattle.store.specs.Contents.{changed_in}
use Rattle.kv_store.specs.declared.reserve.Reserve.TheVariants.{Open}
use Rattle.kv_store.specs.Batches.{CommitsBatch}
use Rattle.kv_store.specs.TreeStore.{store_state}
use Rattle.kv_store.proofs.Committing.{commit_closed}
use Rattle.kv_store.proofs.tree_store.TreeStoreStore.commit_migration.Goals as goal

pub returns-then-self : goal.returns-then-self
returns-then-self g c = record {
  commits = commit_closed g.met.D.Device.only_now g.met.D.Device.content_left c.args.self.now _ c.if-self.true;
  batch = λ worked contents holds. absurd (false≢true (sym worked ∙ c.if-self.true));
  still = λ had. (refl, refl);
  counts = refl;
  rises = λ sound was. tt;
  kind = refl;
}

pub returns : goal.returns
returns g c =
    let old = c.args.self.now in
    let new = c.change.new.self in
    let batch = c.args.batch.now in
    let is = c.change.ensures in
    let second = c.migrated-format.ensures.spelled in
    record {
      commits = subst (λ (s : RecordFormat). Commits c.change.result (changed_in s batch (stored (store_state old))) (store_state old) (store_state new)) second is.commits;
      batch = λ worked contents holds. subst (λ (s : RecordFormat). CommitsBatch Open batch c.change.result contents (changed_in s batch contents) old.pages.below new.pages.below) second (is.batch worked contents holds);
      still = λ had. absurd (false≢true (sym c.if-self.false ∙ had));
      counts = is.counts;
      rises = λ sound was. is.rises sound (λ same. let bad : V1 ≡ V2 = sym was ∙ (ap (λ (x : Contents). x.record_format) same ∙ second) in cc);
      kind = is.kind;
    }
