use Rattle.std.proofs.Common.{refl, sym, ap, ◌∙◌, subst}
use Rattle.std.proofs.lemmas.Bool.{false≢true}
use Rattle.storage_sizes.specs.declared.record_format.RecordFormat.{RecordFormat}
use Rattle.page_roots.specs.declared.format.Format.{Format}
use Rattle.page_roots.specs.Formats.{record_format_of}
use Rattle.store.specs.Records.{Changes, applied}
use Rattle.store.specs.Store.{Contents, Commits, stored}
use Rattle.store.specs.Contents.{changed_in, changed_by_batch}
use Rattle.store.proofs.Reading.{on_any_err}
use Rattle.kv_store.specs.declared.reserve.Reserve.TheVariants.{Kept}
use Rattle.kv_store.specs.Contents.{contents_of}
use Rattle.kv_store.specs.ContentLaws.{same_parts}
use Rattle.kv_store.specs.Batches.{CommitsBatch}
use Rattle.kv_store.specs.TreeStore.{store_state}
use Rattle.kv_store.proofs.Counting.{nothing_committed}
use Rattle.kv_store.proofs.Committing.{commit_closed, commit_nothing}
use Rattle.kv_store.proofs.tree_store.TreeStoreStore.commit.Goals as goal

pub returns-then-self : goal.returns-then-self
returns-then-self g c = record {
  commits = commit_closed g.met.D.Device.only_now g.met.D.Device.content_left c.args.self.now _ c.if-self.true;
  empty = λ none worked. absurd (false≢true (sym worked ∙ c.if-self.true));
  batch = λ worked contents holds. absurd (false≢true (sym worked ∙ c.if-self.true));
  still = λ had. (refl, refl);
  counts = refl;
  rises = λ sound differs. tt;
  kind = refl;
  given_back = refl;
}

pub returns-then-is_empty : goal.returns-then-is_empty
returns-then-is_empty g c =
    let old = c.args.self.now in
    let none = c.is_empty.ensures.0 c.if-is_empty.true in
    record {
      commits = commit_nothing g.met.D.Device.only_now g.met.D.Device.content_left old _ (ap (λ (cs : Changes). changed_by_batch cs (contents_of old.pages.below)) none) c.if-self.false;
      empty = λ is worked. (refl, refl);
      batch = λ worked contents holds. nothing_committed g.met.D.Device.only_now Kept c.args.batch.now contents (changed_by_batch c.args.batch.now contents) old.pages.below (same_parts (changed_by_batch c.args.batch.now contents) contents refl (ap (λ (cs : Changes). applied cs contents.records) none)) holds;
      still = λ had. absurd (false≢true (sym c.if-self.false ∙ had));
      counts = record { fulls = refl; failures = refl };
      rises = λ sound differs. absurd (differs (sym (ap (λ (cs : Changes). applied cs (contents_of old.pages.below).records) none)));
      kind = refl;
      given_back = tt;
    }

pub returns : goal.returns
returns g c =
    let old = c.args.self.now in
    let new = c.change.new.self in
    let batch = c.args.batch.now in
    let is = c.change.ensures in
    record {
      commits = subst (λ (f : Format). Commits c.change.result (changed_in (record_format_of f) batch (stored (store_state old))) (store_state old) (store_state new)) c.format-format.ensures is.commits;
      empty = λ none worked. absurd (false≢true (sym c.if-is_empty.false ∙ c.is_empty.ensures.1 none));
      batch = λ worked contents holds. subst (λ (s : RecordFormat). CommitsBatch Kept batch c.change.result contents (changed_in s batch contents) old.pages.below new.pages.below)
          (ap record_format_of c.format-format.ensures ∙ holds.spelled) (is.batch worked contents holds);
      still = λ had. absurd (false≢true (sym c.if-self.false ∙ had));
      counts = is.counts;
      rises = λ sound differs. is.rises sound (λ same. differs (ap (λ (x : Contents). x.records) same));
      kind = is.kind;
      given_back = on_any_err c.change.result refl;
    }
