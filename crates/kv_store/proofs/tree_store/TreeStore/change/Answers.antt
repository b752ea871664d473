use Rattle.std.proofs.Common.{◌≡◌, Err, refl, sym, ap, subst, arith}
use Rattle.sector_device.specs.Device.{KeepsHistory}
use Rattle.page_roots.specs.Formats.{record_format_of}
use Rattle.cow_pages.specs.Cow.{device_below}
use Rattle.page_tree.specs.Kept.{KeepsPlace}
use Rattle.page_tree.specs.declared.cursor.TreeCursor.{TreeCursor}
use Rattle.store.specs.Contents.{changed_in}
use Rattle.store.specs.declared.fault.StoreFault.{StoreFault}
use Rattle.kv_store.specs.declared.read_only.ReadOnlyPages.{ReadOnlyPages}
use Rattle.kv_store.specs.declared.tree_store.TreeStore.{TreeStore}
use Rattle.kv_store.specs.Contents.{contents_of, is_journaled}
use Rattle.kv_store.specs.Batches.{CommitsBatch}
use Rattle.kv_store.specs.Numbered.{LeavesNumbered}
use Rattle.kv_store.proofs.Counting.{alone_counts}
use Rattle.kv_store.proofs.Committing.{all_committed, none_committed, counted_as}
use Rattle.kv_store.proofs.tree_store.TreeStore.change.Goals as goal

pub returns-in-Ok : goal.returns-in-Ok
returns-in-Ok g c =
    let old = c.args.self.now in
    let new : TreeStore g.row.D.Denot g.D.Device = record old { pages = record { below = c.commit_batch.new.pages }; scratch = c.commit_batch.new.scratch; cursor = c.reset.new.self } in
    record {
      kind = c.in-Ok.ensures.kind;
      commits = all_committed g.met.D.Device.only_now g.met.D.Device.content_left old new _ c.requires.works c.in-Ok.ensures.history (omega arith) (omega arith) c.reset.ensures c.args.reserve c.args.batch.now c.requires.works
          (λ sound. c.in-Ok.ensures.batch (contents_of old.pages.below) (sound.works c.requires.works));
      batch = λ worked contents holds. c.in-Ok.ensures.batch contents holds;
      counts = record { fulls = refl; failures = refl };
      rises = λ sound differs. (c.in-Ok.ensures.batch (contents_of old.pages.below) (sound.works c.requires.works)).outcome.rises differs;
      history = c.in-Ok.ensures.history;
      anew = c.in-Ok.ensures.anew;
      numbered = λ contents holds. c.in-Ok.ensures.numbered contents holds;
    }

pub returns-in-Err : goal.returns-in-Err
returns-in-Err g c =
    let old = c.args.self.now in
    let mid : TreeStore g.row.D.Denot g.D.Device = record old { pages = record { below = c.commit_batch.new.pages }; scratch = c.commit_batch.new.scratch; cursor = c.reset.new.self } in
    let new = c.count.new.self in
    let fault = c.in-Err.fault in
    let pages = sym c.count.ensures.pages in
    let after = changed_in (record_format_of c.args.format) c.args.batch.now (contents_of old.pages.below) in
    record {
      kind = subst (λ (p : ReadOnlyPages g.row.D.Denot g.D.Device). is_journaled p.below ≡ is_journaled old.pages.below) pages c.in-Err.ensures.kind;
      commits = none_committed g.met.D.Device.only_now g.met.D.Device.content_left old new after c.requires.works
          (subst (λ (p : ReadOnlyPages g.row.D.Denot g.D.Device). KeepsHistory (device_below old.pages.below) (device_below p.below)) pages c.in-Err.ensures.history)
          c.count.ensures.fulls c.count.ensures.failures (λ map. subst (λ (k : TreeCursor). KeepsPlace map k) (sym c.count.ensures.cursor) (c.reset.ensures map)) c.args.reserve c.args.batch.now fault (counted_as fault mid old new refl refl refl c.count.ensures.counted)
          (λ is. c.in-Err.ensures.number (ap (λ (f : StoreFault). Err f) is))
          (λ sound. subst (λ (p : ReadOnlyPages g.row.D.Denot g.D.Device). CommitsBatch c.args.reserve c.args.batch.now (Err fault) (contents_of old.pages.below) after old.pages.below p.below) pages
          (c.in-Err.ensures.batch (contents_of old.pages.below) (sound.works c.requires.works)));
      batch = λ worked contents holds. subst (λ (p : ReadOnlyPages g.row.D.Denot g.D.Device). CommitsBatch c.args.reserve c.args.batch.now (Err fault) contents (changed_in (record_format_of c.args.format) c.args.batch.now contents) old.pages.below p.below) pages (c.in-Err.ensures.batch contents holds);
      counts = alone_counts fault mid old new refl refl c.count.ensures.alone;
      rises = λ sound differs. tt;
      history = subst (λ (p : ReadOnlyPages g.row.D.Denot g.D.Device). KeepsHistory (device_below old.pages.below) (device_below p.below)) pages c.in-Err.ensures.history;
      anew = λ is. tt;
      numbered = λ contents holds. subst (λ (p : ReadOnlyPages g.row.D.Denot g.D.Device). LeavesNumbered (Err fault) contents (changed_in (record_format_of c.args.format) c.args.batch.now contents) old.pages.below p.below) pages (c.in-Err.ensures.numbered contents holds);
    }
