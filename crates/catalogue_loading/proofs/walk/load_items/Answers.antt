use Rattle.std.proofs.Common.{refl, sym, ◌∙◌, subst, Err}
use Rattle.store.specs.Records.{Records}
use Rattle.store.proofs.Reading.{none_read, reads_joined}
use Rattle.catalogue_loading.specs.Walks.{MovesOn, IsNext}
use Rattle.catalogue_loading.proofs.Loading.{AreLoaded, nothing_loaded, found_next, one_more, fault_loads}
use Rattle.catalogue_loading.proofs.walk.load_items.Goals as goal

pub loop-init : goal.loop-init
loop-init g c = record {
  preserved = g.M.Map.preserved_same c.args.map.now;
  reads = none_read (g.M.Map.state c.args.map.now) (g.met.M.Map.only_now c.args.map.now);
  unfailed = refl;
  loaded = λ s. nothing_loaded _ _ _ _ _ _ c.new-items.ensures c.in_ok-cursor.ensures;
}

pub returns-in-Err-clause-loaded : goal.returns-in-Err-clause-loaded
returns-in-Err-clause-loaded g c = λ s.
    let reads = c.loop.invariant.reads in
    let valid = g.R.ItemReader.IsValid c.args.reader.now in
    let spell = g.R.ItemReader.spell c.args.reader.now in
    let moved = subst (λ (records : Records). MovesOn valid spell (Err c.in-Err.fault) c.loop.cursor c.next_item.new.cursor records) (reads.unchanged s).map (c.in-Err.ensures.moved (reads.history.sound s)) in
    fault_loads valid spell (g.M.Map.state c.args.map.now).map c.args.prefix.now c.loop.items c.loop.cursor c.next_item.new.cursor c.in-Err.fault (c.loop.invariant.loaded s) moved

pub loop-preserved : goal.loop-preserved
loop-preserved g c =
    let reads = c.loop.invariant.reads in
    let valid = g.R.ItemReader.IsValid c.args.reader.now in
    let spell = g.R.ItemReader.spell c.args.reader.now in
    record {
      preserved = g.M.Map.preserved_joined c.args.map.now c.loop.map c.next_item.new.map c.loop.invariant.preserved c.in-Ok-Some.ensures.preserved;
      reads = reads_joined (g.M.Map.state c.args.map.now) (g.M.Map.state c.loop.map) (g.M.Map.state c.next_item.new.map) reads c.in-Ok-Some.ensures.read.only_reads;
      unfailed = c.in-Ok-Some.ensures.read.failed ∙ c.loop.invariant.unfailed;
      loaded = λ s.
          let next = subst (λ (records : Records). IsNext valid spell c.in-Ok-Some.item c.loop.cursor c.next_item.new.cursor records) (reads.unchanged s).map (found_next valid spell c.in-Ok-Some.field-0 c.in-Ok-Some.item c.loop.cursor c.next_item.new.cursor (g.M.Map.state c.loop.map).map c.in-Ok-Some.field-0-is (c.in-Ok-Some.ensures.moved (reads.history.sound s))) in
          subst (λ items. AreLoaded valid spell (g.M.Map.state c.args.map.now).map c.args.prefix.now items c.next_item.new.cursor) (sym c.in_ok-push-in-Ok-Some.ensures.ok)
          (one_more valid spell (g.M.Map.state c.args.map.now).map c.args.prefix.now c.loop.items c.in-Ok-Some.item c.loop.cursor c.next_item.new.cursor (c.loop.invariant.loaded s) next);
    }
