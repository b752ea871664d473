use Rattle.std.proofs.Common.{◌≡◌}
use Rattle.store.specs.Store.{OnlyReads}
use Rattle.catalogue_loading.proofs.Loading.{AreLoaded}
use Rattle.catalogue_loading.proofs.walk.load_items.Given as goal

-- reads alone have been made, and the items so far are those of the first records
abbrev pub invariant-loop : goal.invariant-loop
invariant-loop g l = record {
  preserved : g.M.Map.preserved l.fn.map l.map;
  reads : OnlyReads (g.M.Map.state l.fn.map) (g.M.Map.state l.map);
  unfailed : (g.M.Map.state l.map).has_failed ≡ (g.M.Map.state l.fn.map).has_failed;
  loaded : (g.M.Map.state l.fn.map).sound
      → AreLoaded (g.R.ItemReader.IsValid l.fn.reader) (g.R.ItemReader.spell l.fn.reader) (g.M.Map.state l.fn.map).map l.fn.prefix l.items l.cursor;
}
