use Rattle.std.proofs.Common.{◌≡◌}
use Rattle.store.specs.Store.{OnlyReads}
use Rattle.store.specs.Walks.{left}
use Rattle.catalogue_changes.specs.Reads.{HaveKeySizes}
use Rattle.catalogue_changes.proofs.RemovalLemmas.{AreRemoved}
use Rattle.catalogue_changes.proofs.row_removals.push_removals.Given as goal

-- reads alone have been made, and what is left to the walk is left to remove
abbrev pub invariant-loop : goal.invariant-loop
invariant-loop g l = record {
  preserved : g.M.Map.preserved l.fn.map l.map;
  reads : OnlyReads (g.M.Map.state l.fn.map) (g.M.Map.state l.map);
  unfailed : (g.M.Map.state l.map).has_failed ≡ (g.M.Map.state l.fn.map).has_failed;
  removed : (g.M.Map.state l.fn.map).sound → AreRemoved l.fn.cursor l.cursor (g.M.Map.state l.fn.map).map l.fn.out l.out;
  sizes : (g.M.Map.state l.fn.map).sound → HaveKeySizes (left l.fn.cursor (g.M.Map.state l.fn.map).map) → HaveKeySizes (left l.cursor (g.M.Map.state l.fn.map).map);
}
