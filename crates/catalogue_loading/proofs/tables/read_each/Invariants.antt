use Rattle.std.proofs.Common.{◌≡◌}
use Rattle.store.specs.Store.{OnlyReads}
use Rattle.catalogue_loading.proofs.TableLemmas.{AreHeldSoFar}
use Rattle.catalogue_loading.proofs.tables.read_each.Given as goal

-- reads alone have been made, and the tables so far are those of the first records
abbrev pub invariant-loop-own : goal.invariant-loop-own
invariant-loop-own g l = record {
  preserved : g.M.Map.preserved l.fn.map l.map;
  reads : OnlyReads (g.M.Map.state l.fn.map) (g.M.Map.state l.map);
  unfailed : (g.M.Map.state l.map).has_failed ≡ (g.M.Map.state l.fn.map).has_failed;
  held : (g.M.Map.state l.fn.map).sound → AreHeldSoFar (g.M.Map.state l.fn.map).map l.fn.records l.own-iterator.rest.items l.tables;
}
