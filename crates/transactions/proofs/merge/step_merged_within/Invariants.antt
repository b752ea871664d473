use Rattle.std.proofs.Common.{◌≡◌}
use Rattle.store.specs.Records.{Records}
use Rattle.store.specs.Store.{OnlyReads}
use Rattle.transactions.specs.Within.{AreMergedTo}
use Rattle.transactions.proofs.merge.step_merged_within.Given as goal

abbrev pub invariant-loop : goal.invariant-loop
invariant-loop g l = record {
  preserved : g.M.Map.preserved l.fn.map l.map;
  reads : OnlyReads (g.M.Map.state l.fn.map) (g.M.Map.state l.map);
  works : (g.M.Map.state l.map).has_failed ≡ (g.M.Map.state l.fn.map).has_failed;
  merge : (g.M.Map.state l.fn.map).sound → (records : Records) → AreMergedTo (g.M.Map.ahead_within l.fn.map l.stop) l.stop l.lists (g.M.Map.state l.fn.map).map l.fn.place records
      → AreMergedTo (g.M.Map.ahead_within l.map l.stop) l.stop l.lists (g.M.Map.state l.fn.map).map l.place records;
}
