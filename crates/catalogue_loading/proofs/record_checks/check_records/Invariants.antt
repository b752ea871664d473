use Rattle.std.proofs.Common.{◌≡◌}
use Rattle.store.specs.Store.{OnlyReads}
use Rattle.catalogue_loading.proofs.Checking.{AreChecked}
use Rattle.catalogue_loading.proofs.record_checks.check_records.Given as goal

-- reads alone have been made, and the records so far pass
abbrev pub invariant-loop : goal.invariant-loop
invariant-loop g l = record {
  preserved : g.M.Map.preserved l.fn.map l.map;
  reads : OnlyReads (g.M.Map.state l.fn.map) (g.M.Map.state l.map);
  unfailed : (g.M.Map.state l.map).has_failed ≡ (g.M.Map.state l.fn.map).has_failed;
  checked : (g.M.Map.state l.fn.map).sound
      → AreChecked (g.T.RecordTest.Passes l.fn.test) (g.M.Map.ahead l.map l.place) (g.M.Map.state l.fn.map).map l.fn.prefix;
}
