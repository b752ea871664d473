use Rattle.std.proofs.Common.{◌≡◌}
use Rattle.store.specs.Store.{OnlyReads}
use Rattle.catalogue_loading.specs.Orphans.{JumpsOn, IsNone, prefix_of}
use Rattle.catalogue_loading.proofs.prefix_checks.check_prefixes.Given as goal

-- reads alone have been made, and no record is an orphan where none from a key on is, which are ahead
abbrev pub invariant-loop : goal.invariant-loop
invariant-loop g l = record {
  preserved : g.M.Map.preserved l.fn.map l.map;
  reads : OnlyReads (g.M.Map.state l.fn.map) (g.M.Map.state l.map);
  unfailed : (g.M.Map.state l.map).has_failed ≡ (g.M.Map.state l.fn.map).has_failed;
  passed : (g.M.Map.state l.fn.map).sound
      → JumpsOn (IsNone l.fn.test.orphans l.fn.test.ids.now) (prefix_of l.fn.test.orphans) (g.M.Map.ahead l.map l.place)
      (g.M.Map.state l.fn.map).map (prefix_of l.fn.test.orphans);
}
