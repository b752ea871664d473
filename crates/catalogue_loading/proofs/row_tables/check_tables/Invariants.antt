use Rattle.std.proofs.Common.{◌≡◌, drop}
use Rattle.store.specs.Store.{OnlyReads}
use Rattle.abstract_database.specs.Whole.{Each}
use Rattle.catalogue_loading.specs.RowChecks.{HasOnlyRows}
use Rattle.catalogue_loading.proofs.row_tables.check_tables.Given as goal

-- reads alone have been made, and all tables have only rows where those that are left do
abbrev pub invariant-loop-table : goal.invariant-loop-table
invariant-loop-table g l = record {
  preserved : g.M.Map.preserved l.fn.map l.map;
  reads : OnlyReads (g.M.Map.state l.fn.map) (g.M.Map.state l.map);
  unfailed : (g.M.Map.state l.map).has_failed ≡ (g.M.Map.state l.fn.map).has_failed;
  checked : (g.M.Map.state l.fn.map).sound → Each (HasOnlyRows (g.M.Map.state l.fn.map).map) (drop l.table-index l.tables)
      → Each (HasOnlyRows (g.M.Map.state l.fn.map).map) l.tables;
}
