use Rattle.std.proofs.Common.{◌≡◌, ◌≤◌, List, drop, length}
use Rattle.sql_types.specs.Row.{Row}
use Rattle.sql_ast.specs.Layout.{IsLayout}
use Rattle.sql_ast.specs.Fits.{FitsTable}
use Rattle.store.specs.Records.{applied, IsOrdered}
use Rattle.store.specs.Store.{OnlyReads}
use Rattle.abstract_database.specs.Whole.{Each}
use Rattle.table_rows.specs.HeldRows.{HoldsRows, ConcernRowsOf}
use Rattle.table_rows.proofs.Putting.{Putting}
use Rattle.table_rows.proofs.puts.put_rows.Given as goal

abbrev pub invariant-loop-row : goal.invariant-loop-row
invariant-loop-row g l = record {
  preserved : g.M.Map.preserved l.fn.records l.records;
  reads : OnlyReads (g.M.Map.state l.fn.records) (g.M.Map.state l.records);
  works : (g.M.Map.state l.records).has_failed ≡ (g.M.Map.state l.fn.records).has_failed;
  few : l.row-index ≤ length l.rows;
  cost : g.M.Map.cost l.fn.records l.records l.row-index;
  concern : ConcernRowsOf l.id l.fn.changes → ConcernRowsOf l.id l.changes;
  putting : (g.M.Map.state l.fn.records).sound → (others : List Row) → IsLayout l.columns → IsOrdered l.fn.changes → HoldsRows l.id l.columns (applied l.fn.changes (g.M.Map.state l.fn.records).map) others → Each (FitsTable l.columns) l.rows
      → Putting l.id l.columns l.rows (drop l.row-index l.rows) others (g.M.Map.state l.fn.records).map l.fn.changes l.changes;
}
