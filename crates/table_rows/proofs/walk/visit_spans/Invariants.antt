use Rattle.std.proofs.Common.{◌≡◌, ◌+◌, ℕ, drop, length}
use Rattle.store.specs.Records.{entries_where}
use Rattle.store.specs.Store.{OnlyReads}
use Rattle.key_ranges.specs.Spans.{is_in_spans}
use Rattle.table_rows.specs.Walked.{Walking}
use Rattle.table_rows.specs.Costs.{walk_cost}
use Rattle.table_rows.proofs.walk.visit_spans.Given as goal

-- what is left is in the spans that still come
abbrev pub invariant-loop-span : goal.invariant-loop-span
invariant-loop-span g l = record {
  preserved : g.M.Map.preserved l.fn.records l.records;
  reads : OnlyReads (g.M.Map.state l.fn.records) (g.M.Map.state l.records);
  works : (g.M.Map.state l.records).has_failed ≡ (g.M.Map.state l.fn.records).has_failed;
  walked : (g.M.Map.state l.fn.records).sound → (id : ℕ) → Walking id l.columns (entries_where (is_in_spans l.spans) (g.M.Map.state l.fn.records).map) (entries_where (is_in_spans (drop l.span-index l.spans)) (g.M.Map.state l.fn.records).map)
      (g.V.RowVisitor.after l.fn.visitor id l.columns) (g.V.RowVisitor.after l.visitor id l.columns);
  cost : (g.M.Map.state l.fn.records).sound → (spent : ℕ) × g.M.Map.cost l.fn.records l.records spent
      × (spent + walk_cost (length (drop l.span-index l.spans)) (entries_where (is_in_spans (drop l.span-index l.spans)) (g.M.Map.state l.fn.records).map) ≡ walk_cost (length l.spans) (entries_where (is_in_spans l.spans) (g.M.Map.state l.fn.records).map));
}
