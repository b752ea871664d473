use Rattle.std.proofs.Common.{◌≡◌, ◌≤◌, ◌+◌, ℕ, min, drop, length}
use Rattle.store.specs.Records.{entries_where}
use Rattle.store.specs.Store.{OnlyReads}
use Rattle.key_ranges.specs.Spans.{is_in_spans}
use Rattle.table_rows.specs.Costs.{walk_cost}
use Rattle.executor.proofs.counted.count_in_spans_to.Given as goal

-- the count so far, and the records in the spans that still come
abbrev pub invariant-loop-span : goal.invariant-loop-span
invariant-loop-span g l = record {
  preserved : g.M.Map.preserved l.fn.records l.records;
  reads : OnlyReads (g.M.Map.state l.fn.records) (g.M.Map.state l.records);
  works : (g.M.Map.state l.records).has_failed ≡ (g.M.Map.state l.fn.records).has_failed;
  few : (g.M.Map.state l.fn.records).sound → l.count ≤ l.most;
  counted : (g.M.Map.state l.fn.records).sound → min (length (entries_where (is_in_spans l.spans) (g.M.Map.state l.fn.records).map)) l.most
      ≡ min (l.count + length (entries_where (is_in_spans (drop l.span-index l.spans)) (g.M.Map.state l.fn.records).map)) l.most;
  cost : (g.M.Map.state l.fn.records).sound → (spent : ℕ) × g.M.Map.cost l.fn.records l.records spent
      × (spent + walk_cost (length (drop l.span-index l.spans)) (entries_where (is_in_spans (drop l.span-index l.spans)) (g.M.Map.state l.fn.records).map) ≤ walk_cost (length l.spans) (entries_where (is_in_spans l.spans) (g.M.Map.state l.fn.records).map));
}
