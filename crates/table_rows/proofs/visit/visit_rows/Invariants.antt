use Rattle.std.proofs.Common.{◌≡◌, ◌+◌, ℕ, length}
use Rattle.store.specs.Records.{Records}
use Rattle.store.specs.Store.{OnlyReads}
use Rattle.store.specs.Walks.{span}
use Rattle.table_rows.specs.Walked.{Walking}
use Rattle.table_rows.proofs.visit.visit_rows.Given as goal

abbrev pub invariant-loop : goal.invariant-loop
invariant-loop g l = record {
  preserved : g.M.Map.preserved l.fn.records l.records;
  reads : OnlyReads (g.M.Map.state l.fn.records) (g.M.Map.state l.records);
  works : (g.M.Map.state l.records).has_failed ≡ (g.M.Map.state l.fn.records).has_failed;
  remains : (g.M.Map.state l.fn.records).sound → (left : Records) × g.M.Map.ahead_within l.records l.stop l.place left
      × ((id : ℕ) → Walking id l.columns (span l.start l.stop (g.M.Map.state l.fn.records).map) left (g.V.RowVisitor.after l.fn.visitor id l.columns) (g.V.RowVisitor.after l.visitor id l.columns))
      × (spent : ℕ) × g.M.Map.cost l.fn.records l.records spent × (spent + length left ≡ length (span l.start l.stop (g.M.Map.state l.fn.records).map) + 1);
}
