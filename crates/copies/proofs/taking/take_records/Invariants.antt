use Rattle.std.proofs.Common.{◌≡◌, true}
use Rattle.store.specs.Records.{Records}
use Rattle.store.specs.Store.{OnlyReads}
use Rattle.copies.specs.RecordCopies.{Fills}
use Rattle.copies.proofs.taking.take_records.Given as goal

-- the records so far are in the batch
abbrev pub invariant-loop : goal.invariant-loop
invariant-loop g l = record {
  preserved : g.M.Map.preserved l.fn.source l.source;
  reads : OnlyReads (g.M.Map.state l.fn.source) (g.M.Map.state l.source);
  works : (g.M.Map.state l.source).has_failed ≡ (g.M.Map.state l.fn.source).has_failed;
  filled : (g.M.Map.state l.fn.source).sound → (records : Records) → g.M.Map.ahead l.fn.source l.fn.place records
      → Fills (g.M.Map.ahead l.source l.place) true records l.fn.batch l.batch;
}
