use Rattle.std.proofs.Common.{◌≡◌, ◌≤◌, ◌+◌, ◌∷◌, [], false}
use Rattle.store.specs.Store.{KeepsHistory, OnlyReads}
use Rattle.copies.specs.RecordCopies.{mark, behind_mark}
use Rattle.copies.proofs.Progress.{Grows, HasRest}
use Rattle.copies.proofs.record_copies.copy_records.Given as goal

-- the target has the mark and the records so far, and the others are ahead; neither has failed
abbrev pub invariant-loop : goal.invariant-loop
invariant-loop g l = record {
  preserved : g.M.Map.preserved l.fn.source l.source;
  reads : OnlyReads (g.M.Map.state l.fn.source) (g.M.Map.state l.source);
  works : (g.M.Map.state l.source).has_failed ≡ (g.M.Map.state l.fn.source).has_failed;
  rest : (g.M.Map.state l.fn.source).sound → HasRest (g.M.Map.ahead l.source l.place) (behind_mark (g.M.Map.state l.fn.source).map);
  history : KeepsHistory (g.S.Map.state l.fn.target) (g.S.Map.state l.target);
  target_works : (g.S.Map.state l.target).has_failed ≡ (g.S.Map.state l.fn.target).has_failed;
  number : (g.S.Map.state l.fn.target).sound → (g.S.Map.state l.fn.target).has_failed ≡ false → (g.S.Map.state l.target).number ≤ (g.S.Map.state l.fn.target).number + l.counter;
  grown : (g.M.Map.state l.fn.source).sound → (g.S.Map.state l.fn.target).sound → (g.S.Map.state l.fn.target).has_failed ≡ false
      → (g.S.Map.state l.fn.target).map ≡ mark ∷ []
      → Grows (g.M.Map.ahead l.source l.place) (behind_mark (g.M.Map.state l.fn.source).map) (g.S.Map.state l.fn.target) (g.S.Map.state l.target);
}
