use Rattle.std.proofs.Common.{◌≡◌, ◌≤◌, ◌+◌}
use Rattle.store.specs.Store.{OnlyReads}
use Rattle.copies.specs.RecordCopies.{behind_mark}
use Rattle.copies.specs.Wanted.{leaves_of}
use Rattle.copies.proofs.Counted.{HasLeft}
use Rattle.copies.proofs.wanted.count_leaves.Given as goal

-- the leaves so far are counted, and the records that fill the others are ahead
abbrev pub invariant-loop : goal.invariant-loop
invariant-loop g l = record {
  preserved : g.M.Map.preserved l.fn.source l.source;
  reads : OnlyReads (g.M.Map.state l.fn.source) (g.M.Map.state l.source);
  works : (g.M.Map.state l.source).has_failed ≡ (g.M.Map.state l.fn.source).has_failed;
  left : (g.M.Map.state l.fn.source).sound
      → HasLeft (g.M.Map.ahead l.source l.place) l.leaves l.used (leaves_of (behind_mark (g.M.Map.state l.fn.source).map));
  room : l.used ≤ 4092;
  few : l.leaves ≤ l.counter + 1;
}
