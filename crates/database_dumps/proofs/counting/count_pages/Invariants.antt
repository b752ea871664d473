use Rattle.std.proofs.Common.{◌≡◌}
use Rattle.store.specs.Store.{OnlyReads}
use Rattle.copies.specs.RecordCopies.{behind_mark}
use Rattle.copies.proofs.Progress.{HasRest}
use Rattle.database_dumps.proofs.counting.count_pages.Given as goal

-- the map was only read, and the records not taken yet are ahead
abbrev pub invariant-loop : goal.invariant-loop
invariant-loop g l =
    let first = g.M.Map.state l.fn.source in
    let last = g.M.Map.state l.source in
    record {
      preserved : g.M.Map.preserved l.fn.source l.source;
      reads : OnlyReads first last;
      works : last.has_failed ≡ first.has_failed;
      rest : first.sound → HasRest (g.M.Map.ahead l.source l.at) (behind_mark first.map);
    }
