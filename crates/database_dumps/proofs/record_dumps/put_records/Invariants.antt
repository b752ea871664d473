use Rattle.std.proofs.Common.{◌≡◌, ◌≤◌, ◌<◌, ◌*◌, ℕ, List}
use Rattle.sha2.specs.Hashers.{Holds256}
use Rattle.sector_device.specs.Device.{KeepsHistory}
use Rattle.store.specs.Store.{OnlyReads}
use Rattle.copies.specs.RecordCopies.{behind_mark}
use Rattle.copies.proofs.Progress.{HasRest}
use Rattle.database_dumps.proofs.Dumped.{PutsSome}
use Rattle.database_dumps.proofs.record_dumps.put_records.Given as goal

-- the lists so far make some of the records, and the others are ahead
abbrev pub invariant-loop : goal.invariant-loop
invariant-loop g l =
    let first = g.M.Map.state l.fn.source in
    let last = g.M.Map.state l.source in
    let old = g.E.Device.state l.fn.target in
    let now = g.E.Device.state l.target in
    record {
      preserved : g.M.Map.preserved l.fn.source l.source;
      reads : OnlyReads first last;
      works : last.has_failed ≡ first.has_failed;
      rest : first.sound → HasRest (g.M.Map.ahead l.source l.at) (behind_mark first.map);
      history : KeepsHistory old now;
      further : l.fn.place.page ≤ l.place.page;
      before : old.faithful → (s : ℕ) → s < 8 * l.fn.place.page → now.content s ≡ old.content s;
      put : first.sound → old.faithful → (before : List ℕ) → Holds256 l.fn.place.hasher before → 8 * l.fn.place.page ≤ old.sectors
          → PutsSome (g.M.Map.ahead l.source l.at) now.sectors now.content before (behind_mark first.map) l.fn.place l.place;
    }
