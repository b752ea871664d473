use Rattle.std.proofs.Common.{◌≤◌, ◌*◌, ℕ, List}
use Rattle.sha2.specs.Hashers.{Holds256}
use Rattle.sector_device.specs.Device.{KeepsHistory}
use Rattle.cow_pages.specs.Held.{KeepsContent}
use Rattle.dumps.proofs.ListsRead.{HasReadLists}
use Rattle.dumps.proofs.checking.read_to_end.Given as goal

-- the lists before this one were read
abbrev pub invariant-loop : goal.invariant-loop
invariant-loop g l =
    let old = g.D.Device.state l.fn.dump in
    let now = g.D.Device.state l.dump in
    record {
      history : KeepsHistory old now;
      content : old.faithful → KeepsContent old now;
      so_far : old.faithful → (before : List ℕ) → Holds256 l.fn.place.hasher before → 8 * l.fn.place.page ≤ old.sectors → HasReadLists old.sectors old.content before l.fn.place l.place;
    }
