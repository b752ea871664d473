use Rattle.std.proofs.Common.{◌≡◌, ◌≤◌, ◌*◌, ◌∷◌, [], false, ℕ, List}
use Rattle.sha2.specs.Hashers.{Holds256}
use Rattle.sector_device.specs.Device.{KeepsHistory as DeviceHistory}
use Rattle.cow_pages.specs.Held.{KeepsContent}
use Rattle.store.specs.Store.{KeepsHistory}
use Rattle.copies.specs.RecordCopies.{mark}
use Rattle.dumps.proofs.ListsRead.{HasReadLists}
use Rattle.database_dumps.proofs.Restored.{HasCommittedSome}
use Rattle.database_dumps.proofs.restored_lists.commit_lists.Given as goal

-- the lists before this one were read and committed
abbrev pub invariant-loop : goal.invariant-loop
invariant-loop g l =
    let old = g.D.Device.state l.fn.dump in
    let now = g.D.Device.state l.dump in
    let first = g.S.Map.state l.fn.store in
    let last = g.S.Map.state l.store in
    record {
      dump : DeviceHistory old now;
      content : old.faithful → KeepsContent old now;
      history : KeepsHistory first last;
      works : last.has_failed ≡ first.has_failed;
      read : old.faithful → (before : List ℕ) → Holds256 l.fn.place.hasher before → 8 * l.fn.place.page ≤ old.sectors → HasReadLists old.sectors old.content before l.fn.place l.place;
      committed : old.faithful → first.sound → first.has_failed ≡ false → first.map ≡ mark ∷ [] → (before : List ℕ) → Holds256 l.fn.place.hasher before → 8 * l.fn.place.page ≤ old.sectors
          → HasCommittedSome old.sectors old.content before l.fn.place l.place first last;
    }
