use Rattle.std.proofs.Common.{◌≡◌, ◌<◌, ◌+◌, ℕ}
use Rattle.sector_device.specs.Device.{KeepsHistory}
use Rattle.sector_device.specs.FileState.{sector_of}
use Rattle.sector_device.specs.Page.{WritesPage}
use Rattle.sector_device.proofs.device.Device.write_page.Given as goal

abbrev pub invariant-loop-part : goal.invariant-loop-part
invariant-loop-part g l =
    let old = g.Self.Device.state l.fn.self in
    let now = g.Self.Device.state l.self in
    record {
      history : KeepsHistory old now;
      writes : old.faithful → WritesPage l.first l.bytes old now;
      written : old.faithful → (k : ℕ) → k < l.part → now.content (l.first + k) ≡ sector_of k l.bytes;
    }
