use Rattle.std.proofs.Common.{◌≡◌, ◌<◌, ◌+◌, ℕ, length}
use Rattle.sector_device.specs.Device.{KeepsHistory}
use Rattle.sector_device.specs.FileState.{sector_of}
use Rattle.sector_device.specs.Page.{ReadsPage}
use Rattle.sector_device.proofs.device.Device.read_page.Given as goal

abbrev pub invariant-loop-part : goal.invariant-loop-part
invariant-loop-part g l =
    let old = g.Self.Device.state l.fn.self in
    let now = g.Self.Device.state l.self in
    record {
      long : length l.bytes ≡ 4096;
      history : KeepsHistory old now;
      only_reads : old.faithful → ReadsPage old now;
      bytes : old.faithful → (k : ℕ) → k < l.part → old.content (l.first + k) ≡ sector_of k l.bytes;
    }
