use Rattle.std.proofs.Common.{◌≡◌, ◌*◌, length}
use Rattle.sector_device.specs.Device.{KeepsHistory}
use Rattle.cow_pages.specs.Held.{KeepsContent}
use Rattle.dumps.specs.OnDevice.{bytes_from}
use Rattle.dumps.proofs.device_pages.read_pages.Given as goal

-- the pages before this one are read
abbrev pub invariant-loop-index : goal.invariant-loop-index
invariant-loop-index g l =
    let old = g.D.Device.state l.fn.device in
    let now = g.D.Device.state l.device in
    record {
      history : KeepsHistory old now;
      content : old.faithful → KeepsContent old now;
      bytes : old.faithful → l.bytes.items ≡ bytes_from old.content (8 * l.page) (8 * l.index);
      count : length l.bytes.items ≡ 4096 * l.index;
    }
