use Rattle.std.proofs.Common.{◌≡◌, ◌*◌, ℕ, take}
use Rattle.sector_device.specs.Device.{KeepsHistory}
use Rattle.sector_device.specs.Page.{IsOutside}
use Rattle.dumps.specs.OnDevice.{bytes_from}
use Rattle.dumps.proofs.device_pages.write_pages.Given as goal

-- the pages before this one are written, and no other
abbrev pub invariant-loop-index : goal.invariant-loop-index
invariant-loop-index g l =
    let old = g.D.Device.state l.fn.device in
    let now = g.D.Device.state l.device in
    record {
      history : KeepsHistory old now;
      others : old.faithful → (s : ℕ) → IsOutside (8 * l.page) (8 * l.index) s → now.content s ≡ old.content s;
      written : old.faithful → bytes_from now.content (8 * l.page) (8 * l.index) ≡ take (4096 * l.index) l.bytes;
    }
