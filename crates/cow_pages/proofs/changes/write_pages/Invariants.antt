use Rattle.std.proofs.Common.{◌≡◌, ℕ, ◌<◌, List, Some}
use Rattle.sector_device.specs.Timeline.{LeavesOnly}
use Rattle.sector_device.specs.Device.{KeepsHistory, timeline}
use Rattle.sector_device.specs.Page.{IsAlone}
use Rattle.cow_pages.specs.Image.{bytes_of_page}
use Rattle.cow_pages.specs.Dirty.{IsClean, AgreesOnClean}
use Rattle.cow_pages.specs.DirtyPages.{dirty_bytes, index_of}
use Rattle.cow_pages.specs.Cached.{AgreesWith}
use Rattle.cow_pages.proofs.changes.write_pages.Given as goal

abbrev pub invariant-loop-index : goal.invariant-loop-index
invariant-loop-index g l =
    let old = g.D.Device.state l.fn.device in
    let now = g.D.Device.state l.device in
    record {
      history : KeepsHistory old now;
      leaves : old.faithful → LeavesOnly (AgreesOnClean (dirty_bytes l.dirty) old) (timeline old) (timeline now);
      alone : old.faithful → (s : ℕ) → IsClean (dirty_bytes l.dirty) s → IsAlone old now s;
      written : old.faithful → (page : ℕ) (bytes : List ℕ) → dirty_bytes l.dirty page ≡ Some bytes → index_of l.dirty page < l.index → bytes_of_page now.content page ≡ bytes;
      cached : old.faithful → AgreesWith l.fn.cache old.content → AgreesWith l.cache now.content;
    }
