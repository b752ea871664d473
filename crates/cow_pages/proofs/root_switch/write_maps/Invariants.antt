use Rattle.std.proofs.Common.{◌≡◌, ℕ, ◌<◌, get_or}
use Rattle.sector_device.specs.Timeline.{LeavesOnly}
use Rattle.sector_device.specs.Device.{KeepsHistory, timeline}
use Rattle.sector_device.specs.Page.{IsAlone}
use Rattle.page_roots.specs.MapPage.{entries_in}
use Rattle.cow_pages.specs.Image.{bytes_of_page}
use Rattle.cow_pages.specs.Held.{part_of}
use Rattle.cow_pages.specs.Cached.{AgreesWith}
use Rattle.cow_pages.specs.Commit.{IsApart, AgreesApart}
use Rattle.cow_pages.proofs.root_switch.write_maps.Given as goal

abbrev pub invariant-loop-index : goal.invariant-loop-index
invariant-loop-index g l =
    let old = g.D.Device.state l.fn.device in
    let now = g.D.Device.state l.device in
    record {
      history : KeepsHistory old now;
      leaves : old.faithful → LeavesOnly (AgreesApart l.pages old) (timeline old) (timeline now);
      alone : old.faithful → (s : ℕ) → IsApart l.pages s → IsAlone old now s;
      written : old.faithful → (j : ℕ) → j < l.index → 0 < get_or l.pages j 0 → entries_in (bytes_of_page now.content (get_or l.pages j 0)) ≡ part_of l.entries j;
      cached : old.faithful → AgreesWith l.fn.cache old.content → AgreesWith l.cache now.content;
    }
