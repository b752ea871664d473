use Rattle.std.proofs.Common.{◌≡◌, ◌<◌, ◌*◌, ℕ, length, get_or}
use Rattle.sector_device.specs.Device.{KeepsHistory}
use Rattle.page_roots.specs.MapPage.{entries_in}
use Rattle.cow_pages.specs.Image.{bytes_of_page}
use Rattle.cow_pages.specs.Held.{KeepsContent, part_of}
use Rattle.cow_pages.proofs.open.read_maps.Given as goal

abbrev pub invariant-loop-page : goal.invariant-loop-page
invariant-loop-page g l =
    let old = g.D.Device.state l.fn.device in
    let now = g.D.Device.state l.device in
    record {
      history : KeepsHistory old now;
      reads : old.faithful → KeepsContent old now;
      count : length l.entries.items ≡ 1024 * l.page-index;
      each : old.faithful → (j : ℕ) → j < l.page-index → entries_in (bytes_of_page old.content (get_or l.maps j 0)) ≡ part_of l.entries.items j;
    }
