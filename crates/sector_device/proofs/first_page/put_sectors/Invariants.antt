use Rattle.std.proofs.Common.{◌≡◌, ◌≤◌, ◌<◌, ◌+◌, [], ℕ, length, get_or}
use Rattle.sector_device.specs.FileState.{sector_of}
use Rattle.sector_device.specs.Page.{IsOutside}
use Rattle.sector_device.proofs.first_page.put_sectors.Given as goal

-- the sectors before this one are in the page
abbrev pub invariant-loop-index : goal.invariant-loop-index
invariant-loop-index l = record {
  long : length l.bytes ≡ 4096;
  others : (k : ℕ) → IsOutside l.first (length l.sectors) k → sector_of k l.bytes ≡ sector_of k l.fn.bytes;
  written : (i : ℕ) → i < l.index → sector_of (l.first + i) l.bytes ≡ get_or l.sectors i [];
}
