use Rattle.std.proofs.Common.{◌≡◌, ◌<◌, ◌+◌, ℕ, [], length, get_or}
use Rattle.sector_device.specs.Device.{KeepsHistory}
use Rattle.sector_device.specs.Page.{ReadsPage}
use Rattle.journal.proofs.reading.read_sectors.Given as goal

-- the sectors before this one are read
abbrev pub invariant-loop-index : goal.invariant-loop-index
invariant-loop-index g l =
    let old = g.D.Device.state l.fn.device in
    let now = g.D.Device.state l.device in
    record {
      history : KeepsHistory old now;
      only_reads : old.faithful → ReadsPage old now;
      count : length l.sectors ≡ length l.fn.sectors;
      read : old.faithful → (q : ℕ) → q < l.index → get_or l.sectors q [] ≡ old.content (l.first + q);
    }
