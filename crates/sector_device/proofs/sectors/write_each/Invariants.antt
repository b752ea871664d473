use Rattle.std.proofs.Common.{◌≡◌, ◌<◌, ◌+◌, ℕ, [], get_or}
use Rattle.sector_device.specs.Device.{KeepsHistory}
use Rattle.sector_device.specs.Sectors.{WritesSectors}
use Rattle.sector_device.proofs.sectors.write_each.Given as goal

-- the sectors before this one are written
abbrev pub invariant-loop-index : goal.invariant-loop-index
invariant-loop-index g l =
    let old = g.D.Device.state l.fn.device in
    let now = g.D.Device.state l.device in
    record {
      history : KeepsHistory old now;
      writes : old.faithful → WritesSectors l.first l.sectors old now;
      written : old.faithful → (k : ℕ) → k < l.index → now.content (l.first + k) ≡ get_or l.sectors k [];
    }
