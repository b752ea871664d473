use Rattle.std.proofs.Common.{◌≡◌, ◌<◌, ℕ, [], length, get_or}
use Rattle.journal.specs.Chain.{part_of}
use Rattle.journal.specs.Sectors.{sector_bytes}
use Rattle.journal.specs.Records.{entry_of}
use Rattle.journal.proofs.record.write_sectors.Given as goal

-- the sectors before this one are made
abbrev pub invariant-loop-index : goal.invariant-loop-index
invariant-loop-index l = record {
  count : length l.sectors.items ≡ l.index;
  spelled : (i : ℕ) → i < l.index → get_or l.sectors.items i [] ≡ sector_bytes (part_of l.root (entry_of l.number l.bytes) i);
}
