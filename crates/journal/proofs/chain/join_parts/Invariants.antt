use Rattle.std.proofs.Common.{◌≡◌, ◌*◌, ℕ, List, length, map, take, drop}
use Rattle.journal.specs.Records.{parts_of}
use Rattle.journal.proofs.chain.join_parts.Given as goal

-- the parts before this one are there
abbrev pub invariant-loop-sector : goal.invariant-loop-sector
invariant-loop-sector l = record {
  parts : parts_of l.sector-index l.bytes.items ≡ map (λ (sector : List ℕ). drop 24 sector) (take l.sector-index l.sectors);
  long : length l.bytes.items ≡ 488 * l.sector-index;
}
