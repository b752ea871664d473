use Rattle.std.proofs.Common.{◌≡◌, ◌<◌, ℕ, [], drop, get_or}
use Rattle.journal.specs.Chain.{Holds}
use Rattle.journal.specs.Sectors.{sector_at}
use Rattle.journal.specs.Reading.{part_under}
use Rattle.journal.proofs.chain.holds_parts.Given as goal

-- the sectors before this one hold their parts
abbrev pub invariant-loop-index : goal.invariant-loop-index
invariant-loop-index l = (i : ℕ) → i < l.index → sector_at l.room (get_or l.sectors i []) ≡ Holds (part_under l.tag i (drop 24 (get_or l.sectors i [])))
