use Rattle.std.proofs.Common.{◌<◌, ℕ, [], get_or}
use Rattle.journal.specs.Journal.{IsSound}
use Rattle.journal.specs.Sectors.{sector_at}
use Rattle.journal.proofs.chain.are_sound.Given as goal

-- the sectors before this one have no fault
abbrev pub invariant-loop-place : goal.invariant-loop-place
invariant-loop-place l = (q : ℕ) → q < l.place → IsSound l.root l.room l.end q (sector_at l.room (get_or l.sectors q []))
