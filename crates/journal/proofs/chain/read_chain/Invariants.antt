use Rattle.std.proofs.Common.{◌-◌}
use Rattle.journal.specs.Reading.{region_of, entries_of, AreWhole}
use Rattle.journal.proofs.Opening.{ReadsChain}
use Rattle.journal.proofs.chain.read_chain.Given as goal

-- the records before this place are read
abbrev pub invariant-loop-tag : goal.invariant-loop-tag
invariant-loop-tag l = record {
  chain : ReadsChain l.root l.last l.room l.end (region_of l.room l.sectors) (entries_of l.records.items);
  whole : AreWhole l.records.items;
}

abbrev pub decreases-loop-tag : goal.decreases-loop-tag
decreases-loop-tag l = l.room - l.end
