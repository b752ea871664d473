use Rattle.std.proofs.Common.{◌≡◌, length, map}
use Rattle.diagnostics.specs.Words.{entry, said_of}
use Rattle.diagnostics.proofs.words.said_of.Given as goal

abbrev pub invariant-loop-table : goal.invariant-loop-table
invariant-loop-table l = said_of (map entry l.table) l.word ≡ said_of (map entry l.initial.table) l.word

abbrev pub decreases-loop-table : goal.decreases-loop-table
decreases-loop-table l = length l.table
