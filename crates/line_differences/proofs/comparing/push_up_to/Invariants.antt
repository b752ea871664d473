use Rattle.std.proofs.Common.{◌≡◌, ◌≤◌, ◌-◌, ◌++◌, ◌∷◌, length, drop}
use Rattle.store.specs.Records.{Records}
use Rattle.entry_differences.specs.Differences.{differences}
use Rattle.line_differences.specs.Lines.{line_of, lines_of, changes_of}
use Rattle.line_differences.proofs.comparing.push_up_to.Given as goal

abbrev pub invariant-loop-next : goal.invariant-loop-next
invariant-loop-next l = record {
  added : (later : Records) → changes_of l.found.items ++ differences (line_of l.old ∷ later) (lines_of (drop l.next l.new)) ≡ changes_of l.fn.found.items ++ differences (line_of l.old ∷ later) (lines_of (drop l.fn.next l.new));
  next : l.next ≤ length l.new;
}

abbrev pub decreases-loop-next : goal.decreases-loop-next
decreases-loop-next l = length l.new - l.next
