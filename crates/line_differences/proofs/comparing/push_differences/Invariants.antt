use Rattle.std.proofs.Common.{◌≡◌, ◌≤◌, ◌++◌, length, drop}
use Rattle.entry_differences.specs.Differences.{differences}
use Rattle.line_differences.specs.Lines.{lines_of, changes_of}
use Rattle.line_differences.proofs.comparing.push_differences.Given as goal

-- what differs between the lines to come is left to add
abbrev pub invariant-loop-line : goal.invariant-loop-line
invariant-loop-line l = record {
  added : changes_of l.found.items ++ differences (lines_of (drop l.line-index l.old)) (lines_of (drop l.next l.new)) ≡ changes_of l.fn.found.items ++ differences (lines_of l.old) (lines_of l.new);
  next : l.next ≤ length l.new;
}
