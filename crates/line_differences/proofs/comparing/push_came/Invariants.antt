use Rattle.std.proofs.Common.{◌≡◌, ◌++◌, map, drop}
use Rattle.entry_differences.specs.Differences.{put_of}
use Rattle.line_differences.specs.Lines.{lines_of, changes_of}
use Rattle.line_differences.proofs.comparing.push_came.Given as goal

abbrev pub invariant-loop-index : goal.invariant-loop-index
invariant-loop-index l = changes_of l.found.items ++ map put_of (lines_of (drop l.index l.lines)) ≡ changes_of l.fn.found.items ++ map put_of (lines_of (drop l.start l.lines))
