-- Lines of a description as records, whose key is what a line is about, and what differs as changes of these.
use Rattle.std.specs.Prelude.{ℕ, List, map, Option}
use Rattle.store.specs.Records.{Record, Records, Changes}
use Rattle.entry_differences.specs.Differences.{removal, put_of}
use Rattle.line_differences.specs.declared.line.DescriptionLine.{DescriptionLine}
use Rattle.line_differences.specs.declared.line.LineDifference.{LineDifference}
use Rattle.line_differences.specs.declared.line.LineDifference.TheVariants as difference

abbrev pub line_of : DescriptionLine → Record
line_of l = (l.subject.now, l.content.now)

abbrev pub lines_of : List DescriptionLine → Records
lines_of lines = map line_of lines

-- a line that is gone is removed, and one that came or says something else is put
abbrev pub change_of : LineDifference → List ℕ × Option (List ℕ)
change_of (difference.Gone l) = removal (line_of l)
change_of (difference.Came l) = put_of (line_of l)
change_of (difference.Changed old new) = put_of (line_of new)

abbrev pub changes_of : List LineDifference → Changes
changes_of ds = map change_of ds
