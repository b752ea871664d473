use Rattle.std.proofs.Common.{drop}
use Rattle.expressions.specs.Rows.{names_of}
use Rattle.executor.proofs.Known.{StillComes}
use Rattle.executor.proofs.known_columns.passes_in_spans.Given as goal

-- the rows of the spans so far are let through
abbrev pub invariant-loop-span : goal.invariant-loop-span
invariant-loop-span l = StillComes l.table (names_of l.users) l.conditions l.spans (drop l.span-index l.spans)
