use Rattle.std.proofs.Common.{◌≡◌, ◌++◌, length, map}
use Rattle.access_texts.specs.Cells.{names_at}
use Rattle.access_texts.proofs.cells.column_names.Given as goal

-- what was found, and what is left adds, are all
abbrev pub invariant-loop-rest : goal.invariant-loop-rest
invariant-loop-rest l = map (λ n. n.now) l.names.items ++ names_at l.table.definition.layout.columns l.rest ≡ names_at l.table.definition.layout.columns l.indices

abbrev pub decreases-loop-rest : goal.decreases-loop-rest
decreases-loop-rest l = length l.rest
