use Rattle.std.proofs.Common.{map, drop}
use Rattle.expressions.proofs.Each.{Left}
use Rattle.planner.specs.Tables.{table_in}
use Rattle.planner.proofs.tables.find_tables.Given as goal

abbrev pub invariant-loop-reference : goal.invariant-loop-reference
invariant-loop-reference l = Left (λ r. table_in l.catalogue r.now.table) l.references (drop l.reference-index l.references) (map (λ t. t.now) l.tables)
