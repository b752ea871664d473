use Rattle.std.proofs.Common.{drop}
use Rattle.expressions.proofs.Each.{Left}
use Rattle.abstract_database.specs.Checks.{found_column}
use Rattle.planner.proofs.targets.find_columns.Given as goal

abbrev pub invariant-loop-name : goal.invariant-loop-name
invariant-loop-name l = Left (λ n. found_column l.columns n.now) l.names (drop l.name-index l.names) l.found
