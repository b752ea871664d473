use Rattle.std.proofs.Common.{◌≡◌, drop}
use Rattle.table_rows.specs.Targets.{admits}
use Rattle.table_rows.specs.NewRows.{all_admitted}
use Rattle.table_rows.proofs.checks.check_admitted.Given as goal

abbrev pub invariant-loop-row : goal.invariant-loop-row
invariant-loop-row l = all_admitted (admits l.target) l.rows ≡ all_admitted (admits l.target) (drop l.row-index l.rows)
