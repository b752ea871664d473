use Rattle.privilege_laws.specs.ColumnRuns.{but_hidden, TellsColumns}
use Rattle.privilege_laws.proofs.ColumnRuns.{column_runs_told}
use Rattle.privilege_laws.proofs.PatternsTold.{runs_part}
use Rattle.privilege_laws.proofs.columns.tenants_are_told_but_hidden_columns.Goals as goal

pub returns-clause-runs : goal.returns-clause-runs
returns-clause-runs c = column_runs_told

pub returns-clause-parts : goal.returns-clause-parts
returns-clause-parts c = λ hidden. runs_part (but_hidden hidden) TellsColumns
