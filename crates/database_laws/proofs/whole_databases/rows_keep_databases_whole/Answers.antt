use Rattle.sql_ast.specs.declared.statement.DatabaseStatement.TheVariants as on_database
use Rattle.sql_ast.specs.declared.statement.RowStatement.TheVariants as over_rows
use Rattle.database_laws.proofs.StatementLemmas.{kept_for}
use Rattle.database_laws.proofs.whole_databases.rows_keep_databases_whole.Goals as goal

pub returns-clause-insert : goal.returns-clause-insert
returns-clause-insert c = λ db users s e read w are is. kept_for db users (on_database.OverRows (over_rows.Insert s)) e read w are is

pub returns-clause-update : goal.returns-clause-update
returns-clause-update c = λ db users s e read w are is. kept_for db users (on_database.OverRows (over_rows.Update s)) e read w are is

pub returns-clause-delete : goal.returns-clause-delete
returns-clause-delete c = λ db users s e read w are is. kept_for db users (on_database.OverRows (over_rows.Delete s)) e read w are is

pub returns-clause-select : goal.returns-clause-select
returns-clause-select c = λ db users s e read w are is. kept_for db users (on_database.OverRows (over_rows.Select s)) e read w are is
