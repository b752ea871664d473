use Rattle.sql_ast.specs.declared.statement.DatabaseStatement.TheVariants as on_database
use Rattle.database_laws.proofs.StatementLemmas.{kept_for}
use Rattle.database_laws.proofs.whole_databases.definitions_keep_databases_whole.Goals as goal

pub returns : goal.returns
returns c = λ db users x e read w are is. kept_for db users (on_database.Defining x) e read w are is
