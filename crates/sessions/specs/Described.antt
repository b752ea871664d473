-- What is told of a statement that is not carried out.
use Rattle.std.specs.Prelude.{◌≡◌, ◌⊎◌, Option, Ok}
use Rattle.sql_types.specs.declared.state.SqlState.TheVariants.{OutOfMemory}
use Rattle.sql_ast.specs.declared.description.StatementDescription.{StatementDescription}
use Rattle.sql_ast.specs.declared.description.StatementDescription.TheVariants.{Refused}
use Rattle.sql_ast.specs.declared.statement.Statement.{Statement}
use Rattle.store.specs.Records.{Records}
use Rattle.abstract_database.specs.Database.{Database}
use Rattle.abstract_database.specs.Descriptions.{description_in}
use Rattle.abstract_database.specs.Machine.{Holder}
use Rattle.server.specs.Decisions.{Entries, machine_at}
use Rattle.sessions.specs.Serving.{IsOpenOver}
use Rattle.sessions.specs.declared.statements.OpenSession.{OpenSession}

-- memory was refused, or in each machine that some records show and in which the session is open it is what the statement would answer
abbrev pub DescribesThere : OpenSession → Statement → StatementDescription → Type 0
DescribesThere at x told = (records : Records) (db : Database) (holder : Option Holder) (sessions : Entries) → IsOpenOver records at db holder sessions
    → (told ≡ Refused OutOfMemory) ⊎ (told ≡ description_in (machine_at db holder sessions) at.number at.session.now (Ok x))
