-- What a statement would answer in a session, as far as that depends on no row.
use Rattle.std.specs.Prelude.{◌≡◌, ◌⊎◌, ℕ, not, List, [], ◌∷◌, map, flat_map, codes, slice_get, if◌then◌else◌, Option, Some, None, Result, Ok, Err}
use Rattle.sql_types.specs.declared.state.SqlState.{SqlState}
use Rattle.sql_types.specs.declared.state.SqlState.TheVariants.{InsufficientPrivilege, InFailedTransaction, InvalidAuthorization, ConnectionDoesNotExist, IoError, OutOfMemory}
use Rattle.sql_ast.specs.declared.columns.Column.{Column}
use Rattle.sql_ast.specs.declared.columns.ColumnType.{ColumnType}
use Rattle.sql_ast.specs.declared.columns.ColumnType.TheVariants as type
use Rattle.sql_ast.specs.declared.description.ResultColumn.{ResultColumn}
use Rattle.sql_ast.specs.declared.description.StatementDescription.{StatementDescription}
use Rattle.sql_ast.specs.declared.description.StatementDescription.TheVariants.{Rows, NoRows, Refused}
use Rattle.sql_ast.specs.declared.scope.ColumnIndex.{ColumnIndex}
use Rattle.sql_ast.specs.declared.statement.DatabaseStatement.{DatabaseStatement}
use Rattle.sql_ast.specs.declared.statement.DatabaseStatement.TheVariants as on_database
use Rattle.sql_ast.specs.declared.statement.Statement.TheVariants as statement
use Rattle.sql_ast.specs.Scope.{Table as ScopeTable, columns_of, type_at}
use Rattle.sql_ast.specs.Term.{Term, column, current_user, session_user}
use Rattle.expressions.specs.Meaning.{UserNames}
use Rattle.expressions.specs.Stages.{◌>>=◌, require}
use Rattle.expressions.specs.Types.{ValueType, type_of}
use Rattle.abstract_database.specs.Database.{Database, TableOf, has_role}
use Rattle.abstract_database.specs.Expressions.{called}
use Rattle.abstract_database.specs.Queries.{BoundList, each_column, each_value, their_count}
use Rattle.abstract_database.specs.Statements.{Checked, selects, checked_over_rows, UserPair, as_seen}
use Rattle.abstract_database.specs.Machine.{Machine, Session, Reading, has_failed, keeps_role, seen, session_of, users_of}
use Rattle.abstract_database.specs.Runs.{TheText, ReadingRelation, MayRead}

-- ---- columns

abbrev pub name_of_column : Option Column → List ℕ
name_of_column None = codes "?column?"
name_of_column (Some c) = c.name

-- the name of what an expression answers, as PostgreSQL has it
abbrev pub result_name : List ScopeTable → Term ColumnIndex → List ℕ
result_name tables (column c) = name_of_column (slice_get (columns_of (slice_get tables c.table)) c.column)
result_name tables current_user = codes "current_user"
result_name tables session_user = codes "session_user"
result_name tables _ = codes "?column?"

-- what has no type answers NULL alone, and counts as text
abbrev pub type_or_text : Result ValueType SqlState → ColumnType
type_or_text (Ok (Some t)) = t
type_or_text _ = type.Text

abbrev pub result_column : List ScopeTable → Term ColumnIndex → ResultColumn
result_column tables term = record { name = result_name tables term; column_type = type_or_text (type_of (type_at tables) term) }

abbrev pub column_as_it_is : Column → ResultColumn
column_as_it_is c = record { name = c.name; column_type = c.column_type }

-- the columns of a SELECT over these tables
abbrev pub result_columns : List TableOf → BoundList → List ResultColumn
result_columns tables each_column = flat_map (λ t. map column_as_it_is t.layout.columns) tables
result_columns tables (each_value terms) = map (result_column (map (λ t. called t.name t) tables)) terms
result_columns tables their_count = record { name = codes "count"; column_type = type.BigInt } ∷ []

-- ---- statements

abbrev pub described : Checked → StatementDescription
described (selects c) = Rows (result_columns c.tables c.query.list)
described _ = NoRows

abbrev pub described_or_refused : Result Checked SqlState → StatementDescription
described_or_refused (Ok c) = described c
described_or_refused (Err code) = Refused code

-- a statement over rows is checked; what others are refused for is told when they are carried out
abbrev pub describe_on_database : Database → UserNames → DatabaseStatement → StatementDescription
describe_on_database db users (on_database.OverRows s) = described_or_refused (checked_over_rows db users s)
describe_on_database db users (on_database.Defining s) = NoRows

abbrev pub describe : Database → UserPair → DatabaseStatement → StatementDescription
describe db pair s = describe_on_database db (as_seen pair db) s

-- ---- sessions

-- as before a SELECT is executed: nobody's writer lock matters
abbrev pub may_describe : Machine → ℕ → Session → Result (Unit {0}) SqlState
may_describe m number s = do
  unfailed ← require (not (has_failed s.block)) InFailedTransaction
  authorized ← require (has_role (seen m number) s.login) InvalidAuthorization
  require (keeps_role (seen m number) s) InsufficientPrivilege

abbrev pub described_if : Result (Unit {0}) SqlState → StatementDescription → StatementDescription
described_if (Ok free) d = d
described_if (Err code) d = Refused code

abbrev pub description_in : Machine → ℕ → Session → Reading → StatementDescription
description_in m number s (Err code) = Refused code
description_in m number s (Ok (statement.OfSession x)) = NoRows
description_in m number s (Ok (statement.OnDatabase x)) = described_if (may_describe m number s) (describe (seen m number) (users_of s) x)

abbrev pub description_for : Machine → ℕ → Reading → Option Session → StatementDescription
description_for m number reading None = Refused ConnectionDoesNotExist
description_for m number reading (Some s) = description_in m number s reading

-- in the session of this number
abbrev pub description : Machine → ℕ → Reading → StatementDescription
description m number reading = if m.stopped then Refused IoError else description_for m number reading (session_of number m.sessions)

-- what is told of a text, by what it is read as; or memory was refused
abbrev pub IsDescription : ReadingRelation → Machine → ℕ → TheText → StatementDescription → Type 0
IsDescription Reads m number text d = (d ≡ Refused OutOfMemory) ⊎ ((reading : Reading) × (MayRead m number → Reads text reading) × (d ≡ description m number reading))
