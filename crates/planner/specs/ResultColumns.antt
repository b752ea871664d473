-- What is told of a statement over rows: the columns of what it answers, as far as they depend on no row.
use Rattle.std.specs.Prelude.{◌≡◌, ◌⊎◌, List, map, Option, Ok, slice_get}
use Rattle.sql_types.specs.declared.state.SqlState.TheVariants.{OutOfMemory}
use Rattle.sql_ast.specs.declared.columns.Column.{Column}
use Rattle.sql_ast.specs.declared.description.ResultColumn.{ResultColumn}
use Rattle.sql_ast.specs.declared.description.StatementDescription.{StatementDescription}
use Rattle.sql_ast.specs.declared.description.StatementDescription.TheVariants.{Refused}
use Rattle.sql_ast.specs.declared.scope.ColumnIndex.{ColumnIndex}
use Rattle.sql_ast.specs.declared.statement.RowStatement.{RowStatement}
use Rattle.sql_ast.specs.Scope.{Table as ScopeTable, columns_of}
use Rattle.expressions.specs.Meaning.{UserNames}
use Rattle.expressions.specs.Types.{TypedTerm}
use Rattle.abstract_database.specs.Lists.{TheName}
use Rattle.abstract_database.specs.Database.{Database, TableOf}
use Rattle.abstract_database.specs.Descriptions.{described, described_or_refused, result_columns, result_name, type_or_text}
use Rattle.abstract_database.specs.Expressions.{called}
use Rattle.abstract_database.specs.Queries.{each_column, their_count}
use Rattle.abstract_database.specs.Statements.{checked_over_rows}
use Rattle.stored_database.specs.Definitions.{Definitions}
use Rattle.stored_database.specs.Valid.{Describes}
use Rattle.gathering.specs.declared.query.OutputList.{OutputList}
use Rattle.gathering.specs.declared.query.OutputList.TheVariants.{Rows, Count}
use Rattle.gathering.specs.declared.query.RowList.TheVariants.{Columns, Values}
use Rattle.planner.specs.declared.plans.Plan.{Plan}
use Rattle.planner.specs.declared.plans.Plan.TheVariants as plan
use Rattle.planner.specs.declared.sources.Source.{Source}
use Rattle.planner.specs.Bound.{HasListTypes}
use Rattle.planner.specs.Plans.{HasRowsOfOneLength, checked_of}
use Rattle.planner.specs.Tables.{definitions_in}

-- ---- the tables of a plan

abbrev pub tables_of_sources : List Source → List TableOf
tables_of_sources sources = definitions_in (map (λ s. s.table.now) sources)

-- under their own names
abbrev pub scope_of_sources : List Source → List ScopeTable
scope_of_sources sources = map (λ t. called t.name t) (tables_of_sources sources)

-- the column of an index, if there is one
abbrev pub column_among : List ScopeTable → ColumnIndex → Option Column
column_among tables index = slice_get (columns_of (slice_get tables index.table)) index.column

-- ---- columns

-- of a value, with the type that stands beside it
abbrev pub value_column : List ScopeTable → TypedTerm → ResultColumn
value_column tables t = record { name = result_name tables t.term; column_type = type_or_text (Ok t.value_type) }

-- of a list
abbrev pub list_columns : List Source → OutputList → List ResultColumn
list_columns sources (Rows (Columns widths)) = result_columns (tables_of_sources sources) each_column
list_columns sources (Rows (Values values)) = map (value_column (scope_of_sources sources)) values
list_columns sources Count = result_columns (tables_of_sources sources) their_count

-- ---- what is told

-- in the list of a SELECT the type that stands beside an expression is its own
abbrev pub HasPlanTypes : Plan → Type 0
HasPlanTypes (plan.Select p) = HasListTypes (scope_of_sources p.sources) p.query.list
HasPlanTypes (plan.Insert p) = Unit {0}
HasPlanTypes (plan.Update p) = Unit {0}
HasPlanTypes (plan.Delete p) = Unit {0}

-- memory was refused, or it is what the checks that give the plan come to
abbrev pub DescribesPlan : Plan → StatementDescription → Type 0
DescribesPlan p told = HasPlanTypes p → (told ≡ Refused OutOfMemory) ⊎ (told ≡ described (checked_of p))

-- memory was refused, or it is what the checks come to in each database that has these definitions, for users of whom the role
-- is the current one, where the rows of an INSERT have one length, as those of a text have
abbrev pub IsDescribedBy : Definitions → TheName → RowStatement → StatementDescription → Type 0
IsDescribedBy d current s told = HasRowsOfOneLength s → (told ≡ Refused OutOfMemory)
    ⊎ ((db : Database) (users : UserNames) → Describes d db → users.current ≡ current → told ≡ described_or_refused (checked_over_rows db users s))
