-- The columns that INSERT and UPDATE give values to.
use Rattle.std.specs.Prelude.{ℕ, not, List, [], unwrap_or, Result}
use Rattle.std.specs.List.{list_all}
use Rattle.sql_types.specs.declared.state.SqlState.{SqlState}
use Rattle.sql_types.specs.declared.state.SqlState.TheVariants.{DuplicateColumn, SyntaxError}
use Rattle.sql_ast.specs.declared.statement.Insert.{Insert}
use Rattle.sql_ast.specs.Layout.{Layout}
use Rattle.expressions.specs.Stages.{◌>>=◌, each, require}
use Rattle.abstract_database.specs.Lists.{TheName, has_double}
use Rattle.abstract_database.specs.Checks.{counts_fit, found_column, target_columns}

-- those of an INSERT: its list names each once, and each row has a value for each
abbrev pub insert_columns : Layout → Insert → Result (List ℕ) SqlState
insert_columns layout s = do
  once ← require (not (has_double (unwrap_or s.columns []))) DuplicateColumn
  counted_right ← require (list_all (counts_fit layout s.columns) s.rows) SyntaxError
  target_columns layout s

-- those of an UPDATE, which names each once
abbrev pub set_columns : Layout → List TheName → Result (List ℕ) SqlState
set_columns layout names = do
  once ← require (not (has_double names)) DuplicateColumn
  each (found_column layout) names
