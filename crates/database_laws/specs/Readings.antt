-- The columns that the text of an UPDATE or a DELETE names to read them.
use Rattle.std.specs.Prelude.{◌≡◌, List, ◌++◌, flat_map, option_to_list, Ok}
use Rattle.sql_ast.specs.declared.expression.ColumnName.{ColumnName}
use Rattle.sql_ast.specs.declared.statement.Update.{Update}
use Rattle.sql_ast.specs.declared.statement.Delete.{Delete}
use Rattle.expressions.specs.Meaning.{UserNames}
use Rattle.abstract_database.specs.Database.{Database}
use Rattle.abstract_database.specs.Expressions.{columns_in}
use Rattle.abstract_database.specs.Needs.{has_any, columns_read}
use Rattle.abstract_database.specs.Changes.{CheckedUpdate, CheckedDelete}
use Rattle.abstract_database.specs.Checks.{new_values, checked_update, checked_delete}

-- the columns that the right sides of SET, and WHERE, name
abbrev pub columns_read_by_update : Update → List ColumnName
columns_read_by_update s = flat_map columns_in (new_values s ++ option_to_list s.condition)

abbrev pub columns_read_by_delete : Delete → List ColumnName
columns_read_by_delete s = flat_map columns_in (option_to_list s.condition)

-- a checked UPDATE reads a column just where its text names one
abbrev pub updates_read_as_written : Type 0
updates_read_as_written = (db : Database) (users : UserNames) (s : Update) (c : CheckedUpdate) → checked_update db users s ≡ Ok c →
    has_any (columns_read 0 (c.values ++ option_to_list c.condition)) ≡ has_any (columns_read_by_update s)

abbrev pub deletes_read_as_written : Type 0
deletes_read_as_written = (db : Database) (users : UserNames) (s : Delete) (c : CheckedDelete) → checked_delete db users s ≡ Ok c →
    has_any (columns_read 0 (option_to_list c.condition)) ≡ has_any (columns_read_by_delete s)
