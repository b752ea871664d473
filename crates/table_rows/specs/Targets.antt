-- The table of a statement, and what the statement says of its rows.
use Rattle.std.specs.Prelude.{◌≡◌, ℕ, List, map, Option, Some, None, Result}
use Rattle.std.specs.Borrow.{Bor}
use Rattle.std.specs.List.{range_with_len}
use Rattle.sql_types.specs.Row.{Row}
use Rattle.sql_types.specs.declared.value.Value.{Value}
use Rattle.sql_types.specs.declared.state.SqlState.{SqlState}
use Rattle.sql_ast.specs.declared.scope.ColumnIndex.{ColumnIndex}
use Rattle.sql_ast.specs.Term.{Term}
use Rattle.expressions.specs.Meaning.{UserNames}
use Rattle.expressions.specs.Rows.{names_of}
use Rattle.expressions.specs.Types.{TypedTerm}
use Rattle.abstract_database.specs.Guards.{Guard}
use Rattle.abstract_database.specs.Changes.{CheckedInsert, CheckedUpdate, CheckedDelete, inserted_row, assigned}
use Rattle.guards.specs.Guards.{row_guard}
use Rattle.table_rows.specs.declared.target.Target.{Target}
use Rattle.table_rows.specs.declared.target.Insertion.{Insertion}
use Rattle.table_rows.specs.declared.target.Assignments.{Assignments}

abbrev pub users_of : Target → UserNames
users_of target = names_of target.users.now

-- the guard of existing rows
abbrev pub sees : Target → Guard
sees target = row_guard (users_of target) target.guard.now.existing

-- the guard of new rows
abbrev pub admits : Target → Guard
admits target = row_guard (users_of target) target.guard.now.new

abbrev pub terms_in : List TypedTerm → List (Term ColumnIndex)
terms_in list = map (λ t. t.term) list

-- the condition, if there is one
abbrev pub condition_in : Option (Bor TypedTerm) → Option (Term ColumnIndex)
condition_in None = None
condition_in (Some typed) = Some typed.now.term

-- these are the checked statements of the definition
pub record IsInsert (target : Target) (insertion : Insertion) (c : CheckedInsert) : Type 0 where
  pub layout : c.table.layout ≡ target.columns.now
  pub columns : c.columns ≡ insertion.columns.now
  pub rows : c.rows ≡ map terms_in insertion.rows.now

pub record IsUpdate (target : Target) (condition : Option (Bor TypedTerm)) (assignments : Assignments) (c : CheckedUpdate) : Type 0 where
  pub layout : c.table.layout ≡ target.columns.now
  pub columns : c.columns ≡ assignments.columns.now
  pub values : c.values ≡ terms_in assignments.values.now
  pub where_is : c.condition ≡ condition_in condition

pub record IsDelete (target : Target) (condition : Option (Bor TypedTerm)) (c : CheckedDelete) : Type 0 where
  pub layout : c.table.layout ≡ target.columns.now
  pub where_is : c.condition ≡ condition_in condition

-- ---- the rows that they make

-- the cells of the first table as a row so wide
abbrev pub row_so_wide : (ℕ → ℕ → Value) → ℕ → Row
row_so_wide cell width = map (cell 0) (range_with_len 0 width)

-- the row of an INSERT with these values
abbrev pub inserted_by : Target → Insertion → List TypedTerm → Result Row SqlState
inserted_by target insertion values = inserted_row target.columns.now (users_of target) insertion.columns.now (terms_in values)

-- the row that an UPDATE makes of another
abbrev pub assigned_by : Target → Assignments → Row → Result Row SqlState
assigned_by target assignments row = assigned (users_of target) assignments.columns.now (terms_in assignments.values.now) row
