-- What UPDATE and DELETE are checked for, in the definitions of a database: DELETE as an UPDATE that sets nothing, but for the privilege that it needs.
use Rattle.std.specs.Prelude.{◌++◌, ℕ, List, [], map, Option, option_to_list, Result, Ok}
use Rattle.std.specs.List.{list_all}
use Rattle.sql_types.specs.declared.state.SqlState.{SqlState}
use Rattle.sql_types.specs.declared.state.SqlState.TheVariants.{InsufficientPrivilege}
use Rattle.sql_ast.specs.declared.expression.ColumnName.{ColumnName}
use Rattle.sql_ast.specs.declared.privilege.Action.{Action}
use Rattle.sql_ast.specs.declared.privilege.Action.TheVariants as action
use Rattle.sql_ast.specs.declared.statement.Assignment.{Assignment}
use Rattle.sql_ast.specs.declared.statement.RowStatement.{RowStatement}
use Rattle.sql_ast.specs.declared.statement.RowStatement.TheVariants as over_rows
use Rattle.sql_ast.specs.Term.{Term}
use Rattle.expressions.specs.Stages.{◌>>=◌, require}
use Rattle.abstract_database.specs.Lists.{TheName}
use Rattle.abstract_database.specs.Expressions.{own_scope}
use Rattle.abstract_database.specs.Needs.{has_any, columns_read}
use Rattle.abstract_database.specs.Changes.{CheckedUpdate, CheckedDelete}
use Rattle.abstract_database.specs.Statements.{Checked, updates, deletes}
use Rattle.stored_database.specs.Definitions.{TableDefinition}
use Rattle.planner.specs.declared.rights.Rights.{Rights}
use Rattle.planner.specs.declared.row_changes.ChangePlan.{ChangePlan}
use Rattle.planner.specs.declared.row_changes.ChangeStatement.{ChangeStatement}
use Rattle.planner.specs.declared.row_changes.ChangeStatement.TheVariants.{Update, Delete}
use Rattle.planner.specs.declared.row_changes.CheckedChanges.{CheckedChanges}
use Rattle.planner.specs.Columns.{set_columns}
use Rattle.planner.specs.Changed.{Terms, values_of, where_of, bound_changes}
use Rattle.planner.specs.Rights.{meets, needs_of_change}

-- ---- the statement

abbrev pub statement_of : ChangeStatement → RowStatement
statement_of (Update s) = over_rows.Update s.now
statement_of (Delete s) = over_rows.Delete s.now

abbrev pub table_of : ChangeStatement → TheName
table_of (Update s) = s.now.table
table_of (Delete s) = s.now.table

abbrev pub action_of : ChangeStatement → Action
action_of (Update s) = action.Update
action_of (Delete s) = action.Delete

-- what it sets
abbrev pub assignments_of : ChangeStatement → List Assignment
assignments_of (Update s) = s.now.assignments
assignments_of (Delete s) = []

abbrev pub condition_of : ChangeStatement → Option (Term ColumnName)
condition_of (Update s) = s.now.condition
condition_of (Delete s) = s.now.condition

-- ---- what the definition of the checks gives

-- in place of the plan
abbrev pub changes_of : ChangePlan → CheckedUpdate
changes_of p = record {
  table = p.target.table.now.definition;
  columns = p.columns;
  values = values_of p.values;
  condition = where_of p.condition;
  reads = p.reads;
}

-- the same of the columns, values and condition before the guard is known
abbrev pub checked_in : TableDefinition → CheckedChanges → CheckedUpdate
checked_in t c = record {
  table = t.definition;
  columns = c.columns;
  values = values_of c.values;
  condition = where_of c.condition;
  reads = c.reads;
}

-- what it gives of a DELETE, in whose place is an UPDATE
abbrev pub without_values : CheckedUpdate → CheckedDelete
without_values u = record { table = u.table; condition = u.condition; reads = u.reads }

abbrev pub checked_as : ChangeStatement → CheckedUpdate → Checked
checked_as (Update s) u = updates u
checked_as (Delete s) u = deletes (without_values u)

-- ---- stage by stage

-- the privileges
abbrev pub allowed_changes : Rights → Action → TableDefinition → List ℕ → Terms → Result CheckedUpdate SqlState
allowed_changes r a t columns bound = do
  allowed ← require (list_all (meets r t) (needs_of_change a t.definition columns bound.0 bound.1)) InsufficientPrivilege
  Ok (record {
    table = t.definition;
    columns = columns;
    values = bound.0;
    condition = bound.1;
    reads = has_any (columns_read 0 (bound.0 ++ option_to_list bound.1));
  })

-- the columns that are set, the names and types of the values and of WHERE, and then the privileges
abbrev pub changes_from : Rights → ChangeStatement → TableDefinition → Result CheckedUpdate SqlState
changes_from r s t = do
  columns ← set_columns t.definition.layout (map (λ a. a.column) (assignments_of s))
  bound ← bound_changes (own_scope t.definition) t.definition.layout columns (map (λ a. a.value) (assignments_of s)) (condition_of s)
  allowed_changes r (action_of s) t columns bound
