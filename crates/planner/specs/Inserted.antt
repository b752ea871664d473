-- What INSERT is checked for, in the definitions of a database.
use Rattle.std.specs.Prelude.{◌≡◌, ℕ, nat_le, List, [], ◌∷◌, take, drop, length, map, flat_map, Result, Ok}
use Rattle.std.specs.List.{list_all}
use Rattle.sql_types.specs.declared.state.SqlState.{SqlState}
use Rattle.sql_types.specs.declared.state.SqlState.TheVariants.{InsufficientPrivilege, ProgramLimitExceeded}
use Rattle.sql_ast.specs.declared.expression.ColumnName.{ColumnName}
use Rattle.sql_ast.specs.declared.scope.ColumnIndex.{ColumnIndex}
use Rattle.sql_ast.specs.declared.statement.Insert.{Insert}
use Rattle.sql_ast.specs.Layout.{Layout}
use Rattle.sql_ast.specs.Scope.{Table as ScopeTable}
use Rattle.sql_ast.specs.Term.{Term}
use Rattle.expressions.specs.Names.{resolved}
use Rattle.expressions.specs.Parts.{check_expressions}
use Rattle.expressions.specs.Stages.{◌>>=◌, each, require}
use Rattle.expressions.specs.Types.{TypedTerm}
use Rattle.abstract_database.specs.Changes.{CheckedInsert}
use Rattle.abstract_database.specs.Checks.{value_parts}
use Rattle.abstract_database.specs.Needs.{needs_of_insert}
use Rattle.stored_database.specs.Definitions.{TableDefinition}
use Rattle.planner.specs.declared.rights.Rights.{Rights}
use Rattle.planner.specs.declared.insert.CheckedRows.{CheckedRows}
use Rattle.planner.specs.declared.insert.InsertPlan.{InsertPlan}
use Rattle.planner.specs.Columns.{insert_columns}
use Rattle.planner.specs.Rights.{meets}

-- the values by indices, row by row
abbrev pub rows_of : List (List TypedTerm) → List (List (Term ColumnIndex))
rows_of rows = map (λ (row : List TypedTerm). map (λ (u : TypedTerm). u.term) row) rows

-- what the definition of the checks gives in place of the plan
abbrev pub checked_of : InsertPlan → CheckedInsert
checked_of p = record { table = p.target.table.now.definition; columns = p.columns; rows = rows_of p.rows }

-- the same of the columns and the values before the guard is known
abbrev pub checked_in : TableDefinition → CheckedRows → CheckedInsert
checked_in t c = record { table = t.definition; columns = c.columns; rows = rows_of c.rows }

-- ---- the values

-- there is a value for each column in each row
abbrev pub AreAsLong : List ℕ → List (List (Term ColumnName)) → Type 0
AreAsLong columns [] = Unit {0}
AreAsLong columns (row ∷ rows) = (length row ≡ length columns) × AreAsLong columns rows

-- values one after the other, cut into rows that are as long as these
abbrev pub cut_as : {X Y : Type 0} → List (List X) → List Y → List (List Y)
cut_as [] values = []
cut_as (row ∷ rows) values = take (length row) values ∷ cut_as rows (drop (length row) values)

-- each name in the rows, and then each type
abbrev pub bound_rows : List ScopeTable → Layout → List ℕ → List (List (Term ColumnName)) → Result (List (List (Term ColumnIndex))) SqlState
bound_rows scope layout columns rows = do
  found ← each (each (resolved scope)) rows
  typed ← check_expressions (flat_map (value_parts scope layout columns) rows)
  Ok found

-- ---- stage by stage

-- the privileges, and how many rows there may be
abbrev pub allowed_insert : Rights → Insert → TableDefinition → List ℕ → List (List (Term ColumnIndex)) → Result CheckedInsert SqlState
allowed_insert r s t columns rows = do
  allowed ← require (list_all (meets r t) (needs_of_insert t.definition columns)) InsufficientPrivilege
  few ← require (nat_le (length s.rows) 256) ProgramLimitExceeded
  Ok (record { table = t.definition; columns = columns; rows = rows })

-- the column list and the values of all rows, and then the privileges
abbrev pub insert_from : Rights → Insert → TableDefinition → Result CheckedInsert SqlState
insert_from r s t = do
  columns ← insert_columns t.definition.layout s
  rows ← bound_rows [] t.definition.layout columns s.rows
  allowed_insert r s t columns rows
