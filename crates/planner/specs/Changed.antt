-- The new values and the condition of a statement that changes rows of one table.
use Rattle.std.specs.Prelude.{ℕ, List, [], ◌∷◌, ◌++◌, map, Option, None, Some, option_to_list, Result, Ok}
use Rattle.std.specs.Option.{option_map}
use Rattle.sql_types.specs.declared.state.SqlState.{SqlState}
use Rattle.sql_ast.specs.declared.columns.ColumnType.TheVariants as type
use Rattle.sql_ast.specs.declared.expression.ColumnName.{ColumnName}
use Rattle.sql_ast.specs.declared.scope.ColumnIndex.{ColumnIndex}
use Rattle.sql_ast.specs.Layout.{Layout}
use Rattle.sql_ast.specs.Scope.{Table as ScopeTable}
use Rattle.sql_ast.specs.Term.{Term}
use Rattle.expressions.specs.Names.{resolved}
use Rattle.expressions.specs.Parts.{Part, check_expressions}
use Rattle.expressions.specs.Stages.{◌>>=◌, each}
use Rattle.expressions.specs.Types.{TypedTerm}
use Rattle.abstract_database.specs.Checks.{value_parts}
use Rattle.abstract_database.specs.Lists.{optional}
use Rattle.planner.specs.declared.changes.BoundChanges.{BoundChanges}

-- new values and a condition by indices
abbrev pub Terms : Type 0
Terms = List (Term ColumnIndex) × Option (Term ColumnIndex)

abbrev pub values_of : List TypedTerm → List (Term ColumnIndex)
values_of values = map (λ (u : TypedTerm). u.term) values

abbrev pub where_of : Option TypedTerm → Option (Term ColumnIndex)
where_of typed = option_map (λ (u : TypedTerm). u.term) typed

abbrev pub terms_of : BoundChanges → Terms
terms_of b = (values_of b.values, where_of b.condition)

-- all of them
abbrev pub expressions_in : List TypedTerm → Option TypedTerm → List (Term ColumnIndex)
expressions_in values condition = values_of values ++ option_to_list (where_of condition)

-- ---- how they are bound

abbrev pub where_parts : List ScopeTable → Option (Term ColumnName) → List Part
where_parts scope None = []
where_parts scope (Some c) = record { scope = scope; term = c; expected = Some type.Boolean } ∷ []

abbrev pub change_parts : List ScopeTable → Layout → List ℕ → List (Term ColumnName) → Option (Term ColumnName) → List Part
change_parts scope layout columns values condition = value_parts scope layout columns values ++ where_parts scope condition

-- the names in the new values and in WHERE, and then the types of all
abbrev pub bound_changes : List ScopeTable → Layout → List ℕ → List (Term ColumnName) → Option (Term ColumnName) → Result Terms SqlState
bound_changes scope layout columns values condition = do
  found ← each (resolved scope) values
  place ← optional (resolved scope) condition
  typed ← check_expressions (change_parts scope layout columns values condition)
  Ok (found, place)
