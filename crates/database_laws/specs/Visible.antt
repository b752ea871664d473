-- Rows that guards let pass and conditions choose; databases that agree in all that some users may see.
use Rattle.std.specs.Prelude.{◌≡◌, ◌&&◌, ◌||◌, not, Bool, true, false, List, [], ◌∷◌, filter, Option, Some, None, Ok}
use Rattle.sql_types.specs.Row.{Row}
use Rattle.sql_types.specs.declared.value.Value.{Value}
use Rattle.sql_types.specs.declared.value.Value.TheVariants.{Bool as Boolean}
use Rattle.sql_ast.specs.declared.expression.ColumnName.{ColumnName}
use Rattle.sql_ast.specs.declared.privilege.Action.{Action}
use Rattle.sql_ast.specs.declared.privilege.Action.TheVariants as action
use Rattle.sql_ast.specs.Term.{Term}
use Rattle.expressions.specs.Outcome.{Outcome}
use Rattle.expressions.specs.Meaning.{UserNames}
use Rattle.abstract_database.specs.Lists.{Among}
use Rattle.abstract_database.specs.Database.{TableOf, Database, definition_named, rows_named, without_rows}
use Rattle.abstract_database.specs.Expressions.{own_scope, value_on}
use Rattle.abstract_database.specs.Guards.{guard, using_clause}

-- a guard or a condition is met by true alone: not by false, null or a failure
abbrev pub is_met : Outcome → Bool
is_met (Ok (Boolean true)) = true
is_met _ = false

-- of these rows of a table those that its SELECT guard lets pass, in their order
abbrev pub visible_of : Database → UserNames → TableOf → List Row → List Row
visible_of db users t rows = filter (λ row. is_met (guard db users t action.Select using_clause row)) rows

abbrev pub visible_rows : Database → UserNames → TableOf → List Row
visible_rows db users t = visible_of db users t (rows_named db t.name)

-- ---- the rows that UPDATE and DELETE concern

-- whether WHERE is true of a row, or missing
abbrev pub meets_where : TableOf → UserNames → Option (Term ColumnName) → Row → Bool
meets_where t users None row = true
meets_where t users (Some term) row = is_met (value_on (own_scope t) users (row ∷ []) term)

-- whether a command concerns a row: its guard lets it pass, where the statement reads that of SELECT too, and WHERE is true
abbrev pub is_concerned : Database → UserNames → TableOf → Action → Bool → Option (Term ColumnName) → Row → Bool
is_concerned db users t a reads condition row =
    is_met (guard db users t a using_clause row)
    && (not reads || is_met (guard db users t action.Select using_clause row))
    && meets_where t users condition row

-- ---- two databases

-- the same definitions, and in each table the same rows that the SELECT guard lets pass for these users, in one order
pub record SameVisibleRows (users : UserNames) (d e : Database) : Type 0 where
  pub definitions : without_rows d ≡ without_rows e
  pub rows : (t : TableOf) → definition_named d t.name ≡ Some t → visible_rows d users t ≡ visible_rows e users t

abbrev pub HasValue : Outcome → Type 0
HasValue o = (v : Value) × (o ≡ Ok v)

-- for these users the guard of existing rows fails on no row of any table
abbrev pub NoGuardFails : Action → UserNames → Database → Type 0
NoGuardFails a users db = (t : TableOf) → definition_named db t.name ≡ Some t →
    (row : Row) → Among row (rows_named db t.name) → HasValue (guard db users t a using_clause row)
