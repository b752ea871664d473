-- What a guard says of a row.
use Rattle.std.specs.Prelude.{ℕ, true, List, [], ◌∷◌, map, Ok}
use Rattle.std.specs.Borrow.{Bor}
use Rattle.sql_types.specs.Row.{Row}
use Rattle.sql_types.specs.declared.value.Value.{Value}
use Rattle.sql_types.specs.declared.value.Value.TheVariants.{Bool as Boolean}
use Rattle.sql_ast.specs.declared.scope.ColumnIndex.{ColumnIndex}
use Rattle.sql_ast.specs.Term.{Term}
use Rattle.expressions.specs.Outcome.{Outcome}
use Rattle.expressions.specs.Stages.{◌>>=◌}
use Rattle.expressions.specs.Meaning.{UserNames, value_of}
use Rattle.expressions.specs.Rows.{cell_at}
use Rattle.expressions.specs.Types.{TypedTerm}
use Rattle.abstract_database.specs.Expressions.{cell_in, when_true}
use Rattle.abstract_database.specs.Guards.{formula, Guard as RowGuard}
use Rattle.guards.specs.declared.guard.Formula.{Formula}

-- the values of a row's columns, by table and column
abbrev pub Cells : Type 0
Cells = ℕ → ℕ → Value

-- the conditions that are lent
abbrev pub terms : List (Bor TypedTerm) → List (Term ColumnIndex)
terms conditions = map (λ c. c.now.term) conditions

-- (p1 OR p2 ..) AND r1 AND r2 ..
abbrev pub formula_value : UserNames → Formula → Cells → Outcome
formula_value users f cells = value_of (cell_at cells) users (formula (terms f.permissive) (terms f.restrictive))

-- one formula after the other, each only on rows that meet those before it
abbrev pub guard_value : UserNames → List Formula → Cells → Outcome
guard_value users [] cells = Ok (Boolean true)
guard_value users (f ∷ fs) cells = formula_value users f cells >>= λ v. when_true v (guard_value users fs cells) (Ok v)

-- the cells of rows, one of each table
abbrev pub cells_of : List Row → Cells
cells_of rows table column = cell_in rows (record { table = table; column = column })

-- what the formulas say of a table's row
abbrev pub row_guard : UserNames → List Formula → RowGuard
row_guard users formulas row = guard_value users formulas (cells_of (row ∷ []))
