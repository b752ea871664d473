-- What is known of each row of a span, and conditions that are true of each such row.
use Rattle.std.specs.Prelude.{◌≡◌, ℕ, true, List, ◌++◌, map, Option, Some, None, Ok}
use Rattle.std.specs.Borrow.{Bor}
use Rattle.std.specs.List.{AllByRecursion}
use Rattle.sql_types.specs.declared.value.Value.{Value}
use Rattle.sql_types.specs.declared.value.ValueRef.{ValueRef}
use Rattle.sql_types.specs.declared.value.Truth.{Truth}
use Rattle.sql_types.specs.declared.value.Truth.TheVariants as truth
use Rattle.sql_types.specs.Row.{Row, value_at}
use Rattle.sql_types.specs.Value.{owned, compare_values}
use Rattle.sql_ast.specs.declared.columns.ColumnType.{ColumnType}
use Rattle.sql_ast.specs.declared.expression.Comparison.{Comparison}
use Rattle.sql_ast.specs.declared.expression.Comparison.TheVariants as op
use Rattle.sql_ast.specs.declared.scope.ColumnIndex.{ColumnIndex}
use Rattle.sql_ast.specs.Fits.{IsOfType}
use Rattle.sql_ast.specs.Term.{Term, column}
use Rattle.expressions.specs.Meaning.{UserNames, value_of}
use Rattle.expressions.specs.Operators.{compared}
use Rattle.expressions.specs.Outcome.{Outcome}
use Rattle.expressions.specs.Truths.{true_value}
use Rattle.expressions.specs.Types.{TypedTerm}
use Rattle.abstract_database.specs.Expressions.{cell_in}
use Rattle.guards.specs.declared.guard.Formula.{Formula}
use Rattle.guards.specs.Guards.{cells_of, formula_value}
use Rattle.guards.specs.Truths.{or_any}
use Rattle.gathering.specs.Passed.{alone}
use Rattle.row_codec.specs.Cells.{key_cell}
use Rattle.key_ranges.specs.declared.bounds.BoundKind.TheVariants as kind
use Rattle.key_ranges.specs.Boxes.{allows_in}
use Rattle.executor.specs.declared.known_columns.KnownColumn.{KnownColumn}
use Rattle.executor.specs.declared.known_columns.KnownColumns.{KnownColumns}

-- ---- what is known

-- the row has these values in these columns
abbrev pub HasValues : Row → List KnownColumn → Type 0
HasValues row known = AllByRecursion (λ k. value_at row k.index ≡ owned k.value) known

-- in the column of this bound, if there is one, the row's value is not less
abbrev pub IsNotBelow : Row → Option KnownColumn → Type 0
IsNotBelow row None = Unit {0}
IsNotBelow row (Some k) = allows_in kind.Lower (compare_values (value_at row k.index) (owned k.value)) ≡ true

-- or it is not greater
abbrev pub IsNotAbove : Row → Option KnownColumn → Type 0
IsNotAbove row None = Unit {0}
IsNotAbove row (Some k) = allows_in kind.Upper (compare_values (value_at row k.index) (owned k.value)) ≡ true

-- so it is with a row of which this is known
pub record HasKnown (known : KnownColumns) (row : Row) : Type 0 where
  pub values : HasValues row known.columns
  pub least : IsNotBelow row known.least
  pub greatest : IsNotAbove row known.greatest

-- bytes begin with the cell of a value of this type: that of a column
pub record BeginsWithCell (index : ℕ) (type : ColumnType) (bytes : List ℕ) (k : KnownColumn) : Type 0 where
  pub at : k.index ≡ index
  pub of_type : IsOfType type (owned k.value)
  pub rest : List ℕ
  pub begins : bytes ≡ key_cell (owned k.value) ++ rest

-- ---- operands

-- what an expression over the table comes to on this row
abbrev pub value_alone : UserNames → Row → Term ColumnIndex → Outcome
value_alone users row term = value_of (cell_in (alone row)) users term

-- on each row of which this is known, an operand has this value
abbrev pub HasKnownValue : KnownColumns → UserNames → Term ColumnIndex → Value → Type 0
HasKnownValue known users term v = (row : Row) → HasKnown known row → value_alone users row term ≡ Ok v

-- a comparison that holds with the second value on the left holds with the first one there, too
abbrev pub HoldsAlikeOnLeft : Comparison → Value → Value → Type 0
HoldsAlikeOnLeft operator x v = (w : Value) → compared operator v w ≡ true_value → compared operator x w ≡ true_value

-- and on the right
abbrev pub HoldsAlikeOnRight : Comparison → Value → Value → Type 0
HoldsAlikeOnRight operator x v = (w : Value) → compared operator w v ≡ true_value → compared operator w x ≡ true_value

-- on each such row an operand has a value of which so much holds
abbrev pub IsOperand : (Value → Value → Type 0) → KnownColumns → UserNames → Term ColumnIndex → Value → Type 0
IsOperand Alike known users term v = (row : Row) → HasKnown known row → (x : Value) × (value_alone users row term ≡ Ok x) × Alike x v

-- the bound of its column for which a comparison has to hold, on the left, to hold for each row: the least value where the column has to be greater, and the greatest where it has to be less
abbrev pub bound_on_left : KnownColumns → Comparison → Option KnownColumn
bound_on_left known op.Greater = known.least
bound_on_left known op.GreaterOrEqual = known.least
bound_on_left known op.Less = known.greatest
bound_on_left known op.LessOrEqual = known.greatest
bound_on_left known op.Equal = None
bound_on_left known op.NotEqual = None

-- and on the right
abbrev pub bound_on_right : KnownColumns → Comparison → Option KnownColumn
bound_on_right known op.Greater = known.greatest
bound_on_right known op.GreaterOrEqual = known.greatest
bound_on_right known op.Less = known.least
bound_on_right known op.LessOrEqual = known.least
bound_on_right known op.Equal = None
bound_on_right known op.NotEqual = None

-- the value is that of a bound, whose column the expression is
pub record IsBoundOf (term : Term ColumnIndex) (o : Option KnownColumn) (v : ValueRef) : Type 0 where
  pub bound : KnownColumn
  pub is : o ≡ Some bound
  pub value : v ≡ bound.value
  pub column_is : term ≡ column (record { table = 0; column = bound.index })

-- the value of a column of each such row is so beside that of a bound
abbrev pub IsColumnBound : (Value → Value → Type 0) → KnownColumns → KnownColumn → Type 0
IsColumnBound Alike known k = (row : Row) → HasKnown known row → Alike (value_at row k.index) (owned k.value)

-- ---- conditions

-- a condition is true of each row of which this is known
abbrev pub IsCertain : KnownColumns → UserNames → Term ColumnIndex → Type 0
IsCertain known users term = HasKnownValue known users term true_value

abbrev pub AreCertain : KnownColumns → UserNames → List TypedTerm → Type 0
AreCertain known users conditions = AllByRecursion (λ c. IsCertain known users c.term) conditions

-- the same of conditions that are lent
abbrev pub AreLentCertain : KnownColumns → UserNames → List (Bor TypedTerm) → Type 0
AreLentCertain known users conditions = AllByRecursion (λ c. IsCertain known users c.now.term) conditions

-- of each such row one of these conditions is true, and those before it do not fail
abbrev pub IsAnyCertain : KnownColumns → UserNames → List (Bor TypedTerm) → Type 0
IsAnyCertain known users conditions = (row : Row) → HasKnown known row → (before : Truth) → or_any before (map (λ c. value_alone users row c.now.term) conditions) ≡ Ok truth.True

-- a formula of row security is true of each such row
abbrev pub IsFormulaCertain : KnownColumns → UserNames → Formula → Type 0
IsFormulaCertain known users f = (row : Row) → HasKnown known row → formula_value users f (cells_of (alone row)) ≡ Ok true_value

abbrev pub AreFormulasCertain : KnownColumns → UserNames → List Formula → Type 0
AreFormulasCertain known users formulas = AllByRecursion (IsFormulaCertain known users) formulas
