-- The checks of new rows, and what a statement makes of a table's rows.
use Rattle.std.specs.Prelude.{◌≡◌, ℕ, true, List, [], ◌∷◌, length, Result, Ok, Err}
use Rattle.std.specs.List.{list_all}
use Rattle.sql_types.specs.Row.{Row}
use Rattle.sql_types.specs.declared.state.SqlState.{SqlState}
use Rattle.sql_types.specs.declared.state.SqlState.TheVariants.{NotNullViolation, ProgramLimitExceeded}
use Rattle.sql_ast.specs.Layout.{Layout}
use Rattle.sql_ast.specs.Rows.{fits_record}
use Rattle.sql_ast.specs.Fits.{FitsTable}
use Rattle.expressions.specs.Meaning.{UserNames}
use Rattle.expressions.specs.Stages.{◌>>=◌, require}
use Rattle.store.specs.declared.fault.Fault.TheVariants.{Memory, Device, Damaged}
use Rattle.store.specs.Records.{Records, applied}
use Rattle.abstract_database.specs.Guards.{Guard}
use Rattle.abstract_database.specs.Changes.{CheckedInsert, Changed, is_admitted, keeps_not_null, rows_inserted}
use Rattle.abstract_database.specs.Whole.{Each}
use Rattle.store.specs.declared.stop.StatementError.{StatementError}
use Rattle.store.specs.declared.stop.StatementError.TheVariants.{Refused, Failed}
use Rattle.table_rows.specs.declared.change.RowChanges.{RowChanges}
use Rattle.table_rows.specs.HeldRows.{HoldsRows, ConcernRowsOf}

-- ---- checks

-- the guard admits each row
abbrev pub all_admitted : Guard → List Row → Result (Unit {0}) SqlState
all_admitted guard [] = Ok tt
all_admitted guard (row ∷ rows) = is_admitted guard row >>= λ admitted. all_admitted guard rows

-- the guard, then nulls, then sizes, each over all new rows before the next
abbrev pub new_rows_checked : Layout → Guard → List Row → Result (Unit {0}) SqlState
new_rows_checked layout guard new = do
  admitted ← all_admitted guard new
  not_null ← require (list_all (keeps_not_null layout.columns) new) NotNullViolation
  require (list_all (fits_record layout) new) ProgramLimitExceeded

-- what is computed of each of these is a row that the table may hold, where it has no null that may not be and is not too large:
-- typed expressions give such rows
abbrev pub GiveFittingRows : {A : Type 0} → Layout → (A → Result Row SqlState) → List A → Type 0
GiveFittingRows {A} layout row_of xs = Each (λ (x : A). (row : Row) → row_of x ≡ Ok row → keeps_not_null layout.columns row ≡ true → fits_record layout row ≡ true → FitsTable layout row) xs

-- ---- statements

-- the rows after INSERT, and how many are new
abbrev pub inserted : Guard → UserNames → CheckedInsert → List Row → Result Changed SqlState
inserted admitting users c rows = rows_inserted admitting users c rows >>= λ after. Ok (record { rows = after; count = length c.rows })

-- the changes lead to the rows that are meant: after them the records hold those rows, and no other record is changed
pub record LeadsTo (id : ℕ) (layout : Layout) (records : Records) (made : RowChanges) (after : Changed) : Type 0 where
  pub held : HoldsRows id layout (applied made.changes records) after.rows
  pub concern : ConcernRowsOf id made.changes
  pub count : made.count ≡ after.count

-- a statement makes the changes that lead to the rows that are meant, or it is refused as is meant
abbrev pub MakesChanges : ℕ → Layout → Records → Result RowChanges StatementError → Result Changed SqlState → Type 0
MakesChanges id layout records (Ok made) meant = (after : Changed) × (meant ≡ Ok after) × LeadsTo id layout records made after
MakesChanges id layout records (Err (Refused code)) meant = meant ≡ Err code
MakesChanges id layout records (Err (Failed Memory)) meant = Unit {0}
MakesChanges id layout records (Err (Failed Device)) meant = Unit {0}
MakesChanges id layout records (Err (Failed Damaged)) meant = ⊥
