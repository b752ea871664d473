-- An UPDATE that sets no column of the key: each row keeps its key, so it is put in place of what it was.
use Rattle.std.specs.Prelude.{◌≡◌, ℕ, ◌+◌, nat_eq, Bool, true, ◌&&◌, if◌then◌else◌, List, [], Some, Result, Ok, Err}
use Rattle.std.specs.List.{list_any}
use Rattle.sql_types.specs.Row.{Row}
use Rattle.sql_types.specs.declared.state.SqlState.{SqlState}
use Rattle.sql_types.specs.declared.state.SqlState.TheVariants.{InsufficientPrivilege, NotNullViolation, ProgramLimitExceeded}
use Rattle.sql_ast.specs.Layout.{Layout}
use Rattle.sql_ast.specs.Rows.{fits_record}
use Rattle.expressions.specs.Stages.{◌>>=◌, require}
use Rattle.store.specs.declared.fault.Fault.TheVariants.{Memory}
use Rattle.store.specs.Records.{changed}
use Rattle.abstract_database.specs.Guards.{Guard}
use Rattle.abstract_database.specs.Changes.{condition_on_row, is_admitted, keeps_not_null}
use Rattle.row_codec.specs.Rows.{row_value}
use Rattle.stored_database.specs.RecordFormat.{row_record}
use Rattle.store.specs.declared.stop.StatementError.{StatementError}
use Rattle.store.specs.declared.stop.StatementError.TheVariants.{Failed}
use Rattle.table_rows.specs.declared.checks.Checks.{Checks}
use Rattle.table_rows.specs.declared.setting.SetRows.{SetRows}
use Rattle.table_rows.specs.declared.setting.Setting.{Setting}
use Rattle.table_rows.specs.Targets.{users_of, sees, admits, condition_in, assigned_by}
use Rattle.table_rows.specs.Choosing.{is_chosen, over_chosen}

-- whether one of these columns is one of the key
abbrev pub sets_key : List ℕ → List ℕ → Bool
sets_key key columns = list_any (λ column. list_any (nat_eq column) key) columns

-- ---- checks, each stage by itself

-- what the guard says of a row, as the refusal of one that it does not admit
abbrev pub admitted_if : Result Bool SqlState → Result (Unit {0}) SqlState
admitted_if met = met >>= λ is_met. require is_met InsufficientPrivilege

-- no new row is checked yet
abbrev pub nothing_checked : Checks
nothing_checked = record { admitted = Ok tt; not_null = true; fit = true }

-- one more new row is checked: of the guard the first refusal counts
abbrev pub with_checked : Layout → Guard → Row → Checks → Checks
with_checked layout guard new checks = record {
  admitted = checks.admitted >>= λ _. is_admitted guard new;
  not_null = checks.not_null && keeps_not_null layout.columns new;
  fit = checks.fit && fits_record layout new;
}

-- the refusal of the first stage that refuses a row
abbrev pub verdict : Checks → Result (Unit {0}) SqlState
verdict checks = do
  admitted ← checks.admitted
  not_null ← require checks.not_null NotNullViolation
  require checks.fit ProgramLimitExceeded

-- ---- rows that are set

-- no row is set yet
abbrev pub nothing_set : SetRows
nothing_set = record { changes = []; checks = nothing_checked; count = 0 }

-- one more row is set: its key gets the value of the new row, unless that is too large
abbrev pub with_set : List ℕ → Layout → Guard → Row → SetRows → SetRows
with_set key layout guard new set = record {
  changes = if fits_record layout new then changed key (Some (Some (row_value layout new))) set.changes else set.changes;
  checks = with_checked layout guard new set.checks;
  count = set.count + 1;
}

-- of a row that is chosen the new row is set at its key
abbrev pub setting : ℕ → Layout → Guard → Row → Row → SetRows → SetRows
setting id layout guard row new set = with_set (row_record id layout row).0 layout guard new set

-- the rows that are set where these still come
abbrev pub set_after : Setting → ℕ → Layout → List Row → Result SetRows SqlState
set_after s id layout rows =
    over_chosen (is_chosen (sees s.target.now) (condition_on_row (users_of s.target.now) (condition_in s.condition))) (assigned_by s.target.now s.assignments.now) (setting id layout (admits s.target.now)) s.set rows

-- a row is set, unless an allocation fails
abbrev pub SetsRow : Result (Unit {0}) StatementError → List ℕ → Layout → Guard → Row → SetRows → SetRows → Type 0
SetsRow (Ok x) key layout guard row old set = set ≡ with_set key layout guard row old
SetsRow (Err failure) key layout guard row old set = failure ≡ Failed Memory
