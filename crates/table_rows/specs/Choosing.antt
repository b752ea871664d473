-- The rows that an UPDATE or a DELETE chooses.
use Rattle.std.specs.Prelude.{◌≡◌, ℕ, ◌+◌, Bool, false, if◌then◌else◌, List, [], ◌∷◌, ◌++◌, option_to_list, Option, Some, None, Result, Ok, Err}
use Rattle.std.specs.Borrow.{Bor}
use Rattle.sql_types.specs.Row.{Row}
use Rattle.sql_types.specs.declared.state.SqlState.{SqlState}
use Rattle.sql_ast.specs.Layout.{Layout}
use Rattle.expressions.specs.Outcome.{Outcome}
use Rattle.expressions.specs.Meaning.{UserNames}
use Rattle.expressions.specs.Stages.{◌>>=◌}
use Rattle.store.specs.declared.fault.Fault.TheVariants.{Memory}
use Rattle.store.specs.Records.{changed}
use Rattle.abstract_database.specs.Guards.{Guard}
use Rattle.abstract_database.specs.Changes.{assigned, condition_on_row}
use Rattle.guards.specs.Truths.{is_met}
use Rattle.stored_database.specs.RecordFormat.{row_record}
use Rattle.store.specs.declared.stop.StatementError.{StatementError}
use Rattle.store.specs.declared.stop.StatementError.TheVariants.{Failed}
use Rattle.table_rows.specs.declared.target.Assignments.{Assignments}
use Rattle.table_rows.specs.declared.choose.ChosenRows.{ChosenRows}
use Rattle.table_rows.specs.declared.choose.Choosing.{Choosing}
use Rattle.table_rows.specs.Targets.{users_of, sees, terms_in, condition_in}

-- whether a row is chosen: its guard, and then WHERE
abbrev pub is_chosen : Guard → (Row → Outcome) → Row → Result Bool SqlState
is_chosen guard condition row = is_met (guard row) >>= λ visible. if visible then is_met (condition row) else Ok false

-- what becomes of a row that is chosen: none where nothing is assigned
abbrev pub became : UserNames → Option (Bor Assignments) → Row → Result (Option Row) SqlState
became users None row = Ok None
became users (Some a) row = assigned users a.now.columns.now (terms_in a.now.values.now) row >>= λ new. Ok (Some new)

-- no row is chosen yet
abbrev pub nothing_chosen : ChosenRows
nothing_chosen = record { changes = []; rows = []; count = 0 }

-- one more row is chosen: its key is removed, and its new row is kept
abbrev pub with_chosen : List ℕ → Option Row → ChosenRows → ChosenRows
with_chosen key new chosen = record { changes = changed key (Some None) chosen.changes; rows = chosen.rows ++ option_to_list new; count = chosen.count + 1 }

-- row by row: whether it is chosen, and then what becomes of it, which is taken
abbrev pub over_chosen : {A B : Type 0} → (Row → Result Bool SqlState) → (Row → Result B SqlState) → (Row → B → A → A) → A → List Row → Result A SqlState
over_chosen test becomes take done [] = Ok done
over_chosen test becomes take done (row ∷ rows) = test row >>= λ this.
    if this then (becomes row >>= λ new. over_chosen test becomes take (take row new done) rows)
    else over_chosen test becomes take done rows

-- of a row that is chosen its key is removed, and its new row is kept
abbrev pub taking : ℕ → Layout → Row → Option Row → ChosenRows → ChosenRows
taking id layout row new chosen = with_chosen (row_record id layout row).0 new chosen

-- the rows that are chosen, beside those that were chosen before
abbrev pub all_chosen : (Row → Result Bool SqlState) → (Row → Result (Option Row) SqlState) → ℕ → Layout → ChosenRows → List Row → Result ChosenRows SqlState
all_chosen test becomes id layout chosen rows = over_chosen test becomes (taking id layout) chosen rows

-- the rows that are chosen where these still come
abbrev pub chosen_after : Choosing → ℕ → Layout → List Row → Result ChosenRows SqlState
chosen_after c id layout rows =
    all_chosen (is_chosen (sees c.target.now) (condition_on_row (users_of c.target.now) (condition_in c.condition))) (became (users_of c.target.now) c.assignments) id layout c.chosen rows

-- a row is taken, unless an allocation fails
abbrev pub TakesRow : Result (Unit {0}) StatementError → List ℕ → Option Row → ChosenRows → ChosenRows → Type 0
TakesRow (Ok x) key new old chosen = chosen ≡ with_chosen key new old
TakesRow (Err failure) key new old chosen = failure ≡ Failed Memory
