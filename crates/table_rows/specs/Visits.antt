-- A visit of one row after the other.
use Rattle.std.specs.Prelude.{◌≡◌, ℕ, Bool, true, List, [], ◌∷◌, Result, Ok, Err}
use Rattle.sql_types.specs.Row.{Row}
use Rattle.sql_types.specs.declared.state.SqlState.{SqlState}
use Rattle.sql_ast.specs.Layout.{Layout}
use Rattle.sql_ast.specs.Fits.{FitsTable}
use Rattle.store.specs.declared.fault.Fault.TheVariants.{Memory, Device, Damaged}
use Rattle.store.specs.Records.{Record}
use Rattle.table_rows.specs.HeldRows.{SpellsRow}
use Rattle.stored_database.specs.RecordFormat.{row_record}
use Rattle.store.specs.declared.stop.StatementError.{StatementError}
use Rattle.store.specs.declared.stop.StatementError.TheVariants.{Refused, Failed}
use Rattle.table_rows.specs.declared.visit.Flow.{Flow}
use Rattle.table_rows.specs.declared.visit.Flow.TheVariants.{Continue, Done}

-- what is answered if these rows still come, or the refusal
abbrev pub AnswerAfter : Type 0 → Type 0
AnswerAfter A = List Row → Result A SqlState

-- the visit of a row: it changes nothing of what is answered in the end; or it is done, and the same is answered whatever rows still come; or it ends with the
-- refusal that is answered
abbrev pub Visits : {A : Type 0} → Result Flow StatementError → Row → AnswerAfter A → AnswerAfter A → Type 0
Visits (Ok Continue) row old new = (rest : List Row) → old (row ∷ rest) ≡ new rest
Visits (Ok Done) row old new = (rest : List Row) → old (row ∷ rest) ≡ new []
Visits (Err (Refused code)) row old new = (rest : List Row) → old (row ∷ rest) ≡ Err code
Visits (Err (Failed Memory)) row old new = Unit {0}
Visits (Err (Failed Device)) row old new = ⊥
Visits (Err (Failed Damaged)) row old new = ⊥

-- the visit of a row that the table of this number may hold, by the key that it has in records
abbrev pub VisitsAt : {A : Type 0} → ℕ → Layout → List ℕ → Result Flow StatementError → Row → AnswerAfter A → AnswerAfter A → Type 0
VisitsAt id layout key result row old new = FitsTable layout row → key ≡ (row_record id layout row).0 → Visits result row old new

-- the visit of a record, where it is that of a row which the table of this number may hold
abbrev pub VisitsRecord : {A : Type 0} → ℕ → Layout → Record → Result Flow StatementError → AnswerAfter A → AnswerAfter A → Type 0
VisitsRecord id layout entry result old new = (row : Row) → FitsTable layout row → entry ≡ row_record id layout row → Visits result row old new

-- the record whose row was visited, or refused, spells a row
abbrev pub SpellsVisited : Layout → Record → Result Flow StatementError → Type 0
SpellsVisited layout entry (Ok flow) = SpellsRow layout entry
SpellsVisited layout entry (Err (Refused code)) = SpellsRow layout entry
SpellsVisited layout entry (Err (Failed fault)) = Unit {0}

-- a visit is done only if it may be
abbrev pub IsDoneOnlyIf : Bool → Result Flow StatementError → Type 0
IsDoneOnlyIf may (Ok Continue) = Unit {0}
IsDoneOnlyIf may (Ok Done) = may ≡ true
IsDoneOnlyIf may (Err failure) = Unit {0}

-- the visit of rows in their order, of all of them or until it is done
abbrev pub VisitsAll : {A : Type 0} → Result (Unit {0}) StatementError → List Row → AnswerAfter A → AnswerAfter A → Type 0
VisitsAll (Ok x) rows old new = old rows ≡ new []
VisitsAll (Err (Refused code)) rows old new = old rows ≡ Err code
VisitsAll (Err (Failed Memory)) rows old new = Unit {0}
VisitsAll (Err (Failed Device)) rows old new = Unit {0}
VisitsAll (Err (Failed Damaged)) rows old new = ⊥
