-- How far a walk over the rows of a table goes.
use Rattle.std.specs.Prelude.{◌≡◌, ℕ, List, [], ◌∷◌, ◌++◌, Result, Ok, Err}
use Rattle.std.specs.List.{AllByRecursion}
use Rattle.sql_types.specs.Row.{Row}
use Rattle.sql_ast.specs.Layout.{Layout}
use Rattle.sql_ast.specs.Fits.{FitsTable}
use Rattle.store.specs.declared.fault.Fault.TheVariants.{Memory, Device, Damaged}
use Rattle.store.specs.declared.stop.StatementError.{StatementError}
use Rattle.store.specs.declared.stop.StatementError.TheVariants.{Refused, Failed}
use Rattle.store.specs.Records.{Record, Records}
use Rattle.stored_database.specs.RecordFormat.{row_record}
use Rattle.table_rows.specs.HeldRows.{AreRecordsOf, SpellsRow}
use Rattle.table_rows.specs.declared.visit.Flow.{Flow}
use Rattle.table_rows.specs.declared.visit.Flow.TheVariants.{Continue, Done}
use Rattle.table_rows.specs.Visits.{AnswerAfter}

-- of records a front was found, each of which spells a row; behind its rows the same is answered as before all rows
pub record Walking {A : Type 0} (id : ℕ) (layout : Layout) (records remaining : Records) (old now : AnswerAfter A) : Type 0 where
  pub front : Records
  pub parts : records ≡ front ++ remaining
  pub spelled : AllByRecursion (SpellsRow layout) front
  pub same : (rows rest : List Row) → AreRecordsOf id layout rows front → old (rows ++ rest) ≡ now rest

-- a walk over records that did not fail: it found a front of them, each of which spells a row. Where they are those of rows, it answers what is answered of
-- these rows, whatever rows follow them; where no record stands behind, no row follows
pub record WalksFront {A : Type 0} (id : ℕ) (layout : Layout) (records : Records) (old new : AnswerAfter A) : Type 0 where
  pub front : Records
  pub behind : Records
  pub parts : records ≡ front ++ behind
  pub spelled : AllByRecursion (SpellsRow layout) front
  pub decides : (rows rest : List Row) → AreRecordsOf id layout rows front → (behind ≡ [] → rest ≡ []) → old (rows ++ rest) ≡ new []

-- of the records of a table one was found that is of no row, behind records that spell rows
pub record FindsDamaged (id : ℕ) (layout : Layout) (records : Records) : Type 0 where
  pub front : Records
  pub entry : Record
  pub behind : Records
  pub parts : records ≡ front ++ entry ∷ behind
  pub spelled : AllByRecursion (SpellsRow layout) front
  pub damaged : (row : Row) → FitsTable layout row → entry ≡ row_record id layout row → ⊥

-- what a walk has found: it did not fail; or its refusal is what is answered of the rows of the front that it found; or it is damaged by a record that it found
abbrev pub Walks : {A : Type 0} → ℕ → Layout → Records → AnswerAfter A → AnswerAfter A → Result (Unit {0}) StatementError → Type 0
Walks id layout records old new (Ok x) = WalksFront id layout records old new
Walks id layout records old new (Err (Refused code)) = WalksFront id layout records old (λ rest. Err code)
Walks id layout records old new (Err (Failed Memory)) = Unit {0}
Walks id layout records old new (Err (Failed Device)) = Unit {0}
Walks id layout records old new (Err (Failed Damaged)) = FindsDamaged id layout records

-- how far a walk over records came, behind which others may be walked over: to their end; or it is done, or refused, behind those that it found, whatever follows; or it is damaged by a record that it
-- found
abbrev pub WalksOn : {A : Type 0} → ℕ → Layout → Records → AnswerAfter A → AnswerAfter A → Result Flow StatementError → Type 0
WalksOn id layout records old new (Ok Continue) = Walking id layout records [] old new
WalksOn id layout records old new (Ok Done) = (behind : Records) × Walking id layout records behind old (λ rest. new [])
WalksOn id layout records old new (Err (Refused code)) = (behind : Records) × Walking id layout records behind old (λ rest. Err code)
WalksOn id layout records old new (Err (Failed Memory)) = Unit {0}
WalksOn id layout records old new (Err (Failed Device)) = Unit {0}
WalksOn id layout records old new (Err (Failed Damaged)) = FindsDamaged id layout records
