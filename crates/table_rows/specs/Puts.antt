-- New rows of a table among the changes of a statement.
use Rattle.std.specs.Prelude.{◌≡◌, ℕ, Bool, true, false, List, ◌++◌, Some, is_some, Result, Ok, Err, IfOk, IfErr}
use Rattle.sql_types.specs.Row.{Row}
use Rattle.sql_types.specs.declared.state.SqlState.TheVariants.{UniqueViolation}
use Rattle.sql_ast.specs.Layout.{Layout}
use Rattle.store.specs.declared.fault.Fault.TheVariants.{Memory, Device, Damaged}
use Rattle.store.specs.declared.fault.StoreFault.{StoreFault}
use Rattle.store.specs.Store.{StoreState, OnlyReads, HasReadCause, failed_after}
use Rattle.store.specs.Records.{Record, Records, Changes, applied, changed, lookup}
use Rattle.abstract_database.specs.Changes.{has_double_key, with_rows}
use Rattle.store.specs.declared.stop.StatementError.{StatementError}
use Rattle.store.specs.declared.stop.StatementError.TheVariants.{Refused, Failed}
use Rattle.table_rows.specs.HeldRows.{HoldsRows, ConcernRowsOf}

-- whether a key is there in the records after these changes
abbrev pub has_key : List ℕ → Changes → Records → Bool
has_key key changes records = is_some (lookup key (applied changes records))

-- it is looked for whether a key is there after these changes, whatever is answered
pub record FindsKey (key : List ℕ) (changes : Changes) (result : Result Bool StoreFault) (old new : StoreState) : Type 0 where
  pub only_reads : OnlyReads old new
  pub found : old.sound → IfOk result (λ found. found ≡ has_key key changes old.map)
  pub cause : IfErr result (λ fault. HasReadCause fault old new)
  pub failed : new.has_failed ≡ failed_after result old.has_failed

-- a record is put among changes of records in which no record has its key; it is refused where one has
abbrev pub PutsRecord : Result (Unit {0}) StatementError → Record → Records → Changes → Changes → Type 0
PutsRecord (Ok x) entry records old new = (has_key entry.0 old records ≡ false) × (new ≡ changed entry.0 (Some (Some entry.1)) old)
PutsRecord (Err (Refused code)) entry records old new = (has_key entry.0 old records ≡ true) × (code ≡ UniqueViolation)
PutsRecord (Err (Failed Memory)) entry records old new = Unit {0}
PutsRecord (Err (Failed Device)) entry records old new = Unit {0}
PutsRecord (Err (Failed Damaged)) entry records old new = ⊥

-- new rows are put among the others: the records hold all of them
pub record PutsAll (id : ℕ) (layout : Layout) (rows others : List Row) (records : Records) (old new : Changes) : Type 0 where
  pub unique : has_double_key layout.key (others ++ rows) ≡ false
  pub held : HoldsRows id layout (applied new records) (with_rows layout.key rows others)
  pub concern : ConcernRowsOf id old → ConcernRowsOf id new

-- new rows are put among the others, or it is refused that two rows have one key
abbrev pub PutsRows : Result (Unit {0}) StatementError → ℕ → Layout → List Row → List Row → Records → Changes → Changes → Type 0
PutsRows (Ok x) id layout rows others records old new = PutsAll id layout rows others records old new
PutsRows (Err (Refused code)) id layout rows others records old new = (has_double_key layout.key (others ++ rows) ≡ true) × (code ≡ UniqueViolation)
PutsRows (Err (Failed Memory)) id layout rows others records old new = Unit {0}
PutsRows (Err (Failed Device)) id layout rows others records old new = Unit {0}
PutsRows (Err (Failed Damaged)) id layout rows others records old new = ⊥
