-- A store in memory: its records are its state, and by definition a stop now leaves them.
use Rattle.std.specs.Prelude.{◌≡◌, List, [], ◌∷◌, ℕ, Some, false}
use Rattle.storage_sizes.specs.CurrentRecordFormat.{current}
use Rattle.store.specs.Records.{Records}
use Rattle.storage_sizes.specs.declared.record_format.RecordFormat.{RecordFormat}
use Rattle.store.specs.Store.{StoreState}

-- no device is below, so it counts nothing and never fails; its clock stands still, and nothing is said of past moments
abbrev pub memory_state : RecordFormat → Records → StoreState
memory_state record_format records = record {
  sound = Unit {0};
  has_failed = false;
  closes = Unit {0};
  map = records;
  record_format = record_format;
  number = 0;
  fulls = 0;
  failures = 0;
  faults = 0;
  time = record { moment = 0; stops = λ a b x. ⊥; left = λ x. x ≡ Some (record { record_format = record_format; records = records }) };
}

-- a role of this name, which is a superuser (1) and may log in (2)
abbrev pub admin_record : List ℕ → List ℕ × List ℕ
admin_record admin = (1 ∷ admin, 3 ∷ [])

-- a new database has one role
abbrev pub new_records : List ℕ → Records
new_records admin = admin_record admin ∷ []

-- the state of a new database in memory
abbrev pub new_state : List ℕ → StoreState
new_state admin = memory_state current (new_records admin)
