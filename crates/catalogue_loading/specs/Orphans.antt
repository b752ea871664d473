-- Records that are no orphans, and a check that reads one record for each prefix.
use Rattle.std.specs.Prelude.{◌≡◌, ◌≤◌, ℕ, Bool, true, false, List, [], Option, Some, None, Result, Ok, Err, length}
use Rattle.std.specs.Borrow.{Bor}
use Rattle.store.specs.declared.fault.Fault.{Fault}
use Rattle.store.specs.declared.fault.Fault.TheVariants.{Memory, Device, Damaged}
use Rattle.store.specs.Records.{Record, Records, entries_where, has_prefix, is_from}
use Rattle.abstract_database.specs.Whole.{Each}
use Rattle.stored_database.specs.RecordFormat.{rows_prefix}
use Rattle.stored_database.specs.Records.{is_orphan, is_orphan_row}
use Rattle.catalogue_loading.specs.declared.orphan_records.Orphans.{Orphans}
use Rattle.catalogue_loading.specs.declared.orphan_records.Orphans.TheVariants.{OfDefinitions, OfRows}

-- the key is one of the orphans that are looked for, where the tables have these numbers
abbrev pub is_sought : Orphans → List ℕ → List ℕ → Bool
is_sought OfDefinitions = is_orphan
is_sought OfRows = is_orphan_row

-- the record is none of them
abbrev pub IsNone : Orphans → List ℕ → Record → Type 0
IsNone orphans ids e = is_sought orphans ids e.0 ≡ false

-- what the keys begin with among which they are
abbrev pub prefix_of : Orphans → List ℕ
prefix_of OfDefinitions = []
prefix_of OfRows = rows_prefix

-- ---- what a key begins with

-- the key begins with this prefix, of a kind or of a kind and a table, and none that begins with it is an orphan; all that may
-- be orphans begin with what is sought
pub record IsKnownBy (is_orphan : List ℕ → Bool) (sought key prefix : List ℕ) : Type 0 where
  pub begins : has_prefix prefix key ≡ true
  pub within : has_prefix sought prefix ≡ true
  pub short : length prefix ≤ 5
  pub none : (other : List ℕ) → has_prefix prefix other ≡ true → is_orphan other ≡ false

-- such a prefix of a key, or none, and the key is an orphan
abbrev pub KnowsPrefix : (List ℕ → Bool) → List ℕ → List ℕ → Option (Bor (List ℕ)) → Type 0
KnowsPrefix is_orphan sought key None = is_orphan key ≡ true
KnowsPrefix is_orphan sought key (Some prefix) = IsKnownBy is_orphan sought key prefix.now

-- ---- a walk from prefix to prefix

-- the records from a key on whose keys begin with a prefix
abbrev pub records_from : List ℕ → List ℕ → Records → Records
records_from prefix start records = entries_where (has_prefix prefix) (entries_where (is_from start) records)

-- the walk goes on at a later key with this prefix, and all records from the earlier one on pass where those from it on do
pub record JumpsOn (Passes : Record → Type 0) (prefix : List ℕ) (ahead : Records → Type 0) (records : Records) (start : List ℕ) : Type 0 where
  pub next : List ℕ
  pub begins : has_prefix prefix next ≡ true
  pub passed : Each Passes (records_from prefix next records) → Each Passes (records_from prefix start records)
  pub is_ahead : ahead (entries_where (is_from next) records)

-- a step of a check of the records from a key on whose keys begin with a prefix
abbrev pub Jumps : (Record → Type 0) → List ℕ → (Records → Type 0) → Records → List ℕ → Result Bool Fault → Type 0
Jumps Passes prefix ahead records start (Ok false) = records_from prefix start records ≡ []
Jumps Passes prefix ahead records start (Ok true) = JumpsOn Passes prefix ahead records start
Jumps Passes prefix ahead records start (Err Memory) = Unit {0}
Jumps Passes prefix ahead records start (Err Device) = Unit {0}
Jumps Passes prefix ahead records start (Err Damaged) = Each Passes (records_from prefix start records) → ⊥
