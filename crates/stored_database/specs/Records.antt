-- Which database records stand for.
use Rattle.std.specs.Prelude.{◌≡◌, ℕ, Bool, not, ◌&&◌, ◌||◌, List, [], ◌∷◌}
use Rattle.std.specs.List.{list_any}
use Rattle.sql_types.specs.Row.{Row}
use Rattle.store.specs.Records.{Records, entries_where, has_prefix}
use Rattle.store.specs.Items.{Holds}
use Rattle.abstract_database.specs.Database.{Database}
use Rattle.abstract_database.specs.Whole.{Each, HasWholeRows}
use Rattle.row_codec.specs.Rows.{row_prefix}
use Rattle.stored_database.specs.Definitions.{TableDefinition, Definitions, ids_of, database_with}
use Rattle.stored_database.specs.RecordFormat.{role_prefix, role_record, membership_prefix, membership_record, table_prefix, table_record, descriptor_prefix, descriptor_record, policy_prefix, policy_record, rows_prefix, row_record}
use Rattle.stored_database.specs.Valid.{AreValid}

-- ---- definitions

-- the key belongs to what the table of this number has beside its rows: a descriptor or a policy
abbrev pub is_key_of : List ℕ → ℕ → Bool
is_key_of key id = has_prefix (descriptor_prefix id) key || has_prefix (policy_prefix id) key

-- the key is that of no role, membership or table, of no descriptor and no policy of tables of these numbers, and of no row
abbrev pub is_orphan : List ℕ → List ℕ → Bool
is_orphan ids key = not (
    has_prefix role_prefix key || has_prefix membership_prefix key || has_prefix table_prefix key || has_prefix rows_prefix key
    || list_any (is_key_of key) ids)

-- the records with the keys of a table are those of its descriptors and of its policies
pub record HoldsTable (records : Records) (t : TableDefinition) : Type 0 where
  pub descriptors : Holds records (descriptor_prefix t.id) (descriptor_record t.id) t.descriptors
  pub policies : Holds records (policy_prefix t.id) (policy_record t.id) t.policies

-- the records of each kind, in the order of their keys, are those of the definitions in theirs
pub record HoldDefinitions (records : Records) (d : Definitions) : Type 0 where
  pub roles : Holds records role_prefix role_record d.roles
  pub memberships : Holds records membership_prefix membership_record d.memberships
  pub tables : Holds records table_prefix table_record d.tables
  pub of_tables : Each (HoldsTable records) d.tables

-- the records, those of rows aside, are the spellings of these definitions and no others
pub record Define (records : Records) (d : Definitions) : Type 0 where
  pub held : HoldDefinitions records d
  pub no_other : entries_where (is_orphan (ids_of d.tables)) records ≡ []
  pub valid : AreValid d

-- ---- rows

-- the records of rows are those of these rows, table by table
abbrev pub HoldRows : Records → List TableDefinition → List (List Row) → Type 0
HoldRows records [] [] = Unit {0}
HoldRows records (t ∷ ts) (rows ∷ more) =
    Holds records (row_prefix t.id) (row_record t.id t.definition.layout) rows × HoldRows records ts more
HoldRows records _ _ = ⊥

abbrev pub is_row_key_of : List ℕ → ℕ → Bool
is_row_key_of key id = has_prefix (row_prefix id) key

-- the key is a row's, and of no table of these numbers
abbrev pub is_orphan_row : List ℕ → List ℕ → Bool
is_orphan_row ids key = has_prefix rows_prefix key && not (list_any (is_row_key_of key) ids)

-- no record is of a table of this number
pub record HasNoRecords (records : Records) (id : ℕ) : Type 0 where
  pub descriptors : entries_where (has_prefix (descriptor_prefix id)) records ≡ []
  pub policies : entries_where (has_prefix (policy_prefix id)) records ≡ []
  pub rows : entries_where (has_prefix (row_prefix id)) records ≡ []

-- ---- databases

-- the records stand for the database, whose definitions are these
pub record Shows (records : Records) (d : Definitions) (db : Database) : Type 0 where
  pub defined : Define records d
  pub rows : List (List Row)
  pub held : HoldRows records d.tables rows
  pub no_other_row : entries_where (is_orphan_row (ids_of d.tables)) records ≡ []
  pub is : db ≡ database_with d rows
  pub whole_rows : HasWholeRows db

-- the records stand for the database: with some numbers of its tables they show it
abbrev pub StandsFor : Records → Database → Type 0
StandsFor records db = (d : Definitions) × Shows records d db
