-- What records of record format 1 mean: the records of record format 2 that they become. All records are spelled alike in both
-- but those of privilege descriptors, whose keys have a place in the second: 0 for a whole table, which alone has descriptors
-- in the first.
use Rattle.std.specs.Prelude.{◌≡◌, ℕ, List, [], ◌∷◌, ◌++◌, map, take, drop, if◌then◌else◌, Option, Some}
use Rattle.storage_sizes.specs.declared.record_format.RecordFormat.{RecordFormat}
use Rattle.storage_sizes.specs.declared.record_format.RecordFormat.TheVariants.{V1, V2}
use Rattle.sql_ast.specs.declared.privilege.Descriptor.{Descriptor}
use Rattle.store.specs.Records.{Record, Records, has_prefix}
use Rattle.store.specs.Store.{Contents}
use Rattle.abstract_database.specs.Database.{Database, action_number, grantor_name, grantee_name}
use Rattle.stored_database.specs.RecordFormat.{ended, bit, descriptor_prefix}
use Rattle.stored_database.specs.Records.{StandsFor}

-- the record of a descriptor in record format 1, which has no place: the action, the grantor and the grantee
abbrev pub first_descriptor : ℕ → Descriptor → Record
first_descriptor id d =
    (descriptor_prefix id ++ action_number d.action ∷ (ended (grantor_name d.grantor) ++ ended (grantee_name d.grantee)), bit d.grantable ∷ [])

-- a key with the place 0 behind its kind, the number of its table and its action
abbrev pub with_place : List ℕ → List ℕ
with_place key = take 6 key ++ 0 ∷ drop 6 key

-- a record of record format 1 in record format 2: those of privilege descriptors get a place, and all others stay
abbrev pub placed : Record → Record
placed e = if has_prefix (4 ∷ []) e.0 then (with_place e.0, e.1) else e

abbrev pub with_places : Records → Records
with_places records = map placed records

-- records of either record format in the second
abbrev pub in_record_format_2 : RecordFormat → Records → Records
in_record_format_2 V1 records = with_places records
in_record_format_2 V2 records = records

-- contents stand for this database: their records do, in record format 2
abbrev pub Stands : Contents → Database → Type 0
Stands contents db = StandsFor (in_record_format_2 contents.record_format contents.records) db

-- what a stop left are contents that stand for this database
abbrev pub Means : Option Contents → Database → Type 0
Means x db = (contents : Contents) × (x ≡ Some contents) × Stands contents db
