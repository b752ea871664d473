-- All records of a database, and their sizes.
use Rattle.std.specs.Prelude.{Some, List, [], ◌∷◌, ◌++◌, map, flat_map}
use Rattle.sql_types.specs.Row.{Row}
use Rattle.store.specs.Records.{Record, IsChangeSize}
use Rattle.stored_database.specs.Definitions.{TableDefinition, Definitions}
use Rattle.stored_database.specs.RecordFormat.{role_record, membership_record, table_record, descriptor_record, policy_record, row_record}

-- the records of the definitions, kind by kind; those of one kind for a table stand in the order of tables
abbrev pub entries_of_definitions : Definitions → List Record
entries_of_definitions d =
    map role_record d.roles
    ++ (map membership_record d.memberships
    ++ (map table_record d.tables
    ++ (flat_map (λ (t : TableDefinition). map (descriptor_record t.id) t.descriptors) d.tables
    ++ flat_map (λ (t : TableDefinition). map (policy_record t.id) t.policies) d.tables)))

-- the records of rows, table by table
abbrev pub entries_of_rows : List TableDefinition → List (List Row) → List Record
entries_of_rows (t ∷ ts) (rows ∷ more) = map (row_record t.id t.definition.layout) rows ++ entries_of_rows ts more
entries_of_rows _ _ = []

-- the records that a database of these definitions and rows spells
abbrev pub entries_of : Definitions → List (List Row) → List Record
entries_of d rows = entries_of_definitions d ++ entries_of_rows d.tables rows

-- the record has a size that a store takes
abbrev pub IsRecordSize : Record → Type 0
IsRecordSize e = IsChangeSize (e.0, Some e.1)
