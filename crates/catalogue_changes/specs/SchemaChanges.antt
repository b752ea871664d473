-- Changes of definitions: what each leaves of a database, and the changes of records that lead there.
use Rattle.std.specs.Prelude.{◌≡◌, Bool, true, List, [], ◌++◌, map, filter, find, flat_map, bytes_eq, Some, option_to_list}
use Rattle.std.specs.List.{list_any}
use Rattle.sql_ast.specs.declared.privilege.Descriptor.{Descriptor}
use Rattle.sql_ast.specs.declared.policy.Policy.{Policy}
use Rattle.sql_ast.specs.declared.policy.PolicyClause.{PolicyClause}
use Rattle.store.specs.Records.{Records, Changes, IsOrdered, entries_where, has_prefix}
use Rattle.row_codec.specs.Rows.{row_prefix}
use Rattle.abstract_database.specs.Lists.{TheName, put, the_new, drop_where}
use Rattle.abstract_database.specs.Database.{Table, Database, role_cmp, table_cmp}
use Rattle.abstract_database.specs.Definitions.{without_role, without_table}
use Rattle.abstract_database.specs.Whole.{Each, IsWhole}
use Rattle.stored_database.specs.Definitions.{TableDefinition, Definitions, table_with}
use Rattle.stored_database.specs.RecordFormat.{role_record, membership_record, table_record, descriptor_record, policy_record}
use Rattle.expr_parser.specs.Written.{IsAsWritten}
use Rattle.stored_database.specs.Valid.{IsNumbered}
use Rattle.stored_database.specs.Records.{Shows}
use Rattle.catalogue.specs.declared.change.SchemaChange.{SchemaChange}
use Rattle.catalogue.specs.declared.change.SchemaChange.TheVariants as change
use Rattle.catalogue.specs.Changes.{changed}
use Rattle.catalogue.specs.Descriptors.{DescriptorsChanged, descriptors_after, table_after}
use Rattle.catalogue.specs.Lookups.{is_definition_named}
use Rattle.catalogue_changes.specs.DescriptorChanges.{IsChangeOf}
use Rattle.catalogue_changes.specs.Differences.{differences, applied_in_turn}

-- ---- databases

-- a table with the rows of another
abbrev pub with_old_rows : Table → Table → Table
with_old_rows old new = record new { rows = old.rows }

-- the elements that pass the test are these, and all others are as they were
pub record IsReplaced {X : Type 0} (test : X → Bool) (these old new : List X) : Type 0 where
  pub these_pass : filter test new ≡ these
  pub others : drop_where test new ≡ drop_where test old

-- the database with a table, which is empty where there was none of its name
pub record HasTable (t : TableDefinition) (db after : Database) : Type 0 where
  pub roles : after.roles ≡ db.roles
  pub memberships : after.memberships ≡ db.memberships
  pub tables : after.tables ≡ put table_cmp with_old_rows (table_with t []) db.tables
  pub descriptors : IsReplaced (λ d. bytes_eq d.table t.definition.name) t.descriptors db.descriptors after.descriptors
  pub policies : IsReplaced (λ p. bytes_eq p.table t.definition.name) t.policies db.policies after.policies

-- the database in which the descriptors for the table of the name are those after the change, and all else is as it was
pub record HasDescriptors (c : DescriptorsChanged) (db after : Database) : Type 0 where
  pub roles : after.roles ≡ db.roles
  pub memberships : after.memberships ≡ db.memberships
  pub tables : after.tables ≡ db.tables
  pub descriptors : IsReplaced (λ d. bytes_eq d.table c.table) (descriptors_after c (filter (λ d. bytes_eq d.table c.table) db.descriptors)) db.descriptors after.descriptors
  pub policies : after.policies ≡ db.policies

-- the database after the change
abbrev pub IsChanged : SchemaChange → Database → Database → Type 0
IsChanged (change.PutRole r) db after = after ≡ record db { roles = put role_cmp the_new r db.roles }
IsChanged (change.DropRole name) db after = after ≡ without_role name db
IsChanged (change.SetMemberships ms) db after = after ≡ record db { memberships = ms }
IsChanged (change.PutTable t) db after = HasTable t db after
IsChanged (change.DropTable name) db after = after ≡ without_table name db
IsChanged (change.SetDescriptors c) db after = HasDescriptors c db after

-- the conditions of policies
abbrev pub conditions_of : List Policy → List PolicyClause
conditions_of policies = flat_map (λ p. option_to_list p.using ++ option_to_list p.check) policies

-- one table of a name and of a number
pub record AreNamedAlike (t u : TableDefinition) : Type 0 where
  pub by_number : u.id ≡ t.id → u.definition.name ≡ t.definition.name
  pub by_name : u.definition.name ≡ t.definition.name → u.id ≡ t.id
  pub layout : u.definition.name ≡ t.definition.name → u.definition.layout ≡ t.definition.layout

-- the table may be put among those of the definitions
pub record FitsAmong (t : TableDefinition) (d : Definitions) : Type 0 where
  pub numbered : IsNumbered t
  pub alike : Each (AreNamedAlike t) d.tables
  pub conditions : Each IsAsWritten (conditions_of t.policies)

-- the descriptors of a table of the definitions may be changed so
pub record FitsTable (c : DescriptorsChanged) (d : Definitions) : Type 0 where
  pub table : TableDefinition
  pub found : find (is_definition_named c.table) d.tables ≡ Some table
  pub change : IsChangeOf table c
  pub after : FitsAmong (table_after c table) d

-- what the change needs: a table of a new name has a new number, and one of a known name the number and the columns of before;
-- and the table that goes is there
abbrev pub ChangeFits : SchemaChange → Definitions → Type 0
ChangeFits (change.PutRole r) d = Unit {0}
ChangeFits (change.DropRole name) d = Unit {0}
ChangeFits (change.SetMemberships ms) d = Unit {0}
ChangeFits (change.PutTable t) d = FitsAmong t d
ChangeFits (change.DropTable name) d = list_any (is_definition_named name) d.tables ≡ true
ChangeFits (change.SetDescriptors c) d = FitsTable c d

-- ---- records

abbrev pub role_changes : Definitions → Definitions → Changes
role_changes d e = differences (map role_record d.roles) (map role_record e.roles)

abbrev pub membership_changes : Definitions → Definitions → Changes
membership_changes d e = differences (map membership_record d.memberships) (map membership_record e.memberships)

abbrev pub table_changes : Definitions → Definitions → Changes
table_changes d e = differences (map table_record d.tables) (map table_record e.tables)

-- the tables of a name: one or none
abbrev pub tables_named : TheName → Definitions → List TableDefinition
tables_named name d = filter (is_definition_named name) d.tables

-- the records of these tables' privilege descriptors
abbrev pub descriptor_entries : List TableDefinition → Records
descriptor_entries tables = flat_map (λ (t : TableDefinition). map (descriptor_record t.id) t.descriptors) tables

-- the records of descriptors for these tables
abbrev pub entries_in : List TableDefinition → List Descriptor → Records
entries_in tables ds = flat_map (λ (t : TableDefinition). map (descriptor_record t.id) ds) tables

-- the records of these tables' policies
abbrev pub policy_entries : List TableDefinition → Records
policy_entries tables = flat_map (λ (t : TableDefinition). map (policy_record t.id) t.policies) tables

-- the records of these tables' rows
abbrev pub row_entries : Records → List TableDefinition → Records
row_entries records tables = flat_map (λ (t : TableDefinition). entries_where (has_prefix (row_prefix t.id)) records) tables

-- the removals of the records of what belongs to these tables: privilege descriptors, policies and rows
abbrev pub part_removals : Records → List TableDefinition → Changes
part_removals records tables =
    differences (descriptor_entries tables) [] ++ (differences (policy_entries tables) [] ++ differences (row_entries records tables) [])

-- each record that differs after the change of these definitions: DROP TABLE alone looks at the records, for those of the rows
abbrev pub record_changes : SchemaChange → Definitions → Records → Changes
record_changes (change.PutRole r) d records = role_changes d (changed (change.PutRole r) d)
record_changes (change.DropRole name) d records = role_changes d (changed (change.DropRole name) d) ++ membership_changes d (changed (change.DropRole name) d)
record_changes (change.SetMemberships ms) d records = membership_changes d (changed (change.SetMemberships ms) d)
record_changes (change.PutTable t) d records =
    table_changes d (changed (change.PutTable t) d)
    ++ (differences (descriptor_entries (tables_named t.definition.name d)) (map (descriptor_record t.id) t.descriptors)
    ++ differences (policy_entries (tables_named t.definition.name d)) (map (policy_record t.id) t.policies))
record_changes (change.DropTable name) d records = table_changes d (changed (change.DropTable name) d) ++ part_removals records (tables_named name d)
record_changes (change.SetDescriptors c) d records = differences (entries_in (tables_named c.table d) c.removed) (entries_in (tables_named c.table d) c.added)

-- ---- the law

-- the changes of records lead from those of a database to those of the database after the change, where that is whole
abbrev pub Leads : SchemaChange → Type 0
Leads c = (records : Records) (d : Definitions) (db after : Database) → IsOrdered records → Shows records d db → ChangeFits c d → IsChanged c db after → IsWhole after
    → Shows (applied_in_turn (record_changes c d records) records) (changed c d) after
