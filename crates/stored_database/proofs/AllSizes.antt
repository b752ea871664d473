-- A store takes each record of a database.
use Rattle.std.proofs.Common.{List, [], ◌∷◌, map, subst, inl, inr}
use Rattle.sql_types.specs.Row.{Row}
use Rattle.store.specs.Records.{Record, Records}
use Rattle.abstract_database.specs.Lists.{Among}
use Rattle.abstract_database.specs.Database.{Database}
use Rattle.abstract_database.specs.Whole.{Each, HasWholeRows}
use Rattle.stored_database.specs.Definitions.{TableDefinition, Definitions, table_with, tables_with}
use Rattle.stored_database.specs.RecordFormat.{role_record, membership_record, table_record, descriptor_record, policy_record, row_record}
use Rattle.stored_database.specs.Valid.{AreValid}
use Rattle.stored_database.specs.Records.{Shows}
use Rattle.stored_database.specs.Entries.{entries_of_definitions, entries_of_rows, IsRecordSize}
use Rattle.stored_database.proofs.Lists.{of_map, of_append, of_flat_map, first_of_each, rest_of_each}
use Rattle.stored_database.proofs.Validity.{whole_roles, stored_memberships, whole_table, stored_table, stored_descriptors, whole_policy, stored_policies}
use Rattle.stored_database.proofs.Lengths.{role_size, membership_size, table_size, descriptor_size, policy_sizes, row_size}
use Rattle.stored_database.proofs.OneDatabase.{IsWholeTableOfRows}
use Rattle.stored_database.proofs.AllRecords.{of_entries, records_are_entries, IsEntry}

-- what holds of each spelling holds of each record of the items
each_spelled : {X : Type 0} (spell : X → Record) (xs : List X) → ((x : X) → Among x xs → IsRecordSize (spell x)) → (e : Record) → Among e (map spell xs) → IsRecordSize e
each_spelled spell xs h e among = let found = of_map spell xs e among in subst IsRecordSize found.2 (h found.0 found.1)

definition_sized : (records : Records) (d : Definitions) → AreValid d → (e : Record) → IsEntry records d e → IsRecordSize e
definition_sized records d v e (inl h) = each_spelled role_record d.roles (λ r among. role_size r (whole_roles d v r among)) e h
definition_sized records d v e (inr (inl h)) = each_spelled membership_record d.memberships (λ m among. membership_size m (stored_memberships d v m among)) e h
definition_sized records d v e (inr (inr (inl h))) =
    each_spelled table_record d.tables (λ t among. table_size t (whole_table d v t among).name (whole_table d v t among).layout (stored_table d v t among)) e h
definition_sized records d v e (inr (inr (inr (inl h)))) =
    let t = of_flat_map (λ (t : TableDefinition). map (descriptor_record t.id) t.descriptors) d.tables e h in
    each_spelled (descriptor_record t.0.id) t.0.descriptors (λ x of. descriptor_size t.0.definition.name t.0.id x (stored_descriptors d v t.0 t.1 x of)) e t.2
definition_sized records d v e (inr (inr (inr (inr h)))) =
    let t = of_flat_map (λ (t : TableDefinition). map (policy_record t.id) t.policies) d.tables e h in
    each_spelled (policy_record t.0.id) t.0.policies (λ p of. policy_sizes t.0.definition.name t.0.id p (whole_policy d v t.0 t.1 p of).name (stored_policies d v t.0 t.1 p of)) e t.2

row_sized : (ts : List TableDefinition) (rows : List (List Row)) → Each IsWholeTableOfRows (tables_with ts rows) → (e : Record) → Among e (entries_of_rows ts rows) → IsRecordSize e
row_sized [] rows whole e h = absurd h
row_sized (t ∷ ts) [] whole e h = absurd h
row_sized (t ∷ ts) (r ∷ rows) whole e h = elim (of_append (map (row_record t.id t.definition.layout) r) (entries_of_rows ts rows) e h) [
  | inl here ↦ each_spelled (row_record t.id t.definition.layout) r (λ x among. row_size t.id t.definition.layout x ((first_of_each IsWholeTableOfRows (table_with t r) (tables_with ts rows) whole).fit x among)) e here
  | inr later ↦ row_sized ts rows (rest_of_each IsWholeTableOfRows (table_with t r) (tables_with ts rows) whole) e later
]

pub records_sized : (records : Records) (d : Definitions) (db : Database) → Shows records d db → (e : Record) → Among e records → IsRecordSize e
records_sized records d db s e among = elim (of_append (entries_of_definitions d) (entries_of_rows d.tables s.rows) e ((records_are_entries records d e db s).0 among)) [
  | inl h ↦ definition_sized records d s.defined.valid e (of_entries records d e h)
  | inr h ↦ row_sized d.tables s.rows (subst HasWholeRows s.is s.whole_rows) e h
]
