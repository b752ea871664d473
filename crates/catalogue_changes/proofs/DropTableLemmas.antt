-- The changes of a change that drops a table.
use Rattle.std.proofs.Common.{◌≡◌, ◌⊎◌, ◌<◌, ◌^◌, ℕ, Bool, true, false, not, List, [], ◌++◌, map, length, refl, ap, sym, ◌∙◌, subst, inl, inr}
use Rattle.std.specs.List.{list_any}
use Rattle.std.proofs.lemmas.Bool.{both_ways, not-true, not_from_false}
use Rattle.std.proofs.lemmas.List.{append-nil}
use Rattle.byteorder.specs.Endian.{big_bytes}
use Rattle.sql_types.specs.Row.{Row}
use Rattle.sql_ast.specs.declared.privilege.Descriptor.{Descriptor}
use Rattle.sql_ast.specs.declared.policy.Policy.{Policy}
use Rattle.store.specs.Records.{Records, IsOrdered, entries_where, has_prefix}
use Rattle.row_codec.specs.Rows.{row_prefix}
use Rattle.abstract_database.specs.Lists.{TheName, Among, Rising, drop_where}
use Rattle.abstract_database.specs.Database.{Database}
use Rattle.abstract_database.specs.Definitions.{without_table}
use Rattle.abstract_database.specs.Whole.{Each, IsWhole, clauses_of}
use Rattle.abstract_database.proofs.ListLemmas.{bytes_same, same_bytes}
use Rattle.abstract_database.proofs.ElementLemmas.{any_found, of_filter, into_filter}
use Rattle.stored_database.specs.Definitions.{TableDefinition, Definitions, definition_cmp, ids_of, policies_of, database_with, database_of}
use Rattle.stored_database.specs.RecordFormat.{table_prefix, table_record, descriptor_prefix, descriptor_record, policy_prefix, policy_record}
use Rattle.expr_parser.specs.Written.{IsAsWritten}
use Rattle.stored_database.specs.Valid.{AreValid}
use Rattle.stored_database.specs.Records.{HoldsTable, Shows, HasNoRecords}
use Rattle.stored_database.proofs.Lists.{into_map, into_flat_map, of_flat_map}
use Rattle.stored_database.proofs.KeyOrder.{table_order}
use Rattle.stored_database.proofs.Tables.{small_id}
use Rattle.stored_database.proofs.TableParts.{tables_in_order}
use Rattle.stored_database.proofs.Wholeness.{as_many, whole_without_rows}
use Rattle.stored_database.proofs.Numbering.{rising_filter}
use Rattle.catalogue_changes.specs.Differences.{differences, applied_in_turn}
use Rattle.catalogue.specs.Lookups.{is_definition_named}
use Rattle.catalogue.specs.declared.change.SchemaChange.TheVariants as change
use Rattle.catalogue.specs.Changes.{changed}
use Rattle.catalogue_changes.specs.SchemaChanges.{table_changes, tables_named, descriptor_entries, policy_entries, row_entries, record_changes, Leads}
use Rattle.entry_differences.proofs.DifferenceLemmas.{in_turn_append}
use Rattle.catalogue_changes.proofs.TurnLemmas.{kinds_apart, ids_apart, IsTurned, turned, ordered_spelled, spelled_pass}
use Rattle.catalogue_changes.proofs.TableListLemmas.{id_among, one_named, one_numbered, ids_dropped, IsOne, none_or_one}
use Rattle.catalogue_changes.proofs.PartLemmas.{parts_dropped}
use Rattle.catalogue_changes.proofs.RowChangeLemmas.{drop_rows, tables_dropped, many_dropped, rows_dropped}
use Rattle.catalogue_changes.proofs.TableShownLemmas.{IsConfined, table_shown}
use Rattle.catalogue_changes.proofs.PutTableLemmas.{same_lists, clauses_in}

-- the table of the name, which is there
the_one : (name : TheName) (ts : List TableDefinition) → Rising definition_cmp ts → list_any (is_definition_named name) ts ≡ true → IsOne name ts
the_one name ts rising there = elim (none_or_one name ts rising) [
  | inl n ↦ let found = any_found (is_definition_named name) ts there in absurd (n.none found.0 found.1 (bytes_same found.0.definition.name name found.2))
  | inr one ↦ one
]

module _ (name : TheName) (records : Records) (d : Definitions) (db after : Database) (s : Shows records d db) (there : list_any (is_definition_named name) d.tables ≡ true) (is : after ≡ without_table name db) (whole : IsWhole after) where
  abbrev tables : List TableDefinition
  tables = drop_where (is_definition_named name) d.tables

  abbrev e : Definitions
  e = changed (change.DropTable name) d

  abbrev rows : List (List Row)
  rows = drop_rows name d.tables s.rows

  many : length s.rows ≡ length d.tables
  many = as_many records d.tables s.rows s.held

  pub many_after : length rows ≡ length tables
  many_after = many_dropped name d.tables s.rows many

  rising : Rising definition_cmp d.tables
  rising = tables_in_order d s.defined.valid

  rising_after : Rising definition_cmp tables
  rising_after = rising_filter definition_cmp (λ (u : TableDefinition). not (is_definition_named name u)) d.tables rising

  one : IsOne name d.tables
  one = the_one name d.tables rising there

  abbrev table : TableDefinition
  table = one.table

  -- a table that stays
  stays : (u : TableDefinition) → Among u tables → Among u d.tables × (is_definition_named name u ≡ false)
  stays u among = let found = of_filter (λ (v : TableDefinition). not (is_definition_named name v)) d.tables u among in (found.0, not-true (is_definition_named name u) found.1)

  -- ---- the database

  pub is_after : after ≡ database_with e rows
  is_after = is ∙ ap (without_table name) s.is
      ∙ same_lists refl refl (tables_dropped name d.tables s.rows many)
      (parts_dropped (λ (x : Descriptor). x.table) (λ (u : TableDefinition). u.descriptors) name d.tables (λ u among. (s.defined.valid.tables u among).descriptors))
      (parts_dropped (λ (x : Policy). x.table) (λ (u : TableDefinition). u.policies) name d.tables (λ u among. (s.defined.valid.tables u among).policies))

  conditions_after : Each IsAsWritten (clauses_of (database_of e))
  conditions_after c among =
      let p = of_flat_map clauses_in (policies_of tables) c among in
      let u = of_flat_map (λ (v : TableDefinition). v.policies) tables p.0 p.1 in
      s.defined.valid.conditions c (into_flat_map clauses_in (policies_of d.tables) p.0 c (into_flat_map (λ (v : TableDefinition). v.policies) d.tables u.0 p.0 (stays u.0 u.1).0 u.2) p.2)

  pub valid_after : AreValid e
  valid_after = record {
    whole = whole_without_rows e rows many_after (subst IsWhole is_after whole);
    tables = λ u among. s.defined.valid.tables u (stays u among).0;
    ids = ids_dropped (λ (u : TableDefinition). not (is_definition_named name u)) d.tables s.defined.valid.ids;
    conditions = conditions_after;
  }

  -- ---- what was held

  abbrev olds : List TableDefinition
  olds = tables_named name d

  small : table.id < 2 ^ 32
  small = small_id table.id (s.defined.valid.tables table one.among).most

  old_descriptors : entries_where (has_prefix (descriptor_prefix table.id)) records ≡ descriptor_entries olds
  old_descriptors = (s.defined.held.of_tables table one.among).descriptors ∙ sym (append-nil (map (descriptor_record table.id) table.descriptors)) ∙ sym (ap descriptor_entries one.only)

  old_policies : entries_where (has_prefix (policy_prefix table.id)) records ≡ policy_entries olds
  old_policies = (s.defined.held.of_tables table one.among).policies ∙ sym (append-nil (map (policy_record table.id) table.policies)) ∙ sym (ap policy_entries one.only)

  old_rows : entries_where (has_prefix (row_prefix table.id)) records ≡ row_entries records olds
  old_rows = sym (append-nil (entries_where (has_prefix (row_prefix table.id)) records)) ∙ sym (ap (row_entries records) one.only)

  -- ---- step by step

  module _ (o : IsOrdered records) where
    abbrev r1 : Records
    r1 = applied_in_turn (table_changes d e) records

    abbrev r2 : Records
    r2 = applied_in_turn (differences (descriptor_entries olds) []) r1

    abbrev r3 : Records
    r3 = applied_in_turn (differences (policy_entries olds) []) r2

    abbrev r4 : Records
    r4 = applied_in_turn (differences (row_entries records olds) []) r3

    step1 : IsTurned (has_prefix table_prefix) (map table_record tables) records r1
    step1 = turned (has_prefix table_prefix) (map table_record d.tables) (map table_record tables) records o
        (ordered_spelled (λ (u : TableDefinition). Unit {0}) definition_cmp table_record (λ a b p q. table_order a b) tables (λ u among. tt) rising_after)
        s.defined.held.tables (spelled_pass (has_prefix table_prefix) table_record (λ u. refl) tables)

    step2 : IsTurned (has_prefix (descriptor_prefix table.id)) [] r1 r2
    step2 = turned (has_prefix (descriptor_prefix table.id)) (descriptor_entries olds) [] r1 step1.ordered tt
        (step1.elsewhere (has_prefix (descriptor_prefix table.id)) (kinds_apart 3 4 [] (big_bytes 4 table.id) refl) ∙ old_descriptors) refl

    step3 : IsTurned (has_prefix (policy_prefix table.id)) [] r2 r3
    step3 = turned (has_prefix (policy_prefix table.id)) (policy_entries olds) [] r2 step2.ordered tt
        (step2.elsewhere (has_prefix (policy_prefix table.id)) (kinds_apart 4 5 (big_bytes 4 table.id) (big_bytes 4 table.id) refl)
        ∙ step1.elsewhere (has_prefix (policy_prefix table.id)) (kinds_apart 3 5 [] (big_bytes 4 table.id) refl) ∙ old_policies) refl

    step4 : IsTurned (has_prefix (row_prefix table.id)) [] r3 r4
    step4 = turned (has_prefix (row_prefix table.id)) (row_entries records olds) [] r3 step3.ordered tt
        (step3.elsewhere (has_prefix (row_prefix table.id)) (kinds_apart 5 6 (big_bytes 4 table.id) (big_bytes 4 table.id) refl)
        ∙ step2.elsewhere (has_prefix (row_prefix table.id)) (kinds_apart 4 6 (big_bytes 4 table.id) (big_bytes 4 table.id) refl)
        ∙ step1.elsewhere (has_prefix (row_prefix table.id)) (kinds_apart 3 6 [] (big_bytes 4 table.id) refl) ∙ old_rows) refl

    confined : IsConfined table.id records r4
    confined q a b c f = step4.elsewhere q f ∙ step3.elsewhere q c ∙ step2.elsewhere q b ∙ step1.elsewhere q a

    held_tables : entries_where (has_prefix table_prefix) r4 ≡ map table_record tables
    held_tables =
        step4.elsewhere (has_prefix table_prefix) (kinds_apart 6 3 (big_bytes 4 table.id) [] refl)
        ∙ step3.elsewhere (has_prefix table_prefix) (kinds_apart 5 3 (big_bytes 4 table.id) [] refl)
        ∙ step2.elsewhere (has_prefix table_prefix) (kinds_apart 4 3 (big_bytes 4 table.id) [] refl) ∙ step1.held

    removed : HasNoRecords r4 table.id
    removed = record {
      descriptors = step4.elsewhere (has_prefix (descriptor_prefix table.id)) (kinds_apart 6 4 (big_bytes 4 table.id) (big_bytes 4 table.id) refl)
          ∙ step3.elsewhere (has_prefix (descriptor_prefix table.id)) (kinds_apart 5 4 (big_bytes 4 table.id) (big_bytes 4 table.id) refl) ∙ step2.held;
      policies = step4.elsewhere (has_prefix (policy_prefix table.id)) (kinds_apart 6 5 (big_bytes 4 table.id) (big_bytes 4 table.id) refl) ∙ step3.held;
      rows = step4.held;
    }

    other_number : (u : TableDefinition) → Among u d.tables → is_definition_named name u ≡ false → u.id ≡ table.id → ⊥
    other_number u among c same =
        both_ways (is_definition_named name u) c
        (same_bytes u.definition.name name (ap (λ (v : TableDefinition). v.definition.name) (one_numbered d.tables s.defined.valid.ids u table among one.among same) ∙ one.named))

    row_stays : (u : TableDefinition) → Among u d.tables → is_definition_named name u ≡ false → entries_where (has_prefix (row_prefix u.id)) r4 ≡ entries_where (has_prefix (row_prefix u.id)) records
    row_stays u among c = confined (has_prefix (row_prefix u.id)) (kinds_apart 3 6 [] (big_bytes 4 u.id) refl) (kinds_apart 4 6 (big_bytes 4 table.id) (big_bytes 4 u.id) refl)
        (kinds_apart 5 6 (big_bytes 4 table.id) (big_bytes 4 u.id) refl)
        (ids_apart 6 table.id u.id small (small_id u.id (s.defined.valid.tables u among).most) (λ h. other_number u among c (sym h)))

    ids : (j : ℕ) → Among j (ids_of d.tables) → Among j (ids_of tables) ⊎ (j ≡ table.id)
    ids j known = let u = id_among d.tables j known in go u.0 u.1 u.2 (is_definition_named name u.0) refl where
      go : (u : TableDefinition) → Among u d.tables → u.id ≡ j → (b : Bool) → is_definition_named name u ≡ b → Among j (ids_of tables) ⊎ (j ≡ table.id)
      go u among at true c = inr (sym at ∙ ap (λ (v : TableDefinition). v.id) (one_named d.tables rising u table among one.among (bytes_same u.definition.name name c ∙ sym one.named)))
      go u among at false c = inl (subst (λ (n : ℕ). Among n (ids_of tables)) at (into_map (λ (v : TableDefinition). v.id) tables u
          (into_filter (λ (v : TableDefinition). not (is_definition_named name v)) d.tables u among (not_from_false (is_definition_named name u) c))))

    each_held : (u : TableDefinition) → Among u tables → (Among u d.tables × (u.id ≡ table.id → ⊥)) ⊎ HoldsTable r4 u
    each_held u among = let old = stays u among in inl (old.0, other_number u old.0 old.1)

    in_steps : applied_in_turn (record_changes (change.DropTable name) d records) records ≡ r4
    in_steps =
        in_turn_append (table_changes d e) (differences (descriptor_entries olds) [] ++ (differences (policy_entries olds) [] ++ differences (row_entries records olds) [])) records
        ∙ in_turn_append (differences (descriptor_entries olds) []) (differences (policy_entries olds) [] ++ differences (row_entries records olds) []) r1
        ∙ in_turn_append (differences (policy_entries olds) []) (differences (row_entries records olds) []) r2

    pub drop_shown : Shows (applied_in_turn (record_changes (change.DropTable name) d records) records) e after
    drop_shown = subst (λ (z : Records). Shows z e after) (sym in_steps)
        (table_shown records r4 d e db s table.id small confined ids (inr removed)
        after rows refl refl held_tables each_held (rows_dropped records r4 name d.tables s.rows row_stays s.held) valid_after is_after whole.rows)

pub drop_table_leads : (name : TheName) → Leads (change.DropTable name)
drop_table_leads name records d db after o s fits is whole = drop_shown name records d db after s fits is whole o
