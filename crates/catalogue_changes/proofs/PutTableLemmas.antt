-- The changes of a change that puts a table.
use Rattle.std.proofs.Common.{◌≡◌, ◌⊎◌, ◌<◌, ◌^◌, ℕ, Bool, true, false, nat_eq, List, [], ◌++◌, map, length, bytes_eq, refl, ap, sym, ◌∙◌, subst, inl, inr}
use Rattle.std.specs.Prelude.{option_to_list}
use Rattle.std.specs.List.{list_any}
use Rattle.std.proofs.lemmas.Bool.{both_ways, false_from_ne_true, eqb-true}
use Rattle.std.proofs.lemmas.List.{append-nil}
use Rattle.byteorder.specs.Endian.{big_bytes}
use Rattle.sql_types.specs.Row.{Row}
use Rattle.sql_ast.specs.declared.role.Role.{Role}
use Rattle.sql_ast.specs.declared.role.Membership.{Membership}
use Rattle.sql_ast.specs.declared.privilege.Descriptor.{Descriptor}
use Rattle.sql_ast.specs.declared.policy.Policy.{Policy}
use Rattle.sql_ast.specs.declared.policy.PolicyClause.{PolicyClause}
use Rattle.store.specs.Records.{Records, IsOrdered, entries_where, has_prefix}
use Rattle.row_codec.specs.Rows.{row_prefix}
use Rattle.abstract_database.specs.Lists.{Among, Rising}
use Rattle.abstract_database.specs.Database.{Table, Database, table_cmp, descriptor_cmp, policy_cmp}
use Rattle.abstract_database.specs.Whole.{Each, IsWhole, clauses_of}
use Rattle.abstract_database.proofs.ListLemmas.{bytes_same, same_bytes}
use Rattle.abstract_database.proofs.ElementLemmas.{any_found}
use Rattle.stored_database.specs.Definitions.{TableDefinition, Definitions, definition_cmp, ids_of, tables_with, descriptors_of, policies_of, database_with, database_of}
use Rattle.stored_database.specs.RecordFormat.{table_prefix, table_record, descriptor_prefix, descriptor_record, policy_prefix, policy_record}
use Rattle.expr_parser.specs.Written.{IsAsWritten}
use Rattle.stored_database.specs.Items.{IsStoredDescriptor, IsStoredPolicy}
use Rattle.stored_database.specs.Valid.{IsNumbered, AreValid}
use Rattle.stored_database.specs.Records.{HoldsTable, HoldRows, Shows, HasNoRecords}
use Rattle.stored_database.proofs.Lists.{into_map, into_flat_map, of_flat_map}
use Rattle.stored_database.proofs.Prefixes.{descriptor_begins, policy_begins}
use Rattle.stored_database.proofs.KeyOrder.{table_order, descriptor_order, policy_order, joined_descriptors, joined_policies}
use Rattle.stored_database.proofs.Tables.{small_id}
use Rattle.stored_database.proofs.TableParts.{tables_in_order, descriptors_found, policies_found}
use Rattle.stored_database.proofs.Validity.{stored_descriptors, stored_policies}
use Rattle.stored_database.proofs.Wholeness.{as_many, whole_without_rows}
use Rattle.stored_database.proofs.Numbering.{rising_filter}
use Rattle.stored_database.proofs.FreeNumbers.{free_number}
use Rattle.catalogue_changes.specs.Differences.{differences, applied_in_turn}
use Rattle.catalogue.specs.declared.change.SchemaChange.TheVariants as change
use Rattle.catalogue.specs.Changes.{changed}
use Rattle.catalogue_changes.specs.SchemaChanges.{table_changes, tables_named, descriptor_entries, policy_entries, record_changes, HasTable, IsReplaced, FitsAmong, Leads}
use Rattle.entry_differences.proofs.DifferenceLemmas.{in_turn_append}
use Rattle.catalogue_changes.proofs.TurnLemmas.{kinds_apart, IsTurned, turned, ordered_spelled, spelled_pass, rows_stay}
use Rattle.catalogue_changes.proofs.TableListLemmas.{with_put, put_there, put_keeps, of_put, of_put_named, id_among, ids_put, none_or_one}
use Rattle.catalogue_changes.proofs.PartLemmas.{descriptor_turns, policy_turns, parts_replaced}
use Rattle.catalogue_changes.proofs.RowChangeLemmas.{put_rows, table_put, tables_put, many_put, rows_put, rising_without_rows}
use Rattle.catalogue_changes.proofs.TableShownLemmas.{IsConfined, table_shown}

abbrev pub of_lists : List Role → List Membership → List Table → List Descriptor → List Policy → Database
of_lists rs ms ts ds ps = record { roles = rs; memberships = ms; tables = ts; descriptors = ds; policies = ps }

-- databases with the same lists
pub same_lists : {qs rs : List Role} {ls ms : List Membership} {ss ts : List Table} {cs ds : List Descriptor} {os ps : List Policy} → qs ≡ rs → ls ≡ ms → ss ≡ ts → cs ≡ ds → os ≡ ps
    → of_lists qs ls ss cs os ≡ of_lists rs ms ts ds ps
same_lists a b c d e = cc

-- the conditions of a policy
abbrev pub clauses_in : Policy → List PolicyClause
clauses_in p = option_to_list p.using ++ option_to_list p.check

module _ (t : TableDefinition) (records : Records) (d : Definitions) (db after : Database) (s : Shows records d db) (fits : FitsAmong t d) (is : HasTable t db after) (whole : IsWhole after) where
  abbrev tables : List TableDefinition
  tables = with_put t d.tables

  abbrev e : Definitions
  e = changed (change.PutTable t) d

  abbrev rows : List (List Row)
  rows = put_rows t d.tables s.rows

  many : length s.rows ≡ length d.tables
  many = as_many records d.tables s.rows s.held

  pub many_after : length rows ≡ length tables
  many_after = many_put t d.tables s.rows many

  rising : Rising definition_cmp d.tables
  rising = tables_in_order d s.defined.valid

  same_tables : after.tables ≡ tables_with tables rows
  same_tables = is.tables ∙ ap (λ (z : Database). table_put t z.tables) s.is ∙ tables_put t d.tables s.rows many

  rising_after : Rising definition_cmp tables
  rising_after = rising_without_rows tables rows many_after (subst (Rising table_cmp) same_tables whole.definitions.order.tables)

  by_name : (u : TableDefinition) → Among u d.tables → u.definition.name ≡ t.definition.name → u.id ≡ t.id
  by_name u among = (fits.alike u among).by_name

  by_number : (u : TableDefinition) → Among u d.tables → u.id ≡ t.id → u.definition.name ≡ t.definition.name
  by_number u among = (fits.alike u among).by_number

  -- ---- the database

  numbered_after : Each IsNumbered tables
  numbered_after u among = elim (of_put t d.tables u among) [ inl same ↦ subst IsNumbered same fits.numbered | inr old ↦ s.defined.valid.tables u old ]

  rising_descriptors : Rising descriptor_cmp t.descriptors
  rising_descriptors = subst (Rising descriptor_cmp) is.descriptors.these_pass (rising_filter descriptor_cmp (λ (x : Descriptor). bytes_eq x.table t.definition.name) after.descriptors whole.definitions.order.descriptors)

  rising_policies : Rising policy_cmp t.policies
  rising_policies = subst (Rising policy_cmp) is.policies.these_pass (rising_filter policy_cmp (λ (x : Policy). bytes_eq x.table t.definition.name) after.policies whole.definitions.order.policies)

  each_descriptors : Each (λ (u : TableDefinition). Rising descriptor_cmp u.descriptors) tables
  each_descriptors u among = elim (of_put t d.tables u among) [
    | inl same ↦ subst (λ (v : TableDefinition). Rising descriptor_cmp v.descriptors) same rising_descriptors
    | inr old ↦ subst (Rising descriptor_cmp) (descriptors_found d s.defined.valid u old)
        (rising_filter descriptor_cmp (λ (x : Descriptor). bytes_eq x.table u.definition.name) (descriptors_of d.tables) s.defined.valid.whole.order.descriptors)
  ]

  each_policies : Each (λ (u : TableDefinition). Rising policy_cmp u.policies) tables
  each_policies u among = elim (of_put t d.tables u among) [
    | inl same ↦ subst (λ (v : TableDefinition). Rising policy_cmp v.policies) same rising_policies
    | inr old ↦ subst (Rising policy_cmp) (policies_found d s.defined.valid u old)
        (rising_filter policy_cmp (λ (x : Policy). bytes_eq x.table u.definition.name) (policies_of d.tables) s.defined.valid.whole.order.policies)
  ]

  same_descriptors : after.descriptors ≡ descriptors_of tables
  same_descriptors = parts_replaced (λ (x : Descriptor). x.table) (λ (u : TableDefinition). u.descriptors) descriptor_cmp descriptor_turns t d.tables rising_after
      (λ u among. (s.defined.valid.tables u among).descriptors) after.descriptors whole.definitions.order.descriptors
      (joined_descriptors tables rising_after (λ u among. (numbered_after u among).descriptors) each_descriptors)
      (subst (λ (z : Database). IsReplaced (λ (x : Descriptor). bytes_eq x.table t.definition.name) t.descriptors z.descriptors after.descriptors) s.is is.descriptors)

  same_policies : after.policies ≡ policies_of tables
  same_policies = parts_replaced (λ (x : Policy). x.table) (λ (u : TableDefinition). u.policies) policy_cmp policy_turns t d.tables rising_after
      (λ u among. (s.defined.valid.tables u among).policies) after.policies whole.definitions.order.policies
      (joined_policies tables rising_after (λ u among. (numbered_after u among).policies) each_policies)
      (subst (λ (z : Database). IsReplaced (λ (x : Policy). bytes_eq x.table t.definition.name) t.policies z.policies after.policies) s.is is.policies)

  pub is_after : after ≡ database_with e rows
  is_after = same_lists (is.roles ∙ ap (λ (z : Database). z.roles) s.is) (is.memberships ∙ ap (λ (z : Database). z.memberships) s.is) same_tables same_descriptors same_policies

  conditions_after : Each IsAsWritten (clauses_of (database_of e))
  conditions_after c among =
      let p = of_flat_map clauses_in (policies_of tables) c among in
      let u = of_flat_map (λ (v : TableDefinition). v.policies) tables p.0 p.1 in
      elim (of_put t d.tables u.0 u.1) [
        | inl same ↦ fits.conditions c (into_flat_map clauses_in t.policies p.0 c (subst (λ (v : TableDefinition). Among p.0 v.policies) (sym same) u.2) p.2)
        | inr old ↦ s.defined.valid.conditions c (into_flat_map clauses_in (policies_of d.tables) p.0 c (into_flat_map (λ (v : TableDefinition). v.policies) d.tables u.0 p.0 old u.2) p.2)
      ]

  pub valid_after : AreValid e
  valid_after = record {
    whole = whole_without_rows e rows many_after (subst IsWhole is_after whole);
    tables = numbered_after;
    ids = ids_put t d.tables rising s.defined.valid.ids by_number by_name;
    conditions = conditions_after;
  }

  -- ---- what was held

  abbrev olds : List TableDefinition
  olds = tables_named t.definition.name d

  small : t.id < 2 ^ 32
  small = small_id t.id fits.numbered.most

  no_records : ((u : TableDefinition) → Among u d.tables → u.definition.name ≡ t.definition.name → ⊥) → HasNoRecords records t.id
  no_records none = free_number records d db t.id s small (false_from_ne_true (list_any (nat_eq t.id) (ids_of d.tables)) (λ h.
      let found = any_found (nat_eq t.id) (ids_of d.tables) h in
      let u = id_among d.tables found.0 found.1 in
      none u.0 u.1 (by_number u.0 u.1 (u.2 ∙ sym (eqb-true t.id found.0 found.2)))))

  old_descriptors : entries_where (has_prefix (descriptor_prefix t.id)) records ≡ descriptor_entries olds
  old_descriptors = elim (none_or_one t.definition.name d.tables rising) [
    | inl n ↦ (no_records n.none).descriptors ∙ sym (ap descriptor_entries n.empty)
    | inr one ↦ ap (λ (n : ℕ). entries_where (has_prefix (descriptor_prefix n)) records) (sym (by_name one.table one.among one.named)) ∙ (s.defined.held.of_tables one.table one.among).descriptors
        ∙ sym (append-nil (map (descriptor_record one.table.id) one.table.descriptors)) ∙ sym (ap descriptor_entries one.only)
  ]

  old_policies : entries_where (has_prefix (policy_prefix t.id)) records ≡ policy_entries olds
  old_policies = elim (none_or_one t.definition.name d.tables rising) [
    | inl n ↦ (no_records n.none).policies ∙ sym (ap policy_entries n.empty)
    | inr one ↦ ap (λ (n : ℕ). entries_where (has_prefix (policy_prefix n)) records) (sym (by_name one.table one.among one.named)) ∙ (s.defined.held.of_tables one.table one.among).policies
        ∙ sym (append-nil (map (policy_record one.table.id) one.table.policies)) ∙ sym (ap policy_entries one.only)
  ]

  -- ---- step by step

  module _ (o : IsOrdered records) where
    abbrev r1 : Records
    r1 = applied_in_turn (table_changes d e) records

    abbrev r2 : Records
    r2 = applied_in_turn (differences (descriptor_entries olds) (map (descriptor_record t.id) t.descriptors)) r1

    abbrev r3 : Records
    r3 = applied_in_turn (differences (policy_entries olds) (map (policy_record t.id) t.policies)) r2

    step1 : IsTurned (has_prefix table_prefix) (map table_record tables) records r1
    step1 = turned (has_prefix table_prefix) (map table_record d.tables) (map table_record tables) records o
        (ordered_spelled (λ (u : TableDefinition). Unit {0}) definition_cmp table_record (λ a b p q. table_order a b) tables (λ u among. tt) rising_after)
        s.defined.held.tables (spelled_pass (has_prefix table_prefix) table_record (λ u. refl) tables)

    step2 : IsTurned (has_prefix (descriptor_prefix t.id)) (map (descriptor_record t.id) t.descriptors) r1 r2
    step2 = turned (has_prefix (descriptor_prefix t.id)) (descriptor_entries olds) (map (descriptor_record t.id) t.descriptors) r1 step1.ordered
        (ordered_spelled (IsStoredDescriptor t.definition.name) descriptor_cmp (descriptor_record t.id) (descriptor_order t.definition.name t.id) t.descriptors
        (stored_descriptors e valid_after t (put_there t d.tables)) rising_descriptors)
        (step1.elsewhere (has_prefix (descriptor_prefix t.id)) (kinds_apart 3 4 [] (big_bytes 4 t.id) refl) ∙ old_descriptors)
        (spelled_pass (has_prefix (descriptor_prefix t.id)) (descriptor_record t.id) (descriptor_begins t.id) t.descriptors)

    step3 : IsTurned (has_prefix (policy_prefix t.id)) (map (policy_record t.id) t.policies) r2 r3
    step3 = turned (has_prefix (policy_prefix t.id)) (policy_entries olds) (map (policy_record t.id) t.policies) r2 step2.ordered
        (ordered_spelled (IsStoredPolicy t.definition.name) policy_cmp (policy_record t.id) (policy_order t.definition.name t.id) t.policies
        (stored_policies e valid_after t (put_there t d.tables)) rising_policies)
        (step2.elsewhere (has_prefix (policy_prefix t.id)) (kinds_apart 4 5 (big_bytes 4 t.id) (big_bytes 4 t.id) refl)
        ∙ step1.elsewhere (has_prefix (policy_prefix t.id)) (kinds_apart 3 5 [] (big_bytes 4 t.id) refl) ∙ old_policies)
        (spelled_pass (has_prefix (policy_prefix t.id)) (policy_record t.id) (policy_begins t.id) t.policies)

    confined : IsConfined t.id records r3
    confined q a b c f = step3.elsewhere q c ∙ step2.elsewhere q b ∙ step1.elsewhere q a

    row_stays : (n : ℕ) → entries_where (has_prefix (row_prefix n)) r3 ≡ entries_where (has_prefix (row_prefix n)) records
    row_stays n =
        step3.elsewhere (has_prefix (row_prefix n)) (kinds_apart 5 6 (big_bytes 4 t.id) (big_bytes 4 n) refl)
        ∙ step2.elsewhere (has_prefix (row_prefix n)) (kinds_apart 4 6 (big_bytes 4 t.id) (big_bytes 4 n) refl)
        ∙ step1.elsewhere (has_prefix (row_prefix n)) (kinds_apart 3 6 [] (big_bytes 4 n) refl)

    held_tables : entries_where (has_prefix table_prefix) r3 ≡ map table_record tables
    held_tables =
        step3.elsewhere (has_prefix table_prefix) (kinds_apart 5 3 (big_bytes 4 t.id) [] refl)
        ∙ step2.elsewhere (has_prefix table_prefix) (kinds_apart 4 3 (big_bytes 4 t.id) [] refl) ∙ step1.held

    held_table : HoldsTable r3 t
    held_table = record {
      descriptors = step3.elsewhere (has_prefix (descriptor_prefix t.id)) (kinds_apart 5 4 (big_bytes 4 t.id) (big_bytes 4 t.id) refl) ∙ step2.held;
      policies = step3.held;
    }

    held_rows : HoldRows r3 tables rows
    held_rows = rows_put r3 t d.tables s.rows rising by_name (λ u among. (fits.alike u among).layout) (λ none. row_stays t.id ∙ (no_records none).rows)
        (rows_stay records r3 d.tables s.rows (λ u among. row_stays u.id) s.held)

    ids : (j : ℕ) → Among j (ids_of d.tables) → Among j (ids_of tables) ⊎ (j ≡ t.id)
    ids j there = let u = id_among d.tables j there in go u.0 u.1 u.2 (bytes_eq u.0.definition.name t.definition.name) refl where
      go : (u : TableDefinition) → Among u d.tables → u.id ≡ j → (b : Bool) → bytes_eq u.definition.name t.definition.name ≡ b → Among j (ids_of tables) ⊎ (j ≡ t.id)
      go u among at true c = inr (sym at ∙ by_name u among (bytes_same u.definition.name t.definition.name c))
      go u among at false c = inl (subst (λ (n : ℕ). Among n (ids_of tables)) at (into_map (λ (v : TableDefinition). v.id) tables u
          (put_keeps t d.tables u among (λ same. both_ways (bytes_eq u.definition.name t.definition.name) c (same_bytes u.definition.name t.definition.name same)))))

    each_held : (u : TableDefinition) → Among u tables → (Among u d.tables × (u.id ≡ t.id → ⊥)) ⊎ HoldsTable r3 u
    each_held u among = elim (of_put_named t d.tables rising_after u among) [
      | inl same ↦ inr (subst (HoldsTable r3) same held_table)
      | inr old ↦ inl (old.0, λ number. old.1 (by_number u old.0 number))
    ]

    in_steps : applied_in_turn (record_changes (change.PutTable t) d records) records ≡ r3
    in_steps =
        in_turn_append (table_changes d e) (differences (descriptor_entries olds) (map (descriptor_record t.id) t.descriptors) ++ differences (policy_entries olds) (map (policy_record t.id) t.policies)) records
        ∙ in_turn_append (differences (descriptor_entries olds) (map (descriptor_record t.id) t.descriptors)) (differences (policy_entries olds) (map (policy_record t.id) t.policies)) r1

    pub put_shown : Shows (applied_in_turn (record_changes (change.PutTable t) d records) records) e after
    put_shown = subst (λ (z : Records). Shows z e after) (sym in_steps)
        (table_shown records r3 d e db s t.id small confined ids (inl (into_map (λ (v : TableDefinition). v.id) tables t (put_there t d.tables)))
        after rows refl refl held_tables each_held held_rows valid_after is_after whole.rows)

pub put_table_leads : (t : TableDefinition) → Leads (change.PutTable t)
put_table_leads t records d db after o s fits is whole = put_shown t records d db after s fits is whole o
