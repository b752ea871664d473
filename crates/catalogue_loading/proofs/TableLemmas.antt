-- Tables and what records hold for them.
use Rattle.std.proofs.Common.{◌≡◌, ℕ, List, [], ◌∷◌, ◌++◌, map, refl, ap, sym, ◌∙◌, subst, inl, append_assoc, Result, Ok, Err}
use Rattle.std.proofs.lemmas.List.{append-nil, map-append}
use Rattle.sql_ast.specs.declared.privilege.Descriptor.{Descriptor}
use Rattle.sql_ast.specs.declared.policy.Policy.{Policy}
use Rattle.store.specs.declared.fault.Fault.{Fault}
use Rattle.store.specs.Records.{Records, IsOrdered}
use Rattle.abstract_database.specs.Lists.{Among}
use Rattle.abstract_database.specs.Database.{TableOf, descriptor_cmp, policy_cmp}
use Rattle.abstract_database.specs.Whole.{Each}
use Rattle.stored_database.specs.Definitions.{TableDefinition}
use Rattle.stored_database.specs.RecordFormat.{table_prefix, table_record, descriptor_prefix, descriptor_record, policy_prefix, policy_record}
use Rattle.stored_database.specs.Items.{IsStoredDescriptor, IsStoredPolicy}
use Rattle.stored_database.proofs.KeyOrder.{descriptor_order, policy_order, held_rise}
use Rattle.stored_database.proofs.Lists.{same_items, of_map, into_right}
use Rattle.stored_database.proofs.Tables.{one_table}
use Rattle.catalogue.specs.Tables.{HasOrderedParts}
use Rattle.catalogue_loading.specs.RecordParts.{IsTableAlone}
use Rattle.catalogue_loading.specs.Walks.{AreHeld}
use Rattle.catalogue_loading.proofs.Loading.{each_append}
use Rattle.catalogue_loading.specs.Found.{Finds}
use Rattle.catalogue_loading.specs.Held.{AreHeldPolicies, HasHeldParts, alone, IsHeldTable, AreHeldOf, AreHeldTables}
use Rattle.catalogue_loading.proofs.Finding.{fault_found}

-- ---- one table

-- the privilege descriptors and the policies of a table stand in the order of their keys
parts_ordered : (records : Records) (t : TableDefinition) → IsOrdered records → HasHeldParts records t → HasOrderedParts t
parts_ordered records t o parts = record {
  descriptors = λ e of. (parts.descriptors.valid e of).table;
  descriptor_order = held_rise (IsStoredDescriptor t.definition.name) descriptor_cmp (descriptor_record t.id) (descriptor_order t.definition.name t.id) records (descriptor_prefix t.id) t.descriptors o
      parts.descriptors.held parts.descriptors.valid;
  policies = λ p of. (parts.policies.held.valid p of).stored.table;
  policy_order = held_rise (IsStoredPolicy t.definition.name) policy_cmp (policy_record t.id) (policy_order t.definition.name t.id) records (policy_prefix t.id) t.policies o
      parts.policies.held.held (λ p of. (parts.policies.held.valid p of).stored);
}

-- so they do where they were looked for one after the other
pub looked_up_ordered : (records later : Records) (t : TableDefinition) → IsOrdered records → later ≡ records
    → AreHeld (IsStoredDescriptor t.definition.name) (descriptor_record t.id) records (descriptor_prefix t.id) t.descriptors
    → AreHeldPolicies later t.id t.definition.name t.definition.layout t.policies → HasOrderedParts t
looked_up_ordered records later t o same descriptors policies =
    parts_ordered records t o (record { descriptors = descriptors; policies = subst (λ (es : Records). AreHeldPolicies es t.id t.definition.name t.definition.layout t.policies) same policies })

-- ---- own records

abbrev table_from : ℕ → TableOf → List Descriptor → List Policy → TableDefinition
table_from id definition descriptors policies = record { id = id; definition = definition; descriptors = descriptors; policies = policies }

one_alone : (a b : TableDefinition) → IsTableAlone a → IsTableAlone b → table_record a ≡ table_record b → a ≡ b
one_alone a b p q h =
    let is = one_table a b p.stored q.stored h in
    same is.0 is.1 (p.no_descriptors ∙ sym q.no_descriptors) (p.no_policies ∙ sym q.no_policies)
  where
    same : {i j : ℕ} {s t : TableOf} {ds es : List Descriptor} {ps qs : List Policy} → i ≡ j → s ≡ t → ds ≡ es → ps ≡ qs → table_from i s ds ps ≡ table_from j t es qs
    same p q r s = cc

-- records hold one list of own records
one_said : (records : Records) (xs ys : List TableDefinition) → AreHeld IsTableAlone table_record records table_prefix xs → AreHeld IsTableAlone table_record records table_prefix ys → xs ≡ ys
one_said records xs ys p q = same_items IsTableAlone table_record one_alone xs ys p.valid q.valid (sym p.held ∙ q.held)

all_tables : (records : Records) (said ts : List TableDefinition) → AreHeld IsTableAlone table_record records table_prefix said → AreHeldOf records said ts → AreHeldTables records ts
all_tables records said ts held of = record { tables = subst (AreHeld IsTableAlone table_record records table_prefix) (sym of.same) held; parts = of.parts }

of_said : (records : Records) (said ts : List TableDefinition) → AreHeld IsTableAlone table_record records table_prefix said → AreHeldTables records ts → AreHeldOf records said ts
of_said records said ts held all = record { same = one_said records (map alone ts) said all.tables held; parts = all.parts }

-- where the tables of these records were looked for, all were
pub tables_found : (records : Records) (said : List TableDefinition) (result : Result (List TableDefinition) Fault) → AreHeld IsTableAlone table_record records table_prefix said
    → Finds (AreHeldOf records said) result → Finds (AreHeldTables records) result
tables_found records said (Ok ts) held of = all_tables records said ts held of
tables_found records said (Err fault) held of =
    fault_found (λ (ts : List TableDefinition). ts) (AreHeldOf records said) (λ (ts : List TableDefinition). ts) (AreHeldTables records) fault (λ ts all. (ts, of_said records said ts held all)) of

-- ---- table after table

-- the tables of the first own records; the rest is still to come
pub record AreHeldSoFar (records : Records) (said rest ts : List TableDefinition) : Type 0 where
  pub same : said ≡ map alone ts ++ rest
  pub parts : Each (HasHeldParts records) ts

pub none_so_far : (records : Records) (said rest ts : List TableDefinition) → ts ≡ [] → rest ≡ said → AreHeldSoFar records said rest ts
none_so_far records said rest [] is same = record { same = sym same; parts = λ t among. absurd among }
none_so_far records said rest (t ∷ ts) is same = cc

pub one_so_far : (records : Records) (said rest ts : List TableDefinition) (own t : TableDefinition) → AreHeldSoFar records said (own ∷ rest) ts → IsHeldTable records own t
    → AreHeldSoFar records said rest (ts ++ t ∷ [])
one_so_far records said rest ts own t so_far is = record {
  same =
      so_far.same
      ∙ ap (λ (x : TableDefinition). map alone ts ++ x ∷ rest) (sym is.same)
      ∙ sym (append_assoc (map alone ts) (alone t ∷ []) rest)
      ∙ ap (λ (xs : List TableDefinition). xs ++ rest) (sym (map-append alone ts (t ∷ [])));
  parts = each_append (HasHeldParts records) ts t so_far.parts is.parts;
}

pub all_so_far : (records : Records) (said rest ts : List TableDefinition) → rest ≡ [] → AreHeldSoFar records said rest ts → AreHeldOf records said ts
all_so_far records said rest ts none so_far = record {
  same = sym (so_far.same ∙ ap (λ (xs : List TableDefinition). map alone ts ++ xs) none ∙ append-nil (map alone ts));
  parts = so_far.parts;
}

pub fault_so_far : (records : Records) (said rest ts : List TableDefinition) (own : TableDefinition) (fault : Fault) → AreHeldSoFar records said (own ∷ rest) ts
    → Finds (IsHeldTable records own) (Err fault) → Finds (AreHeldOf records said) (Err fault)
fault_so_far records said rest ts own fault so_far found =
    fault_found (λ (t : TableDefinition). t) (IsHeldTable records own) (λ (all : List TableDefinition). all) (AreHeldOf records said) fault one found
  where
    one : (all : List TableDefinition) → AreHeldOf records said all → (t : TableDefinition) × IsHeldTable records own t
    one all of =
        let among : Among own (map alone all) = subst (Among own) (sym (of.same ∙ so_far.same)) (into_right (map alone ts) (own ∷ rest) own (inl refl)) in
        let there = of_map alone all own among in
        (there.0, record { same = there.2; parts = of.parts there.0 there.1 })
