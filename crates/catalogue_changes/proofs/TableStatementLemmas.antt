-- What the statements on tables find and add.
use Rattle.std.proofs.Common.{◌≡◌, Bool, true, false, cond, List, [], ◌∷◌, map, filter, find, Option, Some, option_to_list, Result, Ok, Err, IsErrAnd, refl, ap, sym, ◌∙◌, subst, inl, inr}
use Rattle.std.specs.declared.cmp.Ordering.{Ordering}
use Rattle.std.specs.declared.cmp.Ordering.TheVariants.{Less, Equal, Greater}
use Rattle.abstract_database.specs.Lists.{TheName, Rising}
use Rattle.abstract_database.proofs.ListLemmas.{bytes_same}
use Rattle.store.specs.Records.{Records}
use Rattle.store.specs.declared.fault.Fault.{Fault}
use Rattle.store.specs.declared.fault.Fault.TheVariants.{Damaged}
use Rattle.stored_database.specs.Definitions.{TableDefinition, definition_cmp}
use Rattle.stored_database.specs.RecordFormat.{table_record}
use Rattle.catalogue.specs.Lookups.{is_definition_named}
use Rattle.catalogue_changes.specs.Differences.{differences}
use Rattle.catalogue_changes.specs.Entries.{HaveRecordSizes, AreStorableDescriptors, IsStorableTable, AreStorableTables, AreStorable}
use Rattle.catalogue_changes.proofs.TableListLemmas.{not_less_itself, none_or_one, with_put, put_by_name}

-- ---- the table of a name

-- the table that is found is the one of its name
pub found_named : (name : TheName) (ts : List TableDefinition) → Rising definition_cmp ts → option_to_list (find (is_definition_named name) ts) ≡ filter (is_definition_named name) ts
found_named name [] r = refl
found_named name (t ∷ ts) r = go (is_definition_named name t) refl (found_named name ts r.1) where
  go : (b : Bool) → is_definition_named name t ≡ b → option_to_list (find (is_definition_named name) ts) ≡ filter (is_definition_named name) ts
      → option_to_list (cond b (Some t) (find (is_definition_named name) ts)) ≡ cond b (t ∷ filter (is_definition_named name) ts) (filter (is_definition_named name) ts)
  go true c later = elim (none_or_one name ts r.1) [
    | inl n ↦ ap (λ (us : List TableDefinition). t ∷ us) (sym n.empty)
    | inr one ↦ absurd (not_less_itself t.definition.name one.table.definition.name (r.0 one.table one.among) (bytes_same t.definition.name name c ∙ sym one.named))
  ]
  go false c later = later

pub same_found : (name n : TheName) (ts : List TableDefinition) (found : Option TableDefinition) → n ≡ name → found ≡ find (is_definition_named n) ts → Rising definition_cmp ts
    → option_to_list found ≡ filter (is_definition_named name) ts
same_found name n ts found same is r = ap option_to_list is ∙ ap (λ (m : TheName). option_to_list (find (is_definition_named m) ts)) same ∙ found_named name ts r

-- ---- the same changes

pub same_table_changes : {a b c d : List TableDefinition} → a ≡ c → b ≡ d → differences (map table_record a) (map table_record b) ≡ differences (map table_record c) (map table_record d)
same_table_changes p q = cc

pub same_gone : {a b : List TableDefinition} (spelled : List TableDefinition → Records) (came : Records) → a ≡ b → differences (spelled a) came ≡ differences (spelled b) came
same_gone spelled came p = ap (λ (ts : List TableDefinition). differences (spelled ts) came) p

-- ---- sizes

pub table_sizes : (ts : List TableDefinition) → AreStorableTables ts → HaveRecordSizes (map table_record ts)
table_sizes [] h = tt
table_sizes (t ∷ ts) h = (h.0.table, table_sizes ts h.1)

pub storable_descriptors : (ts : List TableDefinition) → AreStorableTables ts → AreStorableDescriptors ts
storable_descriptors [] h = tt
storable_descriptors (t ∷ ts) h = (h.0.descriptors, storable_descriptors ts h.1)

pub storable_policies : (ts : List TableDefinition) → AreStorableTables ts → AreStorable ts
storable_policies [] h = tt
storable_policies (t ∷ ts) h = (h.0.policies, storable_policies ts h.1)

pub storable_put : (t : TableDefinition) (ts : List TableDefinition) → IsStorableTable t → AreStorableTables ts → AreStorableTables (with_put t ts)
storable_put t [] h k = (h, tt)
storable_put t (u ∷ ts) h k = go (definition_cmp t u) (storable_put t ts h k.1) where
  go : (o : Ordering) → AreStorableTables (with_put t ts) → AreStorableTables (put_by_name o t u ts (with_put t ts))
  go Less later = (h, k)
  go Equal later = (h, k.1)
  go Greater later = (k.0, later)

pub storable_where : (test : TableDefinition → Bool) (ts : List TableDefinition) → AreStorableTables ts → AreStorableTables (filter test ts)
storable_where test [] h = tt
storable_where test (t ∷ ts) h = go (test t) (storable_where test ts h.1) where
  go : (b : Bool) → AreStorableTables (filter test ts) → AreStorableTables (cond b (t ∷ filter test ts) (filter test ts))
  go true later = (h.0, later)
  go false later = later

pub sizes_of_tables : {ts us : List TableDefinition} → ts ≡ us → AreStorableTables us → HaveRecordSizes (map table_record ts)
sizes_of_tables {ts} {us} same h = subst (λ (vs : List TableDefinition). HaveRecordSizes (map table_record vs)) (sym same) (table_sizes us h)

pub descriptors_of_tables : {ts us : List TableDefinition} → ts ≡ us → AreStorableTables us → AreStorableDescriptors ts
descriptors_of_tables {ts} {us} same h = subst AreStorableDescriptors (sym same) (storable_descriptors us h)

pub policies_of_tables : {ts us : List TableDefinition} → ts ≡ us → AreStorableTables us → AreStorable ts
policies_of_tables {ts} {us} same h = subst AreStorable (sym same) (storable_policies us h)

-- ---- faults

abbrev answer : (U : Type 0) → Fault → Result U Fault
answer U fault = Err fault

-- a fault that is handed on is not Damaged where the first was not
pub undamaged_on : {T U : Type 0} (r : Result T Fault) (fault : Fault) → IsErrAnd r (λ e. e ≡ fault) → (answer U fault ≡ answer U Damaged → ⊥) → r ≡ Err Damaged → ⊥
undamaged_on (Ok x) fault is other same = absurd is
undamaged_on {T} {U} (Err e) fault is other same = other (again is same) where
  again : {d f : Fault} → d ≡ f → answer T d ≡ answer T Damaged → answer U f ≡ answer U Damaged
  again p q = cc
