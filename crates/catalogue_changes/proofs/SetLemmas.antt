-- A change of the privilege descriptors of a table is the put of the table with those after it.
use Rattle.std.proofs.Common.{◌≡◌, Bool, true, false, not, cond, List, [], ◌∷◌, ◌++◌, map, filter, find, bytes_eq, Option, Some, refl, ap, sym, ◌∙◌, subst, inl, inr}
use Rattle.std.proofs.lemmas.List.{append-nil}
use Rattle.std.specs.Ordering.{is_lt, is_eq, ordering_reverse}
use Rattle.std.specs.declared.cmp.Ordering.{Ordering}
use Rattle.std.specs.declared.cmp.Ordering.TheVariants.{Less, Equal, Greater}
use Rattle.sql_ast.specs.declared.privilege.Descriptor.{Descriptor}
use Rattle.store.specs.Records.{Records, Changes}
use Rattle.store.proofs.Changes.{itself}
use Rattle.abstract_database.specs.Lists.{TheName, name_cmp, Among, Rising, put, the_new, drop_where, change_where}
use Rattle.abstract_database.specs.Database.{Database, descriptor_cmp}
use Rattle.abstract_database.specs.Whole.{Each, IsWhole}
use Rattle.abstract_database.proofs.DescriptorOrder.{names_ordered, descriptors_ordered}
use Rattle.stored_database.specs.Definitions.{TableDefinition, Definitions, definition_cmp}
use Rattle.stored_database.specs.Entries.{entries_of}
use Rattle.stored_database.specs.Items.{IsStoredDescriptor}
use Rattle.stored_database.specs.RecordFormat.{bit, table_record, descriptor_record, policy_record}
use Rattle.stored_database.specs.Valid.{Describes, AreValid}
use Rattle.stored_database.proofs.KeyOrder.{descriptor_order}
use Rattle.stored_database.proofs.Spelled.{described_shown}
use Rattle.stored_database.proofs.TableParts.{tables_in_order}
use Rattle.stored_database.proofs.Validity.{stored_descriptors}
use Rattle.abstract_database.specs.Privileges.{is_named_in}
use Rattle.catalogue.specs.declared.change.SchemaChange.TheVariants as change
use Rattle.catalogue.specs.Changes.{changed}
use Rattle.catalogue.specs.Descriptors.{DescriptorsChanged, put_each, descriptors_after, table_after}
use Rattle.catalogue.specs.Lookups.{is_definition_named}
use Rattle.catalogue.proofs.Setting.{none_changed, other_name}
use Rattle.catalogue.proofs.ValidDefinitions.{parts_in_order}
use Rattle.catalogue_changes.specs.Differences.{differences}
use Rattle.catalogue_changes.specs.SchemaChanges.{HasTable, HasDescriptors, FitsTable, IsReplaced, table_changes, tables_named, descriptor_entries, policy_entries, entries_in, record_changes}
use Rattle.catalogue_changes.proofs.DescriptorPutLemmas.{is_for_table}
use Rattle.catalogue_changes.proofs.ItemChangeLemmas.{AreChanges, changes_differ}
use Rattle.catalogue_changes.proofs.ItemLemmas.{none_differs}
use Rattle.catalogue_changes.proofs.TableListLemmas.{put_there}
use Rattle.catalogue_changes.proofs.PutTableLemmas.{valid_after}
use Rattle.catalogue_changes.proofs.StorableLemmas.{all_of}
use Rattle.catalogue_changes.specs.DescriptorChanges.{IsChangeOf}
use Rattle.catalogue_changes.specs.Entries.{IsStorableDescriptor, IsStorableTable, AreStorableTables}
use Rattle.catalogue_changes.specs.StatementChanges.{IsTableOf}
use Rattle.std.specs.List.{AllByRecursion}
use Rattle.abstract_database.proofs.ListLemmas.{bytes_same}
use Rattle.catalogue_changes.proofs.TableBridgeLemmas.{is_of_table, found_among, named, among, own_descriptors, own_policies, tables_same}

-- ---- the tables

inside : (x y : TableDefinition) → ◌≡◌ {A = Option TableDefinition} (Some x) (Some y) → x ≡ y
inside x y e = cc

put_table_at : (o : Ordering) (u x : TableDefinition) (xs : List TableDefinition) → definition_cmp u x ≡ o
    → put definition_cmp the_new u (x ∷ xs) ≡ cond (is_lt o) (u ∷ x ∷ xs) (cond (is_eq o) (u ∷ xs) (x ∷ put definition_cmp the_new u xs))
put_table_at o u x xs e = ap (λ (p : Ordering). cond (is_lt p) (u ∷ x ∷ xs) (cond (is_eq p) (u ∷ xs) (x ∷ put definition_cmp the_new u xs))) e

module _ (c : DescriptorsChanged) (t : TableDefinition) (name_is : t.definition.name ≡ c.table) where
  -- to change the table that is found is to put it changed
  set_is_put : (ts : List TableDefinition) → Rising definition_cmp ts → find (is_definition_named c.table) ts ≡ Some t
      → change_where (is_definition_named c.table) (table_after c) ts ≡ put definition_cmp the_new (table_after c t) ts
  set_is_put [] r e = cc
  set_is_put (x ∷ xs) r e = go (is_definition_named c.table x) e (set_is_put xs r.1) where
    named_of : TableDefinition → TheName
    named_of u = u.definition.name

    go : (b : Bool) → cond b (Some x) (find (is_definition_named c.table) xs) ≡ Some t
        → (find (is_definition_named c.table) xs ≡ Some t → change_where (is_definition_named c.table) (table_after c) xs ≡ put definition_cmp the_new (table_after c t) xs)
        → cond b (table_after c x) x ∷ change_where (is_definition_named c.table) (table_after c) xs ≡ put definition_cmp the_new (table_after c t) (x ∷ xs)
    go true f later =
        let same : x ≡ t = inside x t f in
        let is : x.definition.name ≡ c.table = ap named_of same ∙ name_is in
        ap (λ (l : List TableDefinition). table_after c x ∷ l)
        (none_changed named_of c.table (table_after c) xs (λ y among. other_name named_of c.table (table_after c) y (subst (λ (n : TheName). name_cmp n y.definition.name ≡ Less) is (r.0 y among))))
        ∙ ap (λ (v : TableDefinition). table_after c v ∷ xs) same
        ∙ sym (put_table_at Equal (table_after c t) x xs (ap (λ (v : TableDefinition). name_cmp t.definition.name v.definition.name) same ∙ itself t.definition.name))
    go false f later =
        let there = (found_among (is_definition_named c.table) xs t f).0 in
        ap (λ (l : List TableDefinition). x ∷ l) (later f)
        ∙ sym (put_table_at Greater (table_after c t) x xs (names_ordered.antisymm t.definition.name x.definition.name ∙ ap ordering_reverse (r.0 t there)))

  same_record : (b : Bool) (x : TableDefinition) → table_record (cond b (table_after c x) x) ≡ table_record x
  same_record true x = refl
  same_record false x = refl

  same_records : (ts : List TableDefinition) → map table_record (change_where (is_definition_named c.table) (table_after c) ts) ≡ map table_record ts
  same_records [] = refl
  same_records (x ∷ xs) = ap (λ e. e ∷ map table_record (change_where (is_definition_named c.table) (table_after c) xs)) (same_record (is_definition_named c.table x) x) ∙ ap (λ es. table_record x ∷ es) (same_records xs)

  none_of_name : (ts : List TableDefinition) → ((y : TableDefinition) → Among y ts → name_cmp c.table y.definition.name ≡ Less) → filter (is_definition_named c.table) ts ≡ []
  none_of_name [] h = refl
  none_of_name (y ∷ ys) h =
      ap (λ (b : Bool). cond b (y ∷ filter (is_definition_named c.table) ys) (filter (is_definition_named c.table) ys)) (other_name (λ (u : TableDefinition). u.definition.name) c.table (table_after c) y (h y (inl refl)))
      ∙ none_of_name ys (λ z among. h z (inr among))

  one_of_name : (ts : List TableDefinition) → Rising definition_cmp ts → find (is_definition_named c.table) ts ≡ Some t → filter (is_definition_named c.table) ts ≡ t ∷ []
  one_of_name [] r e = cc
  one_of_name (x ∷ xs) r e = go (is_definition_named c.table x) e (one_of_name xs r.1) where
    go : (b : Bool) → cond b (Some x) (find (is_definition_named c.table) xs) ≡ Some t → (find (is_definition_named c.table) xs ≡ Some t → filter (is_definition_named c.table) xs ≡ t ∷ [])
        → cond b (x ∷ filter (is_definition_named c.table) xs) (filter (is_definition_named c.table) xs) ≡ t ∷ []
    go true f later =
        let same : x ≡ t = inside x t f in
        let is : x.definition.name ≡ c.table = ap (λ (u : TableDefinition). u.definition.name) same ∙ name_is in
        ap (λ (l : List TableDefinition). x ∷ l) (none_of_name xs (λ y among. subst (λ (n : TheName). name_cmp n y.definition.name ≡ Less) is (r.0 y among)))
        ∙ ap (λ (v : TableDefinition). v ∷ []) same
    go false f later = later f

-- ---- what comes is there afterwards

put_there_too : (x d : Descriptor) (ds : List Descriptor) → Among x ds → (descriptor_cmp d x ≡ Equal → ⊥) → Among x (put descriptor_cmp the_new d ds)
put_there_too x d [] h apart = absurd h
put_there_too x d (y ∷ ys) h apart = go (descriptor_cmp d y) refl h (λ k. put_there_too x d ys k apart) where
  go : (o : Ordering) → descriptor_cmp d y ≡ o → Among x (y ∷ ys) → (Among x ys → Among x (put descriptor_cmp the_new d ys)) → Among x (cond (is_lt o) (d ∷ y ∷ ys) (cond (is_eq o) (d ∷ ys) (y ∷ put descriptor_cmp the_new d ys)))
  go Less e k later = inr k
  go Equal e (inl is) later = absurd (apart (subst (λ (v : Descriptor). descriptor_cmp d v ≡ Equal) is e))
  go Equal e (inr k) later = inr k
  go Greater e (inl is) later = inl is
  go Greater e (inr k) later = inr (later k)

put_is_there : (d : Descriptor) (ds : List Descriptor) → Among d (put descriptor_cmp the_new d ds)
put_is_there d [] = inl refl
put_is_there d (y ∷ ys) = go (descriptor_cmp d y) (put_is_there d ys) where
  go : (o : Ordering) → Among d (put descriptor_cmp the_new d ys) → Among d (cond (is_lt o) (d ∷ y ∷ ys) (cond (is_eq o) (d ∷ ys) (y ∷ put descriptor_cmp the_new d ys)))
  go Less later = inl refl
  go Equal later = inl refl
  go Greater later = inr later

stays_there : (x : Descriptor) (added ds : List Descriptor) → Among x ds → ((d : Descriptor) → Among d added → descriptor_cmp x d ≡ Less) → Among x (put_each descriptor_cmp the_new added ds)
stays_there x [] ds h behind = h
stays_there x (d ∷ added) ds h behind = stays_there x added (put descriptor_cmp the_new d ds) (put_there_too x d ds h apart) (λ v among. behind v (inr among)) where
  apart : descriptor_cmp d x ≡ Equal → ⊥
  apart e = let no : Greater ≡ Equal = sym (descriptors_ordered.antisymm d x ∙ ap ordering_reverse (behind d (inl refl))) ∙ e in cc

come_is_there : (added ds : List Descriptor) → Rising descriptor_cmp added → (x : Descriptor) → Among x added → Among x (put_each descriptor_cmp the_new added ds)
come_is_there [] ds r x h = absurd h
come_is_there (d ∷ added) ds r x (inl is) = subst (λ (v : Descriptor). Among v (put_each descriptor_cmp the_new added (put descriptor_cmp the_new d ds))) is (stays_there d added (put descriptor_cmp the_new d ds) (put_is_there d ds) r.0)
come_is_there (d ∷ added) ds r x (inr later) = come_is_there added (put descriptor_cmp the_new d ds) r.1 x later

other_flag : (a b : Bool) → a ≡ not b → bytes_eq (bit a ∷ []) (bit b ∷ []) ≡ false
other_flag true true e = cc
other_flag true false e = refl
other_flag false true e = refl
other_flag false false e = cc

-- ---- the change

module _ (c : DescriptorsChanged) (d : Definitions) (db after : Database) (s : Describes d db) (fits : FitsTable c d) where
  abbrev t : TableDefinition
  t = fits.table

  abbrev new : TableDefinition
  new = table_after c t

  name_is : t.definition.name ≡ c.table
  name_is = named d db s c.table t fits.found

  rising : Rising definition_cmp d.tables
  rising = tables_in_order d s.valid

  pub has_table : HasDescriptors c db after → HasTable new db after
  has_table is = record {
    roles = is.roles;
    memberships = is.memberships;
    tables = is.tables ∙ tables_same d db s c.table t fits.found;
    descriptors = subst (λ (ds : List Descriptor). IsReplaced (is_for_table t.definition.name) (descriptors_after c ds) db.descriptors after.descriptors) (own_descriptors d db s c.table t fits.found)
        (subst (λ (n : TheName). IsReplaced (is_for_table n) (descriptors_after c (filter (is_for_table n) db.descriptors)) db.descriptors after.descriptors) (sym name_is) is.descriptors);
    policies = record {
      these_pass = ap (filter (is_of_table t.definition.name)) is.policies ∙ own_policies d db s c.table t fits.found;
      others = ap (drop_where (is_of_table t.definition.name)) is.policies;
    };
  }

  pub set_changed : changed (change.SetDescriptors c) d ≡ changed (change.PutTable new) d
  set_changed = ap (λ (ts : List TableDefinition). record d { tables = ts }) (set_is_put c t name_is d.tables rising fits.found)

  module _ (put : HasTable new db after) (whole_after : IsWhole after) where
    valid : AreValid (changed (change.PutTable new) d)
    valid = valid_after new (entries_of d s.rows) d db after (described_shown d db s) fits.after put whole_after

    are_changes : AreChanges descriptor_cmp descriptors_ordered (descriptor_record t.id) (IsStoredDescriptor t.definition.name) (descriptor_order t.definition.name t.id) c.added c.removed t.descriptors
    are_changes = record {
      held = stored_descriptors d s.valid t (among d db s c.table t fits.found);
      comes = λ x of. stored_descriptors (changed (change.PutTable new) d) valid new (put_there new d.tables) x (come_is_there c.added (drop_where (is_named_in c.removed) t.descriptors) fits.change.fits.come_rise x of);
      order = (parts_in_order d s.valid t (among d db s c.table t fits.found)).descriptor_order;
      gone_order = fits.change.fits.gone_rise;
      come_order = fits.change.fits.come_rise;
      there = fits.change.fits.there;
      apart = fits.change.fits.apart;
      new = λ x of y at e. other_flag y.grantable x.grantable (fits.change.fits.new x of y at (ap is_eq e));
    }

    abbrev spelled : List Descriptor → Records
    spelled ds = map (descriptor_record t.id) ds

    pub set_records : (records : Records) → record_changes (change.PutTable new) d records ≡ record_changes (change.SetDescriptors c) d records
    set_records records =
        let olds = one_of_name c t name_is d.tables rising fits.found in
        let olds_of_table : tables_named t.definition.name d ≡ t ∷ [] = ap (λ (n : TheName). tables_named n d) name_is ∙ olds in
        let tables : table_changes d (changed (change.PutTable new) d) ≡ [] =
        ap (λ (ts : List TableDefinition). differences (map table_record d.tables) (map table_record ts)) (sym (set_is_put c t name_is d.tables rising fits.found))
        ∙ ap (differences (map table_record d.tables)) (same_records c t name_is d.tables) ∙ none_differs (map table_record d.tables) in
        let policies : differences (policy_entries (tables_named t.definition.name d)) (map (policy_record t.id) t.policies) ≡ [] =
        ap (λ (ts : List TableDefinition). differences (policy_entries ts) (map (policy_record t.id) t.policies)) olds_of_table
        ∙ ap (λ (es : Records). differences es (map (policy_record t.id) t.policies)) (append-nil (map (policy_record t.id) t.policies))
        ∙ none_differs (map (policy_record t.id) t.policies) in
        let descriptors : differences (descriptor_entries (tables_named t.definition.name d)) (spelled new.descriptors) ≡ differences (spelled c.removed) (spelled c.added) =
        ap (λ (ts : List TableDefinition). differences (descriptor_entries ts) (spelled new.descriptors)) olds_of_table
        ∙ ap (λ (es : Records). differences es (spelled new.descriptors)) (append-nil (spelled t.descriptors))
        ∙ changes_differ descriptor_cmp descriptors_ordered (descriptor_record t.id) (IsStoredDescriptor t.definition.name) (descriptor_order t.definition.name t.id) t.descriptors c.added c.removed are_changes in
        let same : record_changes (change.SetDescriptors c) d records ≡ differences (spelled c.removed) (spelled c.added) =
        ap (λ (ts : List TableDefinition). differences (entries_in ts c.removed) (entries_in ts c.added)) olds
        ∙ ap (λ (es : Records). differences es (entries_in (t ∷ []) c.added)) (append-nil (spelled c.removed))
        ∙ ap (differences (spelled c.removed)) (append-nil (spelled c.added)) in
        ap (λ (cs : Changes). cs ++ (differences (descriptor_entries (tables_named t.definition.name d)) (spelled new.descriptors) ++ differences (policy_entries (tables_named t.definition.name d)) (map (policy_record t.id) t.policies))) tables
        ∙ ap (λ (cs : Changes). differences (descriptor_entries (tables_named t.definition.name d)) (spelled new.descriptors) ++ cs) policies
        ∙ append-nil (differences (descriptor_entries (tables_named t.definition.name d)) (spelled new.descriptors))
        ∙ descriptors ∙ sym same

-- ---- the records that go and come

each_of : {X : Type 0} (P : X → Type 0) (xs : List X) → AllByRecursion P xs → Each P xs
each_of P [] all x h = absurd h
each_of P (y ∷ ys) all x (inl is) = subst P is all.0
each_of P (y ∷ ys) all x (inr later) = each_of P ys all.1 x later

module _ (c : DescriptorsChanged) (d : Definitions) (t : TableDefinition) (found : IsTableOf d c.table t) where
  found_there : Among t d.tables × (is_definition_named c.table t ≡ true)
  found_there = found_among (is_definition_named c.table) d.tables t found

  pub entries_of_table : Rising definition_cmp d.tables → (ds : List Descriptor) → entries_in (tables_named c.table d) ds ≡ map (descriptor_record t.id) ds
  entries_of_table rising ds =
      ap (λ (ts : List TableDefinition). entries_in ts ds) (one_of_name c t (bytes_same t.definition.name c.table found_there.1) d.tables rising found)
      ∙ append-nil (map (descriptor_record t.id) ds)

  pub set_as_put : Rising definition_cmp d.tables → changed (change.SetDescriptors c) d ≡ changed (change.PutTable (table_after c t)) d
  set_as_put rising = ap (λ (ts : List TableDefinition). record d { tables = ts }) (set_is_put c t (bytes_same t.definition.name c.table found_there.1) d.tables rising found)

  module _ (changes : IsChangeOf t c) where
    -- what goes has records that a store takes where the table has them
    pub storable_gone : AreStorableTables d.tables → AllByRecursion (IsStorableDescriptor t.id) c.removed
    storable_gone all =
        all_of (IsStorableDescriptor t.id) c.removed (λ x of.
        each_of (IsStorableDescriptor t.id) t.descriptors (each_of IsStorableTable d.tables all t found_there.0).descriptors x (changes.fits.there x of))

    -- and what comes where the table after the change has them
    pub storable_come : IsStorableTable (table_after c t) → AllByRecursion (IsStorableDescriptor t.id) c.added
    storable_come one =
        all_of (IsStorableDescriptor t.id) c.added (λ x of.
        each_of (IsStorableDescriptor t.id) (descriptors_after c t.descriptors) one.descriptors x
        (come_is_there c.added (drop_where (is_named_in c.removed) t.descriptors) changes.fits.come_rise x of))
