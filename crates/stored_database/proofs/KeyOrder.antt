-- Keys of records compare as the items do that they spell.
use Rattle.std.proofs.Common.{◌≡◌, ◌≢◌, ◌<◌, ℕ, suc, List, [], ◌∷◌, ◌++◌, map, flat_map, Option, Some, None, refl, ap, sym, ◌∙◌, subst, inl, inr, arith}
use Rattle.std.specs.List.{AllByRecursion}
use Rattle.std.specs.declared.cmp.Ordering.{Ordering}
use Rattle.std.specs.declared.cmp.Ordering.TheVariants.{Less, Equal, Greater}
use Rattle.std.specs.Ordering.{nat_cmp, ordering_then}
use Rattle.std.specs.Option.{option_cmp}
use Rattle.std.specs.Cmp.{nat_cmp_is}
use Rattle.std.proofs.lemmas.Bool.{cases_order}
use Rattle.std.proofs.lemmas.List.{append-nil}
use Rattle.sql_types.specs.Row.{Row}
use Rattle.sql_types.specs.Domain.{HasNoZero}
use Rattle.sql_ast.specs.declared.role.Role.{Role}
use Rattle.sql_ast.specs.declared.role.Membership.{Membership}
use Rattle.sql_ast.specs.declared.privilege.Descriptor.{Descriptor}
use Rattle.sql_ast.specs.declared.policy.Policy.{Policy}
use Rattle.sql_ast.specs.Layout.{Layout, IsLayout}
use Rattle.sql_ast.specs.Fits.{FitsTable}
use Rattle.sql_ast.specs.Rows.{row_cmp}
use Rattle.store.specs.Records.{Record, Records, IsOrdered, has_prefix, key_cmp}
use Rattle.store.specs.Items.{Holds}
use Rattle.store.proofs.Changes.{itself, ordered_entries_where}
use Rattle.store.proofs.HeldItems.{same_front}
use Rattle.row_codec.specs.Rows.{row_prefix, row_key}
use Rattle.row_codec.proofs.Order.{keys_order}
use Rattle.abstract_database.specs.Lists.{TheName, Among, Rising, name_cmp}
use Rattle.abstract_database.specs.Database.{action_number, grantor_name, grantee_name, Table, role_cmp, membership_cmp, table_cmp, descriptor_cmp, policy_cmp}
use Rattle.abstract_database.specs.Whole.{Each, IsInOrder}
use Rattle.stored_database.specs.Definitions.{TableDefinition, Definitions, definition_cmp, table_with, descriptors_of, policies_of, database_of}
use Rattle.stored_database.specs.RecordFormat.{ended, place_byte, role_prefix, role_record, membership_prefix, membership_record, table_prefix, table_record, descriptor_prefix, descriptor_record, policy_prefix, policy_record, row_record}
use Rattle.stored_database.specs.Items.{IsStoredMembership, IsStoredDescriptor, IsStoredPolicy, AreStored}
use Rattle.stored_database.specs.Records.{HoldDefinitions}
use Rattle.stored_database.proofs.Lists.{into_map, of_map, of_append, of_flat_map, rest_of_each}
use Rattle.stored_database.proofs.Names.{no_zero_of}
use Rattle.stored_database.proofs.Descriptors.{grantor_free, grantee_free}

-- ---- orderings

pub is_less : (a b : ℕ) → a < b → nat_cmp a b ≡ Less
is_less a b h = sym (nat_cmp_is a b Less h)

is_greater : (a b : ℕ) → b < a → nat_cmp a b ≡ Greater
is_greater a b h = sym (nat_cmp_is a b Greater h)

then_assoc : (a b c : Ordering) → ordering_then (ordering_then a b) c ≡ ordering_then a (ordering_then b c)
then_assoc Less b c = refl
then_assoc Equal b c = refl
then_assoc Greater b c = refl

then_equal : (a : Ordering) → ordering_then a Equal ≡ a
then_equal Less = refl
then_equal Equal = refl
then_equal Greater = refl

-- ---- names

-- names before a zero byte compare first
ended_order : (s t xs ys : List ℕ) → HasNoZero s → HasNoZero t → key_cmp (ended s ++ xs) (ended t ++ ys) ≡ ordering_then (name_cmp s t) (key_cmp xs ys)
ended_order [] [] xs ys free_s free_t = refl
ended_order [] (b ∷ t) xs ys free_s free_t = rw (is_less 0 b (let some : b ≢ 0 = free_t.0 in omega (arith, some))) refl
ended_order (a ∷ s) [] xs ys free_s free_t = rw (is_greater a 0 (let some : a ≢ 0 = free_s.0 in omega (arith, some))) refl
ended_order (a ∷ s) (b ∷ t) xs ys free_s free_t =
    rw (ended_order s t xs ys free_s.1 free_t.1) (sym (then_assoc (nat_cmp a b) (name_cmp s t) (key_cmp xs ys)))

last_order : (s t : List ℕ) → HasNoZero s → HasNoZero t → key_cmp (ended s) (ended t) ≡ name_cmp s t
last_order s t free_s free_t = same_cmp (sym (append-nil (ended s))) (sym (append-nil (ended t))) ∙ ended_order s t [] [] free_s free_t ∙ then_equal (name_cmp s t) where
  same_cmp : {x y u v : List ℕ} → x ≡ u → y ≡ v → key_cmp x y ≡ key_cmp u v
  same_cmp p q = cc

-- two names
pair_order : (a b s t : List ℕ) → HasNoZero a → HasNoZero b → HasNoZero s → HasNoZero t → key_cmp (ended a ++ ended b) (ended s ++ ended t) ≡ ordering_then (name_cmp a s) (name_cmp b t)
pair_order a b s t free_a free_b free_s free_t =
    ended_order a s (ended b) (ended t) free_a free_s ∙ ap (ordering_then (name_cmp a s)) (last_order b t free_b free_t)

-- ---- items

pub role_order : (a b : Role) → key_cmp (role_record a).0 (role_record b).0 ≡ role_cmp a b
role_order a b = refl

pub membership_order : (a b : Membership) → IsStoredMembership a → IsStoredMembership b → key_cmp (membership_record a).0 (membership_record b).0 ≡ membership_cmp a b
membership_order a b p q = pair_order a.role a.member b.role b.member (no_zero_of a.role p.role) (no_zero_of a.member p.member) (no_zero_of b.role q.role) (no_zero_of b.member q.member)

pub table_order : (a b : TableDefinition) → key_cmp (table_record a).0 (table_record b).0 ≡ definition_cmp a b
table_order a b = refl

same_tables : (table s t : TheName) → s ≡ table → t ≡ table → name_cmp s t ≡ Equal
same_tables table s t p q = both p q ∙ itself table where
  both : s ≡ table → t ≡ table → name_cmp s t ≡ name_cmp table table
  both p q = cc

next_order : (a b : ℕ) → nat_cmp (suc a) (suc b) ≡ nat_cmp a b
next_order a b = elim (cases_order a b) [
  | inl same ↦ sym (nat_cmp_is (suc a) (suc b) Equal (ap suc same)) ∙ nat_cmp_is a b Equal same
  | inr other ↦ elim other [
    | inl below ↦ sym (nat_cmp_is (suc a) (suc b) Less (omega (arith, below))) ∙ nat_cmp_is a b Less below
    | inr above ↦ sym (nat_cmp_is (suc a) (suc b) Greater (omega (arith, above))) ∙ nat_cmp_is a b Greater above
  ]
]

-- places compare as columns do, of which none comes first
places_order : (x y : Option ℕ) → nat_cmp (place_byte x) (place_byte y) ≡ option_cmp nat_cmp x y
places_order None None = sym (nat_cmp_is 0 0 Equal refl)
places_order None (Some b) = sym (nat_cmp_is 0 (suc b) Less (omega arith))
places_order (Some a) None = sym (nat_cmp_is (suc a) 0 Greater (omega arith))
places_order (Some a) (Some b) = next_order a b

-- by grantor and grantee
abbrev by_names : Descriptor → Descriptor → Ordering
by_names a b = ordering_then (name_cmp (grantor_name a.grantor) (grantor_name b.grantor)) (name_cmp (grantee_name a.grantee) (grantee_name b.grantee))

pub descriptor_order : (table : TheName) (id : ℕ) (a b : Descriptor) → IsStoredDescriptor table a → IsStoredDescriptor table b
    → key_cmp (descriptor_record id a).0 (descriptor_record id b).0 ≡ descriptor_cmp a b
descriptor_order table id a b p q =
    same_front (descriptor_prefix id) (action_number a.action ∷ place_byte a.column ∷ (ended (grantor_name a.grantor) ++ ended (grantee_name a.grantee))) (action_number b.action ∷ place_byte b.column ∷ (ended (grantor_name b.grantor) ++ ended (grantee_name b.grantee)))
    ∙ ap (ordering_then (nat_cmp (action_number a.action) (action_number b.action))) (both (places_order a.column b.column)
    (pair_order (grantor_name a.grantor) (grantee_name a.grantee) (grantor_name b.grantor) (grantee_name b.grantee)
    (grantor_free a.grantor p.grantor) (grantee_free a.grantee p.grantee) (grantor_free b.grantor q.grantor) (grantee_free b.grantee q.grantee)))
    ∙ sym (ap (λ (o : Ordering). ordering_then o (ordering_then (nat_cmp (action_number a.action) (action_number b.action)) (ordering_then (option_cmp nat_cmp a.column b.column) (by_names a b)))) (same_tables table a.table b.table p.table q.table))
  where
    both : {u v r s : Ordering} → u ≡ v → r ≡ s → ordering_then u r ≡ ordering_then v s
    both g h = cc

pub policy_order : (table : TheName) (id : ℕ) (a b : Policy) → IsStoredPolicy table a → IsStoredPolicy table b → key_cmp (policy_record id a).0 (policy_record id b).0 ≡ policy_cmp a b
policy_order table id a b p q =
    same_front (policy_prefix id) a.name b.name
    ∙ sym (ap (λ (o : Ordering). ordering_then o (name_cmp a.name b.name)) (same_tables table a.table b.table p.table q.table))

pub row_order : (id : ℕ) (layout : Layout) (a b : Row) → IsLayout layout → FitsTable layout a → FitsTable layout b → key_cmp (row_record id layout a).0 (row_record id layout b).0 ≡ row_cmp layout.key a b
row_order id layout a b is p q =
    same_front (row_prefix id) (row_key layout a) (row_key layout b) ∙ keys_order layout.columns layout.key a b is.key_not_null p.columns q.columns

-- ---- lists

all_among : {X : Type 0} (P : X → Type 0) (xs : List X) → AllByRecursion P xs → (x : X) → Among x xs → P x
all_among P [] h x among = absurd among
all_among P (y ∷ xs) h x (inl is) = subst P is h.0
all_among P (y ∷ xs) h x (inr later) = all_among P xs h.1 x later

module _ {X : Type 0} (P : X → Type 0) (cmp : X → X → Ordering) (spell : X → Record) (agrees : (a b : X) → P a → P b → key_cmp (spell a).0 (spell b).0 ≡ cmp a b) where
  spelled_rise : (xs : List X) → Each P xs → IsOrdered (map spell xs) → Rising cmp xs
  spelled_rise [] h o = tt
  spelled_rise (x ∷ xs) h o = (
    (λ y among. sym (agrees x y (h x (inl refl)) (h y (inr among)))
        ∙ all_among (λ (e : Record). key_cmp (spell x).0 e.0 ≡ Less) (map spell xs) o.0 (spell y) (into_map spell xs y among)),
    spelled_rise xs (rest_of_each P x xs h) o.1,
  )

  -- items that ordered records hold rise
  pub held_rise : (records : Records) (prefix : List ℕ) (xs : List X) → IsOrdered records → Holds records prefix spell xs → Each P xs → Rising cmp xs
  held_rise records prefix xs o held h = spelled_rise xs h (subst IsOrdered held (ordered_entries_where (has_prefix prefix) records o))

-- lists one after another
rising_append : {X : Type 0} (cmp : X → X → Ordering) (xs ys : List X) → Rising cmp xs → Rising cmp ys → ((x y : X) → Among x xs → Among y ys → cmp x y ≡ Less) → Rising cmp (xs ++ ys)
rising_append cmp [] ys p q h = q
rising_append {X} cmp (x ∷ xs) ys p q h = (before, rising_append cmp xs ys p.1 q (λ a b in_a in_b. h a b (inr in_a) in_b)) where
  before : (y : X) → Among y (xs ++ ys) → cmp x y ≡ Less
  before y among = elim (of_append xs ys y among) [ inl first ↦ p.0 y first | inr later ↦ h x y (inl refl) later ]

-- lists of tables that are put together
module _ {Y : Type 0} (cmp : Y → Y → Ordering) (table : Y → TheName) (first : (a b : Y) → name_cmp (table a) (table b) ≡ Less → cmp a b ≡ Less) (part : TableDefinition → List Y) where
  abbrev IsOwnPart : TableDefinition → Type 0
  IsOwnPart t = Each (λ (y : Y). table y ≡ t.definition.name) (part t)

  abbrev IsPartInOrder : TableDefinition → Type 0
  IsPartInOrder t = Rising cmp (part t)

  joined_rise : (ts : List TableDefinition) → Rising definition_cmp ts → Each IsOwnPart ts → Each IsPartInOrder ts → Rising cmp (flat_map part ts)
  joined_rise [] o own p = tt
  joined_rise (t ∷ ts) o own p =
      rising_append cmp (part t) (flat_map part ts) (p t (inl refl)) (joined_rise ts o.1 (rest_of_each IsOwnPart t ts own) (rest_of_each IsPartInOrder t ts p)) before
    where
      before : (x y : Y) → Among x (part t) → Among y (flat_map part ts) → cmp x y ≡ Less
      before x y in_x in_y =
          let found = of_flat_map part ts y in_y in
          first x y (names found.0 (own t (inl refl) x in_x) (own found.0 (inr found.1) y found.2) (o.0 found.0 found.1))
        where
          names : (u : TableDefinition) → table x ≡ t.definition.name → table y ≡ u.definition.name → name_cmp t.definition.name u.definition.name ≡ Less → name_cmp (table x) (table y) ≡ Less
          names u p q h = rw (p, q) h

before_table : (o later : Ordering) → o ≡ Less → ordering_then o later ≡ Less
before_table o later h = ap (λ (z : Ordering). ordering_then z later) h

pub joined_descriptors : (tables : List TableDefinition) → Rising definition_cmp tables → Each (λ (t : TableDefinition). Each (λ (d : Descriptor). d.table ≡ t.definition.name) t.descriptors) tables
    → Each (λ (t : TableDefinition). Rising descriptor_cmp t.descriptors) tables → Rising descriptor_cmp (descriptors_of tables)
joined_descriptors tables o own p = joined_rise descriptor_cmp (λ (d : Descriptor). d.table) (λ a b h. before_table (name_cmp a.table b.table) _ h) (λ (t : TableDefinition). t.descriptors) tables o own p

pub joined_policies : (tables : List TableDefinition) → Rising definition_cmp tables → Each (λ (t : TableDefinition). Each (λ (p : Policy). p.table ≡ t.definition.name) t.policies) tables
    → Each (λ (t : TableDefinition). Rising policy_cmp t.policies) tables → Rising policy_cmp (policies_of tables)
joined_policies tables o own p = joined_rise policy_cmp (λ (q : Policy). q.table) (λ a b h. before_table (name_cmp a.table b.table) _ h) (λ (t : TableDefinition). t.policies) tables o own p

-- ---- all definitions

rising_tables : (ts : List TableDefinition) → Rising definition_cmp ts → Rising table_cmp (map (λ (t : TableDefinition). table_with t []) ts)
rising_tables [] h = tt
rising_tables (t ∷ ts) h = (before, rising_tables ts h.1) where
  before : (u : Table) → Among u (map (λ (v : TableDefinition). table_with v []) ts) → table_cmp (table_with t []) u ≡ Less
  before u among = let found = of_map (λ (v : TableDefinition). table_with v []) ts u among in ap (table_cmp (table_with t [])) (sym found.2) ∙ h.0 found.0 found.1

pub held_in_order : (records : Records) (d : Definitions) → IsOrdered records → AreStored d → HoldDefinitions records d → IsInOrder (database_of d)
held_in_order records d o stored held = record {
  roles = held_rise (λ (r : Role). Unit {0}) role_cmp role_record (λ a b p q. role_order a b) records role_prefix d.roles o held.roles (λ r among. tt);
  memberships = held_rise IsStoredMembership membership_cmp membership_record membership_order records membership_prefix d.memberships o held.memberships stored.memberships;
  tables = rising_tables d.tables tables;
  descriptors = joined_descriptors d.tables tables (λ t there e of. ((stored.items t there).descriptors e of).table)
      (λ t there. held_rise (IsStoredDescriptor t.definition.name) descriptor_cmp (descriptor_record t.id) (descriptor_order t.definition.name t.id) records (descriptor_prefix t.id) t.descriptors o (held.of_tables t there).descriptors (stored.items t there).descriptors);
  policies = joined_policies d.tables tables (λ t there p of. ((stored.items t there).policies p of).table)
      (λ t there. held_rise (IsStoredPolicy t.definition.name) policy_cmp (policy_record t.id) (policy_order t.definition.name t.id) records (policy_prefix t.id) t.policies o (held.of_tables t there).policies (stored.items t there).policies);
} where
  tables : Rising definition_cmp d.tables
  tables = held_rise (λ (t : TableDefinition). Unit {0}) definition_cmp table_record (λ a b p q. table_order a b) records table_prefix d.tables o held.tables (λ t among. tt)
