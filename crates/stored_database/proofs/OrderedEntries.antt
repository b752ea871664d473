-- The records that a database spells are in the order of their keys, where the numbers of its tables rise.
use Rattle.std.proofs.Common.{◌≡◌, ◌⊎◌, ◌<◌, ◌≤◌, ◌/◌, ◌%◌, ◌^◌, ℕ, true, List, [], ◌∷◌, ◌++◌, map, flat_map, length, bytes_eq, refl, ap, sym, ◌∙◌, subst, inl, inr, arith}
use Rattle.std.specs.declared.cmp.Ordering.{Ordering}
use Rattle.std.specs.declared.cmp.Ordering.TheVariants.{Less, Equal}
use Rattle.std.specs.Ordering.{nat_cmp, ordering_then}
use Rattle.std.specs.Cmp.{nat_cmp_is}
use Rattle.std.proofs.lemmas.Bool.{cases_order}
use Rattle.std.proofs.lemmas.Cmp.{ranked}
use Rattle.byteorder.specs.Endian.{big_bytes}
use Rattle.sql_types.specs.Row.{Row}
use Rattle.sql_ast.specs.declared.role.Role.{Role}
use Rattle.sql_ast.specs.declared.privilege.Descriptor.{Descriptor}
use Rattle.sql_ast.specs.declared.policy.Policy.{Policy}
use Rattle.row_codec.specs.Rows.{row_prefix}
use Rattle.store.specs.Records.{Record, Records, IsOrdered, IsBefore, has_prefix, key_cmp}
use Rattle.abstract_database.specs.Lists.{Among, Rising}
use Rattle.abstract_database.specs.Database.{Database, role_cmp, membership_cmp, descriptor_cmp, policy_cmp}
use Rattle.abstract_database.specs.Whole.{Each, HasWholeRows}
use Rattle.abstract_database.specs.Whole.{max_tables}
use Rattle.sql_ast.specs.Rows.{row_cmp}
use Rattle.sql_ast.specs.Fits.{FitsTable}
use Rattle.stored_database.specs.Definitions.{TableDefinition, Definitions, definition_cmp, table_with, tables_with, descriptors_of, policies_of}
use Rattle.stored_database.specs.RecordFormat.{role_record, membership_record, table_record, descriptor_prefix, descriptor_record, policy_prefix, policy_record, row_record}
use Rattle.stored_database.specs.Items.{IsStoredMembership, IsStoredDescriptor, IsStoredPolicy}
use Rattle.stored_database.specs.Valid.{AreValid, Describes}
use Rattle.stored_database.specs.Entries.{entries_of_definitions, entries_of_rows, entries_of}
use Rattle.stored_database.proofs.Lists.{of_map, of_append, of_flat_map, rest_of_each}
use Rattle.stored_database.proofs.Prefixes.{front_of, descriptor_begins, policy_begins, row_begins}
use Rattle.stored_database.proofs.Validity.{stored_memberships, whole_table, stored_descriptors, stored_policies}
use Rattle.stored_database.proofs.KeyOrder.{is_less, role_order, membership_order, table_order, descriptor_order, policy_order, row_order}
use Rattle.stored_database.proofs.TableParts.{tables_in_order, descriptors_found, policies_found}
use Rattle.stored_database.proofs.Numbering.{rising_filter}
use Rattle.stored_database.proofs.OneDatabase.{IsWholeTableOfRows}
use Rattle.stored_database.proofs.Spelled.{AreOfKind, kind_of_spelled, kind_of_parts, Pair, pairs, rows_of_pair, id_of_pair, paired, rows_paired}

-- ---- numbers of tables in keys

four : (a b c d rest : Ordering) → a ≡ Equal → b ≡ Equal → (c ≡ Less) ⊎ ((c ≡ Equal) × (d ≡ Less)) → ordering_then a (ordering_then b (ordering_then c (ordering_then d rest))) ≡ Less
four a b c d rest p q (inl r) = ap (λ (o : Ordering). ordering_then o (ordering_then b (ordering_then c (ordering_then d rest)))) p
    ∙ ap (λ (o : Ordering). ordering_then o (ordering_then c (ordering_then d rest))) q ∙ ap (λ (o : Ordering). ordering_then o (ordering_then d rest)) r
four a b c d rest p q (inr r) = ap (λ (o : Ordering). ordering_then o (ordering_then b (ordering_then c (ordering_then d rest)))) p
    ∙ ap (λ (o : Ordering). ordering_then o (ordering_then c (ordering_then d rest))) q ∙ ap (λ (o : Ordering). ordering_then o (ordering_then d rest)) r.0 ∙ ap (λ (o : Ordering). ordering_then o rest) r.1

is_equal : (a b : ℕ) → a ≡ b → nat_cmp a b ≡ Equal
is_equal a b h = sym (nat_cmp_is a b Equal h)

low_bytes : (a b : ℕ) → a < b → b ≤ max_tables → (nat_cmp (a / 256 % 256) (b / 256 % 256) ≡ Less) ⊎ ((nat_cmp (a / 256 % 256) (b / 256 % 256) ≡ Equal) × (nat_cmp (a % 256) (b % 256) ≡ Less))
low_bytes a b less small = elim (cases_order (a / 256 % 256) (b / 256 % 256)) [
  | inl same ↦ inr (is_equal (a / 256 % 256) (b / 256 % 256) same, is_less (a % 256) (b % 256) (omega (arith, less, small, same)))
  | inr other ↦ elim other [ inl below ↦ inl (is_less (a / 256 % 256) (b / 256 % 256) below) | inr above ↦ absurd (omega (arith, less, small, above)) ]
]

ids_order : (a b : ℕ) (us vs : List ℕ) → a < b → b ≤ max_tables → key_cmp (big_bytes 4 a ++ us) (big_bytes 4 b ++ vs) ≡ Less
ids_order a b us vs less small =
    four (nat_cmp (a / 256 ^ 3 % 256) (b / 256 ^ 3 % 256)) (nat_cmp (a / 256 ^ 2 % 256) (b / 256 ^ 2 % 256)) (nat_cmp (a / 256 % 256) (b / 256 % 256)) (nat_cmp (a % 256) (b % 256)) (key_cmp us vs)
    (is_equal (a / 256 ^ 3 % 256) (b / 256 ^ 3 % 256) (omega (arith, less, small))) (is_equal (a / 256 ^ 2 % 256) (b / 256 ^ 2 % 256) (omega (arith, less, small))) (low_bytes a b less small)

-- ---- lists of records

before_all : (key : List ℕ) (es : Records) → ((e : Record) → Among e es → key_cmp key e.0 ≡ Less) → IsBefore key es
before_all key [] h = tt
before_all key (e ∷ es) h = (h e (inl refl), before_all key es (λ f among. h f (inr among)))

pub of_before : (key : List ℕ) (es : Records) → IsBefore key es → (e : Record) → Among e es → key_cmp key e.0 ≡ Less
of_before key [] h e among = absurd among
of_before key (f ∷ es) h e (inl is) = subst (λ (z : Record). key_cmp key z.0 ≡ Less) is h.0
of_before key (f ∷ es) h e (inr later) = of_before key es h.1 e later

-- each record of the one list comes before each of the other
abbrev Precede : Records → Records → Type 0
Precede xs ys = (x y : Record) → Among x xs → Among y ys → key_cmp x.0 y.0 ≡ Less

ordered_append : (xs ys : Records) → IsOrdered xs → IsOrdered ys → Precede xs ys → IsOrdered (xs ++ ys)
ordered_append [] ys p q h = q
ordered_append (x ∷ xs) ys p q h =
    (before_all x.0 (xs ++ ys) before, ordered_append xs ys p.1 q (λ a b in_a in_b. h a b (inr in_a) in_b))
  where
    before : (e : Record) → Among e (xs ++ ys) → key_cmp x.0 e.0 ≡ Less
    before e among = elim (of_append xs ys e among) [ inl first ↦ of_before x.0 xs p.0 e first | inr later ↦ h x e (inl refl) later ]

-- spellings of items that rise
ordered_spelled : {X : Type 0} (P : X → Type 0) (cmp : X → X → Ordering) (spell : X → Record) → ((a b : X) → P a → P b → key_cmp (spell a).0 (spell b).0 ≡ cmp a b)
    → (xs : List X) → Each P xs → Rising cmp xs → IsOrdered (map spell xs)
ordered_spelled P cmp spell agrees [] h r = tt
ordered_spelled {X} P cmp spell agrees (x ∷ xs) h r = (before_all (spell x).0 (map spell xs) before, ordered_spelled P cmp spell agrees xs (rest_of_each P x xs h) r.1) where
  before : (e : Record) → Among e (map spell xs) → key_cmp (spell x).0 e.0 ≡ Less
  before e among =
      let y = of_map spell xs e among in
      subst (λ (z : Record). key_cmp (spell x).0 z.0 ≡ Less) y.2 (agrees x y.0 (h x (inl refl)) (h y.0 (inr y.1)) ∙ r.0 y.0 y.1)

-- keys of a lesser kind come first
kinds_precede : (j k : ℕ) (xs ys : Records) → nat_cmp j k ≡ Less → AreOfKind j xs → AreOfKind k ys → Precede xs ys
kinds_precede j k xs ys less p q x y in_x in_y =
    let a = front_of (j ∷ []) x.0 (p x in_x) in
    let b = front_of (k ∷ []) y.0 (q y in_y) in
    same_cmp a.1 b.1 ∙ ap (λ (o : Ordering). ordering_then o (key_cmp a.0 b.0)) less
  where
    same_cmp : {u v s t : List ℕ} → u ≡ s → v ≡ t → key_cmp u v ≡ key_cmp s t
    same_cmp p q = cc

-- parts whose keys begin with one kind and rising numbers
module _ {X : Type 0} (kind : ℕ) (id : X → ℕ) (part : X → Records) (begins : (x : X) (e : Record) → Among e (part x) → has_prefix (kind ∷ big_bytes 4 (id x)) e.0 ≡ true) where
  abbrev IsSmall : X → Type 0
  IsSmall x = id x ≤ max_tables

  abbrev IsPart : X → Type 0
  IsPart x = IsOrdered (part x)

  parts_precede : (x y : X) → id x < id y → id y ≤ max_tables → Precede (part x) (part y)
  parts_precede x y less small a b in_a in_b =
      let p = front_of (kind ∷ big_bytes 4 (id x)) a.0 (begins x a in_a) in
      let q = front_of (kind ∷ big_bytes 4 (id y)) b.0 (begins y b in_b) in
      same_cmp p.1 q.1
      ∙ ap (λ (o : Ordering). ordering_then o (key_cmp (big_bytes 4 (id x) ++ p.0) (big_bytes 4 (id y) ++ q.0))) (is_equal kind kind refl)
      ∙ ids_order (id x) (id y) p.0 q.0 less small
    where
      same_cmp : {u v s t : List ℕ} → u ≡ s → v ≡ t → key_cmp u v ≡ key_cmp s t
      same_cmp p q = cc

  ordered_parts : (xs : List X) → Rising (λ x y. nat_cmp (id x) (id y)) xs → Each IsSmall xs → Each IsPart xs → IsOrdered (flat_map part xs)
  ordered_parts [] r s o = tt
  ordered_parts (x ∷ xs) r s o =
      ordered_append (part x) (flat_map part xs) (o x (inl refl)) (ordered_parts xs r.1 (rest_of_each IsSmall x xs s) (rest_of_each IsPart x xs o)) later
    where
      nat_less : (m n : ℕ) → nat_cmp m n ≡ Less → m < n
      nat_less m n h = ranked m n Less (sym h)

      later : Precede (part x) (flat_map part xs)
      later a b in_a in_b =
          let y = of_flat_map part xs b in_b in
          parts_precede x y.0 (nat_less (id x) (id y.0) (r.0 y.0 y.1)) (s y.0 (inr y.1)) a b in_a y.2

-- ---- all of them

-- the numbers of the tables rise
abbrev pub NumbersRise : List TableDefinition → Type 0
NumbersRise tables = Rising (λ (t u : TableDefinition). nat_cmp t.id u.id) tables

pairs_rise : (ts : List TableDefinition) (rows : List (List Row)) → NumbersRise ts → Rising (λ (x y : Pair). nat_cmp x.0.id y.0.id) (pairs ts rows)
pairs_rise [] rows h = tt
pairs_rise (t ∷ ts) [] h = tt
pairs_rise (t ∷ ts) (r ∷ rows) h = ((λ p among. h.0 p.0 (paired ts rows p among)), pairs_rise ts rows h.1)

paired_rows : (ts : List TableDefinition) (rows : List (List Row)) → Each IsWholeTableOfRows (tables_with ts rows) → (p : Pair) → Among p (pairs ts rows) → IsWholeTableOfRows (table_with p.0 p.1)
paired_rows [] rows h p among = absurd among
paired_rows (t ∷ ts) [] h p among = absurd among
paired_rows (t ∷ ts) (r ∷ rows) h p (inl is) = subst (λ (z : Pair). IsWholeTableOfRows (table_with z.0 z.1)) is (h (table_with t r) (inl refl))
paired_rows (t ∷ ts) (r ∷ rows) h p (inr later) = paired_rows ts rows (rest_of_each IsWholeTableOfRows (table_with t r) (tables_with ts rows) h) p later

precede_both : (xs ys zs : Records) → Precede xs ys → Precede xs zs → Precede xs (ys ++ zs)
precede_both xs ys zs p q x y in_x in_y = elim (of_append ys zs y in_y) [ inl h ↦ p x y in_x h | inr h ↦ q x y in_x h ]

both_precede : (xs ys zs : Records) → Precede xs zs → Precede ys zs → Precede (xs ++ ys) zs
both_precede xs ys zs p q x y in_x in_y = elim (of_append xs ys x in_x) [ inl h ↦ p x y h in_y | inr h ↦ q x y h in_y ]

begun : {X : Type 0} (prefix : List ℕ) (spell : X → Record) (xs : List X) → ((x : X) → has_prefix prefix (spell x).0 ≡ true) → (e : Record) → Among e (map spell xs) → has_prefix prefix e.0 ≡ true
begun prefix spell xs h e among = let x = of_map spell xs e among in subst (λ (z : Record). has_prefix prefix z.0 ≡ true) x.2 (h x.0)

module _ (d : Definitions) (v : AreValid d) (numbers : NumbersRise d.tables) where
  abbrev roles_list : Records
  roles_list = map role_record d.roles

  abbrev memberships_list : Records
  memberships_list = map membership_record d.memberships

  abbrev tables_list : Records
  tables_list = map table_record d.tables

  abbrev descriptors_part : TableDefinition → Records
  descriptors_part t = map (descriptor_record t.id) t.descriptors

  abbrev policies_part : TableDefinition → Records
  policies_part t = map (policy_record t.id) t.policies

  abbrev descriptors_list : Records
  descriptors_list = flat_map descriptors_part d.tables

  abbrev policies_list : Records
  policies_list = flat_map policies_part d.tables

  roles_kind : AreOfKind 1 roles_list
  roles_kind = kind_of_spelled 1 role_record d.roles (λ r. refl)

  memberships_kind : AreOfKind 2 memberships_list
  memberships_kind = kind_of_spelled 2 membership_record d.memberships (λ m. refl)

  tables_kind : AreOfKind 3 tables_list
  tables_kind = kind_of_spelled 3 table_record d.tables (λ t. refl)

  descriptors_kind : AreOfKind 4 descriptors_list
  descriptors_kind = kind_of_parts 4 descriptors_part d.tables (λ t. kind_of_spelled 4 (descriptor_record t.id) t.descriptors (λ x. refl))

  policies_kind : AreOfKind 5 policies_list
  policies_kind = kind_of_parts 5 policies_part d.tables (λ t. kind_of_spelled 5 (policy_record t.id) t.policies (λ x. refl))

  small : Each (λ (t : TableDefinition). t.id ≤ max_tables) d.tables
  small t among = (v.tables t among).most

  part_rises : (t : TableDefinition) → Among t d.tables → Rising descriptor_cmp t.descriptors
  part_rises t among = subst (Rising descriptor_cmp) (descriptors_found d v t among) (rising_filter descriptor_cmp (λ (e : Descriptor). bytes_eq e.table t.definition.name) (descriptors_of d.tables) v.whole.order.descriptors)

  policies_rise : (t : TableDefinition) → Among t d.tables → Rising policy_cmp t.policies
  policies_rise t among = subst (Rising policy_cmp) (policies_found d v t among) (rising_filter policy_cmp (λ (p : Policy). bytes_eq p.table t.definition.name) (policies_of d.tables) v.whole.order.policies)

  ordered_roles : IsOrdered roles_list
  ordered_roles = ordered_spelled (λ (r : Role). Unit {0}) role_cmp role_record (λ a b p q. role_order a b) d.roles (λ r among. tt) v.whole.order.roles

  ordered_memberships : IsOrdered memberships_list
  ordered_memberships = ordered_spelled IsStoredMembership membership_cmp membership_record membership_order d.memberships (stored_memberships d v) v.whole.order.memberships

  ordered_tables : IsOrdered tables_list
  ordered_tables = ordered_spelled (λ (t : TableDefinition). Unit {0}) definition_cmp table_record (λ a b p q. table_order a b) d.tables (λ t among. tt) (tables_in_order d v)

  ordered_descriptors : IsOrdered descriptors_list
  ordered_descriptors = ordered_parts 4 (λ (t : TableDefinition). t.id) descriptors_part (λ t. begun (descriptor_prefix t.id) (descriptor_record t.id) t.descriptors (descriptor_begins t.id)) d.tables numbers small
      (λ t among. ordered_spelled (IsStoredDescriptor t.definition.name) descriptor_cmp (descriptor_record t.id) (descriptor_order t.definition.name t.id) t.descriptors (stored_descriptors d v t among) (part_rises t among))

  ordered_policies : IsOrdered policies_list
  ordered_policies = ordered_parts 5 (λ (t : TableDefinition). t.id) policies_part (λ t. begun (policy_prefix t.id) (policy_record t.id) t.policies (policy_begins t.id)) d.tables numbers small
      (λ t among. ordered_spelled (IsStoredPolicy t.definition.name) policy_cmp (policy_record t.id) (policy_order t.definition.name t.id) t.policies (stored_policies d v t among) (policies_rise t among))

  ordered_definitions : IsOrdered (entries_of_definitions d)
  ordered_definitions =
      ordered_append roles_list _ ordered_roles
      (ordered_append memberships_list _ ordered_memberships
      (ordered_append tables_list _ ordered_tables
      (ordered_append descriptors_list policies_list ordered_descriptors ordered_policies (kinds_precede 4 5 descriptors_list policies_list refl descriptors_kind policies_kind))
      (precede_both tables_list descriptors_list policies_list (kinds_precede 3 4 tables_list descriptors_list refl tables_kind descriptors_kind) (kinds_precede 3 5 tables_list policies_list refl tables_kind policies_kind)))
      (precede_both memberships_list tables_list _ (kinds_precede 2 3 memberships_list tables_list refl memberships_kind tables_kind)
      (precede_both memberships_list descriptors_list policies_list (kinds_precede 2 4 memberships_list descriptors_list refl memberships_kind descriptors_kind) (kinds_precede 2 5 memberships_list policies_list refl memberships_kind policies_kind))))
      (precede_both roles_list memberships_list _ (kinds_precede 1 2 roles_list memberships_list refl roles_kind memberships_kind)
      (precede_both roles_list tables_list _ (kinds_precede 1 3 roles_list tables_list refl roles_kind tables_kind)
      (precede_both roles_list descriptors_list policies_list (kinds_precede 1 4 roles_list descriptors_list refl roles_kind descriptors_kind) (kinds_precede 1 5 roles_list policies_list refl roles_kind policies_kind))))

  definitions_precede : (es : Records) → AreOfKind 6 es → Precede (entries_of_definitions d) es
  definitions_precede es kind =
      both_precede roles_list _ es (kinds_precede 1 6 roles_list es refl roles_kind kind)
      (both_precede memberships_list _ es (kinds_precede 2 6 memberships_list es refl memberships_kind kind)
      (both_precede tables_list _ es (kinds_precede 3 6 tables_list es refl tables_kind kind)
      (both_precede descriptors_list policies_list es (kinds_precede 4 6 descriptors_list es refl descriptors_kind kind) (kinds_precede 5 6 policies_list es refl policies_kind kind))))

  module _ (rows : List (List Row)) (many : length rows ≡ length d.tables) (whole : Each IsWholeTableOfRows (tables_with d.tables rows)) where
    ordered_rows : IsOrdered (flat_map rows_of_pair (pairs d.tables rows))
    ordered_rows = ordered_parts 6 id_of_pair rows_of_pair (λ p. begun (row_prefix p.0.id) (row_record p.0.id p.0.definition.layout) p.1 (row_begins p.0.id p.0.definition.layout)) (pairs d.tables rows)
        (pairs_rise d.tables rows numbers) (λ p among. small p.0 (paired d.tables rows p among))
        (λ p among.
        let w = paired_rows d.tables rows whole p among in
        let is = (whole_table d v p.0 (paired d.tables rows p among)).layout in
        ordered_spelled (FitsTable p.0.definition.layout) (row_cmp p.0.definition.layout.key) (row_record p.0.id p.0.definition.layout) (λ a b. row_order p.0.id p.0.definition.layout a b is) p.1 w.fit w.order)

    pub ordered_all : IsOrdered (entries_of d rows)
    ordered_all = ordered_append (entries_of_definitions d) (entries_of_rows d.tables rows) ordered_definitions
        (subst IsOrdered (sym (rows_paired d.tables rows many)) ordered_rows)
        (subst (λ (es : Records). Precede (entries_of_definitions d) es) (sym (rows_paired d.tables rows many))
        (definitions_precede (flat_map rows_of_pair (pairs d.tables rows)) (kind_of_parts 6 rows_of_pair (pairs d.tables rows) (λ p. kind_of_spelled 6 (row_record p.0.id p.0.definition.layout) p.1 (λ x. refl)))))

pub ordered_entries : (d : Definitions) (db : Database) → (s : Describes d db) → NumbersRise d.tables → IsOrdered (entries_of d s.rows)
ordered_entries d db s numbers = ordered_all d s.valid numbers s.rows s.each_table (subst HasWholeRows s.is s.whole_rows)
