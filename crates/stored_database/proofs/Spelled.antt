-- The records that a database spells show it.
use Rattle.std.proofs.Common.{◌≡◌, ◌⊎◌, ◌<◌, ◌^◌, ℕ, Bool, true, false, not, ◌&&◌, ◌||◌, cond, nat_eq, IsTrue, List, [], ◌∷◌, ◌++◌, map, flat_map, length, refl, ap, sym, ◌∙◌, subst, inl, inr, arith}
use Rattle.std.specs.List.{list_any}
use Rattle.std.proofs.lemmas.Bool.{and_parts, or_left, or_right, not-true, both_ways, false_from_ne_true, eq-eqb}
use Rattle.std.proofs.lemmas.List.{append-nil}
use Rattle.byteorder.specs.Endian.{big_bytes}
use Rattle.sql_types.specs.Row.{Row}
use Rattle.sql_ast.specs.Layout.{all_differ}
use Rattle.store.specs.Records.{Record, Records, entries_where, has_prefix}
use Rattle.store.specs.Items.{Holds}
use Rattle.row_codec.specs.Rows.{row_prefix}
use Rattle.abstract_database.specs.Lists.{Among}
use Rattle.abstract_database.specs.Database.{Database}
use Rattle.abstract_database.proofs.ElementLemmas.{any_holds}
use Rattle.stored_database.specs.Definitions.{TableDefinition, Definitions, ids_of}
use Rattle.stored_database.specs.RecordFormat.{role_prefix, role_record, membership_prefix, membership_record, table_prefix, table_record, descriptor_prefix, descriptor_record, policy_prefix, policy_record, rows_prefix, row_record}
use Rattle.stored_database.specs.Valid.{AreValid, Describes}
use Rattle.stored_database.specs.Records.{is_key_of, is_orphan, HoldsTable, Define, HoldRows, is_row_key_of, is_orphan_row, Shows}
use Rattle.stored_database.specs.Entries.{entries_of_rows, entries_of}
use Rattle.stored_database.proofs.Lists.{into_map, of_map, of_append, of_flat_map}
use Rattle.stored_database.proofs.Tables.{small_id}
use Rattle.stored_database.proofs.Prefixes.{one_kind, one_id, descriptor_begins, policy_begins, row_begins}

-- ---- records that pass a test

where_append : (q : List ℕ → Bool) (xs ys : Records) → entries_where q (xs ++ ys) ≡ entries_where q xs ++ entries_where q ys
where_append q [] ys = refl
where_append q (x ∷ xs) ys = go (q x.0) (where_append q xs ys) where
  go : (b : Bool) → entries_where q (xs ++ ys) ≡ entries_where q xs ++ entries_where q ys
      → cond b (x ∷ entries_where q (xs ++ ys)) (entries_where q (xs ++ ys)) ≡ cond b (x ∷ entries_where q xs) (entries_where q xs) ++ entries_where q ys
  go true h = ap (λ (zs : Records). x ∷ zs) h
  go false h = h

where_all : (q : List ℕ → Bool) (es : Records) → ((e : Record) → Among e es → q e.0 ≡ true) → entries_where q es ≡ es
where_all q [] h = refl
where_all q (e ∷ es) h = ap (λ (b : Bool). cond b (e ∷ entries_where q es) (entries_where q es)) (h e (inl refl)) ∙ ap (λ (zs : Records). e ∷ zs) (where_all q es (λ f among. h f (inr among)))

pub where_none : (q : List ℕ → Bool) (es : Records) → ((e : Record) → Among e es → q e.0 ≡ false) → entries_where q es ≡ []
where_none q [] h = refl
where_none q (e ∷ es) h = ap (λ (b : Bool). cond b (e ∷ entries_where q es) (entries_where q es)) (h e (inl refl)) ∙ where_none q es (λ f among. h f (inr among))

-- the records of one part of a list of parts with numbers of their own
module _ {X : Type 0} (id : X → ℕ) (part : X → Records) (q : List ℕ → Bool) (x : X) (pass : entries_where q (part x) ≡ part x) where
  no_id : (k : ℕ) (ks : List ℕ) → list_any (nat_eq k) ks ≡ false → (i : ℕ) → Among i ks → k ≡ i → ⊥
  no_id k ks none i among same = both_ways (list_any (nat_eq k) ks) none (any_holds (nat_eq k) ks i among (eq-eqb k i same))

  abbrev Misses : List X → Type 0
  Misses xs = (y : X) → Among y xs → (id y ≡ id x → ⊥) → entries_where q (part y) ≡ []

  none_of : (xs : List X) → ((y : X) → Among y xs → entries_where q (part y) ≡ []) → entries_where q (flat_map part xs) ≡ []
  none_of [] h = refl
  none_of (y ∷ xs) h = where_append q (part y) (flat_map part xs) ∙ nothing (h y (inl refl)) (none_of xs (λ z among. h z (inr among))) where
    nothing : {a b : Records} → a ≡ [] → b ≡ [] → a ++ b ≡ []
    nothing p r = cc

  pub one_part : (xs : List X) → IsTrue (all_differ nat_eq (map id xs)) → Misses xs → Among x xs → entries_where q (flat_map part xs) ≡ part x
  one_part [] own miss h = absurd h
  one_part (y ∷ xs) own miss h =
      let parts = and_parts (not (list_any (nat_eq (id y)) (map id xs))) (all_differ nat_eq (map id xs)) own in
      let none = not-true (list_any (nat_eq (id y)) (map id xs)) parts.0 in
      where_append q (part y) (flat_map part xs) ∙ go h none (λ there. one_part xs parts.1 (λ z later. miss z (inr later)) there)
    where
      joined : {a b c d : Records} → a ≡ c → b ≡ d → a ++ b ≡ c ++ d
      joined p r = cc

      go : (y ≡ x) ⊎ Among x xs → list_any (nat_eq (id y)) (map id xs) ≡ false → (Among x xs → entries_where q (flat_map part xs) ≡ part x) → entries_where q (part y) ++ entries_where q (flat_map part xs) ≡ part x
      go (inl is) none rest =
          joined (ap (λ (z : X). entries_where q (part z)) is ∙ pass)
          (none_of xs (λ z among. miss z (inr among) (λ same. no_id (id y) (map id xs) none (id z) (into_map id xs z among) (ap id is ∙ sym same))))
          ∙ append-nil (part x)
      go (inr among) none rest =
          joined (miss y (inl refl) (λ same. no_id (id y) (map id xs) none (id x) (into_map id xs x among) same)) (rest among)

-- ---- kinds

alone : (b c : Bool) → (b && c) ≡ true → (b && true) ≡ true
alone true c h = refl
alone false c h = h

-- a key that begins with a prefix is of the kind of its first byte
pub kind_alone : (k : ℕ) (rest key : List ℕ) → has_prefix (k ∷ rest) key ≡ true → has_prefix (k ∷ []) key ≡ true
kind_alone k rest [] h = h
kind_alone k rest (i ∷ key) h = alone (nat_eq k i) (has_prefix rest key) h

-- a key of one kind has no prefix of another
other_kind : (j k : ℕ) (rest key : List ℕ) → (j ≡ k → ⊥) → has_prefix (j ∷ []) key ≡ true → has_prefix (k ∷ rest) key ≡ false
other_kind j k rest key differ has = false_from_ne_true (has_prefix (k ∷ rest) key) (λ e. differ (one_kind key j k has (kind_alone k rest key e)))

-- all these records are of the kind
abbrev pub AreOfKind : ℕ → Records → Type 0
AreOfKind k es = (e : Record) → Among e es → has_prefix (k ∷ []) e.0 ≡ true

pub kind_of_spelled : {X : Type 0} (k : ℕ) (spell : X → Record) (xs : List X) → ((x : X) → has_prefix (k ∷ []) (spell x).0 ≡ true) → AreOfKind k (map spell xs)
kind_of_spelled k spell xs h e among = let found = of_map spell xs e among in subst (λ (f : Record). has_prefix (k ∷ []) f.0 ≡ true) found.2 (h found.0)

pub kind_of_parts : {X : Type 0} (k : ℕ) (part : X → Records) (xs : List X) → ((x : X) → AreOfKind k (part x)) → AreOfKind k (flat_map part xs)
kind_of_parts k part xs h e among = let found = of_flat_map part xs e among in h found.0 e found.2

no_other_kind : (j k : ℕ) (rest : List ℕ) (es : Records) → (j ≡ k → ⊥) → AreOfKind j es → entries_where (has_prefix (k ∷ rest)) es ≡ []
no_other_kind j k rest es differ of = where_none (has_prefix (k ∷ rest)) es (λ e among. other_kind j k rest e.0 differ (of e among))

-- six lists, one for each kind
abbrev six : Records → Records → Records → Records → Records → Records → Records
six a b c d e f = (a ++ (b ++ (c ++ (d ++ e)))) ++ f

same_six : {a b c d e f a' b' c' d' e' f' : Records} → a ≡ a' → b ≡ b' → c ≡ c' → d ≡ d' → e ≡ e' → f ≡ f' → six a b c d e f ≡ six a' b' c' d' e' f'
same_six p q r s t u = cc

where_six : (q : List ℕ → Bool) (a b c d e f : Records) → entries_where q (six a b c d e f) ≡ six (entries_where q a) (entries_where q b) (entries_where q c) (entries_where q d) (entries_where q e) (entries_where q f)
where_six q a b c d e f =
    where_append q (a ++ (b ++ (c ++ (d ++ e)))) f
    ∙ ap (λ (z : Records). z ++ entries_where q f) (where_append q a (b ++ (c ++ (d ++ e)))
    ∙ ap (λ (z : Records). entries_where q a ++ z) (where_append q b (c ++ (d ++ e))
    ∙ ap (λ (z : Records). entries_where q b ++ z) (where_append q c (d ++ e)
    ∙ ap (λ (z : Records). entries_where q c ++ z) (where_append q d e))))

-- ---- the records of a described database

abbrev pub Pair : Type 0
Pair = TableDefinition × List Row

-- each table with its rows
abbrev pub pairs : List TableDefinition → List (List Row) → List Pair
pairs (t ∷ ts) (r ∷ rows) = (t, r) ∷ pairs ts rows
pairs _ _ = []

abbrev pub rows_of_pair : Pair → Records
rows_of_pair p = map (row_record p.0.id p.0.definition.layout) p.1

abbrev pub id_of_pair : Pair → ℕ
id_of_pair p = p.0.id

pub rows_paired : (ts : List TableDefinition) (rows : List (List Row)) → length rows ≡ length ts → entries_of_rows ts rows ≡ flat_map rows_of_pair (pairs ts rows)
rows_paired [] [] n = refl
rows_paired [] (r ∷ rows) n = absurd (omega (arith, n))
rows_paired (t ∷ ts) [] n = absurd (omega (arith, n))
rows_paired (t ∷ ts) (r ∷ rows) n = ap (λ (z : Records). map (row_record t.id t.definition.layout) r ++ z) (rows_paired ts rows (omega (arith, n)))

ids_paired : (ts : List TableDefinition) (rows : List (List Row)) → length rows ≡ length ts → ids_of ts ≡ map id_of_pair (pairs ts rows)
ids_paired [] [] n = refl
ids_paired [] (r ∷ rows) n = absurd (omega (arith, n))
ids_paired (t ∷ ts) [] n = absurd (omega (arith, n))
ids_paired (t ∷ ts) (r ∷ rows) n = ap (λ (z : List ℕ). t.id ∷ z) (ids_paired ts rows (omega (arith, n)))

pub paired : (ts : List TableDefinition) (rows : List (List Row)) (p : Pair) → Among p (pairs ts rows) → Among p.0 ts
paired [] rows p h = absurd h
paired (t ∷ ts) [] p h = absurd h
paired (t ∷ ts) (r ∷ rows) p (inl is) = inl (ap (λ (z : Pair). z.0) is)
paired (t ∷ ts) (r ∷ rows) p (inr later) = inr (paired ts rows p later)

hold_pairs : (records : Records) (ts : List TableDefinition) (rows : List (List Row)) → length rows ≡ length ts
    → ((p : Pair) → Among p (pairs ts rows) → Holds records (row_prefix p.0.id) (row_record p.0.id p.0.definition.layout) p.1) → HoldRows records ts rows
hold_pairs records [] [] n h = tt
hold_pairs records [] (r ∷ rows) n h = absurd (omega (arith, n))
hold_pairs records (t ∷ ts) [] n h = absurd (omega (arith, n))
hold_pairs records (t ∷ ts) (r ∷ rows) n h = (h (t, r) (inl refl), hold_pairs records ts rows (omega (arith, n)) (λ p among. h p (inr among)))

module _ (d : Definitions) (v : AreValid d) (rows : List (List Row)) (many : length rows ≡ length d.tables) where
  abbrev descriptors_part : TableDefinition → Records
  descriptors_part t = map (descriptor_record t.id) t.descriptors

  abbrev policies_part : TableDefinition → Records
  policies_part t = map (policy_record t.id) t.policies

  abbrev a : Records
  a = map role_record d.roles

  abbrev b : Records
  b = map membership_record d.memberships

  abbrev c : Records
  c = map table_record d.tables

  abbrev e : Records
  e = flat_map descriptors_part d.tables

  abbrev f : Records
  f = flat_map policies_part d.tables

  abbrev g : Records
  g = flat_map rows_of_pair (pairs d.tables rows)

  abbrev all : Records
  all = six a b c e f g

  kind_a : AreOfKind 1 a
  kind_a = kind_of_spelled 1 role_record d.roles (λ r. refl)

  kind_b : AreOfKind 2 b
  kind_b = kind_of_spelled 2 membership_record d.memberships (λ m. refl)

  kind_c : AreOfKind 3 c
  kind_c = kind_of_spelled 3 table_record d.tables (λ t. refl)

  kind_e : AreOfKind 4 e
  kind_e = kind_of_parts 4 descriptors_part d.tables (λ t. kind_of_spelled 4 (descriptor_record t.id) t.descriptors (λ x. refl))

  kind_f : AreOfKind 5 f
  kind_f = kind_of_parts 5 policies_part d.tables (λ t. kind_of_spelled 5 (policy_record t.id) t.policies (λ x. refl))

  kind_g : AreOfKind 6 g
  kind_g = kind_of_parts 6 rows_of_pair (pairs d.tables rows) (λ p. kind_of_spelled 6 (row_record p.0.id p.0.definition.layout) p.1 (λ x. refl))

  abbrev Is : ℕ → ℕ → Type 0
  Is j k = j ≡ k

  -- the records of one kind are in its list
  in_a : (rest : List ℕ) → entries_where (has_prefix (1 ∷ rest)) all ≡ entries_where (has_prefix (1 ∷ rest)) a
  in_a rest = where_six (has_prefix (1 ∷ rest)) a b c e f g
      ∙ same_six refl (no_other_kind 2 1 rest b (λ h. omega (arith, h)) kind_b) (no_other_kind 3 1 rest c (λ h. omega (arith, h)) kind_c) (no_other_kind 4 1 rest e (λ h. omega (arith, h)) kind_e) (no_other_kind 5 1 rest f (λ h. omega (arith, h)) kind_f) (no_other_kind 6 1 rest g (λ h. omega (arith, h)) kind_g)
      ∙ append-nil (entries_where (has_prefix (1 ∷ rest)) a ++ []) ∙ append-nil (entries_where (has_prefix (1 ∷ rest)) a)

  in_b : (rest : List ℕ) → entries_where (has_prefix (2 ∷ rest)) all ≡ entries_where (has_prefix (2 ∷ rest)) b
  in_b rest = where_six (has_prefix (2 ∷ rest)) a b c e f g
      ∙ same_six (no_other_kind 1 2 rest a (λ h. omega (arith, h)) kind_a) refl (no_other_kind 3 2 rest c (λ h. omega (arith, h)) kind_c) (no_other_kind 4 2 rest e (λ h. omega (arith, h)) kind_e) (no_other_kind 5 2 rest f (λ h. omega (arith, h)) kind_f) (no_other_kind 6 2 rest g (λ h. omega (arith, h)) kind_g)
      ∙ append-nil (entries_where (has_prefix (2 ∷ rest)) b ++ []) ∙ append-nil (entries_where (has_prefix (2 ∷ rest)) b)

  in_c : (rest : List ℕ) → entries_where (has_prefix (3 ∷ rest)) all ≡ entries_where (has_prefix (3 ∷ rest)) c
  in_c rest = where_six (has_prefix (3 ∷ rest)) a b c e f g
      ∙ same_six (no_other_kind 1 3 rest a (λ h. omega (arith, h)) kind_a) (no_other_kind 2 3 rest b (λ h. omega (arith, h)) kind_b) refl (no_other_kind 4 3 rest e (λ h. omega (arith, h)) kind_e) (no_other_kind 5 3 rest f (λ h. omega (arith, h)) kind_f) (no_other_kind 6 3 rest g (λ h. omega (arith, h)) kind_g)
      ∙ append-nil (entries_where (has_prefix (3 ∷ rest)) c ++ []) ∙ append-nil (entries_where (has_prefix (3 ∷ rest)) c)

  in_e : (rest : List ℕ) → entries_where (has_prefix (4 ∷ rest)) all ≡ entries_where (has_prefix (4 ∷ rest)) e
  in_e rest = where_six (has_prefix (4 ∷ rest)) a b c e f g
      ∙ same_six (no_other_kind 1 4 rest a (λ h. omega (arith, h)) kind_a) (no_other_kind 2 4 rest b (λ h. omega (arith, h)) kind_b) (no_other_kind 3 4 rest c (λ h. omega (arith, h)) kind_c) refl (no_other_kind 5 4 rest f (λ h. omega (arith, h)) kind_f) (no_other_kind 6 4 rest g (λ h. omega (arith, h)) kind_g)
      ∙ append-nil (entries_where (has_prefix (4 ∷ rest)) e ++ []) ∙ append-nil (entries_where (has_prefix (4 ∷ rest)) e)

  in_f : (rest : List ℕ) → entries_where (has_prefix (5 ∷ rest)) all ≡ entries_where (has_prefix (5 ∷ rest)) f
  in_f rest = where_six (has_prefix (5 ∷ rest)) a b c e f g
      ∙ same_six (no_other_kind 1 5 rest a (λ h. omega (arith, h)) kind_a) (no_other_kind 2 5 rest b (λ h. omega (arith, h)) kind_b) (no_other_kind 3 5 rest c (λ h. omega (arith, h)) kind_c) (no_other_kind 4 5 rest e (λ h. omega (arith, h)) kind_e) refl (no_other_kind 6 5 rest g (λ h. omega (arith, h)) kind_g)
      ∙ append-nil (entries_where (has_prefix (5 ∷ rest)) f)

  in_g : (rest : List ℕ) → entries_where (has_prefix (6 ∷ rest)) all ≡ entries_where (has_prefix (6 ∷ rest)) g
  in_g rest = where_six (has_prefix (6 ∷ rest)) a b c e f g
      ∙ same_six (no_other_kind 1 6 rest a (λ h. omega (arith, h)) kind_a) (no_other_kind 2 6 rest b (λ h. omega (arith, h)) kind_b) (no_other_kind 3 6 rest c (λ h. omega (arith, h)) kind_c) (no_other_kind 4 6 rest e (λ h. omega (arith, h)) kind_e) (no_other_kind 5 6 rest f (λ h. omega (arith, h)) kind_f) refl

  -- ---- what they hold

  spelled_pass : {X : Type 0} (prefix : List ℕ) (spell : X → Record) (xs : List X) → ((x : X) → has_prefix prefix (spell x).0 ≡ true) → entries_where (has_prefix prefix) (map spell xs) ≡ map spell xs
  spelled_pass prefix spell xs h = where_all (has_prefix prefix) (map spell xs) (λ r among. let found = of_map spell xs r among in subst (λ (z : Record). has_prefix prefix z.0 ≡ true) found.2 (h found.0))

  spelled_miss : {X : Type 0} (kind i j : ℕ) (spell : X → Record) (xs : List X) → i < 2 ^ 32 → j < 2 ^ 32 → (i ≡ j → ⊥) → ((x : X) → has_prefix (kind ∷ big_bytes 4 i) (spell x).0 ≡ true)
      → entries_where (has_prefix (kind ∷ big_bytes 4 j)) (map spell xs) ≡ []
  spelled_miss kind i j spell xs small_i small_j differ h =
      where_none (has_prefix (kind ∷ big_bytes 4 j)) (map spell xs) (λ r among.
      let found = of_map spell xs r among in
      false_from_ne_true (has_prefix (kind ∷ big_bytes 4 j) r.0)
      (λ t. differ (one_id kind r.0 i j small_i small_j (subst (λ (z : Record). has_prefix (kind ∷ big_bytes 4 i) z.0 ≡ true) found.2 (h found.0)) t)))

  small : (t : TableDefinition) → Among t d.tables → t.id < 2 ^ 32
  small t among = small_id t.id (v.tables t among).most

  hold_table : (t : TableDefinition) → Among t d.tables → HoldsTable all t
  hold_table t among = record {
    descriptors = in_e (big_bytes 4 t.id) ∙ one_part (λ (u : TableDefinition). u.id) descriptors_part (has_prefix (descriptor_prefix t.id)) t
        (spelled_pass (descriptor_prefix t.id) (descriptor_record t.id) t.descriptors (descriptor_begins t.id)) d.tables v.ids
        (λ u there differ. spelled_miss 4 u.id t.id (descriptor_record u.id) u.descriptors (small u there) (small t among) differ (descriptor_begins u.id)) among;
    policies = in_f (big_bytes 4 t.id) ∙ one_part (λ (u : TableDefinition). u.id) policies_part (has_prefix (policy_prefix t.id)) t
        (spelled_pass (policy_prefix t.id) (policy_record t.id) t.policies (policy_begins t.id)) d.tables v.ids
        (λ u there differ. spelled_miss 5 u.id t.id (policy_record u.id) u.policies (small u there) (small t among) differ (policy_begins u.id)) among;
  }

  hold_pair : (p : Pair) → Among p (pairs d.tables rows) → Holds all (row_prefix p.0.id) (row_record p.0.id p.0.definition.layout) p.1
  hold_pair p among = in_g (big_bytes 4 p.0.id) ∙ one_part id_of_pair rows_of_pair (has_prefix (row_prefix p.0.id)) p
      (spelled_pass (row_prefix p.0.id) (row_record p.0.id p.0.definition.layout) p.1 (row_begins p.0.id p.0.definition.layout)) (pairs d.tables rows)
      (subst (λ (ids : List ℕ). IsTrue (all_differ nat_eq ids)) (ids_paired d.tables rows many) v.ids)
      (λ z there differ. spelled_miss 6 z.0.id p.0.id (row_record z.0.id z.0.definition.layout) z.1 (small z.0 (paired d.tables rows z there)) (small p.0 (paired d.tables rows p among)) differ (row_begins z.0.id z.0.definition.layout)) among

  -- ---- no orphans

  in_six : (r : Record) → Among r all → Among r a ⊎ (Among r b ⊎ (Among r c ⊎ (Among r e ⊎ (Among r f ⊎ Among r g))))
  in_six r h = elim (of_append (a ++ (b ++ (c ++ (e ++ f)))) g r h) [
    | inr x ↦ inr (inr (inr (inr (inr x))))
    | inl h1 ↦ elim (of_append a (b ++ (c ++ (e ++ f))) r h1) [
      | inl x ↦ inl x
      | inr h2 ↦ elim (of_append b (c ++ (e ++ f)) r h2) [
        | inl x ↦ inr (inl x)
        | inr h3 ↦ elim (of_append c (e ++ f) r h3) [
          | inl x ↦ inr (inr (inl x))
          | inr h4 ↦ elim (of_append e f r h4) [ inl x ↦ inr (inr (inr (inl x))) | inr x ↦ inr (inr (inr (inr (inl x)))) ]
        ]
      ]
    ]
  ]

  not_orphan : (p q r s t : Bool) → (p ≡ true) ⊎ ((q ≡ true) ⊎ ((r ≡ true) ⊎ ((s ≡ true) ⊎ (t ≡ true)))) → not (p || q || r || s || t) ≡ false
  not_orphan true q r s t h = refl
  not_orphan false true r s t h = refl
  not_orphan false false true s t h = refl
  not_orphan false false false true t h = refl
  not_orphan false false false false true h = refl
  not_orphan false false false false false (inl h) = cc
  not_orphan false false false false false (inr (inl h)) = cc
  not_orphan false false false false false (inr (inr (inl h))) = cc
  not_orphan false false false false false (inr (inr (inr (inl h)))) = cc
  not_orphan false false false false false (inr (inr (inr (inr h)))) = cc

  known_key : (r : Record) → Among r all → is_orphan (ids_of d.tables) r.0 ≡ false
  known_key r among = not_orphan (has_prefix role_prefix r.0) (has_prefix membership_prefix r.0) (has_prefix table_prefix r.0) (has_prefix rows_prefix r.0) (list_any (is_key_of r.0) (ids_of d.tables)) (go (in_six r among)) where
    go : Among r a ⊎ (Among r b ⊎ (Among r c ⊎ (Among r e ⊎ (Among r f ⊎ Among r g))))
        → (has_prefix role_prefix r.0 ≡ true) ⊎ ((has_prefix membership_prefix r.0 ≡ true) ⊎ ((has_prefix table_prefix r.0 ≡ true) ⊎ ((has_prefix rows_prefix r.0 ≡ true) ⊎ (list_any (is_key_of r.0) (ids_of d.tables) ≡ true))))
    go (inl x) = inl (kind_a r x)
    go (inr (inl x)) = inr (inl (kind_b r x))
    go (inr (inr (inl x))) = inr (inr (inl (kind_c r x)))
    go (inr (inr (inr (inl x)))) =
        let t = of_flat_map descriptors_part d.tables r x in
        let y = of_map (descriptor_record t.0.id) t.0.descriptors r t.2 in
        inr (inr (inr (inr (any_holds (is_key_of r.0) (ids_of d.tables) t.0.id (into_map (λ (u : TableDefinition). u.id) d.tables t.0 t.1)
        (or_left (has_prefix (descriptor_prefix t.0.id) r.0) (has_prefix (policy_prefix t.0.id) r.0) (subst (λ (z : Record). has_prefix (descriptor_prefix t.0.id) z.0 ≡ true) y.2 (descriptor_begins t.0.id y.0)))))))
    go (inr (inr (inr (inr (inl x))))) =
        let t = of_flat_map policies_part d.tables r x in
        let y = of_map (policy_record t.0.id) t.0.policies r t.2 in
        inr (inr (inr (inr (any_holds (is_key_of r.0) (ids_of d.tables) t.0.id (into_map (λ (u : TableDefinition). u.id) d.tables t.0 t.1)
        (or_right (has_prefix (descriptor_prefix t.0.id) r.0) (has_prefix (policy_prefix t.0.id) r.0) (subst (λ (z : Record). has_prefix (policy_prefix t.0.id) z.0 ≡ true) y.2 (policy_begins t.0.id y.0)))))))
    go (inr (inr (inr (inr (inr x))))) = inr (inr (inr (inl (kind_g r x))))

  no_row_key : (k : ℕ) (es : Records) → AreOfKind k es → (k ≡ 6 → ⊥) → (r : Record) → Among r es → is_orphan_row (ids_of d.tables) r.0 ≡ false
  no_row_key k es of differ r among = ap (λ (z : Bool). z && not (list_any (is_row_key_of r.0) (ids_of d.tables))) (other_kind k 6 [] r.0 differ (of r among))

  of_known_table : (p q : Bool) → q ≡ true → (p && not q) ≡ false
  of_known_table true true h = refl
  of_known_table false true h = refl
  of_known_table p false h = cc

  known_row_key : (r : Record) → Among r all → is_orphan_row (ids_of d.tables) r.0 ≡ false
  known_row_key r among = go (in_six r among) where
    go : Among r a ⊎ (Among r b ⊎ (Among r c ⊎ (Among r e ⊎ (Among r f ⊎ Among r g)))) → is_orphan_row (ids_of d.tables) r.0 ≡ false
    go (inl x) = no_row_key 1 a kind_a (λ h. omega (arith, h)) r x
    go (inr (inl x)) = no_row_key 2 b kind_b (λ h. omega (arith, h)) r x
    go (inr (inr (inl x))) = no_row_key 3 c kind_c (λ h. omega (arith, h)) r x
    go (inr (inr (inr (inl x)))) = no_row_key 4 e kind_e (λ h. omega (arith, h)) r x
    go (inr (inr (inr (inr (inl x))))) = no_row_key 5 f kind_f (λ h. omega (arith, h)) r x
    go (inr (inr (inr (inr (inr x))))) =
        let p = of_flat_map rows_of_pair (pairs d.tables rows) r x in
        let y = of_map (row_record p.0.0.id p.0.0.definition.layout) p.0.1 r p.2 in
        of_known_table (has_prefix rows_prefix r.0) (list_any (is_row_key_of r.0) (ids_of d.tables))
        (any_holds (is_row_key_of r.0) (ids_of d.tables) p.0.0.id (into_map (λ (u : TableDefinition). u.id) d.tables p.0.0 (paired d.tables rows p.0 p.1))
        (subst (λ (z : Record). has_prefix (row_prefix p.0.0.id) z.0 ≡ true) y.2 (row_begins p.0.0.id p.0.0.definition.layout y.0)))

  -- ---- all of it

  all_defined : Define all d
  all_defined = record {
    held = record {
      roles = in_a [] ∙ spelled_pass role_prefix role_record d.roles (λ r. refl);
      memberships = in_b [] ∙ spelled_pass membership_prefix membership_record d.memberships (λ m. refl);
      tables = in_c [] ∙ spelled_pass table_prefix table_record d.tables (λ t. refl);
      of_tables = hold_table;
    };
    no_other = where_none (is_orphan (ids_of d.tables)) all known_key;
    valid = v;
  }

  entries_are : entries_of d rows ≡ all
  entries_are = ap (λ (z : Records). (a ++ (b ++ (c ++ (e ++ f)))) ++ z) (rows_paired d.tables rows many)

pub described_shown : (d : Definitions) (db : Database) → (s : Describes d db) → Shows (entries_of d s.rows) d db
described_shown d db s = subst (λ (z : Records). Shows z d db) (sym (entries_are d s.valid s.rows s.each_table)) (record {
  defined = all_defined d s.valid s.rows s.each_table;
  rows = s.rows;
  held = hold_pairs (all d s.valid s.rows s.each_table) d.tables s.rows s.each_table (hold_pair d s.valid s.rows s.each_table);
  no_other_row = where_none (is_orphan_row (ids_of d.tables)) (all d s.valid s.rows s.each_table) (known_row_key d s.valid s.rows s.each_table);
  is = s.is;
  whole_rows = s.whole_rows;
})
