-- The records that stand for a database are those that it spells.
use Rattle.std.proofs.Common.{◌≡◌, ◌⊎◌, ◌↔◌, ℕ, Bool, true, false, not, ◌&&◌, ◌||◌, cond, List, [], ◌∷◌, map, flat_map, refl, ap, sym, ◌∙◌, subst, inl, inr}
use Rattle.std.specs.List.{list_any}
use Rattle.std.proofs.lemmas.Bool.{both_ways, or_cases}
use Rattle.sql_types.specs.Row.{Row}
use Rattle.store.specs.Records.{Record, Records, entries_where, has_prefix}
use Rattle.store.specs.Items.{Holds}
use Rattle.row_codec.specs.Rows.{row_prefix}
use Rattle.abstract_database.specs.Lists.{Among}
use Rattle.abstract_database.specs.Database.{Database}
use Rattle.abstract_database.proofs.ElementLemmas.{any_found}
use Rattle.stored_database.specs.Definitions.{TableDefinition, Definitions, ids_of}
use Rattle.stored_database.specs.RecordFormat.{role_prefix, role_record, membership_prefix, membership_record, table_prefix, table_record, descriptor_prefix, descriptor_record, policy_prefix, policy_record, rows_prefix, row_record}
use Rattle.stored_database.specs.Records.{is_key_of, is_orphan, Define, HoldRows, is_row_key_of, is_orphan_row, Shows}
use Rattle.stored_database.specs.Entries.{entries_of_definitions, entries_of_rows, entries_of}
use Rattle.stored_database.proofs.Lists.{of_map, into_left, into_right, of_append, into_flat_map, of_flat_map}

-- ---- records that pass a test

into_at : (q : List ℕ → Bool) (f : Record) (es : Records) (e : Record) (b : Bool) → q f.0 ≡ b → (f ≡ e) ⊎ Among e (entries_where q es) → q e.0 ≡ true → Among e (cond b (f ∷ entries_where q es) (entries_where q es))
into_at q f es e true at h t = h
into_at q f es e false at (inl is) t = absurd (both_ways (q e.0) (sym (ap (λ (r : Record). q r.0) is) ∙ at) t)
into_at q f es e false at (inr later) t = later

pub into_where : (q : List ℕ → Bool) (es : Records) (e : Record) → Among e es → q e.0 ≡ true → Among e (entries_where q es)
into_where q [] e h t = h
into_where q (f ∷ es) e (inl is) t = into_at q f es e (q f.0) refl (inl is) t
into_where q (f ∷ es) e (inr later) t = into_at q f es e (q f.0) refl (inr (into_where q es e later t)) t

of_at : (q : List ℕ → Bool) (f : Record) (es : Records) (e : Record) (b : Bool) → (Among e (entries_where q es) → Among e es) → Among e (cond b (f ∷ entries_where q es) (entries_where q es)) → Among e (f ∷ es)
of_at q f es e true go (inl is) = inl is
of_at q f es e true go (inr later) = inr (go later)
of_at q f es e false go h = inr (go h)

pub of_where : (q : List ℕ → Bool) (es : Records) (e : Record) → Among e (entries_where q es) → Among e es
of_where q [] e h = h
of_where q (f ∷ es) e h = of_at q f es e (q f.0) (of_where q es e) h

-- a record with a prefix is one of those that the records hold with it
pub held_at : {X : Type 0} (records : Records) (prefix : List ℕ) (spell : X → Record) (items : List X) → Holds records prefix spell items
    → (e : Record) → Among e records → has_prefix prefix e.0 ≡ true → Among e (map spell items)
held_at records prefix spell items held e among has = subst (λ (es : Records). Among e es) held (into_where (has_prefix prefix) records e among has)

pub holds_each : {X : Type 0} (records : Records) (prefix : List ℕ) (spell : X → Record) (items : List X) → Holds records prefix spell items
    → (e : Record) → Among e (map spell items) → Among e records
holds_each records prefix spell items held e among = of_where (has_prefix prefix) records e (subst (λ (es : Records). Among e es) (sym held) among)

-- no record passes a test that none passes
pub none_there : (q : List ℕ → Bool) (records : Records) → entries_where q records ≡ [] → (e : Record) → Among e records → q e.0 ≡ false
none_there q records none e among = go (q e.0) refl where
  go : (b : Bool) → q e.0 ≡ b → b ≡ false
  go true t = absurd (subst (λ (es : Records). Among e es) none (into_where q records e among t))
  go false t = refl

-- ---- kinds

-- what a key that is no orphan begins with
pub data KindOf (ids : List ℕ) (key : List ℕ) : Type 0 where
  of_role : has_prefix role_prefix key ≡ true → KindOf ids key
  of_membership : has_prefix membership_prefix key ≡ true → KindOf ids key
  of_table : has_prefix table_prefix key ≡ true → KindOf ids key
  of_row : has_prefix rows_prefix key ≡ true → KindOf ids key
  of_descriptor : (id : ℕ) → Among id ids → has_prefix (descriptor_prefix id) key ≡ true → KindOf ids key
  of_policy : (id : ℕ) → Among id ids → has_prefix (policy_prefix id) key ≡ true → KindOf ids key

of_a_table : (ids : List ℕ) (key : List ℕ) → list_any (is_key_of key) ids ≡ true → KindOf ids key
of_a_table ids key h =
    let found = any_found (is_key_of key) ids h in
    elim (or_cases (has_prefix (descriptor_prefix found.0) key) (has_prefix (policy_prefix found.0) key) found.2) [
      | inl d ↦ of_descriptor found.0 found.1 d
      | inr p ↦ of_policy found.0 found.1 p
    ]

pub kind_of : (ids : List ℕ) (key : List ℕ) → is_orphan ids key ≡ false → KindOf ids key
kind_of ids key h =
    go (has_prefix role_prefix key) (has_prefix membership_prefix key) (has_prefix table_prefix key) (has_prefix rows_prefix key) (list_any (is_key_of key) ids)
    of_role of_membership of_table of_row (of_a_table ids key) h
  where
    go : (a b c d e : Bool) → (a ≡ true → KindOf ids key) → (b ≡ true → KindOf ids key) → (c ≡ true → KindOf ids key) → (d ≡ true → KindOf ids key) → (e ≡ true → KindOf ids key)
        → not (a || b || c || d || e) ≡ false → KindOf ids key
    go true b c d e f g i j k h = f refl
    go false true c d e f g i j k h = g refl
    go false false true d e f g i j k h = i refl
    go false false false true e f g i j k h = j refl
    go false false false false true f g i j k h = k refl
    go false false false false false f g i j k h = cc

-- the table of a number
pub numbered_table : (tables : List TableDefinition) (id : ℕ) → Among id (ids_of tables) → (t : TableDefinition) × Among t tables × (t.id ≡ id)
numbered_table tables id h = of_map (λ (t : TableDefinition). t.id) tables id h

-- ---- rows

pub of_row_table : (ids : List ℕ) (key : List ℕ) → has_prefix rows_prefix key ≡ true → is_orphan_row ids key ≡ false → list_any (is_row_key_of key) ids ≡ true
of_row_table ids key has h = go (has_prefix rows_prefix key) (list_any (is_row_key_of key) ids) has h where
  go : (a b : Bool) → a ≡ true → (a && not b) ≡ false → b ≡ true
  go true true p q = refl
  go true false p q = cc
  go false b p q = cc

held_rows : (records : Records) (ts : List TableDefinition) (rows : List (List Row)) → HoldRows records ts rows
    → (t : TableDefinition) → Among t ts → (e : Record) → Among e records → has_prefix (row_prefix t.id) e.0 ≡ true → Among e (entries_of_rows ts rows)
held_rows records [] rows held t there e among has = absurd there
held_rows records (u ∷ ts) [] held t there e among has = absurd held
held_rows records (u ∷ ts) (r ∷ rows) held t (inl is) e among has =
    into_left (map (row_record u.id u.definition.layout) r) (entries_of_rows ts rows) e
    (held_at records (row_prefix u.id) (row_record u.id u.definition.layout) r held.0 e among (subst (λ (v : TableDefinition). has_prefix (row_prefix v.id) e.0 ≡ true) (sym is) has))
held_rows records (u ∷ ts) (r ∷ rows) held t (inr later) e among has =
    into_right (map (row_record u.id u.definition.layout) r) (entries_of_rows ts rows) e (held_rows records ts rows held.1 t later e among has)

rows_there : (records : Records) (ts : List TableDefinition) (rows : List (List Row)) → HoldRows records ts rows → (e : Record) → Among e (entries_of_rows ts rows) → Among e records
rows_there records [] rows held e h = absurd h
rows_there records (u ∷ ts) [] held e h = absurd held
rows_there records (u ∷ ts) (r ∷ rows) held e h = elim (of_append (map (row_record u.id u.definition.layout) r) (entries_of_rows ts rows) e h) [
  | inl here ↦ holds_each records (row_prefix u.id) (row_record u.id u.definition.layout) r held.0 e here
  | inr later ↦ rows_there records ts rows held.1 e later
]

-- ---- all records

module _ (records : Records) (d : Definitions) (e : Record) where
  abbrev pub of_roles : List Record
  of_roles = map role_record d.roles

  abbrev pub of_memberships : List Record
  of_memberships = map membership_record d.memberships

  abbrev pub of_tables : List Record
  of_tables = map table_record d.tables

  abbrev pub of_descriptors : List Record
  of_descriptors = flat_map (λ (t : TableDefinition). map (descriptor_record t.id) t.descriptors) d.tables

  abbrev pub of_policies : List Record
  of_policies = flat_map (λ (t : TableDefinition). map (policy_record t.id) t.policies) d.tables

  abbrev pub IsEntry : Type 0
  IsEntry = Among e of_roles ⊎ (Among e of_memberships ⊎ (Among e of_tables ⊎ (Among e of_descriptors ⊎ Among e of_policies)))

  pub into_entries : IsEntry → Among e (entries_of_definitions d)
  into_entries (inl h) = into_left of_roles _ e h
  into_entries (inr (inl h)) = into_right of_roles _ e (into_left of_memberships _ e h)
  into_entries (inr (inr (inl h))) = into_right of_roles _ e (into_right of_memberships _ e (into_left of_tables _ e h))
  into_entries (inr (inr (inr (inl h)))) = into_right of_roles _ e (into_right of_memberships _ e (into_right of_tables _ e (into_left of_descriptors of_policies e h)))
  into_entries (inr (inr (inr (inr h)))) = into_right of_roles _ e (into_right of_memberships _ e (into_right of_tables _ e (into_right of_descriptors of_policies e h)))

  pub of_entries : Among e (entries_of_definitions d) → IsEntry
  of_entries h = elim (of_append of_roles _ e h) [
    | inl a ↦ inl a
    | inr h1 ↦ elim (of_append of_memberships _ e h1) [
      | inl b ↦ inr (inl b)
      | inr h2 ↦ elim (of_append of_tables _ e h2) [
        | inl c ↦ inr (inr (inl c))
        | inr h3 ↦ inr (inr (inr (of_append of_descriptors of_policies e h3)))
      ]
    ]
  ]

  -- a record is a definition's, or has the key of a row
  defined_or_row : Define records d → Among e records → IsEntry ⊎ (has_prefix rows_prefix e.0 ≡ true)
  defined_or_row p among = go (kind_of (ids_of d.tables) e.0 (none_there (is_orphan (ids_of d.tables)) records p.no_other e among)) where
    go : KindOf (ids_of d.tables) e.0 → IsEntry ⊎ (has_prefix rows_prefix e.0 ≡ true)
    go (of_role has) = inl (inl (held_at records role_prefix role_record d.roles p.held.roles e among has))
    go (of_membership has) = inl (inr (inl (held_at records membership_prefix membership_record d.memberships p.held.memberships e among has)))
    go (of_table has) = inl (inr (inr (inl (held_at records table_prefix table_record d.tables p.held.tables e among has))))
    go (of_row has) = inr has
    go (of_descriptor id there has) = let found = numbered_table d.tables id there in inl (inr (inr (inr (inl
        (into_flat_map (λ (u : TableDefinition). map (descriptor_record u.id) u.descriptors) d.tables found.0 e found.1
        (held_at records (descriptor_prefix found.0.id) (descriptor_record found.0.id) found.0.descriptors (p.held.of_tables found.0 found.1).descriptors e among
        (subst (λ (i : ℕ). has_prefix (descriptor_prefix i) e.0 ≡ true) (sym found.2) has)))))))
    go (of_policy id there has) = let found = numbered_table d.tables id there in inl (inr (inr (inr (inr
        (into_flat_map (λ (u : TableDefinition). map (policy_record u.id) u.policies) d.tables found.0 e found.1
        (held_at records (policy_prefix found.0.id) (policy_record found.0.id) found.0.policies (p.held.of_tables found.0 found.1).policies e among
        (subst (λ (i : ℕ). has_prefix (policy_prefix i) e.0 ≡ true) (sym found.2) has)))))))

  entry_there : Define records d → IsEntry → Among e records
  entry_there p (inl h) = holds_each records role_prefix role_record d.roles p.held.roles e h
  entry_there p (inr (inl h)) = holds_each records membership_prefix membership_record d.memberships p.held.memberships e h
  entry_there p (inr (inr (inl h))) = holds_each records table_prefix table_record d.tables p.held.tables e h
  entry_there p (inr (inr (inr (inl h)))) =
      let found = of_flat_map (λ (t : TableDefinition). map (descriptor_record t.id) t.descriptors) d.tables e h in
      holds_each records (descriptor_prefix found.0.id) (descriptor_record found.0.id) found.0.descriptors (p.held.of_tables found.0 found.1).descriptors e found.2
  entry_there p (inr (inr (inr (inr h)))) =
      let found = of_flat_map (λ (t : TableDefinition). map (policy_record t.id) t.policies) d.tables e h in
      holds_each records (policy_prefix found.0.id) (policy_record found.0.id) found.0.policies (p.held.of_tables found.0 found.1).policies e found.2

  pub records_are_entries : (db : Database) → (s : Shows records d db) → Among e records ↔ Among e (entries_of d s.rows)
  records_are_entries db s = (into, back) where
    into : Among e records → Among e (entries_of d s.rows)
    into among = elim (defined_or_row s.defined among) [
      | inl h ↦ into_left (entries_of_definitions d) (entries_of_rows d.tables s.rows) e (into_entries h)
      | inr row ↦
          let id = any_found (is_row_key_of e.0) (ids_of d.tables) (of_row_table (ids_of d.tables) e.0 row (none_there (is_orphan_row (ids_of d.tables)) records s.no_other_row e among)) in
          let found = numbered_table d.tables id.0 id.1 in
          into_right (entries_of_definitions d) (entries_of_rows d.tables s.rows) e
          (held_rows records d.tables s.rows s.held found.0 found.1 e among (subst (λ (i : ℕ). has_prefix (row_prefix i) e.0 ≡ true) (sym found.2) id.2))
    ]

    back : Among e (entries_of d s.rows) → Among e records
    back h = elim (of_append (entries_of_definitions d) (entries_of_rows d.tables s.rows) e h) [
      | inl h1 ↦ entry_there s.defined (of_entries h1)
      | inr h2 ↦ rows_there records d.tables s.rows s.held e h2
    ]
