-- Records in which one table was changed stand for the database with it.
use Rattle.std.proofs.Common.{◌≡◌, ◌⊎◌, ◌<◌, ◌^◌, ℕ, Bool, true, false, not, ◌&&◌, List, [], map, refl, ap, sym, ◌∙◌, subst, inl, inr}
use Rattle.std.specs.List.{list_any}
use Rattle.std.proofs.lemmas.Bool.{both_ways, false_from_ne_true, and_parts, and_from, not_from_false, or_left, or_right, or_cases}
use Rattle.byteorder.specs.Endian.{big_bytes}
use Rattle.sql_types.specs.Row.{Row}
use Rattle.store.specs.Records.{Record, Records, entries_where, has_prefix}
use Rattle.row_codec.specs.Rows.{row_prefix}
use Rattle.abstract_database.specs.Lists.{Among}
use Rattle.abstract_database.specs.Database.{Database}
use Rattle.abstract_database.specs.Whole.{Each, HasWholeRows}
use Rattle.abstract_database.proofs.ElementLemmas.{any_found, any_holds}
use Rattle.stored_database.specs.Definitions.{TableDefinition, Definitions, ids_of, database_with}
use Rattle.stored_database.specs.RecordFormat.{role_prefix, role_record, membership_prefix, membership_record, table_prefix, table_record, descriptor_prefix, policy_prefix, rows_prefix}
use Rattle.stored_database.specs.Valid.{AreValid}
use Rattle.stored_database.specs.Records.{is_key_of, is_orphan, HoldsTable, HoldRows, is_row_key_of, is_orphan_row, HasNoRecords, Shows}
use Rattle.stored_database.proofs.Tables.{small_id}
use Rattle.stored_database.proofs.AllRecords.{into_where, of_where, none_there, KindOf, of_role, of_membership, of_table, of_row, of_descriptor, of_policy, kind_of, of_row_table}
use Rattle.stored_database.proofs.Spelled.{where_none, kind_alone}
use Rattle.catalogue_changes.proofs.TurnLemmas.{AreApart, kinds_apart, ids_apart, roles_no_orphans, memberships_no_orphans, tables_no_orphans, rows_no_orphans, table_keys_no_orphans, no_orphan_rows}

-- nothing is changed but records of tables, and records with this number
abbrev pub IsConfined : ℕ → Records → Records → Type 0
IsConfined i old new = (q : List ℕ → Bool) → AreApart (has_prefix table_prefix) q → AreApart (has_prefix (descriptor_prefix i)) q → AreApart (has_prefix (policy_prefix i)) q
    → AreApart (has_prefix (row_prefix i)) q → entries_where q new ≡ entries_where q old

-- a test that a first part fails, or a second
fails_first : (a b : Bool) → a ≡ false → (a && b) ≡ false
fails_first a b h = ap (λ (c : Bool). c && b) h

fails_second : (a b : Bool) → b ≡ true → (a && not b) ≡ false
fails_second true b h = ap not h
fails_second false b h = refl

module _ (old new : Records) (d e : Definitions) (db : Database) (s : Shows old d db) (i : ℕ) (small : i < 2 ^ 32) (confined : IsConfined i old new)
    (ids : (j : ℕ) → Among j (ids_of d.tables) → Among j (ids_of e.tables) ⊎ (j ≡ i)) (removed : Among i (ids_of e.tables) ⊎ HasNoRecords new i) where
  -- the record was there before, where a test does not concern what may have changed
  was_there : (q : List ℕ → Bool) → AreApart (has_prefix table_prefix) q → AreApart (has_prefix (descriptor_prefix i)) q → AreApart (has_prefix (policy_prefix i)) q
      → AreApart (has_prefix (row_prefix i)) q → (r : Record) → Among r new → q r.0 ≡ true → Among r old
  was_there q a b c f r among pass = of_where q old r (subst (λ (rs : Records). Among r rs) (confined q a b c f) (into_where q new r among pass))

  -- an orphan key that is not of this number
  abbrev is_other_orphan : List ℕ → Bool
  is_other_orphan k = is_orphan (ids_of e.tables) k && not (is_key_of k i)

  of_number : (r : Record) → Among r new → is_key_of r.0 i ≡ true → is_orphan (ids_of e.tables) r.0 ≡ false
  of_number r among h = elim removed [
    | inl there ↦ table_keys_no_orphans (ids_of e.tables) i there r.0 h
    | inr none ↦ elim (or_cases (has_prefix (descriptor_prefix i) r.0) (has_prefix (policy_prefix i) r.0) h) [
      | inl p ↦ absurd (both_ways (has_prefix (descriptor_prefix i) r.0) (none_there (has_prefix (descriptor_prefix i)) new none.descriptors r among) p)
      | inr p ↦ absurd (both_ways (has_prefix (policy_prefix i) r.0) (none_there (has_prefix (policy_prefix i)) new none.policies r among) p)
    ]
  ]

  of_id : (r : Record) → is_key_of r.0 i ≡ false → (j : ℕ) → Among j (ids_of d.tables) → is_key_of r.0 j ≡ true → is_orphan (ids_of e.tables) r.0 ≡ false
  of_id r other j there h = elim (ids j there) [
    | inl still ↦ table_keys_no_orphans (ids_of e.tables) j still r.0 h
    | inr is ↦ absurd (both_ways (is_key_of r.0 i) other (subst (λ (n : ℕ). is_key_of r.0 n ≡ true) is h))
  ]

  of_kind : (r : Record) → is_key_of r.0 i ≡ false → KindOf (ids_of d.tables) r.0 → is_orphan (ids_of e.tables) r.0 ≡ false
  of_kind r other (of_role h) = roles_no_orphans (ids_of e.tables) r.0 h
  of_kind r other (of_membership h) = memberships_no_orphans (ids_of e.tables) r.0 h
  of_kind r other (of_table h) = tables_no_orphans (ids_of e.tables) r.0 h
  of_kind r other (of_row h) = rows_no_orphans (ids_of e.tables) r.0 h
  of_kind r other (of_descriptor j there h) = of_id r other j there (or_left (has_prefix (descriptor_prefix j) r.0) (has_prefix (policy_prefix j) r.0) h)
  of_kind r other (of_policy j there h) = of_id r other j there (or_right (has_prefix (descriptor_prefix j) r.0) (has_prefix (policy_prefix j) r.0) h)

  not_orphan : (r : Record) → Among r new → is_orphan (ids_of e.tables) r.0 ≡ false
  not_orphan r among = false_from_ne_true (is_orphan (ids_of e.tables) r.0) (λ orphan. go (is_key_of r.0 i) refl orphan) where
    go : (b : Bool) → is_key_of r.0 i ≡ b → is_orphan (ids_of e.tables) r.0 ≡ true → ⊥
    go true h orphan = both_ways (is_orphan (ids_of e.tables) r.0) (of_number r among h) orphan
    go false h orphan =
        both_ways (is_orphan (ids_of e.tables) r.0)
        (of_kind r h (kind_of (ids_of d.tables) r.0 (none_there (is_orphan (ids_of d.tables)) old s.defined.no_other r
        (was_there is_other_orphan
        (λ k p. fails_first (is_orphan (ids_of e.tables) k) (not (is_key_of k i)) (tables_no_orphans (ids_of e.tables) k p))
        (λ k p. fails_second (is_orphan (ids_of e.tables) k) (is_key_of k i) (or_left (has_prefix (descriptor_prefix i) k) (has_prefix (policy_prefix i) k) p))
        (λ k p. fails_second (is_orphan (ids_of e.tables) k) (is_key_of k i) (or_right (has_prefix (descriptor_prefix i) k) (has_prefix (policy_prefix i) k) p))
        (λ k p. fails_first (is_orphan (ids_of e.tables) k) (not (is_key_of k i)) (rows_no_orphans (ids_of e.tables) k (kind_alone 6 (big_bytes 4 i) k p)))
        r among (and_from (is_orphan (ids_of e.tables) r.0) (not (is_key_of r.0 i)) orphan (not_from_false (is_key_of r.0 i) h)))))) orphan

  -- ---- rows

  abbrev is_other_orphan_row : List ℕ → Bool
  is_other_orphan_row k = is_orphan_row (ids_of e.tables) k && not (has_prefix (row_prefix i) k)

  row_of : (r : Record) (j : ℕ) → Among j (ids_of e.tables) → has_prefix (row_prefix j) r.0 ≡ true → is_orphan_row (ids_of e.tables) r.0 ≡ false
  row_of r j there h = fails_second (has_prefix rows_prefix r.0) (list_any (is_row_key_of r.0) (ids_of e.tables)) (any_holds (is_row_key_of r.0) (ids_of e.tables) j there h)

  not_orphan_row : (r : Record) → Among r new → is_orphan_row (ids_of e.tables) r.0 ≡ false
  not_orphan_row r among = false_from_ne_true (is_orphan_row (ids_of e.tables) r.0) (λ orphan. go (has_prefix (row_prefix i) r.0) refl orphan) where
    go : (b : Bool) → has_prefix (row_prefix i) r.0 ≡ b → is_orphan_row (ids_of e.tables) r.0 ≡ true → ⊥
    go true h orphan = elim removed [
      | inl there ↦ both_ways (is_orphan_row (ids_of e.tables) r.0) (row_of r i there h) orphan
      | inr none ↦ both_ways (has_prefix (row_prefix i) r.0) (none_there (has_prefix (row_prefix i)) new none.rows r among) h
    ]
    go false h orphan =
        let parts = and_parts (has_prefix rows_prefix r.0) (not (list_any (is_row_key_of r.0) (ids_of e.tables))) orphan in
        let there = was_there is_other_orphan_row
        (λ k p. fails_first (is_orphan_row (ids_of e.tables) k) (not (has_prefix (row_prefix i) k)) (no_orphan_rows 3 [] (ids_of e.tables) refl k p))
        (λ k p. fails_first (is_orphan_row (ids_of e.tables) k) (not (has_prefix (row_prefix i) k)) (no_orphan_rows 4 (big_bytes 4 i) (ids_of e.tables) refl k p))
        (λ k p. fails_first (is_orphan_row (ids_of e.tables) k) (not (has_prefix (row_prefix i) k)) (no_orphan_rows 5 (big_bytes 4 i) (ids_of e.tables) refl k p))
        (λ k p. fails_second (is_orphan_row (ids_of e.tables) k) (has_prefix (row_prefix i) k) p)
        r among (and_from (is_orphan_row (ids_of e.tables) r.0) (not (has_prefix (row_prefix i) r.0)) orphan (not_from_false (has_prefix (row_prefix i) r.0) h)) in
        let found = any_found (is_row_key_of r.0) (ids_of d.tables) (of_row_table (ids_of d.tables) r.0 parts.0 (none_there (is_orphan_row (ids_of d.tables)) old s.no_other_row r there)) in
        elim (ids found.0 found.1) [
          | inl still ↦ both_ways (is_orphan_row (ids_of e.tables) r.0) (row_of r found.0 still found.2) orphan
          | inr is ↦ both_ways (has_prefix (row_prefix i) r.0) h (subst (λ (n : ℕ). has_prefix (row_prefix n) r.0 ≡ true) is found.2)
        ]

  -- ---- the database

  small_number : (u : TableDefinition) → Among u d.tables → u.id < 2 ^ 32
  small_number u among = small_id u.id (s.defined.valid.tables u among).most

  -- what is held of a table of another number
  stays_held : (u : TableDefinition) → Among u d.tables → (u.id ≡ i → ⊥) → HoldsTable new u
  stays_held u among other = record {
    descriptors = confined (has_prefix (descriptor_prefix u.id)) (kinds_apart 3 4 [] (big_bytes 4 u.id) refl) (ids_apart 4 i u.id small (small_number u among) (λ h. other (sym h)))
        (kinds_apart 5 4 (big_bytes 4 i) (big_bytes 4 u.id) refl) (kinds_apart 6 4 (big_bytes 4 i) (big_bytes 4 u.id) refl) ∙ (s.defined.held.of_tables u among).descriptors;
    policies = confined (has_prefix (policy_prefix u.id)) (kinds_apart 3 5 [] (big_bytes 4 u.id) refl) (kinds_apart 4 5 (big_bytes 4 i) (big_bytes 4 u.id) refl)
        (ids_apart 5 i u.id small (small_number u among) (λ h. other (sym h))) (kinds_apart 6 5 (big_bytes 4 i) (big_bytes 4 u.id) refl) ∙ (s.defined.held.of_tables u among).policies;
  }

  pub rows_stay_elsewhere : (u : TableDefinition) → Among u d.tables → (u.id ≡ i → ⊥) → entries_where (has_prefix (row_prefix u.id)) new ≡ entries_where (has_prefix (row_prefix u.id)) old
  rows_stay_elsewhere u among other = confined (has_prefix (row_prefix u.id)) (kinds_apart 3 6 [] (big_bytes 4 u.id) refl) (kinds_apart 4 6 (big_bytes 4 i) (big_bytes 4 u.id) refl)
      (kinds_apart 5 6 (big_bytes 4 i) (big_bytes 4 u.id) refl) (ids_apart 6 i u.id small (small_number u among) (λ h. other (sym h)))

  -- each table is one of before, of another number, or holds what is said of it
  abbrev pub IsHeld : TableDefinition → Type 0
  IsHeld u = (Among u d.tables × (u.id ≡ i → ⊥)) ⊎ HoldsTable new u

  pub table_shown : (after : Database) (rows : List (List Row)) → e.roles ≡ d.roles → e.memberships ≡ d.memberships → entries_where (has_prefix table_prefix) new ≡ map table_record e.tables
      → Each IsHeld e.tables → HoldRows new e.tables rows → AreValid e → after ≡ database_with e rows → HasWholeRows after → Shows new e after
  table_shown after rows same_roles same_memberships tables each held valid is whole = record {
    defined = record {
      held = record {
        roles = confined (has_prefix role_prefix) (kinds_apart 3 1 [] [] refl) (kinds_apart 4 1 (big_bytes 4 i) [] refl) (kinds_apart 5 1 (big_bytes 4 i) [] refl) (kinds_apart 6 1 (big_bytes 4 i) [] refl)
            ∙ subst (λ rs. entries_where (has_prefix role_prefix) old ≡ map role_record rs) (sym same_roles) s.defined.held.roles;
        memberships = confined (has_prefix membership_prefix) (kinds_apart 3 2 [] [] refl) (kinds_apart 4 2 (big_bytes 4 i) [] refl) (kinds_apart 5 2 (big_bytes 4 i) [] refl) (kinds_apart 6 2 (big_bytes 4 i) [] refl)
            ∙ subst (λ ms. entries_where (has_prefix membership_prefix) old ≡ map membership_record ms) (sym same_memberships) s.defined.held.memberships;
        tables = tables;
        of_tables = λ (u : TableDefinition) among. elim (each u among) [ inl old_one ↦ stays_held u old_one.0 old_one.1 | inr now ↦ now ];
      };
      no_other = where_none (is_orphan (ids_of e.tables)) new not_orphan;
      valid = valid;
    };
    rows = rows;
    held = held;
    no_other_row = where_none (is_orphan_row (ids_of e.tables)) new not_orphan_row;
    is = is;
    whole_rows = whole;
  }
