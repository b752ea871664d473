-- The database that records show after a change of one table's rows.
use Rattle.std.proofs.Common.{◌≡◌, ◌<◌, ◌^◌, ℕ, Bool, true, false, not, ◌||◌, ◌&&◌, List, [], ◌∷◌, find, Some, refl, ap, sym, ◌∙◌, subst, arith}
use Rattle.std.specs.List.{list_any}
use Rattle.std.proofs.lemmas.Bool.{false_from_ne_true}
use Rattle.byteorder.specs.Endian.{big_bytes}
use Rattle.sql_types.specs.Row.{Row}
use Rattle.store.specs.Records.{Records, Changes, IsOrdered, applied, entries_where, has_prefix}
use Rattle.store.proofs.Changes.{ordered_applied}
use Rattle.row_codec.specs.Rows.{row_prefix}
use Rattle.abstract_database.specs.Lists.{TheName, Among}
use Rattle.abstract_database.specs.Database.{Database, Table, rows_named, rows_in}
use Rattle.abstract_database.specs.Definitions.{with_rows_of}
use Rattle.abstract_database.specs.Whole.{HasWholeRows}
use Rattle.abstract_database.proofs.CheckLemmas.{find_passes}
use Rattle.abstract_database.proofs.ElementLemmas.{any_holds}
use Rattle.abstract_database.proofs.ListLemmas.{bytes_same}
use Rattle.stored_database.specs.Definitions.{TableDefinition, Definitions, ids_of, database_with}
use Rattle.stored_database.specs.RecordFormat.{rows_prefix, role_prefix, membership_prefix, table_prefix, descriptor_prefix, policy_prefix}
use Rattle.stored_database.specs.Records.{HoldsTable, is_key_of, is_orphan, is_row_key_of, is_orphan_row, Define, Shows}
use Rattle.stored_database.proofs.Lists.{into_map}
use Rattle.stored_database.proofs.Prefixes.{one_kind, one_id}
use Rattle.stored_database.proofs.Spelled.{kind_alone}
use Rattle.stored_database.proofs.Tables.{small_id}
use Rattle.catalogue.specs.Lookups.{is_definition_named}
use Rattle.planner.specs.Tables.{IsTableNamed}
use Rattle.planner.proofs.Fitting.{layouts}
use Rattle.table_rows.specs.HeldRows.{HoldsRows, ConcernRowsOf}
use Rattle.table_rows.proofs.Changing.{other_records_stay, held_rows_are_whole}
use Rattle.row_statements.proofs.TableRows.{StayRows, rows_found, with_list, tables_changed, whole_changed, rows_changed}

-- ---- the table of a statement

pub own_name : (d : Definitions) (name : TheName) (t : TableDefinition) → IsTableNamed d name t → find (is_definition_named t.definition.name) d.tables ≡ Some t
own_name d name t named =
    subst (λ (n : TheName). find (is_definition_named n) d.tables ≡ Some t) (sym (bytes_same t.definition.name name (find_passes (is_definition_named name) d.tables t named.found))) named.found

-- its rows in the records are those of the database
pub record OfTable (records : Records) (db : Database) (t : TableDefinition) : Type 0 where
  pub rows : List Row
  pub held : HoldsRows t.id t.definition.layout records rows
  pub are : rows_named db t.definition.name ≡ rows

pub of_table : (records : Records) (d : Definitions) (db : Database) (t : TableDefinition) → Shows records d db → find (is_definition_named t.definition.name) d.tables ≡ Some t → OfTable records db t
of_table records d db t s e =
    let r = rows_found records t.definition.name d.tables s.rows t s.held (subst (λ (x : Database). HasWholeRows x) s.is s.whole_rows) e in
    record {
      rows = r.rows;
      held = record { held = r.held; fit = r.whole.fit };
      are = ap (λ (x : Database). rows_named x t.definition.name) s.is ∙ ap rows_in r.found;
    }

-- ---- what stays

module _ (id : ℕ) where
  -- a key of a row of the table is of no other kind
  not_of_kind : (k : ℕ) (rest : List ℕ) → (k ≡ 6 → ⊥) → (key : List ℕ) → has_prefix (row_prefix id) key ≡ true → has_prefix (k ∷ rest) key ≡ false
  not_of_kind k rest other key h = false_from_ne_true (has_prefix (k ∷ rest) key) (λ e. other (one_kind key k 6 (kind_alone k rest key e) (kind_alone 6 (big_bytes 4 id) key h)))

  fourth : (a b c e : Bool) → not (a || b || c || true || e) ≡ false
  fourth true b c e = refl
  fourth false true c e = refl
  fourth false false true e = refl
  fourth false false false e = refl

  no_orphan : (ids : List ℕ) (key : List ℕ) → has_prefix (row_prefix id) key ≡ true → is_orphan ids key ≡ false
  no_orphan ids key h =
      ap (λ (b : Bool). not (has_prefix role_prefix key || has_prefix membership_prefix key || has_prefix table_prefix key || b || list_any (is_key_of key) ids)) (kind_alone 6 (big_bytes 4 id) key h)
      ∙ fourth (has_prefix role_prefix key) (has_prefix membership_prefix key) (has_prefix table_prefix key) (list_any (is_key_of key) ids)

  no_orphan_row : (ids : List ℕ) → Among id ids → (key : List ℕ) → has_prefix (row_prefix id) key ≡ true → is_orphan_row ids key ≡ false
  no_orphan_row ids among key h =
      ap (λ (b : Bool). has_prefix rows_prefix key && not b) (any_holds (is_row_key_of key) ids id among h)
      ∙ none (has_prefix rows_prefix key)
    where
      none : (b : Bool) → (b && false) ≡ false
      none true = refl
      none false = refl

module _ (records : Records) (changes : Changes) (t : TableDefinition) (o : IsOrdered records) (concern : ConcernRowsOf t.id changes) where
  stays : (test : List ℕ → Bool) → ((key : List ℕ) → has_prefix (row_prefix t.id) key ≡ true → test key ≡ false) → entries_where test (applied changes records) ≡ entries_where test records
  stays test apart = other_records_stay t.id changes records test o concern apart

  table_stays : (u : TableDefinition) → HoldsTable records u → HoldsTable (applied changes records) u
  table_stays u h = record {
    descriptors = stays (has_prefix (descriptor_prefix u.id)) (not_of_kind t.id 4 (big_bytes 4 u.id) (λ e. omega (arith, e))) ∙ h.descriptors;
    policies = stays (has_prefix (policy_prefix u.id)) (not_of_kind t.id 5 (big_bytes 4 u.id) (λ e. omega (arith, e))) ∙ h.policies;
  }

  -- changes of rows leave the definitions
  definitions_stay : (d : Definitions) → Define records d → Define (applied changes records) d
  definitions_stay d p = record {
    held = record {
      roles = stays (has_prefix role_prefix) (not_of_kind t.id 1 [] (λ e. omega (arith, e))) ∙ p.held.roles;
      memberships = stays (has_prefix membership_prefix) (not_of_kind t.id 2 [] (λ e. omega (arith, e))) ∙ p.held.memberships;
      tables = stays (has_prefix table_prefix) (not_of_kind t.id 3 [] (λ e. omega (arith, e))) ∙ p.held.tables;
      of_tables = λ u among. table_stays u (p.held.of_tables u among);
    };
    no_other = stays (is_orphan (ids_of d.tables)) (no_orphan t.id (ids_of d.tables)) ∙ p.no_other;
    valid = p.valid;
  }

  -- the rows of another table stay
  other_rows_stay : (u : TableDefinition) → t.id < 2 ^ 32 → u.id < 2 ^ 32 → (u.id ≡ t.id → ⊥) → StayRows records (applied changes records) u
  other_rows_stay u small_t small_u other =
      stays (has_prefix (row_prefix u.id)) (λ key h. false_from_ne_true (has_prefix (row_prefix u.id) key) (λ e. other (one_id 6 key u.id t.id small_u small_t e h)))

-- ---- the database afterwards

-- where the changes concern the rows of the table alone, and lead to these, the records show the database with these rows
pub shown_after : (records : Records) (changes : Changes) (d : Definitions) (db : Database) (name : TheName) (t : TableDefinition) (new : List Row) → IsOrdered records → Shows records d db → IsTableNamed d name t
    → ConcernRowsOf t.id changes → HoldsRows t.id t.definition.layout (applied changes records) new → Shows (applied changes records) d (with_rows_of t.definition.name new db)
shown_after records changes d db name t new o s named concern held =
    let valid = s.defined.valid in
    let e = own_name d name t named in
    let layout = layouts d name t valid named in
    let small : (u : TableDefinition) → Among u d.tables → u.id < 2 ^ 32 = λ u among. small_id u.id (valid.tables u among).most in
    let is : with_rows_of t.definition.name new db ≡ database_with d (with_list t.definition.name new d.tables s.rows) =
    ap (with_rows_of t.definition.name new) s.is ∙ ap (λ (xs : List Table). record (database_with d s.rows) { tables = xs }) (tables_changed t.definition.name new d.tables s.rows) in
    let own = held_rows_are_whole t.id t.definition.layout (applied changes records) new layout (ordered_applied changes records o) held in
    record {
      defined = definitions_stay records changes t o concern d s.defined;
      rows = with_list t.definition.name new d.tables s.rows;
      held = rows_changed records (applied changes records) t.definition.name new d.tables s.rows t e valid.ids
          (λ u among other. other_rows_stay records changes t o concern u (small t named.among) (small u among) other) held.held s.held;
      no_other_row = stays records changes t o concern (is_orphan_row (ids_of d.tables)) (no_orphan_row t.id (ids_of d.tables) (into_map (λ (u : TableDefinition). u.id) d.tables t named.among)) ∙ s.no_other_row;
      is = is;
      whole_rows = subst (λ (x : Database). HasWholeRows x) (sym is)
          (whole_changed t.definition.name new d.tables s.rows t e own (subst (λ (x : Database). HasWholeRows x) s.is s.whole_rows));
    }
