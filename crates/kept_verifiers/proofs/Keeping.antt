-- What is kept for a role, and what is read for it.
use Rattle.std.proofs.Common.{◌≡◌, ℕ, Bool, true, false, cond, List, [], ◌∷◌, ◌++◌, find, Option, Some, None, refl, ap, sym, ◌∙◌, subst, inl, inr}
use Rattle.std.specs.Prelude.{◌&&◌}
use Rattle.std.specs.List.{list_any}
use Rattle.std.specs.Option.{option_map}
use Rattle.std.proofs.lemmas.Bool.{and_parts}
use Rattle.sql_types.specs.Row.{Row, value_at}
use Rattle.sql_types.specs.declared.value.Value.TheVariants as value
use Rattle.sql_ast.specs.Layout.{IsLayout}
use Rattle.sql_ast.specs.Fits.{FitsTable}
use Rattle.store.specs.Records.{Records, lookup, has_prefix, entry_at, entry_of}
use Rattle.store.proofs.HeldItems.{own_prefix}
use Rattle.row_codec.specs.Cells.{key_cell}
use Rattle.row_codec.specs.Rows.{row_prefix, row_value, Spells}
use Rattle.abstract_database.specs.Lists.{TheName, Among}
use Rattle.abstract_database.specs.Database.{Database, Table, TableOf, is_role_named, is_table_named, table_named}
use Rattle.abstract_database.specs.Roles.{is_superuser, may_log_in}
use Rattle.abstract_database.specs.Whole.{Each, HasWholeRows}
use Rattle.abstract_database.proofs.CheckLemmas.{find_passes}
use Rattle.stored_database.specs.Definitions.{TableDefinition, Definitions, table_with, tables_with, database_of}
use Rattle.stored_database.specs.Records.{Shows}
use Rattle.stored_database.specs.Valid.{AreValid}
use Rattle.stored_database.proofs.Lists.{into_map}
use Rattle.catalogue.specs.Lookups.{is_definition_named}
use Rattle.kept_verifiers.specs.Verifiers.{maps_texts, keeps_verifiers, text_in, is_row_of, second_text, kept_text, verifier_rows, row_of_role}
use Rattle.kept_verifiers.proofs.TableRows.{RowsOfTable, rows_of_table}
use Rattle.kept_verifiers.proofs.Finding.{found_where, first_is_text, role_spelled, rows_looked_up, found_among}

-- ---- nothing is kept

none_in_no_rows : (db : Database) (b : Bool) (role : TheName) (found : Option Table) → verifier_rows db found ≡ [] → cond b (second_text (find (is_row_of role) (verifier_rows db found))) None ≡ None
none_in_no_rows db true role found none = ap (λ (rows : List Row). second_text (find (is_row_of role) rows)) none
none_in_no_rows db false role found none = refl

rows_if : (db : Database) (t : Table) (b : Bool) → keeps_verifiers db t.definition ≡ b → verifier_rows db (Some t) ≡ cond b t.rows []
rows_if db t b keeps = ap (λ (c : Bool). cond c t.rows []) keeps

-- the table is one that keeps none, or there is none of this name
not_in_table : (db : Database) (table role : TheName) (t : Table) → table_named db table ≡ Some t → keeps_verifiers db t.definition ≡ false → kept_text db table role ≡ None
not_in_table db table role t named keeps =
    none_in_no_rows db (may_log_in db role) role (table_named db table) (ap (verifier_rows db) named ∙ rows_if db t false keeps)

not_without_table : (db : Database) (table role : TheName) → table_named db table ≡ None → kept_text db table role ≡ None
not_without_table db table role named = none_in_no_rows db (may_log_in db role) role (table_named db table) (ap (verifier_rows db) named)

none_named : (name : TheName) (ts : List TableDefinition) (lists : List (List Row)) → find (is_definition_named name) ts ≡ None → find (is_table_named name) (tables_with ts lists) ≡ None
none_named name [] lists none = refl
none_named name (t ∷ ts) [] none = refl
none_named name (t ∷ ts) (rows ∷ more) none = go (is_definition_named name t) refl none (none_named name ts more)
  where
    go : (b : Bool) → is_definition_named name t ≡ b → cond b (Some t) (find (is_definition_named name) ts) ≡ None → (find (is_definition_named name) ts ≡ None → find (is_table_named name) (tables_with ts more) ≡ None)
        → find (is_table_named name) (tables_with (t ∷ ts) (rows ∷ more)) ≡ None
    go true c is later = cc
    go false c is later = ap (λ (b : Bool). cond b (Some (table_with t rows)) (find (is_table_named name) (tables_with ts more))) c ∙ later is

-- the columns of a table are those of one
pub layouts : (d : Definitions) (name : TheName) (t : TableDefinition) → AreValid d → find (is_definition_named name) d.tables ≡ Some t → IsLayout t.definition.layout
layouts d name t valid found =
    (valid.whole.tables.tables (table_with t []) (into_map (λ (u : TableDefinition). table_with u []) d.tables t (found_among (is_definition_named name) d.tables t found))).layout

-- ---- a table of the database

module _ (records : Records) (d : Definitions) (db : Database) (shows : Shows records d db) (table role : TheName) where
  same_keeps : (t : TableOf) → keeps_verifiers db t ≡ keeps_verifiers (database_of d) t
  same_keeps t = ap (λ (x : Database). keeps_verifiers x t) shows.is

  abbrev rows_of : (t : TableDefinition) → find (is_definition_named table) d.tables ≡ Some t → RowsOfTable records table t (tables_with d.tables shows.rows)
  rows_of t found = rows_of_table records table d.tables shows.rows t shows.held (subst (λ (x : Database). HasWholeRows x) shows.is shows.whole_rows) found

  is_named : (t : TableDefinition) (found : find (is_definition_named table) d.tables ≡ Some t) → table_named db table ≡ Some (table_with t (rows_of t found).rows)
  is_named t found = ap (λ (x : Database). table_named x table) shows.is ∙ (rows_of t found).found

  -- no table of this name keeps verifiers
  pub none_kept : ((t : TableDefinition) → find (is_definition_named table) d.tables ≡ Some t → keeps_verifiers (database_of d) t.definition ≡ false) → kept_text db table role ≡ None
  none_kept keeps_none = by_table (find (is_definition_named table) d.tables) refl
    where
      by_table : (o : Option TableDefinition) → find (is_definition_named table) d.tables ≡ o → kept_text db table role ≡ None
      by_table None is = not_without_table db table role (ap (λ (x : Database). table_named x table) shows.is ∙ none_named table d.tables shows.rows is)
      by_table (Some t) is = not_in_table db table role (table_with t (rows_of t is).rows) (is_named t is) (same_keeps t.definition ∙ keeps_none t is)

  -- the one of this name does, and the role may log in
  module _ (t : TableDefinition) (found : find (is_definition_named table) d.tables ≡ Some t) (keeps : keeps_verifiers (database_of d) t.definition ≡ true)
      (may : list_any (λ r. is_role_named role r && r.attributes.login) d.roles ≡ true) (layout : IsLayout t.definition.layout) where
    abbrev rows : List Row
    rows = (rows_of t found).rows

    fit : Each (FitsTable t.definition.layout) rows
    fit = (rows_of t found).whole.fit

    maps : maps_texts t.definition.layout ≡ true
    maps = (and_parts (is_superuser (database_of d) t.definition.owner) (maps_texts t.definition.layout) keeps).1

    logs_in : may_log_in db role ≡ true
    logs_in = ap (λ (x : Database). may_log_in x role) shows.is ∙ may

    kept_is : kept_text db table role ≡ second_text (find (is_row_of role) rows)
    kept_is = ap (λ (b : Bool). cond b (second_text (row_of_role db table role)) None) logs_in
        ∙ ap (λ (o : Option Table). second_text (find (is_row_of role) (verifier_rows db o))) (is_named t found)
        ∙ ap (λ (l : List Row). second_text (find (is_row_of role) l)) (rows_if db (table_with t rows) true (same_keeps t.definition ∙ keeps))

    abbrev pub the_key : List ℕ
    the_key = row_prefix t.id ++ key_cell (value.Text role)

    found_there : lookup the_key records ≡ option_map (row_value t.definition.layout) (find (is_row_of role) rows)
    found_there = sym (found_where (has_prefix (row_prefix t.id)) the_key records (own_prefix (row_prefix t.id) (key_cell (value.Text role))))
        ∙ ap (lookup the_key) (rows_of t found).held ∙ rows_looked_up t.id t.definition.layout role layout maps rows fit

    -- what holds where no record is found, and of the text in the row that the record spells, holds of what is kept
    pub kept_read : (P : Option (List ℕ) → Type 0) → (entry_at the_key records ≡ None → P None)
        → ((rest value : List ℕ) (row : Row) → entry_at the_key records ≡ Some (row_prefix t.id ++ rest, value) → Spells t.definition.layout rest value row → P (text_in (value_at row 1)))
        → P (kept_text db table role)
    kept_read P none some = subst P (sym kept_is) (by_row (find (is_row_of role) rows) refl)
      where
        by_row : (o : Option Row) → find (is_row_of role) rows ≡ o → P (second_text o)
        by_row None is = none (ap (entry_of the_key) (found_there ∙ ap (option_map (row_value t.definition.layout)) is))
        by_row (Some row) is =
            let fits = fit row (found_among (is_row_of role) rows row is) in
            let text = first_is_text t.definition.layout row layout maps fits in
            let spelled = role_spelled t.id t.definition.layout role layout maps row text.0 text.1 (find_passes (is_row_of role) rows row is) in
            some (key_cell (value.Text role)) (row_value t.definition.layout row) row (ap (entry_of the_key) (found_there ∙ ap (option_map (row_value t.definition.layout)) is))
            (record { fits = fits; key_spelled = sym spelled; value_spelled = refl })
