-- Rows of tables, beside a change of one table.
use Rattle.std.proofs.Common.{◌≡◌, ℕ, suc, Bool, true, false, not, cond, List, [], ◌∷◌, length, refl, ap, sym, ◌∙◌, subst, inl, inr, arith}
use Rattle.std.specs.Ordering.{is_lt, is_eq}
use Rattle.std.specs.declared.cmp.Ordering.{Ordering}
use Rattle.std.specs.declared.cmp.Ordering.TheVariants.{Less, Equal, Greater}
use Rattle.sql_types.specs.Row.{Row}
use Rattle.sql_ast.specs.Layout.{Layout}
use Rattle.store.specs.Records.{Records, entries_where, has_prefix}
use Rattle.store.specs.Items.{Holds}
use Rattle.store.proofs.Changes.{same_key, after}
use Rattle.row_codec.specs.Rows.{row_prefix}
use Rattle.abstract_database.specs.Lists.{TheName, name_cmp, Among, Rising, put, drop_where}
use Rattle.abstract_database.specs.Database.{Table, is_table_named, table_cmp}
use Rattle.stored_database.specs.Definitions.{TableDefinition, definition_cmp, table_with, tables_with}
use Rattle.stored_database.specs.RecordFormat.{row_record}
use Rattle.stored_database.specs.Records.{HoldRows}
use Rattle.catalogue.specs.Lookups.{is_definition_named}
use Rattle.catalogue_changes.specs.SchemaChanges.{with_old_rows}
use Rattle.catalogue_changes.proofs.TableListLemmas.{with_put, put_by_name, not_less_itself, not_greater_itself}

-- ---- a table is put

abbrev rows_by_name : Ordering → List Row → List (List Row) → List (List Row) → List (List Row)
rows_by_name o r rows later = cond (is_lt o) ([] ∷ r ∷ rows) (cond (is_eq o) (r ∷ rows) (r ∷ later))

-- the rows of the tables, and none of a new one
abbrev pub put_rows : TableDefinition → List TableDefinition → List (List Row) → List (List Row)
put_rows t [] rows = [] ∷ rows
put_rows t (u ∷ ts) [] = []
put_rows t (u ∷ ts) (r ∷ rows) = rows_by_name (definition_cmp t u) r rows (put_rows t ts rows)

abbrev pub table_put : TableDefinition → List Table → List Table
table_put t tables = put table_cmp with_old_rows (table_with t []) tables

pub tables_put : (t : TableDefinition) (ts : List TableDefinition) (rows : List (List Row)) → length rows ≡ length ts
    → table_put t (tables_with ts rows) ≡ tables_with (with_put t ts) (put_rows t ts rows)
tables_put t [] [] many = refl
tables_put t [] (r ∷ rows) many = absurd (omega (arith, many))
tables_put t (u ∷ ts) [] many = absurd (omega (arith, many))
tables_put t (u ∷ ts) (r ∷ rows) many = go (definition_cmp t u) (tables_put t ts rows (omega (arith, many))) where
  go : (o : Ordering) → table_put t (tables_with ts rows) ≡ tables_with (with_put t ts) (put_rows t ts rows)
      → cond (is_lt o) (table_with t [] ∷ table_with u r ∷ tables_with ts rows) (cond (is_eq o) (table_with t r ∷ tables_with ts rows) (table_with u r ∷ table_put t (tables_with ts rows)))
      ≡ tables_with (put_by_name o t u ts (with_put t ts)) (rows_by_name o r rows (put_rows t ts rows))
  go Less later = refl
  go Equal later = refl
  go Greater later = ap (λ (zs : List Table). table_with u r ∷ zs) later

pub many_put : (t : TableDefinition) (ts : List TableDefinition) (rows : List (List Row)) → length rows ≡ length ts → length (put_rows t ts rows) ≡ length (with_put t ts)
many_put t [] [] many = refl
many_put t [] (r ∷ rows) many = absurd (omega (arith, many))
many_put t (u ∷ ts) [] many = absurd (omega (arith, many))
many_put t (u ∷ ts) (r ∷ rows) many = go (definition_cmp t u) (many_put t ts rows (omega (arith, many))) where
  go : (o : Ordering) → length (put_rows t ts rows) ≡ length (with_put t ts) → length (rows_by_name o r rows (put_rows t ts rows)) ≡ length (put_by_name o t u ts (with_put t ts))
  go Less later = ap suc many
  go Equal later = many
  go Greater later = ap suc later

-- no table has this name
abbrev pub IsUnnamed : TheName → List TableDefinition → Type 0
IsUnnamed name ts = (u : TableDefinition) → Among u ts → u.definition.name ≡ name → ⊥

module _ (records : Records) (t : TableDefinition) where
  abbrev SameId : TableDefinition → Type 0
  SameId u = u.definition.name ≡ t.definition.name → u.id ≡ t.id

  abbrev SameLayout : TableDefinition → Type 0
  SameLayout u = u.definition.name ≡ t.definition.name → u.definition.layout ≡ t.definition.layout

  unnamed_from : (u : TableDefinition) (ts : List TableDefinition) → definition_cmp t u ≡ Less → Rising definition_cmp (u ∷ ts) → IsUnnamed t.definition.name (u ∷ ts)
  unnamed_from u ts c r v (inl is) same = not_less_itself t.definition.name u.definition.name c (sym same ∙ sym (ap (λ (w : TableDefinition). w.definition.name) is))
  unnamed_from u ts c r v (inr among) same = clash (sym (after t.definition.name u.definition.name c) ∙ ap (name_cmp u.definition.name) (sym same) ∙ r.0 v among) where
    clash : Greater ≡ Less → ⊥
    clash e = cc

  unnamed_more : (u : TableDefinition) (ts : List TableDefinition) → definition_cmp t u ≡ Greater → IsUnnamed t.definition.name ts → IsUnnamed t.definition.name (u ∷ ts)
  unnamed_more u ts c none v (inl is) same = not_greater_itself t.definition.name u.definition.name c (sym same ∙ sym (ap (λ (w : TableDefinition). w.definition.name) is))
  unnamed_more u ts c none v (inr among) same = none v among same

  -- records that hold the rows of the tables hold those of the tables with another one
  pub rows_put : (ts : List TableDefinition) (rows : List (List Row)) → Rising definition_cmp ts → ((u : TableDefinition) → Among u ts → SameId u) → ((u : TableDefinition) → Among u ts → SameLayout u)
      → (IsUnnamed t.definition.name ts → entries_where (has_prefix (row_prefix t.id)) records ≡ []) → HoldRows records ts rows → HoldRows records (with_put t ts) (put_rows t ts rows)
  rows_put [] [] rising ids layouts fresh held = (fresh (λ u among. absurd among), tt)
  rows_put [] (r ∷ rows) rising ids layouts fresh held = absurd held
  rows_put (u ∷ ts) [] rising ids layouts fresh held = absurd held
  rows_put (u ∷ ts) (r ∷ rows) rising ids layouts fresh held = go (definition_cmp t u) refl (λ none. rows_put ts rows rising.1 (λ v among. ids v (inr among)) (λ v among. layouts v (inr among)) none held.1) where
    go : (o : Ordering) → definition_cmp t u ≡ o → ((IsUnnamed t.definition.name ts → entries_where (has_prefix (row_prefix t.id)) records ≡ []) → HoldRows records (with_put t ts) (put_rows t ts rows))
        → HoldRows records (put_by_name o t u ts (with_put t ts)) (rows_by_name o r rows (put_rows t ts rows))
    go Less c later = (fresh (unnamed_from u ts c rising), held)
    go Equal c later =
        let same : u.definition.name ≡ t.definition.name = sym (same_key t.definition.name u.definition.name c) in (
          subst (λ (l : Layout). Holds records (row_prefix t.id) (row_record t.id l) r) (layouts u (inl refl) same)
              (subst (λ (n : ℕ). Holds records (row_prefix n) (row_record n u.definition.layout) r) (ids u (inl refl) same) held.0),
          held.1,
        )
    go Greater c later = (held.0, later (λ none. fresh (unnamed_more u ts c none)))

-- ---- a table is dropped

abbrev pub drop_rows : TheName → List TableDefinition → List (List Row) → List (List Row)
drop_rows name (u ∷ ts) (r ∷ rows) = cond (not (is_definition_named name u)) (r ∷ drop_rows name ts rows) (drop_rows name ts rows)
drop_rows name _ _ = []

pub tables_dropped : (name : TheName) (ts : List TableDefinition) (rows : List (List Row)) → length rows ≡ length ts
    → drop_where (is_table_named name) (tables_with ts rows) ≡ tables_with (drop_where (is_definition_named name) ts) (drop_rows name ts rows)
tables_dropped name [] [] many = refl
tables_dropped name [] (r ∷ rows) many = absurd (omega (arith, many))
tables_dropped name (u ∷ ts) [] many = absurd (omega (arith, many))
tables_dropped name (u ∷ ts) (r ∷ rows) many = go (not (is_definition_named name u)) (tables_dropped name ts rows (omega (arith, many))) where
  go : (b : Bool) → drop_where (is_table_named name) (tables_with ts rows) ≡ tables_with (drop_where (is_definition_named name) ts) (drop_rows name ts rows)
      → cond b (table_with u r ∷ drop_where (is_table_named name) (tables_with ts rows)) (drop_where (is_table_named name) (tables_with ts rows))
      ≡ tables_with (cond b (u ∷ drop_where (is_definition_named name) ts) (drop_where (is_definition_named name) ts)) (cond b (r ∷ drop_rows name ts rows) (drop_rows name ts rows))
  go true later = ap (λ (zs : List Table). table_with u r ∷ zs) later
  go false later = later

pub many_dropped : (name : TheName) (ts : List TableDefinition) (rows : List (List Row)) → length rows ≡ length ts → length (drop_rows name ts rows) ≡ length (drop_where (is_definition_named name) ts)
many_dropped name [] [] many = refl
many_dropped name [] (r ∷ rows) many = absurd (omega (arith, many))
many_dropped name (u ∷ ts) [] many = absurd (omega (arith, many))
many_dropped name (u ∷ ts) (r ∷ rows) many = go (not (is_definition_named name u)) (many_dropped name ts rows (omega (arith, many))) where
  go : (b : Bool) → length (drop_rows name ts rows) ≡ length (drop_where (is_definition_named name) ts)
      → length (cond b (r ∷ drop_rows name ts rows) (drop_rows name ts rows)) ≡ length (cond b (u ∷ drop_where (is_definition_named name) ts) (drop_where (is_definition_named name) ts))
  go true later = ap suc later
  go false later = later

pub rows_dropped : (old new : Records) (name : TheName) (ts : List TableDefinition) (rows : List (List Row))
    → ((u : TableDefinition) → Among u ts → is_definition_named name u ≡ false → entries_where (has_prefix (row_prefix u.id)) new ≡ entries_where (has_prefix (row_prefix u.id)) old)
    → HoldRows old ts rows → HoldRows new (drop_where (is_definition_named name) ts) (drop_rows name ts rows)
rows_dropped old new name [] [] same held = tt
rows_dropped old new name [] (r ∷ rows) same held = absurd held
rows_dropped old new name (u ∷ ts) [] same held = absurd held
rows_dropped old new name (u ∷ ts) (r ∷ rows) same held = go (is_definition_named name u) refl (rows_dropped old new name ts rows (λ v among. same v (inr among)) held.1) where
  go : (b : Bool) → is_definition_named name u ≡ b → HoldRows new (drop_where (is_definition_named name) ts) (drop_rows name ts rows)
      → HoldRows new (cond (not b) (u ∷ drop_where (is_definition_named name) ts) (drop_where (is_definition_named name) ts)) (cond (not b) (r ∷ drop_rows name ts rows) (drop_rows name ts rows))
  go true c later = later
  go false c later = (same u (inl refl) c ∙ held.0, later)

-- ---- order

with_rows_among : (ts : List TableDefinition) (rows : List (List Row)) → length rows ≡ length ts → (t : TableDefinition) → Among t ts → (r : List Row) × Among (table_with t r) (tables_with ts rows)
with_rows_among [] rows many t h = absurd h
with_rows_among (u ∷ ts) [] many t h = absurd (omega (arith, many))
with_rows_among (u ∷ ts) (r ∷ rows) many t (inl is) = (r, inl (ap (λ (v : TableDefinition). table_with v r) is))
with_rows_among (u ∷ ts) (r ∷ rows) many t (inr among) = let found = with_rows_among ts rows (omega (arith, many)) t among in (found.0, inr found.1)

-- tables with rows in the order of their names are without rows
pub rising_without_rows : (ts : List TableDefinition) (rows : List (List Row)) → length rows ≡ length ts → Rising table_cmp (tables_with ts rows) → Rising definition_cmp ts
rising_without_rows [] rows many h = tt
rising_without_rows (u ∷ ts) [] many h = absurd (omega (arith, many))
rising_without_rows (u ∷ ts) (r ∷ rows) many h =
    ((λ v among. let found = with_rows_among ts rows (omega (arith, many)) v among in h.0 (table_with v found.0) found.1), rising_without_rows ts rows (omega (arith, many)) h.1)
