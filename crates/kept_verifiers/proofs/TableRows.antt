-- The rows of a table in the records, and in the database that these show.
use Rattle.std.proofs.Common.{◌≡◌, Bool, true, false, cond, List, [], ◌∷◌, find, Some, inl, inr, refl, ap, ◌∙◌, subst}
use Rattle.sql_types.specs.Row.{Row}
use Rattle.store.specs.Records.{Records}
use Rattle.store.specs.Items.{Holds}
use Rattle.row_codec.specs.Rows.{row_prefix}
use Rattle.abstract_database.specs.Lists.{TheName, Among}
use Rattle.abstract_database.specs.Database.{Table, is_table_named}
use Rattle.abstract_database.specs.Whole.{Each, AreWholeRows}
use Rattle.stored_database.specs.Definitions.{TableDefinition, table_with, tables_with}
use Rattle.stored_database.specs.RecordFormat.{row_record}
use Rattle.stored_database.specs.Records.{HoldRows}
use Rattle.catalogue.specs.Lookups.{is_definition_named}

-- each table has whole rows
abbrev pub WholeTables : List Table → Type 0
WholeTables tables = Each (λ (x : Table). AreWholeRows x.definition.layout x.rows) tables

-- the rows of the table of a name
pub record RowsOfTable (records : Records) (name : TheName) (t : TableDefinition) (tables : List Table) : Type 0 where
  pub rows : List Row
  pub held : Holds records (row_prefix t.id) (row_record t.id t.definition.layout) rows
  pub whole : AreWholeRows t.definition.layout rows
  pub found : find (is_table_named name) tables ≡ Some (table_with t rows)

pub rows_of_table : (records : Records) (name : TheName) (ts : List TableDefinition) (lists : List (List Row)) (t : TableDefinition) → HoldRows records ts lists → WholeTables (tables_with ts lists)
    → find (is_definition_named name) ts ≡ Some t → RowsOfTable records name t (tables_with ts lists)
rows_of_table records name [] lists t h w e = cc
rows_of_table records name (u ∷ ts) [] t h w e = absurd h
rows_of_table records name (u ∷ ts) (rows ∷ more) t h w e = go (is_definition_named name u) refl e (rows_of_table records name ts more t h.1 (λ x among. w x (inr among)))
  where
    of_first : is_definition_named name u ≡ true → RowsOfTable records name u (tables_with (u ∷ ts) (rows ∷ more))
    of_first c = record {
      rows = rows;
      held = h.0;
      whole = w (table_with u rows) (inl refl);
      found = ap (λ (b : Bool). cond b (Some (table_with u rows)) (find (is_table_named name) (tables_with ts more))) c;
    }

    go : (b : Bool) → is_definition_named name u ≡ b → cond b (Some u) (find (is_definition_named name) ts) ≡ Some t
        → (find (is_definition_named name) ts ≡ Some t → RowsOfTable records name t (tables_with ts more)) → RowsOfTable records name t (tables_with (u ∷ ts) (rows ∷ more))
    go true c is later = (let same : u ≡ t = cc in subst (λ (x : TableDefinition). RowsOfTable records name x (tables_with (u ∷ ts) (rows ∷ more))) same (of_first c))
    go false c is later =
        let r = later is in
        record {
          rows = r.rows;
          held = r.held;
          whole = r.whole;
          found = ap (λ (b : Bool). cond b (Some (table_with u rows)) (find (is_table_named name) (tables_with ts more))) c ∙ r.found;
        }
