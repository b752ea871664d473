-- The rows of one table among those of a database.
use Rattle.std.proofs.Common.{◌≡◌, Bool, true, false, not, cond, nat_eq, List, [], ◌∷◌, find, Some, refl, ap, sym, ◌∙◌, subst, inl, inr}
use Rattle.std.specs.List.{list_any}
use Rattle.std.proofs.lemmas.Bool.{and_parts, eq-eqb}
use Rattle.sql_types.specs.Row.{Row}
use Rattle.sql_ast.specs.Layout.{all_differ}
use Rattle.store.specs.Records.{Records, entries_where, has_prefix}
use Rattle.store.specs.Items.{Holds}
use Rattle.row_codec.specs.Rows.{row_prefix}
use Rattle.abstract_database.specs.Lists.{TheName, Among, change_first}
use Rattle.abstract_database.specs.Database.{Table, is_table_named}
use Rattle.abstract_database.specs.Whole.{Each, AreWholeRows}
use Rattle.abstract_database.proofs.ElementLemmas.{any_holds}
use Rattle.stored_database.specs.Definitions.{TableDefinition, ids_of, table_with, tables_with}
use Rattle.stored_database.specs.RecordFormat.{row_record}
use Rattle.stored_database.specs.Records.{HoldRows}
use Rattle.stored_database.proofs.Lists.{into_map}
use Rattle.catalogue.specs.Lookups.{is_definition_named}

-- each table has whole rows
abbrev pub WholeTables : List Table → Type 0
WholeTables tables = Each (λ (x : Table). AreWholeRows x.definition.layout x.rows) tables

-- the rows of the table of a name, in the records and among the tables
pub record TableRows (records : Records) (name : TheName) (t : TableDefinition) (tables : List Table) : Type 0 where
  pub rows : List Row
  pub held : Holds records (row_prefix t.id) (row_record t.id t.definition.layout) rows
  pub whole : AreWholeRows t.definition.layout rows
  pub found : find (is_table_named name) tables ≡ Some (table_with t rows)

pub rows_found : (records : Records) (name : TheName) (ts : List TableDefinition) (lists : List (List Row)) (t : TableDefinition) → HoldRows records ts lists → WholeTables (tables_with ts lists)
    → find (is_definition_named name) ts ≡ Some t → TableRows records name t (tables_with ts lists)
rows_found records name [] lists t h w e = cc
rows_found records name (u ∷ ts) [] t h w e = absurd h
rows_found records name (u ∷ ts) (rows ∷ more) t h w e = go (is_definition_named name u) refl e (rows_found records name ts more t h.1 (λ x among. w x (inr among)))
  where
    of_first : is_definition_named name u ≡ true → TableRows records name u (tables_with (u ∷ ts) (rows ∷ more))
    of_first c = record {
      rows = rows;
      held = h.0;
      whole = w (table_with u rows) (inl refl);
      found = ap (λ (b : Bool). cond b (Some (table_with u rows)) (find (is_table_named name) (tables_with ts more))) c;
    }

    go : (b : Bool) → is_definition_named name u ≡ b → cond b (Some u) (find (is_definition_named name) ts) ≡ Some t
        → (find (is_definition_named name) ts ≡ Some t → TableRows records name t (tables_with ts more)) → TableRows records name t (tables_with (u ∷ ts) (rows ∷ more))
    go true c is later = (let same : u ≡ t = cc in subst (λ (x : TableDefinition). TableRows records name x (tables_with (u ∷ ts) (rows ∷ more))) same (of_first c))
    go false c is later =
        let r = later is in
        record {
          rows = r.rows;
          held = r.held;
          whole = r.whole;
          found = ap (λ (b : Bool). cond b (Some (table_with u rows)) (find (is_table_named name) (tables_with ts more))) c ∙ r.found;
        }

-- ---- other rows in place of them

-- the rows of the tables, where those of the table of a name are these
abbrev pub with_list : TheName → List Row → List TableDefinition → List (List Row) → List (List Row)
with_list name new (t ∷ ts) (rows ∷ more) = cond (is_definition_named name t) (new ∷ more) (rows ∷ with_list name new ts more)
with_list name new _ lists = lists

-- the table with these rows
abbrev pub with_new : List Row → Table → Table
with_new new x = record x { rows = new }

pub tables_changed : (name : TheName) (new : List Row) (ts : List TableDefinition) (lists : List (List Row)) → change_first (is_table_named name) (with_new new) (tables_with ts lists) ≡ tables_with ts (with_list name new ts lists)
tables_changed name new [] lists = refl
tables_changed name new (t ∷ ts) [] = refl
tables_changed name new (t ∷ ts) (rows ∷ more) = go (is_definition_named name t) (tables_changed name new ts more)
  where
    go : (b : Bool) → change_first (is_table_named name) (with_new new) (tables_with ts more) ≡ tables_with ts (with_list name new ts more)
        → cond b (table_with t new ∷ tables_with ts more) (table_with t rows ∷ change_first (is_table_named name) (with_new new) (tables_with ts more))
        ≡ tables_with (t ∷ ts) (cond b (new ∷ more) (rows ∷ with_list name new ts more))
    go true later = refl
    go false later = ap (λ (xs : List Table). table_with t rows ∷ xs) later

-- the rows are whole where the new ones are
pub whole_changed : (name : TheName) (new : List Row) (ts : List TableDefinition) (lists : List (List Row)) (t : TableDefinition) → find (is_definition_named name) ts ≡ Some t → AreWholeRows t.definition.layout new
    → WholeTables (tables_with ts lists) → WholeTables (tables_with ts (with_list name new ts lists))
whole_changed name new [] lists t e own w = w
whole_changed name new (u ∷ ts) [] t e own w = w
whole_changed name new (u ∷ ts) (rows ∷ more) t e own w = go (is_definition_named name u) e (λ is. whole_changed name new ts more t is own (λ x among. w x (inr among)))
  where
    both : (x : Table) (xs : List Table) → AreWholeRows x.definition.layout x.rows → WholeTables xs → WholeTables (x ∷ xs)
    both x xs one others y (inl is) = subst (λ (z : Table). AreWholeRows z.definition.layout z.rows) is one
    both x xs one others y (inr among) = others y among

    go : (b : Bool) → cond b (Some u) (find (is_definition_named name) ts) ≡ Some t → (find (is_definition_named name) ts ≡ Some t → WholeTables (tables_with ts (with_list name new ts more)))
        → WholeTables (tables_with (u ∷ ts) (cond b (new ∷ more) (rows ∷ with_list name new ts more)))
    go true is later =
        let same : t ≡ u = cc in
        both (table_with u new) (tables_with ts more) (subst (λ (x : TableDefinition). AreWholeRows x.definition.layout new) same own) (λ x among. w x (inr among))
    go false is later = both (table_with u rows) (tables_with ts (with_list name new ts more)) (w (table_with u rows) (inl refl)) (later is)

-- ---- and in the records

-- tables that were found are among the others
pub among_found : (name : TheName) (ts : List TableDefinition) (t : TableDefinition) → find (is_definition_named name) ts ≡ Some t → Among t ts
among_found name [] t e = cc
among_found name (u ∷ ts) t e = go (is_definition_named name u) e (among_found name ts t)
  where
    go : (b : Bool) → cond b (Some u) (find (is_definition_named name) ts) ≡ Some t → (find (is_definition_named name) ts ≡ Some t → Among t ts) → Among t (u ∷ ts)
    go true is later = (let same : u ≡ t = cc in inl same)
    go false is later = inr (later is)

-- the records of a table's rows are the same in both
abbrev pub StayRows : Records → Records → TableDefinition → Type 0
StayRows before after u = entries_where (has_prefix (row_prefix u.id)) after ≡ entries_where (has_prefix (row_prefix u.id)) before

all_stay : (before after : Records) (ts : List TableDefinition) (lists : List (List Row)) → ((u : TableDefinition) → Among u ts → StayRows before after u) → HoldRows before ts lists → HoldRows after ts lists
all_stay before after [] [] stay h = tt
all_stay before after [] (rows ∷ more) stay h = absurd h
all_stay before after (u ∷ ts) [] stay h = absurd h
all_stay before after (u ∷ ts) (rows ∷ more) stay h = (stay u (inl refl) ∙ h.0, all_stay before after ts more (λ x among. stay x (inr among)) h.1)

-- a number that is not among others is none of theirs
other_number : (u x : TableDefinition) (ts : List TableDefinition) → not (list_any (nat_eq u.id) (ids_of ts)) ≡ true → Among x ts → u.id ≡ x.id → ⊥
other_number u x ts free among same = no (list_any (nat_eq u.id) (ids_of ts)) free (any_holds (nat_eq u.id) (ids_of ts) x.id (into_map (λ (y : TableDefinition). y.id) ts x among) (eq-eqb u.id x.id same))
  where
    no : (b : Bool) → not b ≡ true → b ≡ true → ⊥
    no true f e = cc
    no false f e = cc

pub rows_changed : (before after : Records) (name : TheName) (new : List Row) (ts : List TableDefinition) (lists : List (List Row)) (t : TableDefinition) → find (is_definition_named name) ts ≡ Some t
    → all_differ nat_eq (ids_of ts) ≡ true → ((u : TableDefinition) → Among u ts → (u.id ≡ t.id → ⊥) → StayRows before after u)
    → Holds after (row_prefix t.id) (row_record t.id t.definition.layout) new → HoldRows before ts lists → HoldRows after ts (with_list name new ts lists)
rows_changed before after name new [] lists t e differ stay own h = cc
rows_changed before after name new (u ∷ ts) [] t e differ stay own h = absurd h
rows_changed before after name new (u ∷ ts) (rows ∷ more) t e differ stay own h =
    go (is_definition_named name u) e (λ is. rows_changed before after name new ts more t is apart.1 (λ x among. stay x (inr among)) own h.1)
  where
    apart : (not (list_any (nat_eq u.id) (ids_of ts)) ≡ true) × (all_differ nat_eq (ids_of ts) ≡ true)
    apart = and_parts (not (list_any (nat_eq u.id) (ids_of ts))) (all_differ nat_eq (ids_of ts)) differ

    here : u ≡ t → HoldRows after (u ∷ ts) (new ∷ more)
    here same = (
      subst (λ (x : TableDefinition). Holds after (row_prefix x.id) (row_record x.id x.definition.layout) new) (sym same) own,
      all_stay before after ts more (λ x among. stay x (inr among) (λ is. other_number u x ts apart.0 among (ap (λ (y : TableDefinition). y.id) same ∙ sym is))) h.1,
    )

    go : (b : Bool) → cond b (Some u) (find (is_definition_named name) ts) ≡ Some t → (find (is_definition_named name) ts ≡ Some t → HoldRows after ts (with_list name new ts more))
        → HoldRows after (u ∷ ts) (cond b (new ∷ more) (rows ∷ with_list name new ts more))
    go true is later = here (let same : u ≡ t = cc in same)
    go false is later = (stay u (inl refl) (other_number u t ts apart.0 (among_found name ts t is)) ∙ h.0, later is)
