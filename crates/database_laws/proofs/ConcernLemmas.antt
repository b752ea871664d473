-- What INSERT, UPDATE and DELETE do to the rows of their tables, by the names in their texts.
use Rattle.std.proofs.Common.{◌≡◌, ◌&&◌, ℕ, Bool, false, length, filter, List, [], ◌∷◌, ◌++◌, Option, Some, None, Result, Ok, refl, sym, ap, ◌∙◌, subst}
use Rattle.std.specs.List.Sorted.{IsPermutation}
use Rattle.sql_types.specs.Row.{Row}
use Rattle.sql_types.specs.declared.state.SqlState.{SqlState}
use Rattle.sql_types.specs.declared.value.Value.{Value}
use Rattle.sql_types.specs.declared.tag.Tag.TheVariants as tag
use Rattle.sql_types.specs.declared.answer.Answer.TheVariants as answer
use Rattle.sql_ast.specs.Layout.{Layout}
use Rattle.sql_ast.specs.declared.expression.ColumnName.{ColumnName}
use Rattle.sql_ast.specs.declared.scope.ColumnIndex.{ColumnIndex}
use Rattle.sql_ast.specs.declared.privilege.Action.{Action}
use Rattle.sql_ast.specs.declared.privilege.Action.TheVariants as action
use Rattle.sql_ast.specs.declared.statement.Insert.{Insert}
use Rattle.sql_ast.specs.declared.statement.Update.{Update}
use Rattle.sql_ast.specs.declared.statement.Delete.{Delete}
use Rattle.sql_ast.specs.Term.{Term}
use Rattle.expressions.specs.Meaning.{UserNames}
use Rattle.expressions.specs.Names.{resolved}
use Rattle.expressions.specs.Stages.{◌>>=◌, each}
use Rattle.expressions.proofs.Meanings.{resolved_means}
use Rattle.abstract_database.specs.Lists.{optional}
use Rattle.abstract_database.specs.Database.{TableOf, Database, definition_named, rows_named}
use Rattle.abstract_database.specs.Expressions.{own_scope, cell_in, value_on}
use Rattle.abstract_database.specs.Guards.{Guard, guard, using_clause, with_select, existing_guard, new_guard}
use Rattle.abstract_database.specs.Changes.{CheckedInsert, CheckedUpdate, CheckedDelete, Chosen, Changed, arranged, replaced, inserted_row, assigned, choose, condition_on_row, new_rows, other_rows, checked_rows, rows_inserted, rows_updated, rows_deleted}
use Rattle.abstract_database.specs.Checks.{target_columns, new_values, checked_insert, checked_update, checked_delete}
use Rattle.abstract_database.specs.Definitions.{with_rows_of}
use Rattle.abstract_database.specs.Statements.{Effect, counted, inserted, updated, deleted, insert, update, delete}
use Rattle.abstract_database.proofs.CheckLemmas.{Found, found_definition, InsertFacts, insert_checked, UpdateFacts, update_checked, DeleteFacts, delete_checked}
use Rattle.abstract_database.proofs.ResultLemmas.{ok_inside, bind_ok, length_each}
use Rattle.abstract_database.proofs.RowOrder.{apart_of}
use Rattle.abstract_database.proofs.ValueTypes.{by_names}
use Rattle.database_laws.specs.Visible.{is_met, meets_where, is_concerned}
use Rattle.database_laws.specs.RowChanges.{ChangesRowsOf, row_given, AddsItsRows, is_updated, row_assigned, ReplacesItsRows, is_deleted, RemovesItsRows}
use Rattle.database_laws.proofs.RowLemmas.{checked}
use Rattle.database_laws.proofs.ReadingLemmas.{update_as_written, delete_as_written}
use Rattle.database_laws.proofs.VisibleLemmas.{with_select_met, chosen_as, becoming, IsSplitBy, split}
use Rattle.database_laws.proofs.RowChangeLemmas.{rows_of_one, with_rows_permutes}
use Rattle.database_laws.proofs.WriteLemmas.{same_definition, written_rows, rows_before}

-- ---- lists that are bound

-- what is computed of each bound thing is what is computed of each thing by its names
pub each_bound : {A B C : Type 0} (bind : A → Result B SqlState) (f : B → Result C SqlState) (g : A → Result C SqlState) → ((a : A) (b : B) → bind a ≡ Ok b → f b ≡ g a) →
    (xs : List A) (ys : List B) → each bind xs ≡ Ok ys → each f ys ≡ each g xs
each_bound bind f g same [] ys e = ap (each f) (sym (ok_inside [] ys e))
each_bound {A} {B} {C} bind f g same (x ∷ xs) ys e =
    let first = bind_ok (bind x) (λ y. each bind xs >>= λ l. Ok (y ∷ l)) ys e in
    let rest = bind_ok (each bind xs) (λ l. Ok (first.0 ∷ l)) ys first.2 in
    ap (each f) (sym (ok_inside (first.0 ∷ rest.0) ys rest.2))
    ∙ ap (λ (o : Result C SqlState). o >>= λ z. each f rest.0 >>= λ l. Ok (z ∷ l)) (same x first.0 first.1)
    ∙ ap (λ (r : Result (List C) SqlState). g x >>= λ z. r >>= λ l. Ok (z ∷ l)) (each_bound bind f g same xs rest.0 rest.1)

each_itself : (rows : List Row) → each (λ row. Ok row) rows ≡ Ok rows
each_itself [] = refl
each_itself (row ∷ rows) = ap (λ (r : Result (List Row) SqlState). r >>= λ l. Ok (row ∷ l)) (each_itself rows)

-- rows that were checked are those that stay and the new ones
checked_permutes : (layout : Layout) (g : Guard) (others new rows : List Row) → checked_rows layout g others new ≡ Ok rows → IsPermutation (others ++ new) rows
checked_permutes layout g others new rows e =
    let c = checked layout g others new rows e in
    subst (λ l. IsPermutation (others ++ new) l) (sym c.is) (with_rows_permutes layout.key new others (apart_of layout.key (others ++ new) c.unique))

-- ---- INSERT

-- a bound row is the one that VALUES gives
pub given_by_names : (t : TableOf) (users : UserNames) (s : Insert) (columns : List ℕ) (terms : List (Term ColumnName)) (bound : List (Term ColumnIndex)) → target_columns t.layout s ≡ Ok columns → each (resolved []) terms ≡ Ok bound →
    inserted_row t.layout users columns bound ≡ row_given t users s terms
given_by_names t users s columns terms bound is b =
    ap (λ (r : Result (List Value) SqlState). r >>= λ values. Ok (arranged t.layout columns values)) (by_names [] users [] terms bound b)
    ∙ ap (λ (r : Result (List ℕ) SqlState). r >>= λ cs. each (value_on [] users []) terms >>= λ values. Ok (arranged t.layout cs values)) (sym is)

module _ (db : Database) (users : UserNames) (s : Insert) (e : Effect) (is : insert db users s ≡ Ok e) where
  record Inserts : Type 0 where
    c : CheckedInsert
    facts : InsertFacts db users s c
    found : Found db s.table c.table
    new : List Row
    made : each (inserted_row c.table.layout users c.columns) c.rows ≡ Ok new
    rows : List Row
    put_in : checked_rows c.table.layout (new_guard db users c.table action.Insert false) (rows_named db c.table.name) new ≡ Ok rows
    done : counted tag.Insert (length c.rows) (with_rows_of c.table.name rows db) ≡ e

  inserts : Inserts
  inserts =
      let c = bind_ok (checked_insert db users s) (inserted db users) e is in
      let facts = insert_checked db users s c.0 c.1 in
      let g = new_guard db users c.0.table action.Insert false in
      let r = bind_ok (rows_inserted g users c.0 (rows_named db c.0.table.name)) (λ rows. Ok (counted tag.Insert (length c.0.rows) (with_rows_of c.0.table.name rows db))) e c.2 in
      let n = bind_ok (each (inserted_row c.0.table.layout users c.0.columns) c.0.rows) (λ new. checked_rows c.0.table.layout g (rows_named db c.0.table.name) new) r.0 r.1 in
      record {
        c = c.0;
        facts = facts;
        found = found_definition db s.table c.0.table facts.found;
        new = n.0;
        made = n.1;
        rows = r.0;
        put_in = n.2;
        done = ok_inside (counted tag.Insert (length c.0.rows) (with_rows_of c.0.table.name r.0 db)) e r.2;
      }

  pub inserted_in_its_table : ChangesRowsOf s.table db e.database
  inserted_in_its_table =
      let i = inserts in
      subst (λ (x : Effect). ChangesRowsOf s.table db x.database) i.done
      (subst (λ n. ChangesRowsOf n db (with_rows_of i.c.table.name i.rows db)) i.found.own (rows_of_one i.c.table.name i.rows db))

  adds_to : (i : Inserts) → AddsItsRows db users s i.c.table e
  adds_to i = record {
    new = i.new;
    given = sym (each_bound (each (resolved [])) (inserted_row i.c.table.layout users i.c.columns) (row_given i.c.table users s) (λ terms bound b. given_by_names i.c.table users s i.c.columns terms bound i.facts.columns b) s.rows i.c.rows i.facts.bound) ∙ i.made;
    rows = subst (λ l. IsPermutation (l ++ i.new) (rows_named e.database s.table)) (rows_before db s.table i.c.table i.found)
        (subst (λ l. IsPermutation (rows_named db i.c.table.name ++ i.new) l)
        (sym (written_rows db s.table i.c.table i.found i.rows e (ap (λ (x : Effect). x.database) (sym i.done))))
        (checked_permutes i.c.table.layout (new_guard db users i.c.table action.Insert false) (rows_named db i.c.table.name) i.new i.rows i.put_in));
    counted = ap (λ (x : Effect). x.answer) (sym i.done)
        ∙ ap (λ n. answer.Done tag.Insert (Some n) None) (sym (length_each (inserted_row i.c.table.layout users i.c.columns) i.c.rows i.new i.made));
  }

  pub inserted_its_rows : (t : TableOf) → definition_named db s.table ≡ Some t → AddsItsRows db users s t e
  inserted_its_rows t named = let i = inserts in subst (λ x. AddsItsRows db users s x e) (same_definition db s.table t i.c.table named i.facts.found) (adds_to i)

-- ---- the rows that a command concerns

module _ (db : Database) (users : UserNames) (d : TableOf) where
  where_met : (condition : Option (Term ColumnName)) (bound : Option (Term ColumnIndex)) → optional (resolved (own_scope d)) condition ≡ Ok bound → (row : Row) →
      is_met (condition_on_row users bound row) ≡ meets_where d users condition row
  where_met None bound e row = ap (λ b. is_met (condition_on_row users b row)) (sym (ok_inside None bound e))
  where_met (Some term) bound e row =
      let found = bind_ok (resolved (own_scope d) term) (λ y. Ok (Some y)) bound e in
      ap (λ b. is_met (condition_on_row users b row)) (sym (ok_inside (Some found.0) bound found.2))
      ∙ ap is_met (resolved_means (own_scope d) (cell_in (row ∷ [])) users term found.0 found.1)

  concerned_is : (a : Action) (reads : Bool) (condition : Option (Term ColumnName)) (bound : Option (Term ColumnIndex)) → optional (resolved (own_scope d)) condition ≡ Ok bound → (row : Row) →
      is_concerned db users d a reads condition row ≡ (is_met (with_select db users d reads (guard db users d a using_clause) row) && is_met (condition_on_row users bound row))
  concerned_is a reads condition bound e row =
      ap (λ b. b && meets_where d users condition row) (sym (with_select_met db users d reads (guard db users d a using_clause) row))
      ∙ ap (λ b. is_met (with_select db users d reads (guard db users d a using_clause) row) && b) (sym (where_met condition bound e row))

-- ---- UPDATE

module _ (db : Database) (users : UserNames) (s : Update) (c : CheckedUpdate) (facts : UpdateFacts db users s c) where
  row_is_assigned : (row : Row) → row_assigned c.table users s row ≡ assigned users c.columns c.values row
  row_is_assigned row =
      ap (λ (r : Result (List ℕ) SqlState). r >>= λ columns. each (value_on (own_scope c.table) users (row ∷ [])) (new_values s) >>= λ values. Ok (replaced columns values row)) facts.columns
      ∙ ap (λ (r : Result (List Value) SqlState). r >>= λ values. Ok (replaced c.columns values row)) (sym (by_names (own_scope c.table) users (row ∷ []) (new_values s) c.values facts.bound))

  pub updated_is : (row : Row) → is_updated db users c.table s row ≡ (is_met (existing_guard db users c.table action.Update c.reads row) && is_met (condition_on_row users c.condition row))
  updated_is row =
      ap (λ b. is_concerned db users c.table action.Update b s.condition row) (sym (update_as_written db users s c facts))
      ∙ concerned_is db users c.table action.Update c.reads s.condition c.condition facts.condition row

  pub splits_by_names : (found : Found db s.table c.table) (chosen : List Chosen) →
      each (choose (existing_guard db users c.table action.Update c.reads) (condition_on_row users c.condition) (assigned users c.columns c.values)) (rows_named db c.table.name) ≡ Ok chosen →
      IsSplitBy (is_updated db users c.table s) (row_assigned c.table users s) (rows_named db s.table) chosen
  splits_by_names found chosen all =
      let g = existing_guard db users c.table action.Update c.reads in
      let becomes = assigned users c.columns c.values in
      subst (λ n. IsSplitBy (is_updated db users c.table s) (row_assigned c.table users s) (rows_named db n) chosen) found.own
      (split (is_updated db users c.table s) (row_assigned c.table users s) (choose g (condition_on_row users c.condition) becomes)
      (λ row k h. let x = chosen_as g (condition_on_row users c.condition) becomes row k h in
      record { row_is = x.row_is; new_is = ap (λ b. becoming b (row_assigned c.table users s row)) (updated_is row) ∙ ap (becoming (is_met (g row) && is_met (condition_on_row users c.condition row))) (row_is_assigned row) ∙ x.new_is })
      (rows_named db c.table.name) chosen all)

module _ (db : Database) (users : UserNames) (s : Update) (e : Effect) (is : update db users s ≡ Ok e) where
  record Updates : Type 0 where
    c : CheckedUpdate
    facts : UpdateFacts db users s c
    found : Found db s.table c.table
    chosen : List Chosen
    all : each (choose (existing_guard db users c.table action.Update c.reads) (condition_on_row users c.condition) (assigned users c.columns c.values)) (rows_named db c.table.name) ≡ Ok chosen
    rows : List Row
    put_in : checked_rows c.table.layout (new_guard db users c.table action.Update c.reads) (other_rows chosen) (new_rows chosen) ≡ Ok rows
    done : counted tag.Update (length (new_rows chosen)) (with_rows_of c.table.name rows db) ≡ e

  updates : Updates
  updates =
      let c = bind_ok (checked_update db users s) (updated db users) e is in
      let facts = update_checked db users s c.0 c.1 in
      let existing = existing_guard db users c.0.table action.Update c.0.reads in
      let admitting = new_guard db users c.0.table action.Update c.0.reads in
      let r = bind_ok (rows_updated existing admitting users c.0 (rows_named db c.0.table.name)) (λ changed. Ok (counted tag.Update changed.count (with_rows_of c.0.table.name changed.rows db))) e c.2 in
      let n = bind_ok (each (choose existing (condition_on_row users c.0.condition) (assigned users c.0.columns c.0.values)) (rows_named db c.0.table.name)) _ r.0 r.1 in
      let k = bind_ok (checked_rows c.0.table.layout admitting (other_rows n.0) (new_rows n.0)) _ r.0 n.2 in
      record {
        c = c.0;
        facts = facts;
        found = found_definition db s.table c.0.table facts.found;
        chosen = n.0;
        all = n.1;
        rows = k.0;
        put_in = k.1;
        done = ap (λ (x : Changed). counted tag.Update x.count (with_rows_of c.0.table.name x.rows db)) (ok_inside (record { rows = k.0; count = length (new_rows n.0) }) r.0 k.2)
            ∙ ok_inside (counted tag.Update r.0.count (with_rows_of c.0.table.name r.0.rows db)) e r.2;
      }

  pub updated_in_its_table : ChangesRowsOf s.table db e.database
  updated_in_its_table =
      let u = updates in
      subst (λ (x : Effect). ChangesRowsOf s.table db x.database) u.done
      (subst (λ n. ChangesRowsOf n db (with_rows_of u.c.table.name u.rows db)) u.found.own (rows_of_one u.c.table.name u.rows db))

  update_splits : (u : Updates) → IsSplitBy (is_updated db users u.c.table s) (row_assigned u.c.table users s) (rows_named db s.table) u.chosen
  update_splits u = splits_by_names db users s u.c u.facts u.found u.chosen u.all

  replaces_in : (u : Updates) → ReplacesItsRows db users s u.c.table e
  replaces_in u =
      let x = update_splits u in
      record {
        new = new_rows u.chosen;
        assigned = x.new;
        rows = subst (λ l. IsPermutation (l ++ new_rows u.chosen) (rows_named e.database s.table)) x.others
            (subst (λ l. IsPermutation (other_rows u.chosen ++ new_rows u.chosen) l)
            (sym (written_rows db s.table u.c.table u.found u.rows e (ap (λ (y : Effect). y.database) (sym u.done))))
            (checked_permutes u.c.table.layout (new_guard db users u.c.table action.Update u.c.reads) (other_rows u.chosen) (new_rows u.chosen) u.rows u.put_in));
        counted = ap (λ (y : Effect). y.answer) (sym u.done)
            ∙ ap (λ n. answer.Done tag.Update (Some n) None) (length_each (row_assigned u.c.table users s) (filter (is_updated db users u.c.table s) (rows_named db s.table)) (new_rows u.chosen) x.new);
      }

  pub updated_its_rows : (t : TableOf) → definition_named db s.table ≡ Some t → ReplacesItsRows db users s t e
  updated_its_rows t named = let u = updates in subst (λ x. ReplacesItsRows db users s x e) (same_definition db s.table t u.c.table named u.facts.found) (replaces_in u)

-- ---- DELETE

module _ (db : Database) (users : UserNames) (s : Delete) (e : Effect) (is : delete db users s ≡ Ok e) where
  record Deletes : Type 0 where
    c : CheckedDelete
    facts : DeleteFacts db users s c
    found : Found db s.table c.table
    chosen : List Chosen
    all : each (choose (existing_guard db users c.table action.Delete c.reads) (condition_on_row users c.condition) (λ row. Ok row)) (rows_named db c.table.name) ≡ Ok chosen
    done : counted tag.Delete (length (new_rows chosen)) (with_rows_of c.table.name (other_rows chosen) db) ≡ e

  deletes : Deletes
  deletes =
      let c = bind_ok (checked_delete db users s) (deleted db users) e is in
      let facts = delete_checked db users s c.0 c.1 in
      let existing = existing_guard db users c.0.table action.Delete c.0.reads in
      let r = bind_ok (rows_deleted existing users c.0 (rows_named db c.0.table.name)) (λ changed. Ok (counted tag.Delete changed.count (with_rows_of c.0.table.name changed.rows db))) e c.2 in
      let n = bind_ok (each (choose existing (condition_on_row users c.0.condition) (λ row. Ok row)) (rows_named db c.0.table.name)) _ r.0 r.1 in
      record {
        c = c.0;
        facts = facts;
        found = found_definition db s.table c.0.table facts.found;
        chosen = n.0;
        all = n.1;
        done = ap (λ (x : Changed). counted tag.Delete x.count (with_rows_of c.0.table.name x.rows db)) (ok_inside (record { rows = other_rows n.0; count = length (new_rows n.0) }) r.0 n.2)
            ∙ ok_inside (counted tag.Delete r.0.count (with_rows_of c.0.table.name r.0.rows db)) e r.2;
      }

  pub deleted_in_its_table : ChangesRowsOf s.table db e.database
  deleted_in_its_table =
      let x = deletes in
      subst (λ (y : Effect). ChangesRowsOf s.table db y.database) x.done
      (subst (λ n. ChangesRowsOf n db (with_rows_of x.c.table.name (other_rows x.chosen) db)) x.found.own (rows_of_one x.c.table.name (other_rows x.chosen) db))

  deleted_is : (x : Deletes) (row : Row) → is_deleted db users x.c.table s row ≡ (is_met (existing_guard db users x.c.table action.Delete x.c.reads row) && is_met (condition_on_row users x.c.condition row))
  deleted_is x row =
      ap (λ b. is_concerned db users x.c.table action.Delete b s.condition row) (sym (delete_as_written db users s x.c x.facts))
      ∙ concerned_is db users x.c.table action.Delete x.c.reads s.condition x.c.condition x.facts.condition row

  delete_splits : (x : Deletes) → IsSplitBy (is_deleted db users x.c.table s) (λ row. Ok row) (rows_named db s.table) x.chosen
  delete_splits x =
      let g = existing_guard db users x.c.table action.Delete x.c.reads in
      subst (λ n. IsSplitBy (is_deleted db users x.c.table s) (λ row. Ok row) (rows_named db n) x.chosen) x.found.own
      (split (is_deleted db users x.c.table s) (λ row. Ok row) (choose g (condition_on_row users x.c.condition) (λ row. Ok row))
      (λ row c h. let y = chosen_as g (condition_on_row users x.c.condition) (λ row. Ok row) row c h in
      record { row_is = y.row_is; new_is = ap (λ b. becoming b (Ok row)) (deleted_is x row) ∙ y.new_is })
      (rows_named db x.c.table.name) x.chosen x.all)

  takes_from : (x : Deletes) → RemovesItsRows db users s x.c.table e
  takes_from x =
      let y = delete_splits x in
      let gone = filter (is_deleted db users x.c.table s) (rows_named db s.table) in
      record {
        rows = written_rows db s.table x.c.table x.found (other_rows x.chosen) e (ap (λ (z : Effect). z.database) (sym x.done)) ∙ y.others;
        counted = ap (λ (z : Effect). z.answer) (sym x.done)
            ∙ ap (λ (l : List Row). answer.Done tag.Delete (Some (length l)) None) (ok_inside (new_rows x.chosen) gone (sym y.new ∙ each_itself gone));
      }

  pub deleted_its_rows : (t : TableOf) → definition_named db s.table ≡ Some t → RemovesItsRows db users s t e
  deleted_its_rows t named = let x = deletes in subst (λ d. RemovesItsRows db users s d e) (same_definition db s.table t x.c.table named x.facts.found) (takes_from x)
