-- The rows that INSERT, UPDATE and DELETE leave, and the guards that they passed.
use Rattle.std.proofs.Common.{◌≡◌, ◌⊎◌, Bool, true, false, cond, find, length, is_none, List, [], ◌∷◌, ◌++◌, Option, Some, None, Result, Ok, Err, refl, sym, ap, ◌∙◌, subst, inl, inr}
use Rattle.std.specs.Option.{option_map}
use Rattle.sql_types.specs.declared.state.SqlState.{SqlState}
use Rattle.sql_types.specs.declared.state.SqlState.TheVariants.{InsufficientPrivilege, UndefinedTable}
use Rattle.sql_types.specs.declared.value.Value.{Value}
use Rattle.sql_types.specs.declared.value.Value.TheVariants.{Null, Int, Text, Bool as Boolean}
use Rattle.sql_types.specs.Row.{Row}
use Rattle.sql_ast.specs.declared.privilege.Action.TheVariants as action
use Rattle.sql_ast.specs.declared.statement.Insert.{Insert}
use Rattle.sql_ast.specs.declared.statement.Update.{Update}
use Rattle.sql_ast.specs.declared.statement.Delete.{Delete}
use Rattle.sql_ast.specs.Layout.{Layout}
use Rattle.expressions.specs.Outcome.{Outcome}
use Rattle.expressions.specs.Meaning.{UserNames}
use Rattle.expressions.specs.Stages.{◌>>=◌, require, each}
use Rattle.abstract_database.specs.Lists.{TheName, Among, found_or, change_first}
use Rattle.abstract_database.specs.Database.{TableOf, Table, Database, table_named, is_table_named, definition_named, rows_in, rows_named}
use Rattle.abstract_database.specs.Expressions.{when_true}
use Rattle.abstract_database.specs.Guards.{Guard, guard, using_clause, check_clause, both_guards, with_select, existing_guard, new_guard}
use Rattle.abstract_database.specs.Needs.{has_any}
use Rattle.abstract_database.specs.Changes.{is_admitted, checked_rows, Chosen, choose, new_rows, other_rows, condition_on_row, assigned, inserted_row, Changed, rows_inserted, rows_updated, rows_deleted}
use Rattle.abstract_database.specs.Checks.{find_definition, checked_insert, checked_update, checked_delete}
use Rattle.abstract_database.specs.Definitions.{with_rows_of}
use Rattle.abstract_database.specs.Statements.{Effect, inserted, updated, deleted, insert, update, delete}
use Rattle.abstract_database.proofs.ListLemmas.{in_append_left}
use Rattle.abstract_database.proofs.ResultLemmas.{ok_inside, bind_ok, each_to, each_from, Every, every_bind}
use Rattle.abstract_database.proofs.CheckLemmas.{Found, found_definition, insert_checked, update_checked, delete_checked}
use Rattle.abstract_database.proofs.RowOrder.{apart_of}
use Rattle.database_laws.specs.Readings.{columns_read_by_update, columns_read_by_delete}
use Rattle.database_laws.specs.Writes.{Passes, WasSeen, WasAdmitted}
use Rattle.database_laws.proofs.ReadingLemmas.{update_as_written, delete_as_written}
use Rattle.database_laws.proofs.RowLemmas.{of_part, checked, chosen_row, of_new_rows, others_part, either_side, of_with, into_with}

-- ---- guards

-- two guards that let a row pass: each of them does
both_pass : (a b : Guard) (row : Row) → Passes (both_guards a b) row → Passes a row × Passes b row
both_pass a b row h = by_first (a row) refl h where
  by_first : (o : Outcome) → a row ≡ o → (o >>= λ v. when_true v (b row) (Ok v)) ≡ Ok (Boolean true) → Passes a row × Passes b row
  by_first (Ok (Boolean true)) e h = (e, h)
  by_first (Ok (Boolean false)) e h = cc
  by_first (Ok Null) e h = cc
  by_first (Ok (Int n)) e h = cc
  by_first (Ok (Text t)) e h = cc
  by_first (Err code) e h = cc

module _ (db : Database) (users : UserNames) (t : TableOf) where
  pub with_select_passes : (reads : Bool) (first : Guard) (row : Row) → Passes (with_select db users t reads first) row → Passes first row × (reads ≡ true → Passes (guard db users t action.Select using_clause) row)
  with_select_passes false first row h = (h, λ never. cc)
  with_select_passes true first row h = let both = both_pass first (guard db users t action.Select using_clause) row h in (both.0, λ is. both.1)

  update_seen : (reads : Bool) (row : Row) → Passes (existing_guard db users t action.Update reads) row → WasSeen db users t action.Update reads row
  update_seen reads row h = let p = with_select_passes reads (guard db users t action.Update using_clause) row h in record { by_command = p.0; by_select = p.1 }

  delete_seen : (reads : Bool) (row : Row) → Passes (existing_guard db users t action.Delete reads) row → WasSeen db users t action.Delete reads row
  delete_seen reads row h = let p = with_select_passes reads (guard db users t action.Delete using_clause) row h in record { by_command = p.0; by_select = p.1 }

  update_admitted : (reads : Bool) (row : Row) → Passes (new_guard db users t action.Update reads) row → WasAdmitted db users t action.Update reads row
  update_admitted reads row h = let p = with_select_passes reads (guard db users t action.Update check_clause) row h in record { by_command = p.0; by_select = p.1 }

-- ---- rows that are chosen

-- a row that is chosen passed the guard
abbrev SeenIfChosen : Guard → Row → Chosen → Type 0
SeenIfChosen g row c = (r : Row) → c.new ≡ Some r → Passes g row

seen_by : (g : Guard) (condition : Row → Outcome) (becomes : Row → Result Row SqlState) (row : Row) (v : Value) → g row ≡ Ok v →
    Every (SeenIfChosen g row) (when_true v (condition row) (Ok (Boolean false)) >>= λ chosen. when_true chosen (becomes row >>= λ r. Ok (Some r)) (Ok None) >>= λ new. Ok (record { row = row; new = new }))
seen_by g condition becomes row (Boolean true) e = λ c is r h. e
seen_by g condition becomes row (Boolean false) e = λ c is r h. cc
seen_by g condition becomes row Null e = λ c is r h. cc
seen_by g condition becomes row (Int n) e = λ c is r h. cc
seen_by g condition becomes row (Text t) e = λ c is r h. cc

chosen_seen : (g : Guard) (condition : Row → Outcome) (becomes : Row → Result Row SqlState) (row : Row) → Every (SeenIfChosen g row) (choose g condition becomes row)
chosen_seen g condition becomes row = every_bind (SeenIfChosen g row) (g row) _ (λ v e. seen_by g condition becomes row v e)

in_others_at : (c : Chosen) (cs : List Chosen) (b : Bool) (row : Row) → b ≡ true → c.row ≡ row → Among row (cond b (c.row ∷ []) [] ++ other_rows cs)
in_others_at c cs true row e is = inl is
in_others_at c cs false row e is = cc

behind_others : (c : Chosen) (cs : List Chosen) (b : Bool) (row : Row) → Among row (other_rows cs) → Among row (cond b (c.row ∷ []) [] ++ other_rows cs)
behind_others c cs true row h = inr h
behind_others c cs false row h = h

in_others : (cs : List Chosen) (c : Chosen) → Among c cs → c.new ≡ None → Among c.row (other_rows cs)
in_others [] c h e = absurd h
in_others (x ∷ cs) c (inl is) e = in_others_at x cs (is_none x.new) c.row (ap (λ (y : Chosen). is_none y.new) is ∙ ap is_none e) (ap (λ (y : Chosen). y.row) is)
in_others (x ∷ cs) c (inr later) e = behind_others x cs (is_none x.new) c.row (in_others cs c later e)

module _ (g : Guard) (condition : Row → Outcome) (becomes : Row → Result Row SqlState) (rows : List Row) (chosen : List Chosen) (all : each (choose g condition becomes) rows ≡ Ok chosen) where
  -- a row of the table stays, or was seen
  stays_or_seen : (row : Row) → Among row rows → Among row (other_rows chosen) ⊎ Passes g row
  stays_or_seen row h =
      let to = each_to (choose g condition becomes) rows chosen all row h in
      by_new to.0 to.1 to.2 to.0.new refl where
        by_new : (c : Chosen) → choose g condition becomes row ≡ Ok c → Among c chosen → (o : Option Row) → c.new ≡ o → Among row (other_rows chosen) ⊎ Passes g row
        by_new c is at None e = inl (subst (λ r. Among r (other_rows chosen)) (chosen_row g condition becomes row c is).0 (in_others chosen c at e))
        by_new c is at (Some r) e = inr (chosen_seen g condition becomes row c is r e)

  -- a row that stays is one of the table, and a new one stands for one that was seen
  stayed : (row : Row) → Among row (other_rows chosen) → Among row rows
  stayed row h = of_part (others_part becomes (choose g condition becomes) (chosen_row g condition becomes) rows chosen all) row h

  replaced_seen : (row : Row) → Among row (new_rows chosen) → (old : Row) × Among old rows × Passes g old
  replaced_seen row h =
      let at = of_new_rows chosen row h in
      let from = each_from (choose g condition becomes) rows chosen all at.0 at.1 in
      (from.0, from.1, chosen_seen g condition becomes from.0 at.0 from.2 row at.2)

-- ---- rows that are admitted

pub admitted_one : (g : Guard) (row : Row) (u : Unit {0}) → is_admitted g row ≡ Ok u → Passes g row
admitted_one g row u h = by_value (g row) refl h where
  by_value : (o : Outcome) → g row ≡ o → (o >>= λ v. require (when_true v true false) InsufficientPrivilege) ≡ Ok u → Passes g row
  by_value (Ok (Boolean true)) e h = e
  by_value (Ok (Boolean false)) e h = cc
  by_value (Ok Null) e h = cc
  by_value (Ok (Int n)) e h = cc
  by_value (Ok (Text t)) e h = cc
  by_value (Err code) e h = cc

all_admitted : (layout : Layout) (g : Guard) (kept new rows : List Row) → checked_rows layout g kept new ≡ Ok rows → (row : Row) → Among row new → Passes g row
all_admitted layout g kept new rows e row h =
    let first = bind_ok (each (is_admitted g) new) _ rows e in
    let at = each_to (is_admitted g) new first.0 first.1 row h in
    admitted_one g row at.0 at.1

-- the rows after a statement are those that stay and the new ones
after_is : (layout : Layout) (g : Guard) (kept new rows : List Row) → checked_rows layout g kept new ≡ Ok rows → (row : Row) → Among row rows → Among row kept ⊎ Among row new
after_is layout g kept new rows e row h =
    let c = checked layout g kept new rows e in
    either_side kept new row (of_with layout.key new kept row (subst (λ l. Among row l) c.is h))

kept_after : (layout : Layout) (g : Guard) (kept new rows : List Row) → checked_rows layout g kept new ≡ Ok rows → (row : Row) → Among row kept → Among row rows
kept_after layout g kept new rows e row h =
    let c = checked layout g kept new rows e in
    subst (λ l. Among row l) (sym c.is) (into_with layout.key new kept (apart_of layout.key (kept ++ new) c.unique) row (in_append_left kept new row h))

-- ---- the table's rows afterwards

find_changed_at : (p : Table → Bool) (f : Table → Table) (x : Table) (xs : List Table) (b : Bool) → p x ≡ b → p (f x) ≡ p x → find p (change_first p f xs) ≡ option_map f (find p xs) →
    find p (cond b (f x ∷ xs) (x ∷ change_first p f xs)) ≡ option_map f (cond b (Some x) (find p xs))
find_changed_at p f x xs true e same go = ap (λ b. cond b (Some (f x)) (find p xs)) (same ∙ e)
find_changed_at p f x xs false e same go = ap (λ b. cond b (Some x) (find p (change_first p f xs))) e ∙ go

pub find_changed : (p : Table → Bool) (f : Table → Table) → ((x : Table) → p (f x) ≡ p x) → (xs : List Table) → find p (change_first p f xs) ≡ option_map f (find p xs)
find_changed p f same [] = refl
find_changed p f same (x ∷ xs) = find_changed_at p f x xs (p x) refl (same x) (find_changed p f same xs)

pub rows_after : (db : Database) (name : TheName) (t : Table) (rows : List Row) → table_named db name ≡ Some t → rows_named (with_rows_of name rows db) name ≡ rows
rows_after db name t rows e =
    let set = λ (x : Table). record x { rows = rows } in
    ap rows_in (find_changed (is_table_named name) set (λ x. refl) db.tables ∙ ap (option_map set) e)

-- the definition that was found is the one that the name has
pub same_definition : (db : Database) (name : TheName) (t d : TableOf) → definition_named db name ≡ Some t → find_definition db name ≡ Ok d → d ≡ t
same_definition db name t d e f = ok_inside d t (sym f ∙ ap (found_or UndefinedTable) e)

-- the rows of the statement's table, after its rows are put under the name of what was found
pub written_rows : (db : Database) (name : TheName) (d : TableOf) (f : Found db name d) (rows : List Row) (e : Effect) → e.database ≡ with_rows_of d.name rows db → rows_named e.database name ≡ rows
written_rows db name d f rows e is =
    ap (λ (x : Database). rows_named x name) is ∙ ap (λ n. rows_named (with_rows_of n rows db) name) f.own ∙ rows_after db name f.table rows f.named

pub rows_before : (db : Database) (name : TheName) (d : TableOf) (f : Found db name d) → rows_named db d.name ≡ rows_named db name
rows_before db name d f = ap (rows_named db) f.own

-- ---- INSERT

module _ (db : Database) (users : UserNames) (s : Insert) (e : Effect) (is : insert db users s ≡ Ok e) where
  record Inserts : Type 0 where
    d : TableOf
    found : find_definition db s.table ≡ Ok d
    new : List Row
    rows : List Row
    put_in : checked_rows d.layout (new_guard db users d action.Insert false) (rows_named db s.table) new ≡ Ok rows
    now : rows_named e.database s.table ≡ rows

  inserts : Inserts
  inserts =
      let c = bind_ok (checked_insert db users s) (inserted db users) e is in
      let facts = insert_checked db users s c.0 c.1 in
      let f = found_definition db s.table c.0.table facts.found in
      let g = new_guard db users c.0.table action.Insert false in
      let r = bind_ok (rows_inserted g users c.0 (rows_named db c.0.table.name)) _ e c.2 in
      let n = bind_ok (each (inserted_row c.0.table.layout users c.0.columns) c.0.rows) _ r.0 r.1 in
      record {
        d = c.0.table;
        found = facts.found;
        new = n.0;
        rows = r.0;
        put_in = ap (λ l. checked_rows c.0.table.layout g l n.0) (sym (rows_before db s.table c.0.table f)) ∙ n.2;
        now = written_rows db s.table c.0.table f r.0 e (ap (λ (x : Effect). x.database) (sym (ok_inside _ e r.2)));
      }

  pub inserted_passed : (t : TableOf) → definition_named db s.table ≡ Some t → (row : Row) → Among row (rows_named e.database s.table) → Among row (rows_named db s.table) ⊎ WasAdmitted db users t action.Insert false row
  inserted_passed t named row h =
      let i = inserts in
      elim (after_is i.d.layout (new_guard db users i.d action.Insert false) (rows_named db s.table) i.new i.rows i.put_in row (subst (λ l. Among row l) i.now h)) [
        | inl old ↦ inl old
        | inr fresh ↦ inr (subst (λ x. WasAdmitted db users x action.Insert false row) (same_definition db s.table t i.d named i.found)
            (record { by_command = all_admitted i.d.layout (new_guard db users i.d action.Insert false) (rows_named db s.table) i.new i.rows i.put_in row fresh; by_select = λ never. cc }))
      ]

  pub inserted_kept : (row : Row) → Among row (rows_named db s.table) → Among row (rows_named e.database s.table)
  inserted_kept row h = let i = inserts in subst (λ l. Among row l) (sym i.now) (kept_after i.d.layout (new_guard db users i.d action.Insert false) (rows_named db s.table) i.new i.rows i.put_in row h)

-- ---- UPDATE

module _ (db : Database) (users : UserNames) (s : Update) (e : Effect) (is : update db users s ≡ Ok e) where
  abbrev reads : Bool
  reads = has_any (columns_read_by_update s)

  record Updates : Type 0 where
    d : TableOf
    found : find_definition db s.table ≡ Ok d
    condition : Row → Outcome
    becomes : Row → Result Row SqlState
    chosen : List Chosen
    all : each (choose (existing_guard db users d action.Update reads) condition becomes) (rows_named db s.table) ≡ Ok chosen
    rows : List Row
    put_in : checked_rows d.layout (new_guard db users d action.Update reads) (other_rows chosen) (new_rows chosen) ≡ Ok rows
    now : rows_named e.database s.table ≡ rows

  updates : Updates
  updates =
      let c = bind_ok (checked_update db users s) (updated db users) e is in
      let facts = update_checked db users s c.0 c.1 in
      let f = found_definition db s.table c.0.table facts.found in
      let condition = condition_on_row users c.0.condition in
      let becomes = assigned users c.0.columns c.0.values in
      let r = bind_ok (rows_updated (existing_guard db users c.0.table action.Update c.0.reads) (new_guard db users c.0.table action.Update c.0.reads) users c.0 (rows_named db c.0.table.name)) _ e c.2 in
      let n = bind_ok (each (choose (existing_guard db users c.0.table action.Update c.0.reads) condition becomes) (rows_named db c.0.table.name)) _ r.0 r.1 in
      let k = bind_ok (checked_rows c.0.table.layout (new_guard db users c.0.table action.Update c.0.reads) (other_rows n.0) (new_rows n.0)) _ r.0 n.2 in
      record {
        d = c.0.table;
        found = facts.found;
        condition = condition;
        becomes = becomes;
        chosen = n.0;
        all = ap (λ l. each (choose (existing_guard db users c.0.table action.Update reads) condition becomes) l) (sym (rows_before db s.table c.0.table f))
            ∙ ap (λ b. each (choose (existing_guard db users c.0.table action.Update b) condition becomes) (rows_named db c.0.table.name)) (sym (update_as_written db users s c.0 facts)) ∙ n.1;
        rows = k.0;
        put_in = ap (λ b. checked_rows c.0.table.layout (new_guard db users c.0.table action.Update b) (other_rows n.0) (new_rows n.0)) (sym (update_as_written db users s c.0 facts)) ∙ k.1;
        now = written_rows db s.table c.0.table f k.0 e
            (ap (λ (x : Effect). x.database) (sym (ok_inside _ e r.2)) ∙ ap (λ (x : Changed). with_rows_of c.0.table.name x.rows db) (sym (ok_inside (record { rows = k.0; count = length (new_rows n.0) }) r.0 k.2)));
      }

  pub updated_passed : (t : TableOf) → definition_named db s.table ≡ Some t → (row : Row) → Among row (rows_named e.database s.table) →
      Among row (rows_named db s.table) ⊎ ((old : Row) × Among old (rows_named db s.table) × WasSeen db users t action.Update reads old × WasAdmitted db users t action.Update reads row)
  updated_passed t named row h =
      let u = updates in
      let same = same_definition db s.table t u.d named u.found in
      let seeing = existing_guard db users u.d action.Update reads in
      let admitting = new_guard db users u.d action.Update reads in
      elim (after_is u.d.layout admitting (other_rows u.chosen) (new_rows u.chosen) u.rows u.put_in row (subst (λ l. Among row l) u.now h)) [
        | inl old ↦ inl (stayed seeing u.condition u.becomes (rows_named db s.table) u.chosen u.all row old)
        | inr fresh ↦ let from = replaced_seen seeing u.condition u.becomes (rows_named db s.table) u.chosen u.all row fresh in
            inr (
              from.0,
              from.1,
              subst (λ x. WasSeen db users x action.Update reads from.0) same (update_seen db users u.d reads from.0 from.2),
              subst (λ x. WasAdmitted db users x action.Update reads row) same (update_admitted db users u.d reads row (all_admitted u.d.layout admitting (other_rows u.chosen) (new_rows u.chosen) u.rows u.put_in row fresh)),
            )
      ]

  pub updated_took : (t : TableOf) → definition_named db s.table ≡ Some t → (row : Row) → Among row (rows_named db s.table) → Among row (rows_named e.database s.table) ⊎ WasSeen db users t action.Update reads row
  updated_took t named row h =
      let u = updates in
      let seeing = existing_guard db users u.d action.Update reads in
      elim (stays_or_seen seeing u.condition u.becomes (rows_named db s.table) u.chosen u.all row h) [
        | inl other ↦ inl (subst (λ l. Among row l) (sym u.now) (kept_after u.d.layout (new_guard db users u.d action.Update reads) (other_rows u.chosen) (new_rows u.chosen) u.rows u.put_in row other))
        | inr passed ↦ inr (subst (λ x. WasSeen db users x action.Update reads row) (same_definition db s.table t u.d named u.found) (update_seen db users u.d reads row passed))
      ]

-- ---- DELETE

module _ (db : Database) (users : UserNames) (s : Delete) (e : Effect) (is : delete db users s ≡ Ok e) where
  abbrev reads_rows : Bool
  reads_rows = has_any (columns_read_by_delete s)

  record Deletes : Type 0 where
    d : TableOf
    found : find_definition db s.table ≡ Ok d
    condition : Row → Outcome
    chosen : List Chosen
    all : each (choose (existing_guard db users d action.Delete reads_rows) condition (λ row. Ok row)) (rows_named db s.table) ≡ Ok chosen
    now : rows_named e.database s.table ≡ other_rows chosen

  deletes : Deletes
  deletes =
      let c = bind_ok (checked_delete db users s) (deleted db users) e is in
      let facts = delete_checked db users s c.0 c.1 in
      let f = found_definition db s.table c.0.table facts.found in
      let condition = condition_on_row users c.0.condition in
      let r = bind_ok (rows_deleted (existing_guard db users c.0.table action.Delete c.0.reads) users c.0 (rows_named db c.0.table.name)) _ e c.2 in
      let n = bind_ok (each (choose (existing_guard db users c.0.table action.Delete c.0.reads) condition (λ row. Ok row)) (rows_named db c.0.table.name)) _ r.0 r.1 in
      record {
        d = c.0.table;
        found = facts.found;
        condition = condition;
        chosen = n.0;
        all = ap (λ l. each (choose (existing_guard db users c.0.table action.Delete reads_rows) condition (λ row. Ok row)) l) (sym (rows_before db s.table c.0.table f))
            ∙ ap (λ b. each (choose (existing_guard db users c.0.table action.Delete b) condition (λ row. Ok row)) (rows_named db c.0.table.name)) (sym (delete_as_written db users s c.0 facts)) ∙ n.1;
        now = written_rows db s.table c.0.table f (other_rows n.0) e
            (ap (λ (x : Effect). x.database) (sym (ok_inside _ e r.2)) ∙ ap (λ (x : Changed). with_rows_of c.0.table.name x.rows db) (sym (ok_inside (record { rows = other_rows n.0; count = length (new_rows n.0) }) r.0 n.2)));
      }

  pub deleted_added : (row : Row) → Among row (rows_named e.database s.table) → Among row (rows_named db s.table)
  deleted_added row h =
      let x = deletes in
      stayed (existing_guard db users x.d action.Delete reads_rows) x.condition (λ r. Ok r) (rows_named db s.table) x.chosen x.all row (subst (λ l. Among row l) x.now h)

  pub deleted_took : (t : TableOf) → definition_named db s.table ≡ Some t → (row : Row) → Among row (rows_named db s.table) → Among row (rows_named e.database s.table) ⊎ WasSeen db users t action.Delete reads_rows row
  deleted_took t named row h =
      let x = deletes in
      elim (stays_or_seen (existing_guard db users x.d action.Delete reads_rows) x.condition (λ r. Ok r) (rows_named db s.table) x.chosen x.all row h) [
        | inl other ↦ inl (subst (λ l. Among row l) (sym x.now) other)
        | inr passed ↦ inr (subst (λ y. WasSeen db users y action.Delete reads_rows row) (same_definition db s.table t x.d named x.found) (delete_seen db users x.d reads_rows row passed))
      ]
