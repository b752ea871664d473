-- A statement over rows, over two databases that differ in tables on which its users have no privilege.
use Rattle.std.proofs.Common.{◌≡◌, ◌&&◌, ◌||◌, ℕ, ◌+◌, Bool, true, false, map, bytes_eq, length, option_to_list, List, [], ◌∷◌, ◌++◌, Some, Result, Ok, Err, refl, sym, ap, ◌∙◌, subst}
use Rattle.std.specs.List.{list_any, list_all}
use Rattle.std.proofs.lemmas.Bool.{and_parts}
use Rattle.sql_types.specs.Row.{Row}
use Rattle.sql_types.specs.declared.state.SqlState.{SqlState}
use Rattle.sql_types.specs.declared.answer.Answer.TheVariants as answer
use Rattle.sql_types.specs.declared.tag.Tag.TheVariants as tag
use Rattle.sql_ast.specs.declared.privilege.Action.{Action}
use Rattle.sql_ast.specs.declared.privilege.Action.TheVariants as action
use Rattle.sql_ast.specs.declared.privilege.Privilege.{Privilege}
use Rattle.sql_ast.specs.declared.privilege.Descriptor.{Descriptor}
use Rattle.sql_ast.specs.declared.statement.DatabaseStatement.TheVariants as on_database
use Rattle.sql_ast.specs.declared.statement.RowStatement.{RowStatement}
use Rattle.sql_ast.specs.declared.statement.RowStatement.TheVariants as over_rows
use Rattle.sql_ast.specs.declared.statement.Insert.{Insert}
use Rattle.sql_ast.specs.declared.statement.Update.{Update}
use Rattle.sql_ast.specs.declared.statement.Delete.{Delete}
use Rattle.sql_ast.specs.declared.statement.Select.{Select}
use Rattle.expressions.specs.Meaning.{UserNames}
use Rattle.expressions.specs.Stages.{◌>>=◌}
use Rattle.abstract_database.specs.Database.{same_action}
use Rattle.abstract_database.specs.Lists.{TheName}
use Rattle.abstract_database.specs.Database.{TableOf, Database, definition_named, rows_named}
use Rattle.abstract_database.specs.Roles.{is_superuser}
use Rattle.abstract_database.specs.Privileges.{covers, is_for, reaches, has_privilege, has_on_some_column, has_some_privilege, on_table, on_column}
use Rattle.abstract_database.specs.Guards.{existing_guard, new_guard}
use Rattle.abstract_database.specs.Needs.{privilege, on_columns, columns_read, on_columns_or_one, columns_of_query, needs_of_tables}
use Rattle.abstract_database.specs.Queries.{BoundQuery, Source, query, CheckedSelect}
use Rattle.abstract_database.specs.Changes.{CheckedInsert, CheckedUpdate, CheckedDelete, Changed, rows_inserted, rows_updated, rows_deleted}
use Rattle.abstract_database.specs.Checks.{has_needed, checked_insert, checked_update, checked_delete, checked_select}
use Rattle.abstract_database.specs.Definitions.{with_rows_of}
use Rattle.abstract_database.specs.Statements.{Effect, effect, counted, inserted, updated, deleted, source_of, selected, insert, update, delete, select, as_seen, exec, exec_as}
use Rattle.abstract_database.proofs.CheckLemmas.{insert_checked, update_checked, delete_checked, select_checked}
use Rattle.abstract_database.proofs.ElementLemmas.{any_found, any_holds}
use Rattle.abstract_database.proofs.ListLemmas.{bytes_same}
use Rattle.database_laws.specs.Closed.{AreClosedTo, DifferInClosed, EndBesideClosed, closed_tables_tell_nothing}
use Rattle.database_laws.proofs.RowChangeLemmas.{rows_of_one}
use Rattle.database_laws.proofs.WriteLemmas.{rows_after}
use Rattle.database_laws.proofs.WorldLemmas.{definitions_alone, checked_alone, named_by_itself, some_table}
use Rattle.database_laws.proofs.AlikeLemmas.{delete_alone}
use Rattle.database_laws.proofs.AlikeWriteLemmas.{insert_alone, update_alone}

-- ---- a privilege is some privilege

three : (a b c : Bool) → (a && b && c) ≡ true → (a ≡ true) × (c ≡ true)
three true true true e = (refl, refl)
three true true false e = cc
three true false c e = cc
three false b c e = cc

four : (a b c r : Bool) → ((a && b && c) && r) ≡ true → (a ≡ true) × (r ≡ true)
four true true true true e = (refl, refl)
four true true true false e = cc
four true true false r e = cc
four true false c r e = cc
four false b c r e = cc

both_true : (a b : Bool) → a ≡ true → b ≡ true → (a && b) ≡ true
both_true a b e f = ap (λ (x : Bool). x && b) e ∙ f

or_any : (f g : Descriptor → Bool) (s : Bool) (ds : List Descriptor) → ((d : Descriptor) → f d ≡ true → g d ≡ true) → (s || list_any f ds) ≡ true → (s || list_any g ds) ≡ true
or_any f g true ds h e = refl
or_any f g false ds h e = let found = any_found f ds e in any_holds g ds found.0 found.1 (h found.0 found.2)

module _ (db : Database) (role table : TheName) where
  abbrev concerns : Descriptor → Bool
  concerns d = bytes_eq d.table table && reaches db.memberships role d.grantee

  of_privilege : (p : Privilege) → has_privilege db role table p ≡ true → has_some_privilege db role table ≡ true
  of_privilege p e = or_any (λ (d : Descriptor). is_for table p d && reaches db.memberships role d.grantee) concerns (is_superuser db role) db.descriptors
      (λ d h. let parts = four (bytes_eq d.table table) (same_action d.action p.action) (covers d.column p.column) (reaches db.memberships role d.grantee) h in
      both_true (bytes_eq d.table table) (reaches db.memberships role d.grantee) parts.0 parts.1) e

  of_column : (a : Action) → has_on_some_column db role table a ≡ true → has_some_privilege db role table ≡ true
  of_column a e = or_any (λ (d : Descriptor). bytes_eq d.table table && same_action d.action a && reaches db.memberships role d.grantee) concerns (is_superuser db role) db.descriptors
      (λ d h. let parts = three (bytes_eq d.table table) (same_action d.action a) (reaches db.memberships role d.grantee) h in
      both_true (bytes_eq d.table table) (reaches db.memberships role d.grantee) parts.0 parts.1) e

all_parts : {X : Type 0} (f : X → Bool) (xs ys : List X) → list_all f (xs ++ ys) ≡ true → (list_all f xs ≡ true) × (list_all f ys ≡ true)
all_parts f [] ys e = (refl, e)
all_parts f (x ∷ xs) ys e =
    let parts = and_parts (f x) (list_all f (xs ++ ys)) e in
    let rest = all_parts f xs ys parts.1 in
    (both_true (f x) (list_all f xs) parts.0 rest.0, rest.1)

-- ---- two databases

module _ (closed : TheName → Bool) (users : UserNames) (d e : Database) (shut : AreClosedTo closed d users.current) (differ : DifferInClosed closed d e) where
  is_open : (name : TheName) → has_some_privilege d users.current name ≡ true → closed name ≡ false
  is_open name has = by (closed name) refl where
    by : (b : Bool) → closed name ≡ b → b ≡ false
    by false at = refl
    by true at = let contrary : true ≡ false = sym has ∙ shut name at in cc

  first_need : (name : TheName) (a : Action) (columns : List ℕ) → list_all (has_needed d users) (on_columns_or_one name a columns) ≡ true → has_some_privilege d users.current name ≡ true
  first_need name a [] h = of_column d users.current name a (and_parts (has_on_some_column d users.current name a) true h).0
  first_need name a (c ∷ cs) h =
      of_privilege d users.current name (on_column a c)
      (and_parts (has_privilege d users.current name (on_column a c)) (list_all (has_needed d users) (map (λ (column : ℕ). privilege name (on_column a column)) cs)) h).0

  defined_in_both : (name : TheName) → definition_named d name ≡ definition_named e name
  defined_in_both name = definitions_alone d name ∙ ap (λ (x : Database). definition_named x name) differ.definitions ∙ sym (definitions_alone e name)

  -- the rows of one table are set in both
  set_in_both : (t : TableOf) → definition_named d t.name ≡ Some t → (xs : List Row) → DifferInClosed closed (with_rows_of t.name xs d) (with_rows_of t.name xs e)
  set_in_both t named xs = record {
    definitions = (rows_of_one t.name xs d).definitions ∙ differ.definitions ∙ sym (rows_of_one t.name xs e).definitions;
    rows = λ other unclosed. by other unclosed (bytes_eq other t.name) refl;
  } where
    by : (other : TheName) → closed other ≡ false → (b : Bool) → bytes_eq other t.name ≡ b → rows_named (with_rows_of t.name xs d) other ≡ rows_named (with_rows_of t.name xs e) other
    by other unclosed false apart = (rows_of_one t.name xs d).others other apart ∙ differ.rows other unclosed ∙ sym ((rows_of_one t.name xs e).others other apart)
    by other unclosed true own =
        let x = some_table d t.name t named in
        let y = some_table e t.name t (sym (defined_in_both t.name) ∙ named) in
        subst (λ (n : TheName). rows_named (with_rows_of t.name xs d) n ≡ rows_named (with_rows_of t.name xs e) n) (sym (bytes_same other t.name own))
        (rows_after d t.name x.0 xs x.1 ∙ sym (rows_after e t.name y.0 xs y.1))

  abbrev Ends : Result Effect SqlState → Result Effect SqlState → Type 0
  Ends r k = EndBesideClosed closed r k

  -- ---- INSERT

  put_in : (c : CheckedInsert) → definition_named d c.table.name ≡ Some c.table → (r : Result (List Row) SqlState) →
      Ends (r >>= λ rows. Ok (counted tag.Insert (length c.rows) (with_rows_of c.table.name rows d))) (r >>= λ rows. Ok (counted tag.Insert (length c.rows) (with_rows_of c.table.name rows e)))
  put_in c named (Ok rows) = (refl, set_in_both c.table named rows)
  put_in c named (Err code) = refl

  inserts_so : (s : Insert) (r : Result CheckedInsert SqlState) → checked_insert d users s ≡ r → Ends (r >>= inserted d users) (r >>= inserted e users)
  inserts_so s (Err code) is = refl
  inserts_so s (Ok c) is =
      let facts = insert_checked d users s c is in
      let unclosed = is_open c.table.name (first_need c.table.name action.Insert c.columns facts.allowed) in
      subst (λ (k : Result (List Row) SqlState). Ends (inserted d users c) (k >>= λ rows. Ok (counted tag.Insert (length c.rows) (with_rows_of c.table.name rows e))))
      (ap (λ (l : List Row). rows_inserted (new_guard d users c.table action.Insert false) users c l) (differ.rows c.table.name unclosed)
      ∙ ap (λ (x : Database). rows_inserted (new_guard x users c.table action.Insert false) users c (rows_named e c.table.name)) differ.definitions)
      (put_in c (named_by_itself d s.table c.table facts.found) (rows_inserted (new_guard d users c.table action.Insert false) users c (rows_named d c.table.name)))

  insert_ends : (s : Insert) → Ends (insert d users s) (insert e users s)
  insert_ends s = subst (λ (r : Result CheckedInsert SqlState). Ends (insert d users s) (r >>= inserted e users))
      (insert_alone d users s ∙ ap (λ (x : Database). checked_insert x users s) differ.definitions ∙ sym (insert_alone e users s)) (inserts_so s (checked_insert d users s) refl)

  -- ---- UPDATE

  changed_in : (c : CheckedUpdate) → definition_named d c.table.name ≡ Some c.table → (r : Result Changed SqlState) →
      Ends (r >>= λ changed. Ok (counted tag.Update changed.count (with_rows_of c.table.name changed.rows d))) (r >>= λ changed. Ok (counted tag.Update changed.count (with_rows_of c.table.name changed.rows e)))
  changed_in c named (Ok changed) = (refl, set_in_both c.table named changed.rows)
  changed_in c named (Err code) = refl

  updates_so : (s : Update) (r : Result CheckedUpdate SqlState) → checked_update d users s ≡ r → Ends (r >>= updated d users) (r >>= updated e users)
  updates_so s (Err code) is = refl
  updates_so s (Ok c) is =
      let facts = update_checked d users s c is in
      let unclosed = is_open c.table.name (first_need c.table.name action.Update c.columns (all_parts (has_needed d users) (on_columns_or_one c.table.name action.Update c.columns) _ facts.allowed).0) in
      subst (λ (k : Result Changed SqlState). Ends (updated d users c) (k >>= λ changed. Ok (counted tag.Update changed.count (with_rows_of c.table.name changed.rows e))))
      (ap (λ (l : List Row). rows_updated (existing_guard d users c.table action.Update c.reads) (new_guard d users c.table action.Update c.reads) users c l) (differ.rows c.table.name unclosed)
      ∙ ap (λ (x : Database). rows_updated (existing_guard x users c.table action.Update c.reads) (new_guard x users c.table action.Update c.reads) users c (rows_named e c.table.name)) differ.definitions)
      (changed_in c (named_by_itself d s.table c.table facts.found) (rows_updated (existing_guard d users c.table action.Update c.reads) (new_guard d users c.table action.Update c.reads) users c (rows_named d c.table.name)))

  update_ends : (s : Update) → Ends (update d users s) (update e users s)
  update_ends s = subst (λ (r : Result CheckedUpdate SqlState). Ends (update d users s) (r >>= updated e users))
      (update_alone d users s ∙ ap (λ (x : Database). checked_update x users s) differ.definitions ∙ sym (update_alone e users s)) (updates_so s (checked_update d users s) refl)

  -- ---- DELETE

  left_in : (c : CheckedDelete) → definition_named d c.table.name ≡ Some c.table → (r : Result Changed SqlState) →
      Ends (r >>= λ changed. Ok (counted tag.Delete changed.count (with_rows_of c.table.name changed.rows d))) (r >>= λ changed. Ok (counted tag.Delete changed.count (with_rows_of c.table.name changed.rows e)))
  left_in c named (Ok changed) = (refl, set_in_both c.table named changed.rows)
  left_in c named (Err code) = refl

  deletes_so : (s : Delete) (r : Result CheckedDelete SqlState) → checked_delete d users s ≡ r → Ends (r >>= deleted d users) (r >>= deleted e users)
  deletes_so s (Err code) is = refl
  deletes_so s (Ok c) is =
      let facts = delete_checked d users s c is in
      let unclosed = is_open c.table.name (of_privilege d users.current c.table.name (on_table action.Delete)
      (and_parts (has_privilege d users.current c.table.name (on_table action.Delete)) (list_all (has_needed d users) (on_columns c.table.name action.Select (columns_read 0 (option_to_list c.condition)))) facts.allowed).0) in
      subst (λ (k : Result Changed SqlState). Ends (deleted d users c) (k >>= λ changed. Ok (counted tag.Delete changed.count (with_rows_of c.table.name changed.rows e))))
      (ap (λ (l : List Row). rows_deleted (existing_guard d users c.table action.Delete c.reads) users c l) (differ.rows c.table.name unclosed)
      ∙ ap (λ (x : Database). rows_deleted (existing_guard x users c.table action.Delete c.reads) users c (rows_named e c.table.name)) differ.definitions)
      (left_in c (named_by_itself d s.table c.table facts.found) (rows_deleted (existing_guard d users c.table action.Delete c.reads) users c (rows_named d c.table.name)))

  delete_ends : (s : Delete) → Ends (delete d users s) (delete e users s)
  delete_ends s = subst (λ (r : Result CheckedDelete SqlState). Ends (delete d users s) (r >>= deleted e users))
      (delete_alone d users s ∙ ap (λ (x : Database). checked_delete x users s) differ.definitions ∙ sym (delete_alone e users s)) (deletes_so s (checked_delete d users s) refl)

  -- ---- SELECT

  same_sources : (q : BoundQuery) (number : ℕ) (ts : List TableOf) → list_all (has_needed d users) (needs_of_tables q number ts) ≡ true → map (source_of d users) ts ≡ map (source_of e users) ts
  same_sources q number [] h = refl
  same_sources q number (t ∷ ts) h =
      let parts = all_parts (has_needed d users) (on_columns_or_one t.name action.Select (columns_of_query q number t.layout)) (needs_of_tables q (number + 1) ts) h in
      let unclosed = is_open t.name (first_need t.name action.Select (columns_of_query q number t.layout) parts.0) in
      let here : source_of d users t ≡ source_of e users t =
      ap (λ (l : List Row). record { guard = existing_guard d users t action.Select true; rows = l }) (differ.rows t.name unclosed)
      ∙ ap (λ (x : Database). record { guard = existing_guard x users t action.Select true; rows = rows_named e t.name }) differ.definitions in
      ap (λ (x : Source). x ∷ map (source_of d users) ts) here ∙ ap (λ (l : List Source). source_of e users t ∷ l) (same_sources q (number + 1) ts parts.1)

  shown_in : (r : Result (List Row) SqlState) → Ends (r >>= λ rows. Ok (effect (answer.Rows rows) d)) (r >>= λ rows. Ok (effect (answer.Rows rows) e))
  shown_in (Ok rows) = (refl, differ)
  shown_in (Err code) = refl

  selects_so : (s : Select) (r : Result CheckedSelect SqlState) → checked_select d users s ≡ r → Ends (r >>= selected d users) (r >>= selected e users)
  selects_so s (Err code) is = refl
  selects_so s (Ok c) is =
      let facts = select_checked d users s c is in
      subst (λ (l : List Source). Ends (selected d users c) (query l users c.query >>= λ rows. Ok (effect (answer.Rows rows) e)))
      (same_sources c.query 0 c.tables facts.allowed) (shown_in (query (map (source_of d users) c.tables) users c.query))

  select_ends : (s : Select) → Ends (select d users s) (select e users s)
  select_ends s = subst (λ (r : Result CheckedSelect SqlState). Ends (select d users s) (r >>= selected e users))
      (checked_alone d users s ∙ ap (λ (x : Database). checked_select x users s) differ.definitions ∙ sym (checked_alone e users s)) (selects_so s (checked_select d users s) refl)

  ends_beside : (x : RowStatement) → Ends (exec_as d users (on_database.OverRows x)) (exec_as e users (on_database.OverRows x))
  ends_beside (over_rows.Insert s) = insert_ends s
  ends_beside (over_rows.Update s) = update_ends s
  ends_beside (over_rows.Delete s) = delete_ends s
  ends_beside (over_rows.Select s) = select_ends s

pub closed_are_untold : closed_tables_tell_nothing
closed_are_untold closed pair d e x shut differ =
    subst (λ (u : UserNames). EndBesideClosed closed (exec d pair (on_database.OverRows x)) (exec_as e u (on_database.OverRows x))) (ap (λ (db : Database). as_seen pair db) differ.definitions)
    (ends_beside closed (as_seen pair d) d e shut differ x)
