-- The privileges that a statement needs are held.
use Rattle.std.proofs.Common.{◌≡◌, ◌+◌, ◌<◌, ℕ, zero, suc, arith, Bool, true, false, cond, List, [], ◌∷◌, ◌++◌, map, length, take, slice_get, option_to_list, Option, Some, None, position, Result, Ok, refl, sym, ap, ◌∙◌, subst, inl, inr}
use Rattle.std.specs.Str.{bytes_eq}
use Rattle.std.specs.List.{range_with_len}
use Rattle.sql_types.specs.declared.state.SqlState.{SqlState}
use Rattle.sql_ast.specs.declared.columns.Column.{Column}
use Rattle.sql_ast.specs.declared.columns.ColumnType.TheVariants as type
use Rattle.sql_ast.specs.declared.expression.ColumnName.{ColumnName}
use Rattle.sql_ast.specs.declared.privilege.Action.{Action}
use Rattle.sql_ast.specs.declared.privilege.Action.TheVariants as action
use Rattle.sql_ast.specs.declared.privilege.Privilege.{Privilege}
use Rattle.sql_ast.specs.declared.scope.ColumnIndex.{ColumnIndex}
use Rattle.sql_ast.specs.declared.statement.DatabaseStatement.{DatabaseStatement}
use Rattle.sql_ast.specs.declared.statement.DatabaseStatement.TheVariants as on_database
use Rattle.sql_ast.specs.declared.statement.RowStatement.{RowStatement}
use Rattle.sql_ast.specs.declared.statement.RowStatement.TheVariants as over_rows
use Rattle.sql_ast.specs.declared.statement.Insert.{Insert}
use Rattle.sql_ast.specs.declared.statement.Update.{Update}
use Rattle.sql_ast.specs.declared.statement.Delete.{Delete}
use Rattle.sql_ast.specs.declared.statement.Select.{Select}
use Rattle.sql_ast.specs.declared.statement.SelectList.{SelectList}
use Rattle.sql_ast.specs.declared.statement.SelectList.TheVariants as list
use Rattle.sql_ast.specs.declared.statement.SortKey.{SortKey}
use Rattle.sql_ast.specs.declared.statement.TableReference.{TableReference}
use Rattle.sql_ast.specs.Layout.{Layout}
use Rattle.sql_ast.specs.Scope.{Table as ScopeTable, is_called, index_at, found_from, only_index, found_in}
use Rattle.sql_ast.specs.Term.{Term}
use Rattle.expressions.specs.Meaning.{UserNames}
use Rattle.expressions.specs.Names.{resolved}
use Rattle.expressions.specs.Parts.{Part, check_expressions}
use Rattle.expressions.specs.Stages.{◌>>=◌, each}
use Rattle.abstract_database.specs.Lists.{TheName, Among}
use Rattle.abstract_database.specs.Database.{TableOf, Database, definition_named}
use Rattle.abstract_database.specs.Expressions.{own_scope, columns_in}
use Rattle.abstract_database.specs.Privileges.{on_table, on_column, has_privilege, has_on_some_column}
use Rattle.abstract_database.specs.Needs.{Need, privilege, some_column, on_columns, on_columns_or_one, columns_read, terms_of_list, terms_of_query, columns_of_query, needs_of_tables, needs_of_query, needs_of_insert, needs_of_update, needs_of_delete}
use Rattle.abstract_database.specs.Queries.{BoundList, each_column, each_value, their_count, BoundKey, BoundQuery, CheckedSelect, Condition, tables_in, scope_of, conditions_of, keys_of, limit_of, expressions_of, select_parts, bound_list, bound_condition, bound_key, bound_query}
use Rattle.abstract_database.specs.Changes.{CheckedInsert, CheckedUpdate, CheckedDelete}
use Rattle.abstract_database.specs.Checks.{has_needed, find_definition, found_column, target_columns, set_names, new_values, checked_insert, checked_update, checked_delete, checked_select}
use Rattle.abstract_database.specs.Statements.{Effect, UserPair, as_seen, exec, Checked, defines, inserts, updates, deletes, selects, checked, define, insert, update, delete, select, inserted, updated, deleted, selected}
use Rattle.std.proofs.lemmas.List.Quantifiers.{position-Some}
use Rattle.std.proofs.lemmas.Option.{same_Some}
use Rattle.abstract_database.proofs.CheckLemmas.{found_definition, insert_checked, update_checked, delete_checked, SelectFacts, select_checked}
use Rattle.abstract_database.proofs.ElementLemmas.{index_of}
use Rattle.abstract_database.proofs.ListLemmas.{in_append_left}
use Rattle.abstract_database.proofs.ResultLemmas.{ok_inside, bind_ok, each_to}
use Rattle.database_laws.specs.Readings.{columns_read_by_update, columns_read_by_delete}
use Rattle.database_laws.specs.Writes.{HasItsNeeds}
use Rattle.database_laws.proofs.HoldingLemmas.{some_column_had}
use Rattle.database_laws.proofs.QueryLemmas.{into_map, of_map}
use Rattle.database_laws.proofs.ReadingLemmas.{found_columns, found_among, read_among, named_is_read, update_terms, delete_terms}
use Rattle.database_laws.proofs.RowLemmas.{all_of_list}
use Rattle.database_laws.proofs.TableLemmas.{in_right, in_flat}
use Rattle.database_laws.proofs.WholeLists.{of_append}
use Rattle.database_laws.proofs.WriteLemmas.{same_definition}

-- ---- what passed its checks

module _ (db : Database) (users : UserNames) where
  insert_held : (s : Insert) (c : CheckedInsert) → checked_insert db users s ≡ Ok c → HasItsNeeds db users (inserts c)
  insert_held s c e n h = all_of_list (has_needed db users) (needs_of_insert c.table c.columns) (insert_checked db users s c e).allowed n h

  update_held : (s : Update) (c : CheckedUpdate) → checked_update db users s ≡ Ok c → HasItsNeeds db users (updates c)
  update_held s c e n h = all_of_list (has_needed db users) (needs_of_update c.table c.columns c.values c.condition) (update_checked db users s c e).allowed n h

  delete_held : (s : Delete) (c : CheckedDelete) → checked_delete db users s ≡ Ok c → HasItsNeeds db users (deletes c)
  delete_held s c e n h = all_of_list (has_needed db users) (needs_of_delete c.table c.condition) (delete_checked db users s c e).allowed n h

  select_held : (s : Select) (c : CheckedSelect) → checked_select db users s ≡ Ok c → HasItsNeeds db users (selects c)
  select_held s c e n h = all_of_list (has_needed db users) (needs_of_query c.tables c.query) (select_checked db users s c e).allowed n h

  pub needed_held : (s : DatabaseStatement) (c : Checked) → checked db users s ≡ Ok c → HasItsNeeds db users c
  needed_held (on_database.Defining s) c e =
      let x = bind_ok (define db users s) (λ y. Ok (defines y)) c e in
      subst (HasItsNeeds db users) (ok_inside (defines x.0) c x.2) (λ n h. absurd h)
  needed_held (on_database.OverRows (over_rows.Insert s)) c e =
      let x = bind_ok (checked_insert db users s) (λ y. Ok (inserts y)) c e in
      subst (HasItsNeeds db users) (ok_inside (inserts x.0) c x.2) (insert_held s x.0 x.1)
  needed_held (on_database.OverRows (over_rows.Update s)) c e =
      let x = bind_ok (checked_update db users s) (λ y. Ok (updates y)) c e in
      subst (HasItsNeeds db users) (ok_inside (updates x.0) c x.2) (update_held s x.0 x.1)
  needed_held (on_database.OverRows (over_rows.Delete s)) c e =
      let x = bind_ok (checked_delete db users s) (λ y. Ok (deletes y)) c e in
      subst (HasItsNeeds db users) (ok_inside (deletes x.0) c x.2) (delete_held s x.0 x.1)
  needed_held (on_database.OverRows (over_rows.Select s)) c e =
      let x = bind_ok (checked_select db users s) (λ y. Ok (selects y)) c e in
      subst (HasItsNeeds db users) (ok_inside (selects x.0) c x.2) (select_held s x.0 x.1)

-- a statement that is carried out passed its checks
pub had_its_needs : (db : Database) (pair : UserPair) (x : RowStatement) (e : Effect) → exec db pair (on_database.OverRows x) ≡ Ok e →
    (c : Checked) × (checked db (as_seen pair db) (on_database.OverRows x) ≡ Ok c) × HasItsNeeds db (as_seen pair db) c
had_its_needs db pair (over_rows.Insert s) e is =
    let users = as_seen pair db in
    let c = bind_ok (checked_insert db users s) (inserted db users) e is in
    (inserts c.0, ap (λ (r : Result CheckedInsert SqlState). r >>= λ y. Ok (inserts y)) c.1, insert_held db users s c.0 c.1)
had_its_needs db pair (over_rows.Update s) e is =
    let users = as_seen pair db in
    let c = bind_ok (checked_update db users s) (updated db users) e is in
    (updates c.0, ap (λ (r : Result CheckedUpdate SqlState). r >>= λ y. Ok (updates y)) c.1, update_held db users s c.0 c.1)
had_its_needs db pair (over_rows.Delete s) e is =
    let users = as_seen pair db in
    let c = bind_ok (checked_delete db users s) (deleted db users) e is in
    (deletes c.0, ap (λ (r : Result CheckedDelete SqlState). r >>= λ y. Ok (deletes y)) c.1, delete_held db users s c.0 c.1)
had_its_needs db pair (over_rows.Select s) e is =
    let users = as_seen pair db in
    let c = bind_ok (checked_select db users s) (selected db users) e is in
    (selects c.0, ap (λ (r : Result CheckedSelect SqlState). r >>= λ y. Ok (selects y)) c.1, select_held db users s c.0 c.1)

-- ---- an action on columns

on_each : (table : TheName) (a : Action) (columns : List ℕ) (index : ℕ) → Among index columns → Among (privilege table (on_column a index)) (on_columns table a columns)
on_each table a columns index h = into_map (λ (column : ℕ). privilege table (on_column a column)) columns index h

on_each_or_one : (table : TheName) (a : Action) (columns : List ℕ) (index : ℕ) → Among index columns → Among (privilege table (on_column a index)) (on_columns_or_one table a columns)
on_each_or_one table a [] index h = absurd h
on_each_or_one table a (c ∷ cs) index h = on_each table a (c ∷ cs) index h

-- ---- INSERT

pub inserting_needs : (db : Database) (users : UserNames) (s : Insert) (e : Effect) (t : TableOf) → definition_named db s.table ≡ Some t → insert db users s ≡ Ok e →
    (columns : List ℕ) (index : ℕ) → target_columns t.layout s ≡ Ok columns → Among index columns → has_privilege db users.current s.table (on_column action.Insert index) ≡ true
inserting_needs db users s e t named is columns index targets h =
    let c = bind_ok (checked_insert db users s) (inserted db users) e is in
    let facts = insert_checked db users s c.0 c.1 in
    let same = same_definition db s.table t c.0.table named facts.found in
    let given : columns ≡ c.0.columns = ok_inside columns c.0.columns (sym targets ∙ ap (λ (x : TableOf). target_columns x.layout s) (sym same) ∙ facts.columns) in
    subst (λ n. has_privilege db users.current n (on_column action.Insert index) ≡ true) (found_definition db s.table c.0.table facts.found).own
    (insert_held db users s c.0 c.1 (privilege c.0.table.name (on_column action.Insert index))
    (on_each_or_one c.0.table.name action.Insert c.0.columns index (subst (λ l. Among index l) given h)))

-- ---- UPDATE

module _ (db : Database) (users : UserNames) (s : Update) (e : Effect) (t : TableOf) (named : definition_named db s.table ≡ Some t) (is : update db users s ≡ Ok e) where
  update_privilege : (c : CheckedUpdate) → checked_update db users s ≡ Ok c → (a : Action) (index : ℕ) → Among (privilege c.table.name (on_column a index)) (needs_of_update c.table c.columns c.values c.condition) →
      has_privilege db users.current s.table (on_column a index) ≡ true
  update_privilege c f a index h =
      subst (λ n. has_privilege db users.current n (on_column a index) ≡ true) (found_definition db s.table c.table (update_checked db users s c f).found).own
      (update_held db users s c f (privilege c.table.name (on_column a index)) h)

  pub setting_needs : (name : TheName) (index : ℕ) → Among name (set_names s) → found_column t.layout name ≡ Ok index → has_privilege db users.current s.table (on_column action.Update index) ≡ true
  setting_needs name index h found =
      let c = bind_ok (checked_update db users s) (updated db users) e is in
      let facts = update_checked db users s c.0 c.1 in
      let same = same_definition db s.table t c.0.table named facts.found in
      let at = each_to (found_column c.0.table.layout) (set_names s) c.0.columns facts.columns name h in
      let there : at.0 ≡ index = ok_inside at.0 index (sym at.1 ∙ ap (λ (x : TableOf). found_column x.layout name) same ∙ found) in
      update_privilege c.0 c.1 action.Update index
      (in_append_left (on_columns_or_one c.0.table.name action.Update c.0.columns) (on_columns c.0.table.name action.Select (columns_read 0 (c.0.values ++ option_to_list c.0.condition)))
      (privilege c.0.table.name (on_column action.Update index))
      (on_each_or_one c.0.table.name action.Update c.0.columns index (subst (λ i. Among i c.0.columns) there at.2)))

  pub updating_needs : (c : ColumnName) (index : ColumnIndex) → Among c (columns_read_by_update s) → found_in (own_scope t) c ≡ Ok index → has_privilege db users.current s.table (on_column action.Select index.column) ≡ true
  updating_needs name index h found =
      let c = bind_ok (checked_update db users s) (updated db users) e is in
      let facts = update_checked db users s c.0 c.1 in
      let same = same_definition db s.table t c.0.table named facts.found in
      let terms = c.0.values ++ option_to_list c.0.condition in
      update_privilege c.0 c.1 action.Select index.column
      (in_right (on_columns_or_one c.0.table.name action.Update c.0.columns) (on_columns c.0.table.name action.Select (columns_read 0 terms))
      (privilege c.0.table.name (on_column action.Select index.column))
      (on_each c.0.table.name action.Select (columns_read 0 terms) index.column
      (named_is_read c.0.table (new_values s ++ option_to_list s.condition) terms (update_terms db users s c.0 facts) name index h (ap (λ (x : TableOf). found_in (own_scope x) name) same ∙ found))))

-- ---- DELETE

delete_privilege : (db : Database) (users : UserNames) (s : Delete) (c : CheckedDelete) → checked_delete db users s ≡ Ok c → (p : Privilege) → Among (privilege c.table.name p) (needs_of_delete c.table c.condition) →
    has_privilege db users.current s.table p ≡ true
delete_privilege db users s c f p h =
    subst (λ n. has_privilege db users.current n p ≡ true) (found_definition db s.table c.table (delete_checked db users s c f).found).own (delete_held db users s c f (privilege c.table.name p) h)

pub deleting_needs : (db : Database) (users : UserNames) (s : Delete) (e : Effect) → delete db users s ≡ Ok e → has_privilege db users.current s.table (on_table action.Delete) ≡ true
deleting_needs db users s e is =
    let c = bind_ok (checked_delete db users s) (deleted db users) e is in
    delete_privilege db users s c.0 c.1 (on_table action.Delete) (inl refl)

pub deleting_reads : (db : Database) (users : UserNames) (s : Delete) (e : Effect) (t : TableOf) → definition_named db s.table ≡ Some t → delete db users s ≡ Ok e →
    (c : ColumnName) (index : ColumnIndex) → Among c (columns_read_by_delete s) → found_in (own_scope t) c ≡ Ok index → has_privilege db users.current s.table (on_column action.Select index.column) ≡ true
deleting_reads db users s e t named is name index h found =
    let c = bind_ok (checked_delete db users s) (deleted db users) e is in
    let facts = delete_checked db users s c.0 c.1 in
    let same = same_definition db s.table t c.0.table named facts.found in
    let terms = option_to_list c.0.condition in
    delete_privilege db users s c.0 c.1 (on_column action.Select index.column)
    (inr (on_each c.0.table.name action.Select (columns_read 0 terms) index.column
    (named_is_read c.0.table (option_to_list s.condition) terms (delete_terms db users s c.0 facts) name index h (ap (λ (x : TableOf). found_in (own_scope x) name) same ∙ found))))

-- ---- SELECT: the needs of each table

at_table : (q : BoundQuery) (number : ℕ) (tables : List TableOf) (k m : ℕ) → number + k ≡ m → (t : TableOf) → slice_get tables k ≡ Some t → (n : Need) → Among n (on_columns_or_one t.name action.Select (columns_of_query q m t.layout)) →
    Among n (needs_of_tables q number tables)
at_table q number [] k m is t e n h = cc
at_table q number (x ∷ xs) zero m is t e n h =
    in_append_left (on_columns_or_one x.name action.Select (columns_of_query q number x.layout)) (needs_of_tables q (number + 1) xs) n
    (subst (λ (y : TableOf). Among n (on_columns_or_one y.name action.Select (columns_of_query q number y.layout))) (sym (same_Some x t e))
    (subst (λ i. Among n (on_columns_or_one t.name action.Select (columns_of_query q i t.layout))) (omega (arith, is)) h))
at_table q number (x ∷ xs) (suc k) m is t e n h =
    in_right (on_columns_or_one x.name action.Select (columns_of_query q number x.layout)) (needs_of_tables q (number + 1) xs) n
    (at_table q (number + 1) xs k m (omega (arith, is)) t e n h)

-- ---- the columns that a name may mean are columns of their tables

record IsColumnOf (tables : List ScopeTable) (number : ℕ) (i : ColumnIndex) : Type 0 where
  place : ℕ
  table : ScopeTable
  there : slice_get tables place ≡ Some table
  number_is : i.table ≡ number + place
  within : i.column < length table.columns

index_within : (b : Bool) (t : ScopeTable) (name : TheName) (number : ℕ) (i : ColumnIndex) → Among i (cond b (index_at number (position (λ (c : Column). bytes_eq c.name name) t.columns)) []) → (i.table ≡ number) × (i.column < length t.columns)
index_within false t name number i h = absurd h
index_within true t name number i h = at (position (λ (c : Column). bytes_eq c.name name) t.columns) refl h where
  at : (o : Option ℕ) → position (λ (c : Column). bytes_eq c.name name) t.columns ≡ o → Among i (index_at number o) → (i.table ≡ number) × (i.column < length t.columns)
  at None e h = absurd h
  at (Some k) e (inl is) =
      let found = position-Some (λ (c : Column). bytes_eq c.name name) t.columns k (record { name = []; column_type = type.Text; not_null = false }) e in
      (ap (λ (x : ColumnIndex). x.table) (sym is), subst (λ (x : ColumnIndex). x.column < length t.columns) is found.0)
  at (Some k) e (inr later) = absurd later

column_of_scope : (tables : List ScopeTable) (number : ℕ) (c : ColumnName) (i : ColumnIndex) → Among i (found_from number tables c) → IsColumnOf tables number i
column_of_scope [] number c i h = absurd h
column_of_scope (t ∷ ts) number c i h = elim (of_append (cond (is_called t.name c.table) (index_at number (position (λ (x : Column). bytes_eq x.name c.column) t.columns)) []) (found_from (number + 1) ts c) i h) [
  | inl here ↦ let at = index_within (is_called t.name c.table) t c.column number i here in
      record { place = 0; table = t; there = refl; number_is = at.0 ∙ omega arith; within = at.1 }
  | inr later ↦ let at = column_of_scope ts (number + 1) c i later in
      record { place = suc at.place; table = at.table; there = at.there; number_is = at.number_is ∙ omega arith; within = at.within }
]

only_among : (l : List ColumnIndex) (i : ColumnIndex) → only_index l ≡ Ok i → Among i l
only_among [] i e = cc
only_among (p ∷ []) i e = inl (ok_inside p i e)
only_among (p ∷ q ∷ rest) i e = cc

of_front : (n : ℕ) (tables : List ScopeTable) (k : ℕ) (t : ScopeTable) → slice_get (take n tables) k ≡ Some t → slice_get tables k ≡ Some t
of_front zero tables k t e = cc
of_front (suc n) [] k t e = cc
of_front (suc n) (x ∷ xs) zero t e = e
of_front (suc n) (x ∷ xs) (suc k) t e = of_front n xs k t e

columns_there : (rs : List TableReference) (ts : List TableOf) (k : ℕ) (x : ScopeTable) (t : TableOf) → slice_get (scope_of rs ts) k ≡ Some x → slice_get ts k ≡ Some t → x.columns ≡ t.layout.columns
columns_there [] ts k x t e f = cc
columns_there (r ∷ rs) [] k x t e f = cc
columns_there (r ∷ rs) (y ∷ ys) zero x t e f = ap (λ (z : ScopeTable). z.columns) (sym (same_Some _ x e)) ∙ ap (λ (z : TableOf). z.layout.columns) (same_Some y t f)
columns_there (r ∷ rs) (y ∷ ys) (suc k) x t e f = columns_there rs ys k x t e f

-- what a part of the statement names is a column of its table
named_within : (rs : List TableReference) (tables : List TableOf) (scope : List ScopeTable) → ((k : ℕ) (x : ScopeTable) → slice_get scope k ≡ Some x → slice_get (scope_of rs tables) k ≡ Some x) →
    (c : ColumnName) (i : ColumnIndex) (t : TableOf) → found_in scope c ≡ Ok i → slice_get tables i.table ≡ Some t → i.column < length t.layout.columns
named_within rs tables scope part c i t found at =
    let own = column_of_scope scope 0 c i (only_among (found_from 0 scope c) i found) in
    let place : own.place ≡ i.table = omega (arith, own.number_is) in
    let there : slice_get tables own.place ≡ Some t = ap (slice_get tables) place ∙ at in
    subst (λ (l : List Column). i.column < length l) (columns_there rs tables own.place own.table t (part own.place own.table own.there) there) own.within

-- ---- the expressions of a SELECT that is bound

record IsBound (scope : List ScopeTable) (s : Select) (q : BoundQuery) : Type 0 where
  list_is : bound_list scope s.list ≡ Ok q.list
  conditions_are : each (bound_condition scope) (conditions_of s.source) ≡ Ok q.conditions
  keys_are : each (bound_key scope) (keys_of s.source) ≡ Ok q.keys

query_bound : (scope : List ScopeTable) (s : Select) (q : BoundQuery) → bound_query scope s.list s.source ≡ Ok q → IsBound scope s q
query_bound scope s q e =
    let l = bind_ok (bound_list scope s.list) _ q e in
    let cs = bind_ok (each (bound_condition scope) (conditions_of s.source)) _ q l.2 in
    let ks = bind_ok (each (bound_key scope) (keys_of s.source)) _ q cs.2 in
    let typed = bind_ok (check_expressions (select_parts scope s.list s.source)) _ q ks.2 in
    subst (IsBound scope s) (ok_inside (record { list = l.0; conditions = cs.0; keys = ks.0; limit = limit_of s.source }) q typed.2) (record { list_is = l.1; conditions_are = cs.1; keys_are = ks.1 })

-- an expression of the statement, bound over the tables that it may name
record IsBoundPart (scope : List ScopeTable) (q : BoundQuery) (p : Part) : Type 0 where
  bound : Term ColumnIndex
  bound_is : resolved p.scope p.term ≡ Ok bound
  among : Among bound (terms_of_query q)
  part : (k : ℕ) (x : ScopeTable) → slice_get p.scope k ≡ Some x → slice_get scope k ≡ Some x

module _ (scope : List ScopeTable) (s : Select) (q : BoundQuery) (is : IsBound scope s q) where
  abbrev others : List (Term ColumnIndex)
  others = q.conditions ++ map (λ (key : BoundKey). key.term) q.keys

  abbrev as_listed : Term ColumnName → Part
  as_listed term = record { scope = scope; term = term; expected = None }

  abbrev as_condition : Condition → Part
  as_condition c = record { scope = take c.tables scope; term = c.term; expected = Some type.Boolean }

  abbrev as_key : SortKey → Part
  as_key key = record { scope = scope; term = key.value; expected = None }

  abbrev listed : List Part
  listed = map as_listed (expressions_of s.list)

  abbrev conditions : List Part
  conditions = map as_condition (conditions_of s.source)

  abbrev keys : List Part
  keys = map as_key (keys_of s.source)

  of_list : (l : SelectList) (b : BoundList) → bound_list scope l ≡ Ok b → (term : Term ColumnName) → Among term (expressions_of l) → (bound : Term ColumnIndex) × (resolved scope term ≡ Ok bound) × Among bound (terms_of_list b)
  of_list list.Asterisk b e term h = absurd h
  of_list list.Count b e term h = absurd h
  of_list (list.Expressions terms) b e term h =
      let bound = bind_ok (each (resolved scope) terms) (λ l. Ok (each_value l)) b e in
      let at = each_to (resolved scope) terms bound.0 bound.1 term h in
      (at.0, at.1, subst (λ x. Among at.0 (terms_of_list x)) (ok_inside (each_value bound.0) b bound.2) at.2)

  list_part : (p : Part) → Among p listed → IsBoundPart scope q p
  list_part p h =
      let from = of_map as_listed (expressions_of s.list) p h in
      let at = of_list s.list q.list is.list_is from.0 from.1 in
      subst (IsBoundPart scope q) from.2 (record { bound = at.0; bound_is = at.1; among = in_append_left (terms_of_list q.list) others at.0 at.2; part = λ k x e. e })

  condition_part : (p : Part) → Among p conditions → IsBoundPart scope q p
  condition_part p h =
      let from = of_map as_condition (conditions_of s.source) p h in
      let at = each_to (bound_condition scope) (conditions_of s.source) q.conditions is.conditions_are from.0 from.1 in
      subst (IsBoundPart scope q) from.2 (record {
        bound = at.0;
        bound_is = at.1;
        among = in_right (terms_of_list q.list) others at.0 (in_append_left q.conditions (map (λ (key : BoundKey). key.term) q.keys) at.0 at.2);
        part = of_front from.0.tables scope;
      })

  key_part : (p : Part) → Among p keys → IsBoundPart scope q p
  key_part p h =
      let from = of_map as_key (keys_of s.source) p h in
      let at = each_to (bound_key scope) (keys_of s.source) q.keys is.keys_are from.0 from.1 in
      let term = bind_ok (resolved scope from.0.value) _ at.0 at.1 in
      subst (IsBoundPart scope q) from.2 (record {
        bound = term.0;
        bound_is = term.1;
        among = in_right (terms_of_list q.list) others term.0 (in_right q.conditions (map (λ (key : BoundKey). key.term) q.keys) term.0
            (subst (λ (b : Term ColumnIndex). Among b (map (λ (key : BoundKey). key.term) q.keys)) (ap (λ (key : BoundKey). key.term) (sym (ok_inside _ at.0 term.2)))
            (into_map (λ (key : BoundKey). key.term) q.keys at.0 at.2)));
        part = λ k x e. e;
      })

  part_bound : (p : Part) → Among p (select_parts scope s.list s.source) → IsBoundPart scope q p
  part_bound p h = elim (of_append (listed ++ conditions) keys p h) [
    | inl front ↦ elim (of_append listed conditions p front) [
      | inl in_list ↦ list_part p in_list
      | inr in_condition ↦ condition_part p in_condition
    ]
    | inr in_key ↦ key_part p in_key
  ]

-- ---- SELECT

in_range : (start count index m : ℕ) → start + index ≡ m → index < count → Among m (range_with_len start count)
in_range start zero index m is h = absurd (omega (arith, h))
in_range start (suc count) zero m is h = inl (omega (arith, is))
in_range start (suc count) (suc index) m is h = inr (in_range (start + 1) count index m (omega (arith, is)) (omega (arith, h)))

columns_of_list : (l : BoundList) (conditions : List (Term ColumnIndex)) (keys : List BoundKey) (limit : Option ℕ) (number : ℕ) (layout : Layout) (i : ℕ) → i < length layout.columns →
    Among i (columns_read number (terms_of_query (record { list = l; conditions = conditions; keys = keys; limit = limit }))) → Among i (columns_of_query (record { list = l; conditions = conditions; keys = keys; limit = limit }) number layout)
columns_of_list each_column conditions keys limit number layout i within h = in_range 0 (length layout.columns) i i (omega arith) within
columns_of_list (each_value terms) conditions keys limit number layout i within h = h
columns_of_list their_count conditions keys limit number layout i within h = h

-- "*" reads each column
columns_of_asterisk : (scope : List ScopeTable) (q : BoundQuery) → bound_list scope list.Asterisk ≡ Ok q.list → (number : ℕ) (layout : Layout) (i : ℕ) → i < length layout.columns → Among i (columns_of_query q number layout)
columns_of_asterisk scope q e number layout i within =
    subst (λ l. Among i (columns_of_query (record q { list = l }) number layout)) (ok_inside each_column q.list e) (in_range 0 (length layout.columns) i i (omega arith) within)

one_at_least : (db : Database) (users : UserNames) (table : TheName) (a : Action) (columns : List ℕ) → ((n : Need) → Among n (on_columns_or_one table a columns) → has_needed db users n ≡ true) → has_on_some_column db users.current table a ≡ true
one_at_least db users table a [] h = h (some_column table a) (inl refl)
one_at_least db users table a (c ∷ cs) h = some_column_had db users.current table a (on_column a c) refl (h (privilege table (on_column a c)) (inl refl))

module _ (db : Database) (users : UserNames) (s : Select) (e : Effect) (done : select db users s ≡ Ok e) where
  record Selects : Type 0 where
    c : CheckedSelect
    passed : checked_select db users s ≡ Ok c
    facts : SelectFacts db users s c

  selects_so : Selects
  selects_so = let c = bind_ok (checked_select db users s) (selected db users) e done in record { c = c.0; passed = c.1; facts = select_checked db users s c.0 c.1 }

  held_of_table : (x : Selects) (k : ℕ) (t : TableOf) → slice_get x.c.tables k ≡ Some t → (n : Need) → Among n (on_columns_or_one t.name action.Select (columns_of_query x.c.query k t.layout)) → has_needed db users n ≡ true
  held_of_table x k t at n h = select_held db users s x.c x.passed n (at_table x.c.query 0 x.c.tables k k (omega arith) t at n h)

  pub selecting_needs : (r : TableReference) → Among r (tables_in s.source) → has_on_some_column db users.current r.table action.Select ≡ true
  selecting_needs r h =
      let x = selects_so in
      let t = each_to (λ (y : TableReference). find_definition db y.table) (tables_in s.source) x.c.tables x.facts.found r h in
      let k = index_of x.c.tables t.0 t.2 in
      subst (λ n. has_on_some_column db users.current n action.Select ≡ true) (found_definition db r.table t.0 t.1).own
      (one_at_least db users t.0.name action.Select (columns_of_query x.c.query k.0 t.0.layout) (held_of_table x k.0 t.0 k.1))

  module _ (tables : List TableOf) (found : each (λ (r : TableReference). find_definition db r.table) (tables_in s.source) ≡ Ok tables) where
    same_tables : (x : Selects) → x.c.tables ≡ tables
    same_tables x = ok_inside x.c.tables tables (sym x.facts.found ∙ found)

    held_of_column : (x : Selects) (k : ℕ) (t : TableOf) (index : ℕ) → slice_get tables k ≡ Some t → Among index (columns_of_query x.c.query k t.layout) → has_privilege db users.current t.name (on_column action.Select index) ≡ true
    held_of_column x k t index at h =
        held_of_table x k t (ap (λ l. slice_get l k) (same_tables x) ∙ at) (privilege t.name (on_column action.Select index)) (on_each_or_one t.name action.Select (columns_of_query x.c.query k t.layout) index h)

    pub naming_needs : (p : Part) (c : ColumnName) (i : ColumnIndex) (t : TableOf) → Among p (select_parts (scope_of (tables_in s.source) tables) s.list s.source) → Among c (columns_in p.term) →
        found_in p.scope c ≡ Ok i → slice_get tables i.table ≡ Some t → has_privilege db users.current t.name (on_column action.Select i.column) ≡ true
    naming_needs p c i t h named is at =
        let x = selects_so in
        let q = x.c.query in
        let scope = scope_of (tables_in s.source) tables in
        let query_is = query_bound scope s q (ap (λ l. bound_query (scope_of (tables_in s.source) l) s.list s.source) (sym (same_tables x)) ∙ x.facts.bound) in
        let b = part_bound scope s q query_is p h in
        let there = found_among p.scope (columns_in p.term) (columns_in b.bound) (found_columns p.scope p.term b.bound b.bound_is) c i named is in
        held_of_column x i.table t i.column at
        (columns_of_list q.list q.conditions q.keys q.limit i.table t.layout i.column (named_within (tables_in s.source) tables p.scope b.part c i t is at)
        (read_among i.table (terms_of_query q) i (in_flat columns_in (terms_of_query q) b.bound i b.among there) refl))

    pub asterisk_needs : s.list ≡ list.Asterisk → (t : TableOf) (index : ℕ) → Among t tables → index < length t.layout.columns → has_privilege db users.current t.name (on_column action.Select index) ≡ true
    asterisk_needs all t index h within =
        let x = selects_so in
        let scope = scope_of (tables_in s.source) x.c.tables in
        let k = index_of tables t h in
        let query_is = query_bound scope s x.c.query x.facts.bound in
        held_of_column x k.0 t index k.1 (columns_of_asterisk scope x.c.query (ap (bound_list scope) (sym all) ∙ query_is.list_is) k.0 t.layout index within)
