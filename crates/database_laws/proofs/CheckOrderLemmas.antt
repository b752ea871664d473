-- The order of checks.
use Rattle.std.proofs.Common.{◌≡◌, ◌⊎◌, ◌&&◌, Bool, true, false, not, List, [], ◌∷◌, ◌++◌, map, length, take, is_none, nat_le, unwrap_or, Option, Some, None, Result, Ok, Err, refl, sym, ap, ◌∙◌, subst, inl, inr}
use Rattle.std.specs.List.{list_any, list_all}
use Rattle.sql_types.specs.declared.state.SqlState.{SqlState}
use Rattle.sql_types.specs.declared.state.SqlState.TheVariants.{SyntaxError, UndefinedTable, UndefinedObject, UndefinedColumn, DuplicateAlias, DuplicateTable, DuplicateColumn, DuplicateObject, DatatypeMismatch, InsufficientPrivilege, ProgramLimitExceeded}
use Rattle.sql_types.specs.declared.tag.Tag.TheVariants as tag
use Rattle.sql_ast.specs.declared.columns.ColumnType.TheVariants as type
use Rattle.sql_ast.specs.declared.expression.ColumnName.{ColumnName}
use Rattle.sql_ast.specs.declared.policy.PolicyClause.{PolicyClause}
use Rattle.sql_ast.specs.declared.statement.DatabaseStatement.{DatabaseStatement}
use Rattle.sql_ast.specs.declared.statement.DatabaseStatement.TheVariants as on_database
use Rattle.sql_ast.specs.declared.statement.DefiningStatement.{DefiningStatement}
use Rattle.sql_ast.specs.declared.statement.DefiningStatement.TheVariants as defining
use Rattle.sql_ast.specs.declared.statement.RowStatement.{RowStatement}
use Rattle.sql_ast.specs.declared.statement.RowStatement.TheVariants as over_rows
use Rattle.sql_ast.specs.declared.statement.TableReference.{TableReference}
use Rattle.sql_ast.specs.declared.statement.CreateTable.{CreateTable}
use Rattle.sql_ast.specs.declared.statement.CreatePolicy.{CreatePolicy}
use Rattle.sql_ast.specs.declared.statement.Insert.{Insert}
use Rattle.sql_ast.specs.declared.statement.Update.{Update}
use Rattle.sql_ast.specs.declared.statement.Delete.{Delete}
use Rattle.sql_ast.specs.declared.statement.Select.{Select}
use Rattle.sql_ast.specs.declared.statement.SortKey.{SortKey}
use Rattle.sql_ast.specs.Term.{Term}
use Rattle.sql_ast.specs.Scope.{Table as ScopeTable}
use Rattle.expressions.specs.Meaning.{UserNames}
use Rattle.expressions.specs.Names.{resolved}
use Rattle.expressions.specs.Types.{names_then_types}
use Rattle.expressions.specs.Parts.{Part, is_expected, resolve_parts, check_type, check_expressions}
use Rattle.expressions.specs.Stages.{◌>>=◌, require, each}
use Rattle.abstract_database.specs.Lists.{TheName, Among, found_or, optional, has_double}
use Rattle.abstract_database.specs.Database.{TableOf, Table, Database, has_role, table_named, definition_named, is_policy_named}
use Rattle.abstract_database.specs.Expressions.{own_scope}
use Rattle.abstract_database.specs.Queries.{tables_in, name_in_scope, scope_of, Condition, conditions_of, expressions_of, keys_of, select_parts, bound_list, bound_condition, bound_key, bound_query}
use Rattle.abstract_database.specs.Definitions.{definitions_of, key_names, with_table}
use Rattle.abstract_database.specs.Needs.{Need, needs_of_insert, needs_of_update, needs_of_delete, needs_of_query}
use Rattle.abstract_database.specs.Checks.{find_definition, require_roles, require_needs, has_needed, found_column, grantee_roles, is_column_of, checked_layout, checked_drop_role, checked_grant_role, checked_revoke_role, checked_create_table, checked_drop_table, checked_alter_table, checked_create_policy, checked_drop_policy, checked_grant, checked_revoke, counts_fit, target_columns, insert_parts, condition_parts, clause_parts, policy_parts, set_names, new_values, value_parts, update_parts, checked_insert, checked_update, checked_delete, checked_select}
use Rattle.abstract_database.specs.Statements.{Effect, UserPair, as_seen, done, define, create_table, create_policy, update, delete, select, inserted, updated, deleted, selected, exec, exec_over_rows, inserts, updates, deletes, selects, checked_over_rows}
use Rattle.abstract_database.proofs.ResultLemmas.{bind_ok, ok_inside, require_ok, each_to}
use Rattle.abstract_database.proofs.ListLemmas.{in_append_left}
use Rattle.abstract_database.proofs.CheckLemmas.{update_checked, delete_checked, select_checked}
use Rattle.database_laws.specs.OrderOfChecks.{tables_of_rows, tables_defined, tables_named, roles_named, HasItsNames, IsBoolean}
use Rattle.database_laws.proofs.FirstLemmas.{stops}
use Rattle.database_laws.proofs.ErrorLemmas.{first_err}
use Rattle.database_laws.proofs.WriteLemmas.{same_definition}
use Rattle.database_laws.proofs.ValueLemmas.{in_append_right}

-- ---- a table that is missing

module _ (db : Database) (table : TheName) (gone : definition_named db table ≡ None) where
  not_there : (name : TheName) → name ≡ table → find_definition db name ≡ Err UndefinedTable
  not_there name is = ap (find_definition db) is ∙ ap (λ (o : Option TableOf). found_or UndefinedTable o) gone

  at_once : {B : Type 0} (name : TheName) → Among table (name ∷ []) → (go : TableOf → Result B SqlState) → (find_definition db name >>= go) ≡ Err UndefinedTable
  at_once name h go = elim h [
    | inl is ↦ stops (find_definition db name) go UndefinedTable (not_there name is)
    | inr none ↦ absurd none
  ]

  abbrev found : TableReference → Result TableOf SqlState
  found r = find_definition db r.table

  -- the first of several is missing, or another one
  missing_at : (r : TableReference) (rs : List TableReference) (o : Option TableOf) → definition_named db r.table ≡ o → Among table (map (λ (r : TableReference). r.table) (r ∷ rs)) →
      (Among table (map (λ (r : TableReference). r.table) rs) → each found rs ≡ Err UndefinedTable) → each found (r ∷ rs) ≡ Err UndefinedTable
  missing_at r rs None e h go = stops (found r) (λ y. each found rs >>= λ ys. Ok (y ∷ ys)) UndefinedTable (ap (λ (o : Option TableOf). found_or UndefinedTable o) e)
  missing_at r rs (Some t) e (inl is) go = let contrary : ◌≡◌ {A = Option TableOf} None (Some t) = sym gone ∙ ap (definition_named db) (sym is) ∙ e in cc
  missing_at r rs (Some t) e (inr later) go =
      ap (λ (o : Option TableOf). found_or UndefinedTable o >>= λ y. each found rs >>= λ ys. Ok (y ∷ ys)) e
      ∙ stops (each found rs) (λ ys. Ok (t ∷ ys)) UndefinedTable (go later)

  among_them : (rs : List TableReference) → Among table (map (λ (r : TableReference). r.table) rs) → each found rs ≡ Err UndefinedTable
  among_them [] h = absurd h
  among_them (r ∷ rs) h = missing_at r rs (definition_named db r.table) refl h (among_them rs)

  module _ (users : UserNames) where
    missing_of_rows : (x : RowStatement) → Among table (tables_of_rows x) → exec_over_rows db users x ≡ Err UndefinedTable
    missing_of_rows (over_rows.Insert s) h = stops (checked_insert db users s) (inserted db users) UndefinedTable (at_once s.table h _)
    missing_of_rows (over_rows.Update s) h = stops (checked_update db users s) (updated db users) UndefinedTable (at_once s.table h _)
    missing_of_rows (over_rows.Delete s) h = stops (checked_delete db users s) (deleted db users) UndefinedTable (at_once s.table h _)
    missing_of_rows (over_rows.Select s) h = stops (checked_select db users s) (selected db users) UndefinedTable (stops (each found (tables_in s.source)) _ UndefinedTable (among_them (tables_in s.source) h))

    missing_defined : (x : DefiningStatement) → Among table (tables_defined x) → define db users x ≡ Err UndefinedTable
    missing_defined (defining.CreateRole s) h = absurd h
    missing_defined (defining.DropRole s) h = absurd h
    missing_defined (defining.GrantRole s) h = absurd h
    missing_defined (defining.RevokeRole s) h = absurd h
    missing_defined (defining.CreateTable s) h = absurd h
    missing_defined (defining.DropTable s) h = stops (checked_drop_table db users s) _ UndefinedTable (at_once s.table h _)
    missing_defined (defining.AlterTable s) h = stops (checked_alter_table db users s) _ UndefinedTable (at_once s.table h _)
    missing_defined (defining.CreatePolicy s) h = stops (checked_create_policy db users s) _ UndefinedTable (at_once s.table h _)
    missing_defined (defining.DropPolicy s) h = stops (checked_drop_policy db users s) _ UndefinedTable (at_once s.table h _)
    missing_defined (defining.Grant s) h = stops (checked_grant db users s) _ UndefinedTable (at_once s.table h _)
    missing_defined (defining.Revoke s) h = stops (checked_revoke db users s) _ UndefinedTable (at_once s.table h _)

pub missing_table : (db : Database) (pair : UserPair) (x : DatabaseStatement) (table : TheName) → Among table (tables_named x) → definition_named db table ≡ None → exec db pair x ≡ Err UndefinedTable
missing_table db pair (on_database.Defining x) table h gone = missing_defined db table gone (as_seen pair db) x h
missing_table db pair (on_database.OverRows x) table h gone = missing_of_rows db table gone (as_seen pair db) x h

-- ---- a role that is missing

and_false_right : (b : Bool) → (b && false) ≡ false
and_false_right true = refl
and_false_right false = refl

module _ (db : Database) (role : TheName) (gone : has_role db role ≡ false) where
  not_all : (names : List TheName) → Among role names → list_all (has_role db) names ≡ false
  not_all [] h = absurd h
  not_all (n ∷ names) h = elim h [
    | inl is ↦ ap (λ (b : Bool). b && list_all (has_role db) names) (ap (has_role db) is ∙ gone)
    | inr later ↦ ap (λ (b : Bool). has_role db n && b) (not_all names later) ∙ and_false_right (has_role db n)
  ]

  no_roles : (names : List TheName) → Among role names → require_roles db names ≡ Err UndefinedObject
  no_roles names h = ap (λ (b : Bool). require b UndefinedObject) (not_all names h)

  after_table : {B : Type 0} (name : TheName) (go : TableOf → Result B SqlState) → (definition_named db name ≡ None → ⊥) → ((t : TableOf) → go t ≡ Err UndefinedObject) → (find_definition db name >>= go) ≡ Err UndefinedObject
  after_table name go there h = at (definition_named db name) refl where
    at : (o : Option TableOf) → definition_named db name ≡ o → (find_definition db name >>= go) ≡ Err UndefinedObject
    at None e = absurd (there e)
    at (Some t) e = ap (λ (o : Option TableOf). found_or UndefinedTable o >>= go) e ∙ h t

  missing_of : (users : UserNames) (x : DefiningStatement) → ((table : TheName) → Among table (tables_defined x) → definition_named db table ≡ None → ⊥) → Among role (roles_named x) → define db users x ≡ Err UndefinedObject
  missing_of users (defining.CreateRole s) there h = absurd h
  missing_of users (defining.DropRole s) there h = stops (checked_drop_role db users s) _ UndefinedObject (stops (require_roles db (s.role ∷ [])) _ UndefinedObject (no_roles (s.role ∷ []) h))
  missing_of users (defining.GrantRole s) there h = stops (checked_grant_role db users s) _ UndefinedObject (stops (require_roles db (s.roles ++ s.members)) _ UndefinedObject (no_roles (s.roles ++ s.members) h))
  missing_of users (defining.RevokeRole s) there h = stops (checked_revoke_role db users s) _ UndefinedObject (stops (require_roles db (s.roles ++ s.members)) _ UndefinedObject (no_roles (s.roles ++ s.members) h))
  missing_of users (defining.CreateTable s) there h = absurd h
  missing_of users (defining.DropTable s) there h = absurd h
  missing_of users (defining.AlterTable s) there h = absurd h
  missing_of users (defining.CreatePolicy s) there h =
      let named = grantee_roles (unwrap_or s.grantees []) in
      stops (checked_create_policy db users s) _ UndefinedObject (after_table s.table _ (there s.table (inl refl)) (λ t. stops (require_roles db named) _ UndefinedObject (no_roles named h)))
  missing_of users (defining.DropPolicy s) there h = absurd h
  missing_of users (defining.Grant s) there h =
      stops (checked_grant db users s) _ UndefinedObject (after_table s.table _ (there s.table (inl refl)) (λ t. stops (require_roles db (grantee_roles s.grantees)) _ UndefinedObject (no_roles (grantee_roles s.grantees) h)))
  missing_of users (defining.Revoke s) there h =
      stops (checked_revoke db users s) _ UndefinedObject (after_table s.table _ (there s.table (inl refl)) (λ t. stops (require_roles db (grantee_roles s.grantees)) _ UndefinedObject (no_roles (grantee_roles s.grantees) h)))

pub missing_role : (db : Database) (pair : UserPair) (x : DefiningStatement) (role : TheName) → ((table : TheName) → Among table (tables_defined x) → definition_named db table ≡ None → ⊥) → Among role (roles_named x) → has_role db role ≡ false →
    exec db pair (on_database.Defining x) ≡ Err UndefinedObject
missing_role db pair x role there h gone = missing_of db role gone (as_seen pair db) x there h

-- ---- names and types

err_inside : {A : Type 0} (a b : SqlState) → ◌≡◌ {A = Result A SqlState} (Err a) (Err b) → a ≡ b
err_inside a b e = cc

module _ (db : Database) (users others : UserNames) (code : SqlState) (no_privilege : code ≡ InsufficientPrivilege → ⊥) (no_limit : code ≡ ProgramLimitExceeded → ⊥) where
  same_first : {A B : Type 0} (r : Result A SqlState) (go other : A → Result B SqlState) → (r >>= go) ≡ Err code → ((a : A) → go a ≡ Err code → other a ≡ Err code) → (r >>= other) ≡ Err code
  same_first (Ok a) go other e h = h a e
  same_first (Err c) go other e h = e

  not_needs_at : {B : Type 0} (b : Bool) (go : Unit {0} → Result B SqlState) → (require b InsufficientPrivilege >>= go) ≡ Err code → ((u : Unit {0}) → go u ≡ Err code → ⊥) → ⊥
  not_needs_at {B} true go e h = h tt e
  not_needs_at {B} false go e h = no_privilege (sym (err_inside {A = B} InsufficientPrivilege code e))

  not_needs : {B : Type 0} (needs : List Need) (go : Unit {0} → Result B SqlState) → (require_needs db users needs >>= go) ≡ Err code → ((u : Unit {0}) → go u ≡ Err code → ⊥) → ⊥
  not_needs needs go e h = not_needs_at (list_all (has_needed db users) needs) go e h

  not_limit : {B : Type 0} (b : Bool) (x : B) → (require b ProgramLimitExceeded >>= λ few. Ok x) ≡ Err code → ⊥
  not_limit {B} true x e = let contrary : ◌≡◌ {A = Result B SqlState} (Ok x) (Err code) = e in cc
  not_limit {B} false x e = no_limit (sym (err_inside {A = B} ProgramLimitExceeded code e))

  insert_told : (s : Insert) → checked_insert db users s ≡ Err code → checked_insert db others s ≡ Err code
  insert_told s e =
      same_first (find_definition db s.table) _ _ e (λ table e1.
      same_first (require (not (has_double (unwrap_or s.columns []))) DuplicateColumn) _ _ e1 (λ once e2.
      same_first (require (list_all (counts_fit table.layout s.columns) s.rows) SyntaxError) _ _ e2 (λ counted e3.
      same_first (target_columns table.layout s) _ _ e3 (λ columns e4.
      same_first (each (each (resolved [])) s.rows) _ _ e4 (λ rows e5.
      same_first (check_expressions (insert_parts table.layout columns s.rows)) _ _ e5 (λ typed e6.
      absurd (not_needs (needs_of_insert table columns) _ e6 (λ allowed e7. not_limit (nat_le (length s.rows) 256) (record { table = table; columns = columns; rows = rows }) e7))))))))

  update_told : (s : Update) → checked_update db users s ≡ Err code → checked_update db others s ≡ Err code
  update_told s e =
      same_first (find_definition db s.table) _ _ e (λ table e1.
      same_first (require (not (has_double (set_names s))) DuplicateColumn) _ _ e1 (λ once e2.
      same_first (each (found_column table.layout) (set_names s)) _ _ e2 (λ columns e3.
      same_first (each (resolved (own_scope table)) (new_values s)) _ _ e3 (λ values e4.
      same_first (optional (resolved (own_scope table)) s.condition) _ _ e4 (λ condition e5.
      same_first (check_expressions (update_parts table columns s)) _ _ e5 (λ typed e6.
      absurd (not_needs (needs_of_update table columns values condition) _ e6 (λ allowed e7. cc))))))))

  delete_told : (s : Delete) → checked_delete db users s ≡ Err code → checked_delete db others s ≡ Err code
  delete_told s e =
      same_first (find_definition db s.table) _ _ e (λ table e1.
      same_first (optional (resolved (own_scope table)) s.condition) _ _ e1 (λ condition e2.
      same_first (check_expressions (condition_parts table s.condition)) _ _ e2 (λ typed e3.
      absurd (not_needs (needs_of_delete table condition) _ e3 (λ allowed e4. cc)))))

  select_told : (s : Select) → checked_select db users s ≡ Err code → checked_select db others s ≡ Err code
  select_told s e =
      same_first (each (λ r. find_definition db r.table) (tables_in s.source)) _ _ e (λ tables e1.
      same_first (require (not (has_double (map name_in_scope (tables_in s.source)))) DuplicateAlias) _ _ e1 (λ once e2.
      same_first (bound_query (scope_of (tables_in s.source) tables) s.list s.source) _ _ e2 (λ query e3.
      absurd (not_needs (needs_of_query tables query) _ e3 (λ allowed e4. not_limit (nat_le (length tables) 4) (record { tables = tables; query = query }) e4)))))

  pub told_to_all : (x : RowStatement) → checked_over_rows db users x ≡ Err code → checked_over_rows db others x ≡ Err code
  told_to_all (over_rows.Insert s) e = stops (checked_insert db others s) _ code (insert_told s (first_err (checked_insert db users s) inserts code e))
  told_to_all (over_rows.Update s) e = stops (checked_update db others s) _ code (update_told s (first_err (checked_update db users s) updates code e))
  told_to_all (over_rows.Delete s) e = stops (checked_delete db others s) _ code (delete_told s (first_err (checked_delete db users s) deletes code e))
  told_to_all (over_rows.Select s) e = stops (checked_select db others s) _ code (select_told s (first_err (checked_select db users s) selects code e))

-- ---- a new table

module _ (db : Database) (users : UserNames) (s : CreateTable) where
  pub taken_first : (t : Table) → table_named db s.table ≡ Some t → create_table db users s ≡ Err DuplicateTable
  taken_first t e =
      stops (checked_create_table db users s) _ DuplicateTable
      (stops (require (is_none (table_named db s.table)) DuplicateTable) _ DuplicateTable (ap (λ (o : Option Table). require (is_none o) DuplicateTable) e))

  -- a requirement with another code is met
  met : {B : Type 0} (b : Bool) (code : SqlState) (go : Unit {0} → Result B SqlState) → (code ≡ ProgramLimitExceeded → ⊥) → (require b code >>= go) ≡ Err ProgramLimitExceeded → (b ≡ true) × (go tt ≡ Err ProgramLimitExceeded)
  met {B} true code go other e = (refl, e)
  met {B} false code go other e = absurd (other (err_inside {A = B} code ProgramLimitExceeded e))

  not_false : (b : Bool) → not b ≡ true → b ≡ false
  not_false true e = cc
  not_false false e = refl

  none_there : (o : Option Table) → is_none o ≡ true → o ≡ None
  none_there None e = refl
  none_there (Some t) e = cc

  layout_last : (count : _) → checked_layout s.elements count ≡ Err ProgramLimitExceeded → HasItsNames s.elements
  layout_last count e =
      let once = met (not (has_double (map (λ d. d.column) (definitions_of s.elements)))) DuplicateColumn _ (λ c. cc) e in
      let key = met (not (has_double (key_names s.elements))) DuplicateColumn _ (λ c. cc) once.1 in
      let found = met (list_all (is_column_of (definitions_of s.elements)) (key_names s.elements)) UndefinedColumn _ (λ c. cc) key.1 in
      record { columns_once = not_false _ once.0; key_once = not_false _ key.0; key_found = found.0 }

  pub limit_last : create_table db users s ≡ Err ProgramLimitExceeded → (table_named db s.table ≡ None) × HasItsNames s.elements
  limit_last e =
      let checks = first_err (checked_create_table db users s) (λ layout. done tag.CreateTable (with_table s.table users.current layout db)) ProgramLimitExceeded e in
      let named = met (is_none (table_named db s.table)) DuplicateTable _ (λ c. cc) checks in
      (none_there (table_named db s.table) named.0, layout_last (length db.tables) named.1)

-- ---- conditions

-- a part that a BOOLEAN is asked of, among parts that have passed
boolean_part : (parts : List Part) (units : List (Unit {0})) → check_expressions parts ≡ Ok units → (scope : List ScopeTable) (term : Term ColumnName) → Among (record { scope = scope; term = term; expected = Some type.Boolean }) parts → IsBoolean scope term
boolean_part parts units e scope term h =
    let part : Part = record { scope = scope; term = term; expected = Some type.Boolean } in
    let passed = each_to check_type parts units e part h in
    let found = bind_ok (names_then_types scope term) (λ u. require (is_expected (Some type.Boolean) u.value_type) DatatypeMismatch) passed.0 passed.1 in
    (found.0, found.1, require_ok (is_expected (Some type.Boolean) found.0.value_type) DatatypeMismatch passed.0 found.2)

condition_part : (t : TableOf) (condition : Option (Term ColumnName)) (term : Term ColumnName) → condition ≡ Some term → Among (record { scope = own_scope t; term = term; expected = Some type.Boolean }) (condition_parts t condition)
condition_part t condition term is = subst (λ (o : Option (Term ColumnName)). Among (record { scope = own_scope t; term = term; expected = Some type.Boolean }) (condition_parts t o)) (sym is) (inl refl)

module _ (db : Database) (users : UserNames) where
  pub update_boolean : (s : Update) (e : Effect) (t : TableOf) (term : Term ColumnName) → definition_named db s.table ≡ Some t → update db users s ≡ Ok e → s.condition ≡ Some term → IsBoolean (own_scope t) term
  update_boolean s e t term named is condition =
      let c = bind_ok (checked_update db users s) (updated db users) e is in
      let facts = update_checked db users s c.0 c.1 in
      subst (λ (x : TableOf). IsBoolean (own_scope x) term) (same_definition db s.table t c.0.table named facts.found)
      (boolean_part (update_parts c.0.table c.0.columns s) facts.types facts.typed (own_scope c.0.table) term
      (in_append_right (value_parts (own_scope c.0.table) c.0.table.layout c.0.columns (new_values s)) (condition_parts c.0.table s.condition) _ (condition_part c.0.table s.condition term condition)))

  pub delete_boolean : (s : Delete) (e : Effect) (t : TableOf) (term : Term ColumnName) → definition_named db s.table ≡ Some t → delete db users s ≡ Ok e → s.condition ≡ Some term → IsBoolean (own_scope t) term
  delete_boolean s e t term named is condition =
      let c = bind_ok (checked_delete db users s) (deleted db users) e is in
      let facts = delete_checked db users s c.0 c.1 in
      subst (λ (x : TableOf). IsBoolean (own_scope x) term) (same_definition db s.table t c.0.table named facts.found)
      (boolean_part (condition_parts c.0.table s.condition) facts.types facts.typed (own_scope c.0.table) term (condition_part c.0.table s.condition term condition))

  in_mapped : {X Y : Type 0} (f : X → Y) (xs : List X) (x : X) → Among x xs → Among (f x) (map f xs)
  in_mapped f [] x h = absurd h
  in_mapped f (y ∷ xs) x h = elim h [ inl is ↦ inl (ap f is) | inr later ↦ inr (in_mapped f xs x later) ]

  pub select_boolean : (s : Select) (e : Effect) (tables : List TableOf) (on : Condition) → each (λ r. find_definition db r.table) (tables_in s.source) ≡ Ok tables → select db users s ≡ Ok e →
      Among on (conditions_of s.source) → IsBoolean (take on.tables (scope_of (tables_in s.source) tables)) on.term
  select_boolean s e tables on named is h =
      let c = bind_ok (checked_select db users s) (selected db users) e is in
      let facts = select_checked db users s c.0 c.1 in
      let same : c.0.tables ≡ tables = ok_inside c.0.tables tables (sym facts.found ∙ named) in
      let scope = scope_of (tables_in s.source) c.0.tables in
      let bound = bind_ok (bound_list scope s.list) _ c.0.query facts.bound in
      let conditions = bind_ok (each (bound_condition scope) (conditions_of s.source)) _ c.0.query bound.2 in
      let keys = bind_ok (each (bound_key scope) (keys_of s.source)) _ c.0.query conditions.2 in
      let typed = bind_ok (check_expressions (select_parts scope s.list s.source)) _ c.0.query keys.2 in
      let as_part : Condition → Part = λ x. record { scope = take x.tables scope; term = x.term; expected = Some type.Boolean } in
      let as_value : Term ColumnName → Part = λ term. record { scope = scope; term = term; expected = None } in
      let as_key : SortKey → Part = λ key. record { scope = scope; term = key.value; expected = None } in
      let values_in = map as_value (expressions_of s.list) in
      let conditions_in = map as_part (conditions_of s.source) in
      let keys_in = map as_key (keys_of s.source) in
      subst (λ (l : List TableOf). IsBoolean (take on.tables (scope_of (tables_in s.source) l)) on.term) same
      (boolean_part (select_parts scope s.list s.source) typed.0 typed.1 (take on.tables scope) on.term
      (in_append_left (values_in ++ conditions_in) keys_in (as_part on) (in_append_right values_in conditions_in (as_part on) (in_mapped as_part (conditions_of s.source) on h))))

  pub policy_boolean : (s : CreatePolicy) (e : Effect) (t : TableOf) (c : PolicyClause) → definition_named db s.table ≡ Some t → create_policy db users s ≡ Ok e → (s.using ≡ Some c) ⊎ (s.check ≡ Some c) → IsBoolean (own_scope t) c.expression
  policy_boolean s e t c named is h =
      let checks = bind_ok (checked_create_policy db users s) _ e is in
      let table = bind_ok (find_definition db s.table) _ checks.0 checks.1 in
      let roles = bind_ok (require_roles db (grantee_roles (unwrap_or s.grantees []))) _ checks.0 table.2 in
      let new = bind_ok (require (not (list_any (is_policy_named s.table s.policy) db.policies)) DuplicateObject) _ checks.0 roles.2 in
      let names = bind_ok (resolve_parts (policy_parts table.0 s)) _ checks.0 new.2 in
      let typed = bind_ok (check_expressions (policy_parts table.0 s)) _ checks.0 names.2 in
      subst (λ (x : TableOf). IsBoolean (own_scope x) c.expression) (same_definition db s.table t table.0 named table.1)
      (boolean_part (policy_parts table.0 s) typed.0 typed.1 (own_scope table.0) c.expression (elim h [
        | inl u ↦ in_append_left (clause_parts table.0 s.using) (clause_parts table.0 s.check) _ (clause_part table.0 s.using u)
        | inr k ↦ in_append_right (clause_parts table.0 s.using) (clause_parts table.0 s.check) _ (clause_part table.0 s.check k)
      ]))
    where
      clause_part : (x : TableOf) (o : Option PolicyClause) → o ≡ Some c → Among (record { scope = own_scope x; term = c.expression; expected = Some type.Boolean }) (clause_parts x o)
      clause_part x o is = subst (λ (p : Option PolicyClause). Among (record { scope = own_scope x; term = c.expression; expected = Some type.Boolean }) (clause_parts x p)) (sym is) (inl refl)
