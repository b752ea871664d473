-- The codes with which statements of the database are refused: what each is checked for, and what it does with rows.
use Rattle.std.proofs.Common.{◌≡◌, ◌&&◌, ◌||◌, ℕ, pos, not, nat_le, nat_lt, Bool, true, false, cond, length, bytes_eq, is_none, unwrap_or, take, List, [], ◌∷◌, ◌++◌, map, Option, Some, None, Result, Ok, refl}
use Rattle.std.specs.List.{list_any, list_all}
use Rattle.sql_types.specs.Row.{Row}
use Rattle.sql_types.specs.declared.state.SqlState.{SqlState}
use Rattle.sql_types.specs.declared.state.SqlState.TheVariants.{SyntaxError, UndefinedTable, UndefinedColumn, UndefinedObject, DuplicateAlias, DuplicateTable, DuplicateObject, DuplicateColumn, InsufficientPrivilege, InvalidGrantOperation, DependentObjects, NotNullViolation, UniqueViolation, ProgramLimitExceeded}
use Rattle.sql_types.specs.declared.value.Value.TheVariants.{Bool as Boolean}
use Rattle.sql_ast.specs.Layout.{Layout}
use Rattle.sql_ast.specs.Rows.{fits_record, max_value_length}
use Rattle.sql_ast.specs.Scope.{Table as ScopeTable}
use Rattle.sql_ast.specs.Term.{Term}
use Rattle.sql_ast.specs.declared.scope.ColumnIndex.{ColumnIndex}
use Rattle.sql_ast.specs.declared.privilege.Action.{Action}
use Rattle.sql_ast.specs.declared.privilege.Action.TheVariants as action
use Rattle.sql_ast.specs.declared.privilege.Descriptor.{Descriptor}
use Rattle.sql_ast.specs.declared.role.Membership.{Membership}
use Rattle.sql_ast.specs.declared.statement.DatabaseStatement.{DatabaseStatement}
use Rattle.sql_ast.specs.declared.statement.DatabaseStatement.TheVariants as on_database
use Rattle.sql_ast.specs.declared.statement.DefiningStatement.{DefiningStatement}
use Rattle.sql_ast.specs.declared.statement.DefiningStatement.TheVariants as defining
use Rattle.sql_ast.specs.declared.statement.RowStatement.{RowStatement}
use Rattle.sql_ast.specs.declared.statement.RowStatement.TheVariants as over_rows
use Rattle.sql_ast.specs.declared.statement.SelectList.{SelectList}
use Rattle.sql_ast.specs.declared.statement.SelectList.TheVariants as list
use Rattle.sql_ast.specs.declared.statement.TableExpression.{TableExpression}
use Rattle.sql_ast.specs.declared.statement.TableElement.{TableElement}
use Rattle.sql_ast.specs.declared.statement.TableReference.{TableReference}
use Rattle.sql_ast.specs.declared.statement.CreatePolicy.{CreatePolicy}
use Rattle.sql_ast.specs.declared.statement.Grant.{Grant}
use Rattle.sql_ast.specs.declared.statement.Revoke.{Revoke}
use Rattle.sql_ast.specs.declared.statement.Insert.{Insert}
use Rattle.sql_ast.specs.declared.statement.Update.{Update}
use Rattle.sql_ast.specs.declared.statement.Delete.{Delete}
use Rattle.sql_ast.specs.declared.statement.Select.{Select}
use Rattle.expressions.specs.Outcome.{Outcome, with_value}
use Rattle.expressions.specs.Meaning.{UserNames, and_then}
use Rattle.expressions.specs.Names.{resolved, cell_named}
use Rattle.expressions.specs.Parts.{resolve_parts, check_expressions}
use Rattle.expressions.specs.Stages.{◌>>=◌, require, each}
use Rattle.abstract_database.specs.Lists.{TheName, optional, has_double}
use Rattle.abstract_database.specs.Database.{TableOf, Database, has_role, table_named, is_policy_named, rows_named}
use Rattle.abstract_database.specs.Roles.{is_in, is_superuser, acts_as_owner, may_grant_role, memberships_of, with_memberships}
use Rattle.abstract_database.specs.Privileges.{has_some_privilege, columns_named, privileges_of, granted_by, held_or_refused, revoked}
use Rattle.abstract_database.specs.Expressions.{own_scope, cell_in, when_true, passing, all_of, bound_value, value_on}
use Rattle.abstract_database.specs.Guards.{Guard, Clauses, is_guarded, applicable, guard_formula, guard, existing_guard, new_guard, with_select, using_clause, check_clause}
use Rattle.abstract_database.specs.Queries.{Combination, BoundList, each_column, each_value, their_count, BoundKey, BoundQuery, tables_in, name_in_scope, scope_of, conditions_of, keys_of, select_parts, bound_list, bound_condition, bound_key, bound_query, product, condition_value, with_keys, ordered, listed, Source, query}
use Rattle.abstract_database.specs.Changes.{CheckedInsert, CheckedUpdate, CheckedDelete, keeps_not_null, has_double_key, new_rows, other_rows, condition_on_row, choose, assigned, inserted_row, is_admitted, checked_rows, rows_inserted, rows_updated, rows_deleted}
use Rattle.abstract_database.specs.Checks.{find_definition, require_roles, found_column, grantee_roles, require_owner, require_superuser, has_needed, require_needs, checked_create_role, checked_drop_role, checked_grant_role, checked_revoke_role, is_column_of, checked_layout, checked_create_table, checked_drop_table, checked_alter_table, policy_parts, has_few_roles, checked_create_policy, checked_drop_policy, is_public, checked_grant, checked_revoke, counts_fit, target_columns, insert_parts, condition_parts, set_names, new_values, update_parts, checked_insert, checked_update, checked_delete, checked_select}
use Rattle.abstract_database.specs.Definitions.{is_in_use, definitions_of, key_names, policy_of}
use Rattle.abstract_database.specs.Needs.{Need, needs_of_query, needs_of_insert, needs_of_update, needs_of_delete}
use Rattle.abstract_database.specs.Sizes.{policy_size}
use Rattle.abstract_database.specs.Statements.{as_seen, source_of, define, exec_over_rows, exec_as, exec}
use Rattle.database_laws.specs.Codes.{is_of_statements, statements_have_codes_of_their_own}
use Rattle.database_laws.proofs.CodeLemmas.{Owns, gives, refuses, owned, owns_bind, owns_require, owns_each, owns_found, owns_optional, owns_when, owns_passing, owns_resolved, owns_checked_expressions, owns_resolved_parts, owns_bigint, owns_value, owns_and, owns_value_of, owns_bound}

-- a check, and what comes after it
asks : {B : Type 0} (b : Bool) (code : SqlState) (go : Unit {0} → Result B SqlState) → is_of_statements code ≡ true → ((u : Unit {0}) → Owns (go u)) → Owns (require b code >>= go)
asks true code go h k = k tt
asks false code go h k = refuses h

owns_if : {A : Type 0} (b : Bool) (r q : Result A SqlState) → Owns r → Owns q → Owns (cond b r q)
owns_if true r q h k = h
owns_if false r q h k = k

-- ---- definitions

owns_memberships : (new memberships : List Membership) → Owns (with_memberships new memberships)
owns_memberships [] memberships = gives
owns_memberships (m ∷ ms) memberships = owns_if (is_in memberships m.role m.member) _ _ (refuses refl) (owns_memberships ms _)

owns_held : (cascade : Bool) (set lost : List Descriptor) → Owns (held_or_refused cascade set lost)
owns_held true set lost = gives
owns_held false set [] = gives
owns_held false set (d ∷ ds) = refuses refl

owns_table : (db : Database) (name : TheName) → Owns (find_definition db name)
owns_table db name = owns_found UndefinedTable _ refl

owns_columns : (layout : Layout) (names : List TheName) → Owns (each (found_column layout) names)
owns_columns layout names = owns_each (found_column layout) (λ name. owns_found UndefinedColumn _ refl) names

owns_layout : (elements : List TableElement) (count : ℕ) → Owns (checked_layout elements count)
owns_layout elements count =
    asks (not (has_double (map (λ d. d.column) (definitions_of elements)))) DuplicateColumn _ refl (λ once.
    asks (not (has_double (key_names elements))) DuplicateColumn _ refl (λ key_once.
    asks (list_all (is_column_of (definitions_of elements)) (key_names elements)) UndefinedColumn _ refl (λ found.
    asks (nat_le (length (definitions_of elements)) 16 && nat_lt count 1024) ProgramLimitExceeded _ refl (λ few. gives))))

module _ (db : Database) (users : UserNames) where
  owns_roles : (names : List TheName) → Owns (require_roles db names)
  owns_roles names = owns_require (list_all (has_role db) names) UndefinedObject refl

  owns_owner : (t : TableOf) → Owns (require_owner db users t)
  owns_owner t = owns_require (acts_as_owner db users.current t.owner) InsufficientPrivilege refl

  owns_superuser : Owns (require_superuser db users)
  owns_superuser = owns_require (is_superuser db users.current) InsufficientPrivilege refl

  owns_granting : (names : List TheName) → Owns (require (list_all (may_grant_role db users.current) names) InsufficientPrivilege)
  owns_granting names = owns_require (list_all (may_grant_role db users.current) names) InsufficientPrivilege refl

  owns_create_policy : (s : CreatePolicy) → Owns (checked_create_policy db users s)
  owns_create_policy s =
      owns_bind (find_definition db s.table) _ (owns_table db s.table) (λ t.
      owns_bind (require_roles db (grantee_roles (unwrap_or s.grantees []))) _ (owns_roles (grantee_roles (unwrap_or s.grantees []))) (λ named.
      asks (not (list_any (is_policy_named s.table s.policy) db.policies)) DuplicateObject _ refl (λ new.
      owns_bind (resolve_parts (policy_parts t s)) _ (owns_resolved_parts (policy_parts t s)) (λ found.
      owns_bind (check_expressions (policy_parts t s)) _ (owns_checked_expressions (policy_parts t s)) (λ typed.
      owns_bind (require_owner db users t) _ (owns_owner t) (λ allowed.
      owns_require (has_few_roles (policy_of s).roles && nat_le (policy_size (policy_of s)) max_value_length) ProgramLimitExceeded refl))))))

  owns_grant : (s : Grant) → Owns (checked_grant db users s)
  owns_grant s =
      owns_bind (find_definition db s.table) _ (owns_table db s.table) (λ t.
      owns_bind (require_roles db (grantee_roles s.grantees)) _ (owns_roles (grantee_roles s.grantees)) (λ named.
      owns_bind (each (found_column t.layout) (columns_named s.privileges)) _ (owns_columns t.layout (columns_named s.privileges)) (λ columns.
      asks (has_some_privilege db users.current s.table) InsufficientPrivilege _ refl (λ allowed.
      asks (not (s.with_grant_option && list_any is_public s.grantees)) InvalidGrantOperation _ refl (λ not_public. gives)))))

  owns_revoke : (s : Revoke) → Owns (checked_revoke db users s)
  owns_revoke s =
      owns_bind (find_definition db s.table) _ (owns_table db s.table) (λ t.
      owns_bind (require_roles db (grantee_roles s.grantees)) _ (owns_roles (grantee_roles s.grantees)) (λ named.
      owns_bind (each (found_column t.layout) (columns_named s.privileges)) _ (owns_columns t.layout (columns_named s.privileges)) (λ columns.
      asks (has_some_privilege db users.current s.table) InsufficientPrivilege _ refl (λ allowed.
      owns_bind (revoked s.grant_option_for s.behavior (granted_by db users.current t (privileges_of t.layout s.privileges) s.grantees false) db.descriptors) _ (owns_held _ _ _) (λ descriptors. gives)))))

  owns_definition : (x : DefiningStatement) → Owns (define db users x)
  owns_definition (defining.CreateRole s) = owns_bind (checked_create_role db users s) _ (asks (not (has_role db s.role)) DuplicateObject _ refl (λ named. owns_superuser)) (λ u. gives)
  owns_definition (defining.DropRole s) =
      owns_bind (checked_drop_role db users s) _ (owns_bind (require_roles db (s.role ∷ [])) _ (owns_roles (s.role ∷ [])) (λ named. owns_bind (require_superuser db users) _ owns_superuser (λ allowed.
      owns_require (not (is_in_use db s.role || bytes_eq users.current s.role || bytes_eq users.session s.role)) DependentObjects refl))) (λ u. gives)
  owns_definition (defining.GrantRole s) =
      owns_bind (checked_grant_role db users s) _ (owns_bind (require_roles db (s.roles ++ s.members)) _ (owns_roles (s.roles ++ s.members)) (λ named.
      owns_bind (require (list_all (may_grant_role db users.current) s.roles) InsufficientPrivilege) _ (owns_granting s.roles) (λ allowed. owns_memberships (memberships_of s.roles s.members s.with_admin_option) db.memberships))) (λ u. gives)
  owns_definition (defining.RevokeRole s) = owns_bind (checked_revoke_role db users s) _ (owns_bind (require_roles db (s.roles ++ s.members)) _ (owns_roles (s.roles ++ s.members)) (λ named. owns_granting s.roles)) (λ u. gives)
  owns_definition (defining.CreateTable s) = owns_bind (checked_create_table db users s) _ (asks (is_none (table_named db s.table)) DuplicateTable _ refl (λ named. owns_layout s.elements (length db.tables))) (λ u. gives)
  owns_definition (defining.DropTable s) = owns_bind (checked_drop_table db users s) _ (owns_bind (find_definition db s.table) _ (owns_table db s.table) (λ t. owns_owner t)) (λ u. gives)
  owns_definition (defining.AlterTable s) = owns_bind (checked_alter_table db users s) _ (owns_bind (find_definition db s.table) _ (owns_table db s.table) (λ t. owns_owner t)) (λ u. gives)
  owns_definition (defining.CreatePolicy s) = owns_bind (checked_create_policy db users s) _ (owns_create_policy s) (λ u. gives)
  owns_definition (defining.DropPolicy s) =
      owns_bind (checked_drop_policy db users s) _ (owns_bind (find_definition db s.table) _ (owns_table db s.table) (λ t.
      asks (list_any (is_policy_named s.table s.policy) db.policies) UndefinedObject _ refl (λ named. owns_owner t))) (λ u. gives)
  owns_definition (defining.Grant s) = owns_bind (checked_grant db users s) _ (owns_grant s) (λ t. gives)
  owns_definition (defining.Revoke s) = owns_bind (checked_revoke db users s) _ (owns_revoke s) (λ c. gives)

  -- ---- guards

  owns_guard : (t : TableOf) (a : Action) (clause : Clauses) (row : Row) → Owns (guard db users t a clause row)
  owns_guard t a clause row =
      owns_if (is_guarded db users.current t) (value_on (own_scope t) users (row ∷ []) (guard_formula clause (applicable db users.current t a))) (Ok (Boolean true))
      (owns_value_of (cell_named (own_scope t) (cell_in (row ∷ []))) users (guard_formula clause (applicable db users.current t a))) gives

  owns_with_select : (t : TableOf) (reads : Bool) (first : Guard) → ((row : Row) → Owns (first row)) → (row : Row) → Owns (with_select db users t reads first row)
  owns_with_select t false first h row = h row
  owns_with_select t true first h row = owns_bind (first row) _ (h row) (λ v. owns_when v (guard db users t action.Select using_clause row) (Ok v) (owns_guard t action.Select using_clause row) gives)

  owns_existing : (t : TableOf) (a : Action) (reads : Bool) (row : Row) → Owns (existing_guard db users t a reads row)
  owns_existing t action.Select reads row = owns_guard t action.Select using_clause row
  owns_existing t action.Insert reads row = gives
  owns_existing t action.Update reads row = owns_with_select t reads _ (owns_guard t action.Update using_clause) row
  owns_existing t action.Delete reads row = owns_with_select t reads _ (owns_guard t action.Delete using_clause) row

  owns_new : (t : TableOf) (a : Action) (reads : Bool) (row : Row) → Owns (new_guard db users t a reads row)
  owns_new t action.Insert reads row = owns_guard t action.Insert check_clause row
  owns_new t action.Update reads row = owns_with_select t reads _ (owns_guard t action.Update check_clause) row
  owns_new t action.Select reads row = gives
  owns_new t action.Delete reads row = gives

-- ---- rows

owns_rows : (layout : Layout) (g : Guard) (others new : List Row) → ((row : Row) → Owns (g row)) → Owns (checked_rows layout g others new)
owns_rows layout g others new h =
    owns_bind (each (is_admitted g) new) _ (owns_each (is_admitted g) (λ row. owns_bind (g row) _ (h row) (λ v. owns_require (when_true v true false) InsufficientPrivilege refl)) new) (λ admitted.
    asks (list_all (keeps_not_null layout.columns) new) NotNullViolation _ refl (λ filled.
    asks (list_all (fits_record layout) new) ProgramLimitExceeded _ refl (λ sized.
    asks (not (has_double_key layout.key (others ++ new))) UniqueViolation _ refl (λ unique. gives))))

module _ (users : UserNames) where
  owns_each_bound : (rows : List Row) (terms : List (Term ColumnIndex)) → Owns (each (bound_value users rows) terms)
  owns_each_bound rows terms = owns_each (bound_value users rows) (owns_bound users rows) terms

  owns_condition : (condition : Option (Term ColumnIndex)) (row : Row) → Owns (condition_on_row users condition row)
  owns_condition None row = gives
  owns_condition (Some term) row = owns_bound users (row ∷ []) term

  owns_chosen : (g : Guard) (condition : Option (Term ColumnIndex)) (becomes : Row → Result Row SqlState) → ((row : Row) → Owns (g row)) → ((row : Row) → Owns (becomes row)) → (row : Row) →
      Owns (choose g (condition_on_row users condition) becomes row)
  owns_chosen g condition becomes h k row =
      owns_bind (g row) _ (h row) (λ visible.
      owns_bind (when_true visible (condition_on_row users condition row) (Ok (Boolean false))) _ (owns_when visible (condition_on_row users condition row) (Ok (Boolean false)) (owns_condition condition row) gives) (λ chosen.
      owns_bind (when_true chosen (becomes row >>= λ r. Ok (Some r)) (Ok None)) _ (owns_when chosen (becomes row >>= λ r. Ok (Some r)) (Ok None) (owns_bind (becomes row) _ (k row) (λ r. gives)) gives) (λ new. gives)))

  owns_inserted : (g : Guard) → ((row : Row) → Owns (g row)) → (c : CheckedInsert) (rows : List Row) → Owns (rows_inserted g users c rows)
  owns_inserted g h c rows =
      owns_bind _ _ (owns_each (inserted_row c.table.layout users c.columns) (λ terms. owns_bind (each (bound_value users []) terms) _ (owns_each_bound [] terms) (λ values. gives)) c.rows) (λ new.
      owns_rows c.table.layout g rows new h)

  owns_updated : (existing admitting : Guard) → ((row : Row) → Owns (existing row)) → ((row : Row) → Owns (admitting row)) → (c : CheckedUpdate) (rows : List Row) → Owns (rows_updated existing admitting users c rows)
  owns_updated existing admitting h k c rows =
      owns_bind _ _ (owns_each (choose existing (condition_on_row users c.condition) (assigned users c.columns c.values))
      (owns_chosen existing c.condition (assigned users c.columns c.values) h (λ row. owns_bind (each (bound_value users (row ∷ [])) c.values) _ (owns_each_bound (row ∷ []) c.values) (λ values. gives))) rows) (λ chosen.
      owns_bind (checked_rows c.table.layout admitting (other_rows chosen) (new_rows chosen)) _ (owns_rows c.table.layout admitting (other_rows chosen) (new_rows chosen) k) (λ after. gives))

  owns_deleted : (existing : Guard) → ((row : Row) → Owns (existing row)) → (c : CheckedDelete) (rows : List Row) → Owns (rows_deleted existing users c rows)
  owns_deleted existing h c rows =
      owns_bind _ _ (owns_each (choose existing (condition_on_row users c.condition) (λ row. Ok row)) (owns_chosen existing c.condition (λ row. Ok row) h (λ row. gives)) rows) (λ chosen. gives)

  -- ---- queries

  owns_conditions_from : (c : Combination) (left : Outcome) (terms : List (Term ColumnIndex)) → Owns left → Owns (all_of (left ∷ map (bound_value users c) terms))
  owns_conditions_from c left [] h = h
  owns_conditions_from c left (term ∷ terms) h =
      owns_conditions_from c (with_value left (λ v. and_then v (bound_value users c term))) terms (owns_value left _ h (λ v. owns_and v (bound_value users c term) (owns_bound users c term)))

  owns_conditions : (terms : List (Term ColumnIndex)) (c : Combination) → Owns (condition_value users terms c)
  owns_conditions [] c = gives
  owns_conditions (term ∷ terms) c = owns_conditions_from c (bound_value users c term) terms (owns_bound users c term)

  owns_ordered : (keys : List BoundKey) (limit : Option ℕ) (cs : List Combination) → Owns (ordered users keys limit cs)
  owns_ordered keys limit cs =
      owns_bind _ _ (owns_each (with_keys users keys) (λ c. owns_bind _ _ (owns_each (λ (key : BoundKey). bound_value users c key.term) (λ key. owns_bound users c key.term) keys) (λ values. gives)) cs) (λ keyed. gives)

  owns_listed : (l : BoundList) (keys : List BoundKey) (limit : Option ℕ) (cs : List Combination) → Owns (listed users l keys limit cs)
  owns_listed their_count keys limit cs = owns_bind _ _ (owns_bigint (pos (length cs))) (λ count. gives)
  owns_listed each_column keys limit cs = owns_bind _ _ (owns_ordered keys limit cs) (λ rows. gives)
  owns_listed (each_value terms) keys limit cs = owns_bind _ _ (owns_ordered keys limit cs) (λ rows. owns_each (λ row. each (bound_value users row) terms) (λ row. owns_each_bound row terms) rows)

owns_list : (scope : List ScopeTable) (l : SelectList) → Owns (bound_list scope l)
owns_list scope list.Asterisk = gives
owns_list scope (list.Expressions terms) = owns_bind (each (resolved scope) terms) _ (owns_each (resolved scope) (owns_resolved scope) terms) (λ bound. gives)
owns_list scope list.Count = gives

owns_bound_query : (scope : List ScopeTable) (l : SelectList) (source : Option TableExpression) → Owns (bound_query scope l source)
owns_bound_query scope l source =
    owns_bind _ _ (owns_list scope l) (λ bound.
    owns_bind _ _ (owns_each (bound_condition scope) (λ c. owns_resolved (take c.tables scope) c.term) (conditions_of source)) (λ conditions.
    owns_bind _ _ (owns_each (bound_key scope) (λ key. owns_bind (resolved scope key.value) _ (owns_resolved scope key.value) (λ bound. gives)) (keys_of source)) (λ keys.
    owns_bind _ _ (owns_checked_expressions (select_parts scope l source)) (λ types. gives))))

-- ---- statements over rows

owns_target : (layout : Layout) (s : Insert) → Owns (target_columns layout s)
owns_target layout s = by s.columns where
  by : (o : Option (List TheName)) → Owns (target_columns layout (record s { columns = o }))
  by None = gives
  by (Some names) = owns_columns layout names

module _ (db : Database) (users : UserNames) where
  owns_needs : (needs : List Need) → Owns (require_needs db users needs)
  owns_needs needs = owns_require (list_all (has_needed db users) needs) InsufficientPrivilege refl

  owns_insert_checks : (s : Insert) → Owns (checked_insert db users s)
  owns_insert_checks s =
      owns_bind (find_definition db s.table) _ (owns_table db s.table) (λ t.
      asks (not (has_double (unwrap_or s.columns []))) DuplicateColumn _ refl (λ once.
      asks (list_all (counts_fit t.layout s.columns) s.rows) SyntaxError _ refl (λ fits.
      owns_bind (target_columns t.layout s) _ (owns_target t.layout s) (λ columns.
      owns_bind (each (each (resolved [])) s.rows) _ (owns_each (each (resolved [])) (λ terms. owns_each (resolved []) (owns_resolved []) terms) s.rows) (λ rows.
      owns_bind (check_expressions (insert_parts t.layout columns s.rows)) _ (owns_checked_expressions (insert_parts t.layout columns s.rows)) (λ types.
      owns_bind (require_needs db users (needs_of_insert t columns)) _ (owns_needs (needs_of_insert t columns)) (λ allowed.
      asks (nat_le (length s.rows) 256) ProgramLimitExceeded _ refl (λ few. gives))))))))

  owns_update_checks : (s : Update) → Owns (checked_update db users s)
  owns_update_checks s =
      owns_bind (find_definition db s.table) _ (owns_table db s.table) (λ t.
      asks (not (has_double (set_names s))) DuplicateColumn _ refl (λ once.
      owns_bind (each (found_column t.layout) (set_names s)) _ (owns_columns t.layout (set_names s)) (λ columns.
      owns_bind (each (resolved (own_scope t)) (new_values s)) _ (owns_each (resolved (own_scope t)) (owns_resolved (own_scope t)) (new_values s)) (λ values.
      owns_bind (optional (resolved (own_scope t)) s.condition) _ (owns_optional (resolved (own_scope t)) (owns_resolved (own_scope t)) s.condition) (λ condition.
      owns_bind (check_expressions (update_parts t columns s)) _ (owns_checked_expressions (update_parts t columns s)) (λ types.
      owns_bind (require_needs db users (needs_of_update t columns values condition)) _ (owns_needs (needs_of_update t columns values condition)) (λ allowed. gives)))))))

  owns_delete_checks : (s : Delete) → Owns (checked_delete db users s)
  owns_delete_checks s =
      owns_bind (find_definition db s.table) _ (owns_table db s.table) (λ t.
      owns_bind (optional (resolved (own_scope t)) s.condition) _ (owns_optional (resolved (own_scope t)) (owns_resolved (own_scope t)) s.condition) (λ condition.
      owns_bind (check_expressions (condition_parts t s.condition)) _ (owns_checked_expressions (condition_parts t s.condition)) (λ types.
      owns_bind (require_needs db users (needs_of_delete t condition)) _ (owns_needs (needs_of_delete t condition)) (λ allowed. gives))))

  owns_select_checks : (s : Select) → Owns (checked_select db users s)
  owns_select_checks s =
      owns_bind (each (λ r. find_definition db r.table) (tables_in s.source)) _ (owns_each (λ (r : TableReference). find_definition db r.table) (λ r. owns_table db r.table) (tables_in s.source)) (λ tables.
      asks (not (has_double (map name_in_scope (tables_in s.source)))) DuplicateAlias _ refl (λ once.
      owns_bind (bound_query (scope_of (tables_in s.source) tables) s.list s.source) _ (owns_bound_query (scope_of (tables_in s.source) tables) s.list s.source) (λ q.
      owns_bind (require_needs db users (needs_of_query tables q)) _ (owns_needs (needs_of_query tables q)) (λ allowed.
      asks (nat_le (length tables) 4) ProgramLimitExceeded _ refl (λ few. gives)))))

  owns_query : (tables : List TableOf) (q : BoundQuery) → Owns (query (map (source_of db users) tables) users q)
  owns_query tables q =
      owns_bind _ _ (visible tables) (λ rows.
      owns_bind _ _ (owns_passing (condition_value users q.conditions) (owns_conditions users q.conditions) (product rows)) (λ chosen.
      owns_listed users q.list q.keys q.limit chosen))
    where
      visible : (tables : List TableOf) → Owns (each (λ (s : Source). passing s.guard s.rows) (map (source_of db users) tables))
      visible [] = gives
      visible (t ∷ ts) = owns_bind _ _ (owns_passing (existing_guard db users t action.Select true) (owns_existing db users t action.Select true) (rows_named db t.name)) (λ rows. owns_bind _ _ (visible ts) (λ others. gives))

  owns_row_statement : (x : RowStatement) → Owns (exec_over_rows db users x)
  owns_row_statement (over_rows.Insert s) =
      owns_bind _ _ (owns_insert_checks s) (λ c. owns_bind _ _ (owns_inserted users (new_guard db users c.table action.Insert false) (owns_new db users c.table action.Insert false) c (rows_named db c.table.name)) (λ rows. gives))
  owns_row_statement (over_rows.Update s) =
      owns_bind _ _ (owns_update_checks s) (λ c.
      owns_bind _ _ (owns_updated users (existing_guard db users c.table action.Update c.reads) (new_guard db users c.table action.Update c.reads) (owns_existing db users c.table action.Update c.reads) (owns_new db users c.table action.Update c.reads) c (rows_named db c.table.name)) (λ changed. gives))
  owns_row_statement (over_rows.Delete s) =
      owns_bind _ _ (owns_delete_checks s) (λ c. owns_bind _ _ (owns_deleted users (existing_guard db users c.table action.Delete c.reads) (owns_existing db users c.table action.Delete c.reads) c (rows_named db c.table.name)) (λ changed. gives))
  owns_row_statement (over_rows.Select s) =
      owns_bind _ _ (owns_select_checks s) (λ c. owns_bind _ _ (owns_query c.tables c.query) (λ rows. gives))

  owns_statement : (x : DatabaseStatement) → Owns (exec_as db users x)
  owns_statement (on_database.Defining x) = owns_definition db users x
  owns_statement (on_database.OverRows x) = owns_row_statement x

pub exec_owns : statements_have_codes_of_their_own
exec_owns db pair x code is = owned (exec db pair x) code (owns_statement db (as_seen pair db) x) is
