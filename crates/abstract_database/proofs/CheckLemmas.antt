-- What passed checks say of the database and of the statement.
use Rattle.std.proofs.Common.{map, ◌++◌, unwrap_or, option_to_list, ◌≡◌, Bool, true, false, cond, not, nat_le, length, List, [], ◌∷◌, find, Option, Some, None, Ok, refl, ap, ◌∙◌, sym}
use Rattle.std.specs.List.{list_all}
use Rattle.std.specs.Option.{option_map}
use Rattle.sql_types.specs.declared.state.SqlState.TheVariants.{DuplicateAlias, DuplicateColumn, SyntaxError, ProgramLimitExceeded, InsufficientPrivilege, UndefinedTable}
use Rattle.sql_ast.specs.declared.statement.Insert.{Insert}
use Rattle.sql_ast.specs.declared.statement.Update.{Update}
use Rattle.sql_ast.specs.declared.statement.Delete.{Delete}
use Rattle.sql_ast.specs.declared.statement.Select.{Select}
use Rattle.expressions.specs.Meaning.{UserNames}
use Rattle.expressions.specs.Names.{resolved}
use Rattle.expressions.specs.Parts.{check_expressions}
use Rattle.expressions.specs.Stages.{require, each}
use Rattle.abstract_database.specs.Lists.{TheName, found_or, optional, has_double}
use Rattle.abstract_database.specs.Database.{TableOf, Table, Database, table_named, is_table_named, rows_in, rows_named}
use Rattle.abstract_database.specs.Expressions.{own_scope}
use Rattle.abstract_database.specs.Needs.{has_any, columns_read, needs_of_query, needs_of_insert, needs_of_update, needs_of_delete}
use Rattle.abstract_database.specs.Queries.{tables_in, name_in_scope, scope_of, bound_query, CheckedSelect}
use Rattle.abstract_database.specs.Changes.{CheckedInsert, CheckedUpdate, CheckedDelete}
use Rattle.abstract_database.specs.Checks.{find_definition, has_needed, require_needs, counts_fit, found_column, target_columns, insert_parts, set_names, new_values, update_parts, condition_parts, checked_insert, checked_update, checked_delete, checked_select}
use Rattle.abstract_database.proofs.ListLemmas.{bytes_same}
use Rattle.abstract_database.proofs.ResultLemmas.{ok_inside, Every, every_bind, every_ok, require_ok}

-- ---- tables that were found

find_at : {X : Type 0} (p : X → Bool) (y : X) (ys : List X) (x : X) (b : Bool) → p y ≡ b → cond b (Some y) (find p ys) ≡ Some x → (find p ys ≡ Some x → p x ≡ true) → p x ≡ true
find_at p y ys x true e f go = sym (ap p (some_is f)) ∙ e where
  some_is : Some y ≡ Some x → y ≡ x
  some_is f = cc
find_at p y ys x false e f go = go f

pub find_passes : {X : Type 0} (p : X → Bool) (xs : List X) (x : X) → find p xs ≡ Some x → p x ≡ true
find_passes p [] x e = cc
find_passes p (y ∷ ys) x e = find_at p y ys x (p y) refl e (find_passes p ys x)

-- the table of a definition that was found
pub record Found (db : Database) (name : TheName) (d : TableOf) : Type 0 where
  pub table : Table
  pub named : table_named db name ≡ Some table
  pub is : table.definition ≡ d
  pub own : d.name ≡ name

definition_of : (db : Database) (name : TheName) (d : TableOf) (o : Option Table) → table_named db name ≡ o → found_or UndefinedTable (option_map (λ t. t.definition) o) ≡ Ok d → Found db name d
definition_of db name d (Some t) at e =
    let is : t.definition ≡ d = ok_inside t.definition d e in
    record { table = t; named = at; is = is; own = ap (λ (x : TableOf). x.name) (sym is) ∙ bytes_same t.definition.name name (find_passes (is_table_named name) db.tables t at) }
definition_of db name d None at e = cc

pub found_definition : (db : Database) (name : TheName) (d : TableOf) → find_definition db name ≡ Ok d → Found db name d
found_definition db name d e = definition_of db name d (table_named db name) refl e

-- its rows are those of its name
pub found_rows : (db : Database) (name : TheName) (d : TableOf) (f : Found db name d) → rows_named db d.name ≡ f.table.rows
found_rows db name d f = ap (rows_named db) f.own ∙ ap rows_in f.named

-- ---- what each check says

pub record InsertFacts (db : Database) (users : UserNames) (s : Insert) (c : CheckedInsert) : Type 0 where
  pub found : find_definition db s.table ≡ Ok c.table
  pub counted : list_all (counts_fit c.table.layout s.columns) s.rows ≡ true
  pub columns : target_columns c.table.layout s ≡ Ok c.columns
  pub bound : each (each (resolved [])) s.rows ≡ Ok c.rows
  pub types : List (Unit {0})
  pub typed : check_expressions (insert_parts c.table.layout c.columns s.rows) ≡ Ok types
  pub allowed : list_all (has_needed db users) (needs_of_insert c.table c.columns) ≡ true

pub insert_checked : (db : Database) (users : UserNames) (s : Insert) → Every (InsertFacts db users s) (checked_insert db users s)
insert_checked db users s =
    let P = InsertFacts db users s in
    every_bind P (find_definition db s.table) _ (λ table table-is.
    every_bind P (require (not (has_double (unwrap_or s.columns []))) DuplicateColumn) _ (λ once once-is.
    every_bind P (require (list_all (counts_fit table.layout s.columns) s.rows) SyntaxError) _ (λ counted counted-is.
    every_bind P (target_columns table.layout s) _ (λ columns columns-is.
    every_bind P (each (each (resolved [])) s.rows) _ (λ rows rows-is.
    every_bind P (check_expressions (insert_parts table.layout columns s.rows)) _ (λ types types-is.
    every_bind P (require_needs db users (needs_of_insert table columns)) _ (λ allowed allowed-is.
    every_bind P (require (nat_le (length s.rows) 256) ProgramLimitExceeded) _ (λ few few-is.
    every_ok P (record { table = table; columns = columns; rows = rows }) (record {
      found = table-is;
      counted = require_ok (list_all (counts_fit table.layout s.columns) s.rows) SyntaxError counted counted-is;
      columns = columns-is;
      bound = rows-is;
      types = types;
      typed = types-is;
      allowed = require_ok (list_all (has_needed db users) (needs_of_insert table columns)) InsufficientPrivilege allowed allowed-is;
    })))))))))

pub record UpdateFacts (db : Database) (users : UserNames) (s : Update) (c : CheckedUpdate) : Type 0 where
  pub found : find_definition db s.table ≡ Ok c.table
  pub columns : each (found_column c.table.layout) (set_names s) ≡ Ok c.columns
  pub bound : each (resolved (own_scope c.table)) (new_values s) ≡ Ok c.values
  pub condition : optional (resolved (own_scope c.table)) s.condition ≡ Ok c.condition
  pub types : List (Unit {0})
  pub typed : check_expressions (update_parts c.table c.columns s) ≡ Ok types
  pub allowed : list_all (has_needed db users) (needs_of_update c.table c.columns c.values c.condition) ≡ true
  pub reads : c.reads ≡ has_any (columns_read 0 (c.values ++ option_to_list c.condition))

pub update_checked : (db : Database) (users : UserNames) (s : Update) → Every (UpdateFacts db users s) (checked_update db users s)
update_checked db users s =
    let P = UpdateFacts db users s in
    every_bind P (find_definition db s.table) _ (λ table table-is.
    every_bind P (require (not (has_double (set_names s))) DuplicateColumn) _ (λ once once-is.
    every_bind P (each (found_column table.layout) (set_names s)) _ (λ columns columns-is.
    every_bind P (each (resolved (own_scope table)) (new_values s)) _ (λ values values-is.
    every_bind P (optional (resolved (own_scope table)) s.condition) _ (λ condition condition-is.
    every_bind P (check_expressions (update_parts table columns s)) _ (λ types types-is.
    every_bind P (require_needs db users (needs_of_update table columns values condition)) _ (λ allowed allowed-is.
    every_ok P (record { table = table; columns = columns; values = values; condition = condition; reads = has_any (columns_read 0 (values ++ option_to_list condition)) }) (record {
      found = table-is;
      columns = columns-is;
      bound = values-is;
      condition = condition-is;
      types = types;
      typed = types-is;
      allowed = require_ok (list_all (has_needed db users) (needs_of_update table columns values condition)) InsufficientPrivilege allowed allowed-is;
      reads = refl;
    }))))))))

pub record DeleteFacts (db : Database) (users : UserNames) (s : Delete) (c : CheckedDelete) : Type 0 where
  pub found : find_definition db s.table ≡ Ok c.table
  pub condition : optional (resolved (own_scope c.table)) s.condition ≡ Ok c.condition
  pub types : List (Unit {0})
  pub typed : check_expressions (condition_parts c.table s.condition) ≡ Ok types
  pub allowed : list_all (has_needed db users) (needs_of_delete c.table c.condition) ≡ true
  pub reads : c.reads ≡ has_any (columns_read 0 (option_to_list c.condition))

pub delete_checked : (db : Database) (users : UserNames) (s : Delete) → Every (DeleteFacts db users s) (checked_delete db users s)
delete_checked db users s =
    let P = DeleteFacts db users s in
    every_bind P (find_definition db s.table) _ (λ table table-is.
    every_bind P (optional (resolved (own_scope table)) s.condition) _ (λ condition condition-is.
    every_bind P (check_expressions (condition_parts table s.condition)) _ (λ types types-is.
    every_bind P (require_needs db users (needs_of_delete table condition)) _ (λ allowed allowed-is.
    every_ok P (record { table = table; condition = condition; reads = has_any (columns_read 0 (option_to_list condition)) }) (record {
      found = table-is;
      condition = condition-is;
      types = types;
      typed = types-is;
      allowed = require_ok (list_all (has_needed db users) (needs_of_delete table condition)) InsufficientPrivilege allowed allowed-is;
      reads = refl;
    })))))

pub record SelectFacts (db : Database) (users : UserNames) (s : Select) (c : CheckedSelect) : Type 0 where
  pub found : each (λ r. find_definition db r.table) (tables_in s.source) ≡ Ok c.tables
  pub bound : bound_query (scope_of (tables_in s.source) c.tables) s.list s.source ≡ Ok c.query
  pub allowed : list_all (has_needed db users) (needs_of_query c.tables c.query) ≡ true

pub select_checked : (db : Database) (users : UserNames) (s : Select) → Every (SelectFacts db users s) (checked_select db users s)
select_checked db users s =
    let P = SelectFacts db users s in
    every_bind P (each (λ r. find_definition db r.table) (tables_in s.source)) _ (λ tables tables-is.
    every_bind P (require (not (has_double (map name_in_scope (tables_in s.source)))) DuplicateAlias) _ (λ once once-is.
    every_bind P (bound_query (scope_of (tables_in s.source) tables) s.list s.source) _ (λ query query-is.
    every_bind P (require_needs db users (needs_of_query tables query)) _ (λ allowed allowed-is.
    every_bind P (require (nat_le (length tables) 4) ProgramLimitExceeded) _ (λ few few-is.
    every_ok P (record { tables = tables; query = query }) (record {
      found = tables-is;
      bound = query-is;
      allowed = require_ok (list_all (has_needed db users) (needs_of_query tables query)) InsufficientPrivilege allowed allowed-is;
    }))))))
