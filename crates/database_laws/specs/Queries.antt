-- Laws of SELECT and of row security.
use Rattle.std.specs.Prelude.{◌≡◌, ◌<◌, ◌≤◌, ℕ, pos, map, length, slice_get, Result, true, false, List, [], ◌∷◌, bytes_eq, Option, Some, None, Ok}
use Rattle.sql_types.specs.declared.state.SqlState.{SqlState}
use Rattle.sql_types.specs.declared.value.Value.TheVariants.{Int, Bool as Boolean}
use Rattle.sql_types.specs.declared.answer.Answer.TheVariants as answer
use Rattle.sql_ast.specs.declared.expression.ColumnName.{ColumnName}
use Rattle.sql_ast.specs.declared.privilege.Action.{Action}
use Rattle.sql_ast.specs.declared.privilege.Action.TheVariants as action
use Rattle.sql_ast.specs.declared.policy.Policy.{Policy}
use Rattle.sql_ast.specs.declared.statement.Select.{Select}
use Rattle.sql_ast.specs.declared.statement.SelectList.{SelectList}
use Rattle.sql_ast.specs.declared.statement.SelectList.TheVariants as list
use Rattle.sql_ast.specs.declared.statement.FromClause.TheVariants as from
use Rattle.sql_ast.specs.declared.statement.TableReference.{TableReference}
use Rattle.sql_ast.specs.declared.statement.SortKey.{SortKey}
use Rattle.sql_ast.specs.declared.scope.ColumnIndex.{ColumnIndex}
use Rattle.sql_ast.specs.Scope.{Table as ScopeTable, found_in}
use Rattle.sql_ast.specs.Term.{Term}
use Rattle.expressions.specs.Meaning.{UserNames}
use Rattle.expressions.specs.Parts.{Part}
use Rattle.abstract_database.specs.Lists.{TheName, Among}
use Rattle.expressions.specs.Stages.{each}
use Rattle.abstract_database.specs.Database.{TableOf, Table, Database, table_named}
use Rattle.sql_types.specs.Row.{Row}
use Rattle.abstract_database.specs.Privileges.{on_column, has_privilege, has_on_some_column}
use Rattle.abstract_database.specs.Guards.{Clauses, is_guarded, is_permissive, guard, using_clause}
use Rattle.abstract_database.specs.Expressions.{columns_in, value_on}
use Rattle.abstract_database.specs.Queries.{tables_in, scope_of, select_parts, conditions_of, limit_of, Combination, product, all_columns}
use Rattle.abstract_database.specs.Statements.{Effect, effect, select}
use Rattle.abstract_database.specs.Checks.{find_table, find_definition}
use Rattle.database_laws.specs.Visible.{visible_of}

-- ---- SELECT

-- a SELECT that is not refused has SELECT on each table of FROM, or on one of its columns at least
abbrev pub only_with_select : Type 0
only_with_select = (db : Database) (users : UserNames) (s : Select) (e : Effect) → select db users s ≡ Ok e →
    (r : TableReference) → Among r (tables_in s.source) → has_on_some_column db users.current r.table action.Select ≡ true

-- and on each column that one of its expressions names
abbrev pub naming_needs_select : Type 0
naming_needs_select = (db : Database) (users : UserNames) (s : Select) (e : Effect) (tables : List TableOf) → each (λ r. find_definition db r.table) (tables_in s.source) ≡ Ok tables → select db users s ≡ Ok e →
    (p : Part) (c : ColumnName) (index : ColumnIndex) (t : TableOf) → Among p (select_parts (scope_of (tables_in s.source) tables) s.list s.source) → Among c (columns_in p.term) →
    found_in p.scope c ≡ Ok index → slice_get tables index.table ≡ Some t → has_privilege db users.current t.name (on_column action.Select index.column) ≡ true

-- and with "*" on each column of each table
abbrev pub asterisk_needs_select : Type 0
asterisk_needs_select = (db : Database) (users : UserNames) (s : Select) (e : Effect) (tables : List TableOf) → each (λ r. find_definition db r.table) (tables_in s.source) ≡ Ok tables → select db users s ≡ Ok e →
    s.list ≡ list.Asterisk → (t : TableOf) (index : ℕ) → Among t tables → index < length t.layout.columns → has_privilege db users.current t.name (on_column action.Select index) ≡ true

-- SELECT * FROM name [WHERE ..] [ORDER BY ..] [LIMIT ..]
abbrev pub all_of_table : TheName → Option (Term ColumnName) → Option (List SortKey) → Option ℕ → Select
all_of_table name condition order limit = record {
  list = list.Asterisk;
  source = Some (record { tables = from.List (record { table = name; alias = None } ∷ []); condition = condition; order = order; limit = limit });
}

-- each row that is answered is one of the table, and passed the guard
abbrev pub shown_rows_passed : Type 0
shown_rows_passed = (db : Database) (users : UserNames) (name : TheName) (table : Table) (condition : Option (Term ColumnName)) (order : Option (List SortKey)) (limit : Option ℕ) (rows : List Row) →
    table_named db name ≡ Some table → select db users (all_of_table name condition order limit) ≡ Ok (effect (answer.Rows rows) db) →
    (row : Row) → Among row rows → Among row table.rows × (guard db users table.definition action.Select using_clause row ≡ Ok (Boolean true))

-- without WHERE and LIMIT each row of the table that passes the guard is answered
abbrev pub passing_rows_are_shown : Type 0
passing_rows_are_shown = (db : Database) (users : UserNames) (name : TheName) (table : Table) (order : Option (List SortKey)) (rows : List Row) →
    table_named db name ≡ Some table → select db users (all_of_table name None order None) ≡ Ok (effect (answer.Rows rows) db) →
    (row : Row) → Among row table.rows → guard db users table.definition action.Select using_clause row ≡ Ok (Boolean true) → Among row rows

-- a row of each table, each of which passed its table's guard
abbrev pub IsPassing : Database → UserNames → List Table → Combination → Type 0
IsPassing db users [] [] = Unit {0}
IsPassing db users (t ∷ ts) (row ∷ rows) = Among row t.rows × (guard db users t.definition action.Select using_clause row ≡ Ok (Boolean true)) × IsPassing db users ts rows
IsPassing db users [] (row ∷ rows) = ⊥
IsPassing db users (t ∷ ts) [] = ⊥

-- what the list of a SELECT makes of combinations of rows
abbrev pub listed_of : List ScopeTable → UserNames → SelectList → List Combination → Result (List Row) SqlState
listed_of scope users list.Asterisk cs = Ok (map all_columns cs)
listed_of scope users (list.Expressions terms) cs = each (λ c. each (value_on scope users c) terms) cs
listed_of scope users list.Count cs = Ok ((Int (pos (length cs)) ∷ []) ∷ [])

-- an answer that is made of combinations of rows of the statement's tables, each of which passed
pub record IsMadeOfPassing (db : Database) (users : UserNames) (s : Select) (rows : List Row) : Type 0 where
  pub tables : List Table
  pub named : each (λ r. find_table db r.table) (tables_in s.source) ≡ Ok tables
  pub combinations : List Combination
  pub passed : (c : Combination) → Among c combinations → IsPassing db users tables c
  -- none more often than the rows that pass give it
  pub few : length combinations ≤ length (product (map (λ t. visible_of db users t.definition t.rows) tables))
  pub listed : listed_of (scope_of (tables_in s.source) (map (λ t. t.definition) tables)) users s.list combinations ≡ Ok rows

-- whatever is in FROM, ON, WHERE, ORDER BY, LIMIT and the list
abbrev pub answers_are_of_passing_rows : Type 0
answers_are_of_passing_rows = (db : Database) (users : UserNames) (s : Select) (rows : List Row) →
    select db users s ≡ Ok (effect (answer.Rows rows) db) → IsMadeOfPassing db users s rows

-- and without ON, WHERE and LIMIT of all of them
pub record IsMadeOfAllPassing (db : Database) (users : UserNames) (s : Select) (rows : List Row) : Type 0 where
  pub made : IsMadeOfPassing db users s rows
  pub whole : (c : Combination) → IsPassing db users made.tables c → Among c made.combinations

abbrev pub all_passing_rows_are_answered : Type 0
all_passing_rows_are_answered = (db : Database) (users : UserNames) (s : Select) (rows : List Row) →
    select db users s ≡ Ok (effect (answer.Rows rows) db) → conditions_of s.source ≡ [] → limit_of s.source ≡ None → IsMadeOfAllPassing db users s rows

-- SELECT leaves the database as it is
abbrev pub select_changes_nothing : Type 0
select_changes_nothing = (db : Database) (users : UserNames) (s : Select) (e : Effect) → select db users s ≡ Ok e → e.database ≡ db

-- ---- row security

-- without a permissive policy no guard lets a row pass, whatever the restrictive ones say
abbrev pub closed_without_permissive : Type 0
closed_without_permissive = (db : Database) (users : UserNames) (table : TableOf) (a : Action) (clause : Clauses) (row : Row) →
    is_guarded db users.current table ≡ true →
    ((p : Policy) → Among p db.policies → bytes_eq p.table table.name ≡ true → is_permissive p ≡ false) →
    guard db users table a clause row ≡ Ok (Boolean false)
