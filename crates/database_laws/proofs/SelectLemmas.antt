-- The steps of a SELECT.
use Rattle.std.proofs.Common.{◌≡◌, ℕ, true, List, [], ◌∷◌, map, Ok, Option, Some, None, refl, sym, ap, ◌∙◌, subst}
use Rattle.sql_types.specs.declared.state.SqlState.TheVariants.{UndefinedTable}
use Rattle.sql_types.specs.declared.value.Value.TheVariants.{Bool as Boolean}
use Rattle.sql_types.specs.declared.answer.Answer.TheVariants as answer
use Rattle.sql_ast.specs.declared.expression.ColumnName.{ColumnName}
use Rattle.sql_ast.specs.declared.privilege.Action.TheVariants as action
use Rattle.sql_ast.specs.declared.statement.Select.{Select}
use Rattle.sql_ast.specs.declared.statement.SortKey.{SortKey}
use Rattle.sql_ast.specs.declared.statement.TableReference.{TableReference}
use Rattle.sql_ast.specs.Term.{Term}
use Rattle.expressions.specs.Meaning.{UserNames}
use Rattle.abstract_database.specs.Lists.{TheName, Among, found_or}
use Rattle.expressions.specs.Parts.{check_expressions}
use Rattle.expressions.specs.Stages.{◌>>=◌, each}
use Rattle.abstract_database.specs.Database.{TableOf, Table, Database, table_named}
use Rattle.sql_types.specs.Row.{Row}
use Rattle.abstract_database.specs.Guards.{guard, using_clause, existing_guard}
use Rattle.abstract_database.specs.Queries.{tables_in, scope_of, conditions_of, keys_of, select_parts, BoundKey, BoundQuery, each_column, bound_condition, bound_key, bound_query, Source, query}
use Rattle.abstract_database.specs.Checks.{find_table, find_definition, checked_select}
use Rattle.abstract_database.specs.Statements.{Effect, effect, source_of, selected, select}
use Rattle.abstract_database.proofs.CheckLemmas.{found_definition, found_rows, select_checked}
use Rattle.sql_ast.specs.declared.scope.ColumnIndex.{ColumnIndex}
use Rattle.database_laws.specs.Queries.{all_of_table}
use Rattle.abstract_database.proofs.ResultLemmas.{ok_inside, bind_ok, Every, every_bind, every_ok}
use Rattle.database_laws.proofs.QueryLemmas.{Steps, steps_of, shown_passed, passed_shown}

-- a table of FROM, as a source of rows
abbrev pub table_source : Database → UserNames → Table → Source
table_source db users t = record { guard = existing_guard db users t.definition action.Select true; rows = t.rows }

-- the definitions of tables
abbrev pub definitions_in : List Table → List TableOf
definitions_in tables = map (λ t. t.definition) tables

-- the tables whose definitions were found, and their rows
pub record FoundAll (db : Database) (users : UserNames) (refs : List TableReference) (definitions : List TableOf) : Type 0 where
  pub tables : List Table
  pub found : each (λ r. find_table db r.table) refs ≡ Ok tables
  pub are : definitions_in tables ≡ definitions
  pub sources : map (source_of db users) definitions ≡ map (table_source db users) tables

pub found_all : (db : Database) (users : UserNames) (refs : List TableReference) (definitions : List TableOf) → each (λ r. find_definition db r.table) refs ≡ Ok definitions → FoundAll db users refs definitions
found_all db users [] definitions e = record { tables = []; found = refl; are = ok_inside [] definitions e; sources = ap (map (source_of db users)) (sym (ok_inside [] definitions e)) }
found_all db users (r ∷ rs) definitions e =
    let first = bind_ok (find_definition db r.table) (λ y. each (λ x. find_definition db x.table) rs >>= λ l. Ok (y ∷ l)) definitions e in
    let rest = bind_ok (each (λ (x : TableReference). find_definition db x.table) rs) (λ l. Ok (first.0 ∷ l)) definitions first.2 in
    let is : first.0 ∷ rest.0 ≡ definitions = ok_inside (first.0 ∷ rest.0) definitions rest.2 in
    let f = found_definition db r.table first.0 first.1 in
    let others = found_all db users rs rest.0 rest.1 in
    let there : find_table db r.table ≡ Ok f.table = ap (found_or UndefinedTable) f.named in
    let source : source_of db users first.0 ≡ table_source db users f.table =
    ap (λ (rows : List Row). record { guard = existing_guard db users first.0 action.Select true; rows = rows }) (found_rows db r.table first.0 f)
    ∙ ap (λ (d : TableOf). record { guard = existing_guard db users d action.Select true; rows = f.table.rows }) (sym f.is) in
    record {
      tables = f.table ∷ others.tables;
      found = ap (λ t. t >>= λ y. each (λ (x : TableReference). find_table db x.table) rs >>= λ l. Ok (y ∷ l)) there ∙ ap (λ t. t >>= λ l. Ok (f.table ∷ l)) others.found;
      are = ap (λ d. d ∷ definitions_in others.tables) f.is ∙ ap (λ l. first.0 ∷ l) others.are ∙ is;
      sources = ap (map (source_of db users)) (sym is) ∙ ap (λ x. x ∷ map (source_of db users) rest.0) source ∙ ap (λ l. table_source db users f.table ∷ l) others.sources;
    }

pub record Selected (db : Database) (users : UserNames) (s : Select) (e : Effect) : Type 0 where
  pub tables : List Table
  pub found : each (λ r. find_table db r.table) (tables_in s.source) ≡ Ok tables
  pub q : BoundQuery
  pub bound : bound_query (scope_of (tables_in s.source) (definitions_in tables)) s.list s.source ≡ Ok q
  pub rows : List Row
  pub answers : query (map (table_source db users) tables) users q ≡ Ok rows
  pub is : e ≡ effect (answer.Rows rows) db

pub selected_steps : (db : Database) (users : UserNames) (s : Select) → Every (Selected db users s) (select db users s)
selected_steps db users s =
    every_bind (Selected db users s) (checked_select db users s) (selected db users) (λ c is.
    let facts = select_checked db users s c is in
    let all = found_all db users (tables_in s.source) c.tables facts.found in
    every_bind (Selected db users s) (query (map (source_of db users) c.tables) users c.query) _ (λ rows rows-is.
    every_ok (Selected db users s) (effect (answer.Rows rows) db) (record {
      tables = all.tables;
      found = all.found;
      q = c.query;
      bound = ap (λ l. bound_query (scope_of (tables_in s.source) l) s.list s.source) all.are ∙ facts.bound;
      rows = rows;
      answers = ap (λ l. query l users c.query) (sym all.sources) ∙ rows-is;
      is = refl;
    })))

-- ---- SELECT * FROM one table

module _ (db : Database) (users : UserNames) (name : TheName) (table : Table) (condition : Option (Term ColumnName)) (order : Option (List SortKey)) (limit : Option ℕ) (rows : List Row) where
  one_table : (tables : List Table) → table_named db name ≡ Some table → each (λ r. find_table db r.table) (tables_in (all_of_table name condition order limit).source) ≡ Ok tables → tables ≡ table ∷ []
  one_table tables t e =
      let there : each (λ (r : TableReference). find_table db r.table) (tables_in (all_of_table name condition order limit).source) ≡ Ok (table ∷ []) = ap (λ (o : Option Table). found_or UndefinedTable o >>= λ x. Ok (x ∷ [])) t in
      ok_inside tables (table ∷ []) (sym e ∙ there)

  same_rows : (out : List Row) → effect (answer.Rows rows) db ≡ effect (answer.Rows out) db → rows ≡ out
  same_rows out e = let answers : answer.Rows rows ≡ answer.Rows out = ap (λ (x : Effect). x.answer) e in cc

  -- the query of all columns
  abbrev asked : List (Term ColumnIndex) → List BoundKey → BoundQuery
  asked conditions keys = record { list = each_column; conditions = conditions; keys = keys; limit = limit }

  pub record Asked : Type 0 where
    pub conditions : List (Term ColumnIndex)
    pub keys : List BoundKey
    pub bound : each (bound_condition (scope_of (tables_in (all_of_table name condition order limit).source) (table.definition ∷ []))) (conditions_of (all_of_table name condition order limit).source) ≡ Ok conditions
    pub steps : Steps (existing_guard db users table.definition action.Select true) table.rows users conditions keys limit rows

  pub table_steps : table_named db name ≡ Some table → select db users (all_of_table name condition order limit) ≡ Ok (effect (answer.Rows rows) db) → Asked
  table_steps t e =
      let s = selected_steps db users (all_of_table name condition order limit) (effect (answer.Rows rows) db) e in
      let scope = scope_of (tables_in (all_of_table name condition order limit).source) (table.definition ∷ []) in
      let only : s.tables ≡ table ∷ [] = one_table s.tables t s.found in
      let same : rows ≡ s.rows = same_rows s.rows s.is in
      let bound : bound_query scope (all_of_table name condition order limit).list (all_of_table name condition order limit).source ≡ Ok s.q =
      ap (λ ts. bound_query (scope_of (tables_in (all_of_table name condition order limit).source) (definitions_in ts)) (all_of_table name condition order limit).list (all_of_table name condition order limit).source) (sym only) ∙ s.bound in
      let conditions = bind_ok (each (bound_condition scope) (conditions_of (all_of_table name condition order limit).source)) _ s.q bound in
      let keys = bind_ok (each (bound_key scope) (keys_of (all_of_table name condition order limit).source)) _ s.q conditions.2 in
      let typed = bind_ok (check_expressions (select_parts scope (all_of_table name condition order limit).list (all_of_table name condition order limit).source)) _ s.q keys.2 in
      let is : asked conditions.0 keys.0 ≡ s.q = ok_inside (asked conditions.0 keys.0) s.q typed.2 in
      let answers : query (table_source db users table ∷ []) users (asked conditions.0 keys.0) ≡ Ok rows =
      ap (query (table_source db users table ∷ []) users) is ∙ subst (λ ts. query (map (table_source db users) ts) users s.q ≡ Ok rows) only (s.answers ∙ ap (λ r. Ok r) (sym same)) in
      record { conditions = conditions.0; keys = keys.0; bound = conditions.1; steps = steps_of (existing_guard db users table.definition action.Select true) table.rows users conditions.0 keys.0 limit rows answers }

  pub shown : table_named db name ≡ Some table → select db users (all_of_table name condition order limit) ≡ Ok (effect (answer.Rows rows) db) →
      (row : Row) → Among row rows → Among row table.rows × (guard db users table.definition action.Select using_clause row ≡ Ok (Boolean true))
  shown t e row h = let a = table_steps t e in shown_passed (existing_guard db users table.definition action.Select true) table.rows users a.conditions a.keys limit rows a.steps row h

pub all_shown : (db : Database) (users : UserNames) (name : TheName) (table : Table) (order : Option (List SortKey)) (rows : List Row) →
    table_named db name ≡ Some table → select db users (all_of_table name None order None) ≡ Ok (effect (answer.Rows rows) db) →
    (row : Row) → Among row table.rows → guard db users table.definition action.Select using_clause row ≡ Ok (Boolean true) → Among row rows
all_shown db users name table order rows t e row h g =
    let a = table_steps db users name table None order None rows t e in
    passed_shown (existing_guard db users table.definition action.Select true) table.rows users a.conditions a.keys None rows (ok_inside a.conditions [] (sym a.bound)) refl a.steps row h g
