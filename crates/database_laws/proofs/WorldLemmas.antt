-- A SELECT over two databases that agree in what its users may see.
use Rattle.std.proofs.Common.{◌≡◌, Bool, true, false, not, nat_le, length, cond, find, filter, bytes_eq, List, [], ◌∷◌, map, Option, Some, None, Result, Ok, Err, refl, sym, ap, ◌∙◌, subst, inl, inr}
use Rattle.std.proofs.lemmas.Option.{same_Some}
use Rattle.std.specs.Option.{option_map}
use Rattle.std.proofs.Math.Path.{fun_ext}
use Rattle.sql_types.specs.Row.{Row}
use Rattle.sql_types.specs.declared.state.SqlState.{SqlState}
use Rattle.sql_types.specs.declared.state.SqlState.TheVariants.{UndefinedTable, DuplicateAlias, ProgramLimitExceeded}
use Rattle.sql_types.specs.declared.answer.Answer.TheVariants as answer
use Rattle.sql_ast.specs.declared.privilege.Action.TheVariants as action
use Rattle.sql_ast.specs.declared.statement.Select.{Select}
use Rattle.sql_ast.specs.declared.statement.TableReference.{TableReference}
use Rattle.expressions.specs.Meaning.{UserNames}
use Rattle.expressions.specs.Stages.{◌>>=◌, require, each}
use Rattle.abstract_database.specs.Lists.{TheName, Among, found_or, has_double}
use Rattle.abstract_database.specs.Database.{TableOf, Table, Database, is_table_named, table_named, definition_named, rows_named, without_its_rows, without_rows}
use Rattle.abstract_database.specs.Expressions.{passing}
use Rattle.abstract_database.specs.Guards.{guard, using_clause}
use Rattle.abstract_database.specs.Queries.{tables_in, name_in_scope, scope_of, bound_query, BoundQuery, Source, query, product, condition_value, listed, CheckedSelect}
use Rattle.abstract_database.specs.Needs.{needs_of_query}
use Rattle.abstract_database.specs.Checks.{find_definition, require_needs, checked_select}
use Rattle.abstract_database.specs.Definitions.{with_rows_of}
use Rattle.abstract_database.specs.Statements.{effect, source_of, selected, select}
use Rattle.abstract_database.proofs.CheckLemmas.{found_definition, select_checked}
use Rattle.abstract_database.proofs.ListLemmas.{bytes_same}
use Rattle.abstract_database.proofs.ResultLemmas.{each_from}
use Rattle.database_laws.specs.Visible.{is_met, visible_of, visible_rows, SameVisibleRows, NoGuardFails}
use Rattle.database_laws.specs.Selections.{answer_to}
use Rattle.database_laws.proofs.VisibleLemmas.{filter_is_passing}
use Rattle.database_laws.proofs.RowChangeLemmas.{rows_of_one}
use Rattle.database_laws.proofs.WriteLemmas.{rows_after}

-- ---- what is said of tables apart from their rows

definition_at : (b : Bool) (t : Table) (o p : Option Table) → option_map (λ x. x.definition) o ≡ option_map (λ x. x.definition) p →
    option_map (λ (x : Table). x.definition) (cond b (Some t) o) ≡ option_map (λ (x : Table). x.definition) (cond b (Some (without_its_rows t)) p)
definition_at true t o p e = refl
definition_at false t o p e = e

same_definition : (name : TheName) (ts : List Table) → option_map (λ (x : Table). x.definition) (find (is_table_named name) ts) ≡ option_map (λ (x : Table). x.definition) (find (is_table_named name) (map without_its_rows ts))
same_definition name [] = refl
same_definition name (t ∷ ts) = definition_at (is_table_named name t) t (find (is_table_named name) ts) (find (is_table_named name) (map without_its_rows ts)) (same_definition name ts)

pub definitions_alone : (db : Database) (name : TheName) → definition_named db name ≡ definition_named (without_rows db) name
definitions_alone db name = same_definition name db.tables

-- the checks of a SELECT, over what finds definitions
abbrev checked_by : Database → (TheName → Option TableOf) → UserNames → Select → Result CheckedSelect SqlState
checked_by db find users s = do
  tables ← each (λ (r : TableReference). found_or UndefinedTable (find r.table)) (tables_in s.source)
  called_once ← require (not (has_double (map name_in_scope (tables_in s.source)))) DuplicateAlias
  query ← bound_query (scope_of (tables_in s.source) tables) s.list s.source
  allowed ← require_needs db users (needs_of_query tables query)
  few ← require (nat_le (length tables) 4) ProgramLimitExceeded
  Ok (record { tables = tables; query = query })

pub checked_alone : (db : Database) (users : UserNames) (s : Select) → checked_select db users s ≡ checked_select (without_rows db) users s
checked_alone db users s = ap (λ (find : TheName → Option TableOf). checked_by db find users s) (fun_ext (λ (name : TheName). definitions_alone db name))

pub named_by_itself : (db : Database) (name : TheName) (t : TableOf) → find_definition db name ≡ Ok t → definition_named db t.name ≡ Some t
named_by_itself db name t e =
    let f = found_definition db name t e in
    ap (definition_named db) f.own ∙ ap (option_map (λ (x : Table). x.definition)) f.named ∙ ap (λ (x : TableOf). Some x) f.is

-- ---- two databases

pub same_definitions : (users : UserNames) (d e : Database) → SameVisibleRows users d e → (name : TheName) → definition_named d name ≡ definition_named e name
same_definitions users d e agree name = definitions_alone d name ∙ ap (λ (x : Database). definition_named x name) agree.definitions ∙ sym (definitions_alone e name)

module _ (users : UserNames) (d e : Database) (agree : SameVisibleRows users d e) (on_d : NoGuardFails action.Select users d) (on_e : NoGuardFails action.Select users e) where
  defined_alike : (name : TheName) → definition_named d name ≡ definition_named e name
  defined_alike name = definitions_alone d name ∙ ap (λ (x : Database). definition_named x name) agree.definitions ∙ sym (definitions_alone e name)

  visible_alike : (t : TableOf) → definition_named d t.name ≡ Some t → passing (guard d users t action.Select using_clause) (rows_named d t.name) ≡ passing (guard e users t action.Select using_clause) (rows_named e t.name)
  visible_alike t h =
      filter_is_passing (guard d users t action.Select using_clause) (rows_named d t.name) (on_d t h)
      ∙ ap (λ (l : List Row). Ok l) (agree.rows t h)
      ∙ sym (filter_is_passing (guard e users t action.Select using_clause) (rows_named e t.name) (on_e t (sym (defined_alike t.name) ∙ h)))

  abbrev visible : Source → Result (List Row) SqlState
  visible x = passing x.guard x.rows

  all_alike : (ts : List TableOf) → ((t : TableOf) → Among t ts → definition_named d t.name ≡ Some t) → each visible (map (source_of d users) ts) ≡ each visible (map (source_of e users) ts)
  all_alike [] h = refl
  all_alike (t ∷ ts) h =
      ap (λ (r : Result (List Row) SqlState). r >>= λ y. each visible (map (source_of d users) ts) >>= λ ys. Ok (y ∷ ys)) (visible_alike t (h t (inl refl)))
      ∙ ap (λ (r : Result (List (List Row)) SqlState). visible (source_of e users t) >>= λ y. r >>= λ ys. Ok (y ∷ ys)) (all_alike ts (λ x k. h x (inr k)))

  answered_alike : (r : Result (List Row) SqlState) → answer_to (r >>= λ rows. Ok (effect (answer.Rows rows) d)) ≡ answer_to (r >>= λ rows. Ok (effect (answer.Rows rows) e))
  answered_alike (Ok rows) = refl
  answered_alike (Err code) = refl

  queried_alike : (q : BoundQuery) (ts : List TableOf) → ((t : TableOf) → Among t ts → definition_named d t.name ≡ Some t) → query (map (source_of d users) ts) users q ≡ query (map (source_of e users) ts) users q
  queried_alike q ts h =
      ap (λ (r : Result (List (List Row)) SqlState). r >>= λ v. passing (condition_value users q.conditions) (product v) >>= λ chosen. listed users q.list q.keys q.limit chosen) (all_alike ts h)

  selected_alike : (s : Select) (r : Result CheckedSelect SqlState) → checked_select d users s ≡ r → answer_to (r >>= selected d users) ≡ answer_to (r >>= selected e users)
  selected_alike s (Err code) is = refl
  selected_alike s (Ok c) is =
      let facts = select_checked d users s c is in
      let named = λ (t : TableOf) (h : Among t c.tables). let from = each_from (λ (r : TableReference). find_definition d r.table) (tables_in s.source) c.tables facts.found t h in named_by_itself d from.0.table t from.2 in
      answered_alike (query (map (source_of d users) c.tables) users c.query)
      ∙ ap (λ (r : Result (List Row) SqlState). answer_to (r >>= λ rows. Ok (effect (answer.Rows rows) e))) (queried_alike c.query c.tables named)

  pub select_alike : (s : Select) → answer_to (select d users s) ≡ answer_to (select e users s)
  select_alike s =
      selected_alike s (checked_select d users s) refl
      ∙ ap (λ (r : Result CheckedSelect SqlState). answer_to (r >>= selected e users))
      (checked_alone d users s ∙ ap (λ (x : Database). checked_select x users s) agree.definitions ∙ sym (checked_alone e users s))

-- ---- without hidden rows

filter_at : {X : Type 0} (test : X → Bool) (b : Bool) (x : X) (xs : List X) → test x ≡ b → filter test (filter test xs) ≡ filter test xs → filter test (cond b (x ∷ filter test xs) (filter test xs)) ≡ cond b (x ∷ filter test xs) (filter test xs)
filter_at test true x xs e go = ap (λ b. cond b (x ∷ filter test (filter test xs)) (filter test (filter test xs))) e ∙ ap (λ l. x ∷ l) go
filter_at test false x xs e go = go

filter_twice : {X : Type 0} (test : X → Bool) (xs : List X) → filter test (filter test xs) ≡ filter test xs
filter_twice test [] = refl
filter_twice test (x ∷ xs) = filter_at test (test x) x xs refl (filter_twice test xs)

pub some_table : (db : Database) (name : TheName) (t : TableOf) → definition_named db name ≡ Some t → (x : Table) × (table_named db name ≡ Some x)
some_table db name t e = by_found (table_named db name) refl where
  by_found : (o : Option Table) → table_named db name ≡ o → (x : Table) × (table_named db name ≡ Some x)
  by_found (Some x) is = (x, is)
  by_found None is =
      let contrary : None ≡ Some t = ap (option_map (λ (x : Table). x.definition)) (sym is) ∙ e in cc

module _ (users : UserNames) (db : Database) (t : TableOf) (named : definition_named db t.name ≡ Some t) where
  abbrev gone : Database
  gone = with_rows_of t.name (visible_rows db users t) db

  same_visible : (u : TableOf) → definition_named db u.name ≡ Some u → (b : Bool) → bytes_eq u.name t.name ≡ b → visible_rows db users u ≡ visible_rows gone users u
  same_visible u h false e = ap (visible_of db users u) (sym ((rows_of_one t.name (visible_rows db users t) db).others u.name e))
  same_visible u h true e =
      let one : u.name ≡ t.name = bytes_same u.name t.name e in
      let same : t ≡ u = same_Some t u (sym named ∙ ap (definition_named db) (sym one) ∙ h) in
      let x = some_table db t.name t named in
      let now : rows_named gone t.name ≡ visible_rows db users t = rows_after db t.name x.0 (visible_rows db users t) x.1 in
      subst (λ d. visible_rows db users d ≡ visible_rows gone users d) same
      (sym (ap (visible_of db users t) now ∙ filter_twice (λ row. is_met (guard db users t action.Select using_clause row)) (rows_named db t.name)))

  pub agree_without_hidden : SameVisibleRows users db gone
  agree_without_hidden = record {
    definitions = sym (rows_of_one t.name (visible_rows db users t) db).definitions;
    rows = λ u h. same_visible u h (bytes_eq u.name t.name) refl;
  }
