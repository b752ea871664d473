-- What refuses a SELECT, by the names in its text.
use Rattle.std.proofs.Common.{◌≡◌, ◌⊎◌, Bool, true, false, cond, length, map, take, pos, List, [], ◌∷◌, Ok, Err, refl, sym, ap, ◌∙◌, subst, inl, inr}
use Rattle.sql_types.specs.declared.state.SqlState.{SqlState}
use Rattle.sql_types.specs.declared.state.SqlState.TheVariants.{NumericValueOutOfRange}
use Rattle.sql_types.specs.declared.value.Value.{Value}
use Rattle.sql_types.specs.declared.value.Value.TheVariants.{Int}
use Rattle.sql_types.specs.declared.answer.Answer.TheVariants as answer
use Rattle.sql_ast.specs.declared.scope.ColumnIndex.{ColumnIndex}
use Rattle.sql_ast.specs.declared.privilege.Action.TheVariants as action
use Rattle.sql_ast.specs.declared.statement.Select.{Select}
use Rattle.sql_ast.specs.declared.statement.SelectList.{SelectList}
use Rattle.sql_ast.specs.declared.statement.SelectList.TheVariants as list
use Rattle.sql_ast.specs.Scope.{Table as ScopeTable}
use Rattle.sql_ast.specs.Term.{Term}
use Rattle.expressions.specs.Operators.{bigint, is_bigint}
use Rattle.expressions.specs.Outcome.{Outcome}
use Rattle.expressions.specs.Meaning.{UserNames}
use Rattle.expressions.specs.Names.{resolved}
use Rattle.expressions.specs.Stages.{◌>>=◌, each}
use Rattle.expressions.proofs.Meanings.{resolved_means}
use Rattle.abstract_database.specs.Lists.{Among}
use Rattle.abstract_database.specs.Database.{TableOf, Database, rows_named}
use Rattle.sql_types.specs.Row.{Row}
use Rattle.sql_ast.specs.declared.expression.ColumnName.{ColumnName}
use Rattle.sql_ast.specs.declared.statement.SortKey.{SortKey}
use Rattle.abstract_database.specs.Expressions.{cell_in, bound_value, value_on, all_of, passing}
use Rattle.abstract_database.specs.Guards.{guard, using_clause}
use Rattle.abstract_database.specs.Queries.{tables_in, scope_of, Condition, conditions_of, keys_of, limit_of, expressions_of, is_descending, BoundList, each_column, each_value, their_count, BoundKey, BoundQuery, bound_list, bound_condition, bound_key, bound_query, Combination, product, condition_value, keys_cmp, sorted, cut, Keyed, with_keys, ordered, all_columns, listed, Source, query}
use Rattle.abstract_database.specs.Checks.{find_definition, checked_select}
use Rattle.abstract_database.specs.Statements.{effect, source_of, selected, select}
use Rattle.abstract_database.proofs.CheckLemmas.{select_checked}
use Rattle.abstract_database.proofs.ResultLemmas.{ok_inside, bind_ok, each_to}
use Rattle.abstract_database.proofs.ValueTypes.{by_names}
use Rattle.database_laws.specs.Visible.{visible_rows}
use Rattle.database_laws.specs.Selections.{chosen, sort_cmp, limit_for, shown}
use Rattle.database_laws.specs.Refusals.{IsFirst, IsFailure, FailsInGuard, condition_outcome, ChoosesRows, FailsInKey, FailsInList, SelectFails, in_table_guard, in_condition, in_key, in_list, in_count}
use Rattle.database_laws.proofs.QueryLemmas.{into_map}
use Rattle.database_laws.proofs.ConcernLemmas.{each_bound}
use Rattle.database_laws.proofs.SelectionLemmas.{visible_in, ordered_is, chosen_is, IsBoundFrom, bound_from}
use Rattle.database_laws.proofs.ErrorLemmas.{bind_err, first_err}
use Rattle.database_laws.proofs.FirstLemmas.{in_list_of, first_refused, first_failure, first_not_passed, first_of_map, first_said, passing_has_value, each_has_value, all_first}

count_err : (b : Bool) (v : Value) (code : SqlState) → ◌≡◌ {A = Outcome} (cond b (Ok v) (Err NumericValueOutOfRange)) (Err code) → (b ≡ false) × (NumericValueOutOfRange ≡ code)
count_err true v code e = cc
count_err false v code e = (refl, cc)

-- ---- the stages

module _ (db : Database) (users : UserNames) (s : Select) (tables : List TableOf) (q : BoundQuery) (b : IsBoundFrom (scope_of (tables_in s.source) tables) s q) (code : SqlState) where
  abbrev scope : List ScopeTable
  scope = scope_of (tables_in s.source) tables

  abbrev Fails : Type 0
  Fails = SelectFails db users s tables code

  abbrev visible : List Combination
  visible = product (map (visible_rows db users) tables)

  -- the outcome of ON and WHERE by their names
  by_conditions : (c : Combination) → condition_value users q.conditions c ≡ condition_outcome scope users s c
  by_conditions c = ap all_of (each_mapped (conditions_of s.source) q.conditions b.conditions_are) where
    each_mapped : (conditions : List Condition) (bound : List (Term ColumnIndex)) → each (bound_condition scope) conditions ≡ Ok bound →
        map (bound_value users c) bound ≡ map (λ on. value_on (take on.tables scope) users c on.term) conditions
    each_mapped [] bound e = ap (map (bound_value users c)) (sym (ok_inside [] bound e))
    each_mapped (on ∷ conditions) bound e =
        let first = bind_ok (bound_condition scope on) (λ y. each (bound_condition scope) conditions >>= λ l. Ok (y ∷ l)) bound e in
        let rest = bind_ok (each (bound_condition scope) conditions) (λ l. Ok (first.0 ∷ l)) bound first.2 in
        ap (map (bound_value users c)) (sym (ok_inside (first.0 ∷ rest.0) bound rest.2))
        ∙ ap (λ (o : Outcome). o ∷ map (bound_value users c) rest.0) (resolved_means (take on.tables scope) (cell_in c) users on.term first.0 first.1)
        ∙ ap (λ (l : List Outcome). value_on (take on.tables scope) users c on.term ∷ l) (each_mapped conditions rest.0 rest.1)

  abbrev NoGuardIsFailing : Type 0
  NoGuardIsFailing = (t : TableOf) → Among t tables → (row : Row) → Among row (rows_named db t.name) → FailsInGuard db users t row → ⊥

  condition_cause : NoGuardIsFailing → passing (condition_value users q.conditions) visible ≡ Err code → Fails
  condition_cause guards e =
      let c = first_not_passed (condition_value users q.conditions) visible code e in
      let on = all_first (λ (o : Condition). value_on (take o.tables scope) users c.0 o.term) code (conditions_of s.source) (sym (by_conditions c.0) ∙ c.2) in
      in_condition c.0 on.0 code guards (first_said (condition_value users q.conditions) (condition_outcome scope users s) by_conditions c.0 visible c.1) on.1 on.2

  -- the values of the sort keys by their names
  abbrev key_value : Combination → SortKey → Outcome
  key_value c key = value_on scope users c key.value

  by_keys : (c : Combination) → each (λ (key : BoundKey). bound_value users c key.term) q.keys ≡ each (key_value c) (keys_of s.source)
  by_keys c = each_bound (bound_key scope) (λ (key : BoundKey). bound_value users c key.term) (key_value c) same (keys_of s.source) q.keys b.keys_are where
    same : (key : SortKey) (k : BoundKey) → bound_key scope key ≡ Ok k → bound_value users c k.term ≡ key_value c key
    same key k e =
        let made = λ (t : Term ColumnIndex). let x : BoundKey = record { term = t; descending = is_descending key.direction } in x in
        let term = bind_ok (resolved scope key.value) (λ t. Ok (made t)) k e in
        ap (λ (x : BoundKey). bound_value users c x.term) (sym (ok_inside (made term.0) k term.2)) ∙ resolved_means scope (cell_in c) users key.value term.0 term.1

  no_key_fails : (c : Combination) (k : Keyed) → with_keys users q.keys c ≡ Ok k → FailsInKey scope users s c → ⊥
  no_key_fails c k e fails =
      let values = bind_ok (each (λ (key : BoundKey). bound_value users c key.term) q.keys) (λ vs. Ok (record { keys = vs; combination = c })) k e in
      each_has_value (key_value c) (keys_of s.source) values.0 (sym (by_keys c) ∙ values.1) fails.0 fails.1 fails.2

  key_cause_of : (c : Combination) → with_keys users q.keys c ≡ Err code → (key : SortKey) × IsFirst (λ k. IsFailure (key_value c k)) key (keys_of s.source) × (key_value c key ≡ Err code)
  key_cause_of c e =
      first_failure (key_value c) (keys_of s.source) code
      (sym (by_keys c) ∙ first_err (each (λ (key : BoundKey). bound_value users c key.term) q.keys) (λ vs. record { keys = vs; combination = c }) code e)

  order_cause : (limit : _) → ChoosesRows db users s tables → ordered users q.keys limit (chosen db users s tables) ≡ Err code → Fails
  order_cause limit rows e =
      let keyed = first_err (each (with_keys users q.keys) (chosen db users s tables)) (λ ks. map (λ (k : Keyed). k.combination) (cut limit (sorted (λ a b. keys_cmp q.keys a.keys b.keys) ks))) code e in
      let c = first_refused (with_keys users q.keys) (FailsInKey scope users s) no_key_fails (chosen db users s tables) code
      (λ x among refused. let key = key_cause_of x refused in (key.0, in_list_of (λ k. IsFailure (key_value x k)) (keys_of s.source) key.0 key.1, (code, key.2))) keyed in
      let key = key_cause_of c.0 c.2 in
      in_key c.0 key.0 code rows c.1 key.1 key.2

  no_key_failed : (limit : _) (out : List Combination) → ordered users q.keys limit (chosen db users s tables) ≡ Ok out → (x : Combination) → Among x (chosen db users s tables) → FailsInKey scope users s x → ⊥
  no_key_failed limit out e x h fails =
      let keyed = bind_ok (each (with_keys users q.keys) (chosen db users s tables)) (λ ks. Ok (map (λ (k : Keyed). k.combination) (cut limit (sorted (λ a b. keys_cmp q.keys a.keys b.keys) ks)))) out e in
      let at = each_to (with_keys users q.keys) (chosen db users s tables) keyed.0 keyed.1 x h in
      no_key_fails x at.0 at.1 fails

  list_cause : (limit : _) → limit ≡ limit_of s.source → ChoosesRows db users s tables → (l : SelectList) (bl : BoundList) → s.list ≡ l → bound_list scope l ≡ Ok bl → listed users bl q.keys limit (chosen db users s tables) ≡ Err code → Fails
  list_cause limit limit_is chooses list.Asterisk bl is found e =
      order_cause limit chooses (first_err (ordered users q.keys limit (chosen db users s tables)) (map all_columns) code (ap (λ x. listed users x q.keys limit (chosen db users s tables)) (ok_inside each_column bl found) ∙ e))
  list_cause limit limit_is chooses (list.Expressions terms) bl is found e =
      let at = bind_ok (each (resolved scope) terms) (λ bound. Ok (each_value bound)) bl found in
      let f = λ (c : Combination). each (bound_value users c) at.0 in
      let g = λ (c : Combination) (t : Term ColumnName). value_on scope users c t in
      let named = λ (c : Combination). by_names scope users c terms at.0 at.1 in
      let within = λ (t : Term ColumnName) (h : Among t terms). subst (λ x. Among t (expressions_of x)) (sym is) h in
      elim (bind_err (ordered users q.keys limit (chosen db users s tables)) (λ out. each f out) code (ap (λ x. listed users x q.keys limit (chosen db users s tables)) (ok_inside (each_value at.0) bl at.2) ∙ e)) [
        | inl h ↦ order_cause limit chooses h
        | inr out ↦
            let c = first_refused f (FailsInList scope users s)
            (λ x values ok fails. each_has_value (g x) terms values (sym (named x) ∙ ok) fails.0 (subst (λ y. Among fails.0 (expressions_of y)) is fails.1) fails.2) out.0 code
            (λ x among refused. let t = first_failure (g x) terms code (sym (named x) ∙ refused) in (t.0, within t.0 (in_list_of (λ y. IsFailure (g x y)) terms t.0 t.1), (code, t.2))) out.2 in
            let t = first_failure (g c.0) terms code (sym (named c.0) ∙ c.2) in
            let order = ordered_is users q.keys scope (keys_of s.source) b.keys_are limit (chosen db users s tables) out.0 out.1 in
            let cuts : cut limit (sorted (sort_cmp users s tables) (chosen db users s tables)) ≡ shown db users s tables =
            ap (λ x. cut x (sorted (sort_cmp users s tables) (chosen db users s tables))) (limit_is ∙ ap (λ y. limit_for y (limit_of s.source)) (sym is)) in
            in_list c.0 t.0 code chooses (no_key_failed limit out.0 out.1) (subst (λ l. IsFirst (FailsInList scope users s) c.0 l) (order ∙ cuts) c.1)
            (subst (λ y. IsFirst (λ z. IsFailure (g c.0 z)) t.0 (expressions_of y)) (sym is) t.1) t.2
      ]
  list_cause limit limit_is chooses list.Count bl is found e =
      let n = length (chosen db users s tables) in
      let none = count_err (is_bigint (pos n)) (Int (pos n)) code
      (first_err (bigint (pos n)) (λ count. (count ∷ []) ∷ []) code (ap (λ x. listed users x q.keys limit (chosen db users s tables)) (ok_inside their_count bl found) ∙ e)) in
      subst (SelectFails db users s tables) none.1 (in_count is none.0)

  abbrev sources : List Source
  sources = map (source_of db users) tables

  abbrev FailsInSource : Source → Type 0
  FailsInSource x = (r : Row) × Among r x.rows × IsFailure (x.guard r)

  guard_cause : each (λ (x : Source). passing x.guard x.rows) sources ≡ Err code → Fails
  guard_cause e =
      let x = first_refused (λ (x : Source). passing x.guard x.rows) FailsInSource (λ x rows ok fails. passing_has_value x.guard x.rows rows ok fails.0 fails.1 fails.2) sources code
      (λ x among refused. let r = first_not_passed x.guard x.rows code refused in (r.0, in_list_of (λ y. IsFailure (x.guard y)) x.rows r.0 r.1, (code, r.2))) e in
      let t = first_of_map (source_of db users) FailsInSource tables x.0 x.1 in
      let row = first_not_passed (guard db users t.0 action.Select using_clause) (rows_named db t.0.name) code (ap (λ (y : Source). passing y.guard y.rows) t.2 ∙ x.2) in
      in_table_guard t.0 row.0 code t.1 row.1 row.2

  no_guard_fails : (v : List (List Row)) → each (λ (x : Source). passing x.guard x.rows) sources ≡ Ok v → NoGuardIsFailing
  no_guard_fails v e t h row among fails =
      let at = each_to (λ (x : Source). passing x.guard x.rows) sources v e (source_of db users t) (into_map (source_of db users) tables t h) in
      passing_has_value (guard db users t action.Select using_clause) (rows_named db t.name) at.0 at.1 row among fails

  query_cause : query sources users q ≡ Err code → Fails
  query_cause e = elim (bind_err (each (λ (x : Source). passing x.guard x.rows) sources) _ code e) [
    | inl h ↦ guard_cause h
    | inr v ↦
        let guards = no_guard_fails v.0 v.1 in
        let seen = visible_in db users tables v.0 v.1 in
        elim (bind_err (passing (condition_value users q.conditions) (product v.0)) (λ cs. listed users q.list q.keys q.limit cs) code v.2) [
          | inl h ↦ condition_cause guards (ap (λ l. passing (condition_value users q.conditions) (product l)) (sym seen) ∙ h)
          | inr cs ↦
              let chooses : ChoosesRows db users s tables = record {
                guards = guards;
                conditions = λ c h fails. passing_has_value (condition_value users q.conditions) visible cs.0 (ap (λ l. passing (condition_value users q.conditions) (product l)) (sym seen) ∙ cs.1) c h
                    (fails.0, by_conditions c ∙ fails.1);
              } in
              list_cause q.limit b.limit_is chooses s.list q.list refl b.list_is (ap (listed users q.list q.keys q.limit) (sym (chosen_is db users s tables q b v.0 v.1 cs.0 cs.1)) ∙ cs.2)
        ]
  ]

pub select_cause : (db : Database) (users : UserNames) (s : Select) (tables : List TableOf) (code : SqlState) → each (λ r. find_definition db r.table) (tables_in s.source) ≡ Ok tables → select db users s ≡ Err code →
    (checked_select db users s ≡ Err code) ⊎ SelectFails db users s tables code
select_cause db users s tables code found e = elim (bind_err (checked_select db users s) (selected db users) code e) [
  | inl h ↦ inl h
  | inr later ↦ let facts = select_checked db users s later.0 later.1 in
      let same = ok_inside later.0.tables tables (sym facts.found ∙ found) in
      let rows = first_err (query (map (source_of db users) later.0.tables) users later.0.query) (λ rows. effect (answer.Rows rows) db) code later.2 in
      let scope_is = subst (λ ts. bound_query (scope_of (tables_in s.source) ts) s.list s.source ≡ Ok later.0.query) same facts.bound in
      inr (query_cause db users s tables later.0.query (bound_from (scope_of (tables_in s.source) tables) s later.0.query scope_is) code
      (ap (λ ts. query (map (source_of db users) ts) users later.0.query) (sym same) ∙ rows))
]
