-- The columns that bound expressions read are those that the expressions of the text name.
use Rattle.std.proofs.Common.{◌≡◌, ℕ, nat_eq, Bool, true, false, cond, List, [], ◌∷◌, ◌++◌, map, filter, flat_map, Option, Some, None, option_to_list, position, Result, Ok, refl, sym, ap, ◌∙◌, subst}
use Rattle.std.specs.Str.{bytes_eq}
use Rattle.sql_types.specs.declared.state.SqlState.{SqlState}
use Rattle.sql_ast.specs.declared.columns.Column.{Column}
use Rattle.sql_ast.specs.declared.expression.ColumnName.{ColumnName}
use Rattle.sql_ast.specs.declared.scope.ColumnIndex.{ColumnIndex}
use Rattle.sql_ast.specs.declared.statement.Update.{Update}
use Rattle.sql_ast.specs.declared.statement.Delete.{Delete}
use Rattle.sql_ast.specs.Scope.{Table as ScopeTable, is_called, index_at, only_index, found_in}
use Rattle.sql_ast.specs.Term.{Term, literal, column, current_user, session_user, comparison, operation, minus, conjunction, disjunction, negation, null_test, not_null_test, member_test}
use Rattle.expressions.specs.Meaning.{UserNames}
use Rattle.expressions.specs.Names.{after, after_both, resolved}
use Rattle.expressions.specs.Stages.{◌>>=◌, each}
use Rattle.abstract_database.specs.Lists.{Among, optional}
use Rattle.abstract_database.specs.Database.{TableOf, Database}
use Rattle.abstract_database.specs.Expressions.{own_scope, columns_in}
use Rattle.abstract_database.specs.Needs.{has_any, columns_read}
use Rattle.abstract_database.specs.Changes.{CheckedUpdate, CheckedDelete}
use Rattle.abstract_database.specs.Checks.{new_values}
use Rattle.std.proofs.lemmas.Bool.{eq-eqb}
use Rattle.abstract_database.proofs.CheckLemmas.{UpdateFacts, DeleteFacts}
use Rattle.abstract_database.proofs.ElementLemmas.{into_filter, keep_all}
use Rattle.abstract_database.proofs.ResultLemmas.{ok_inside, bind_ok, each_to, each_from}
use Rattle.database_laws.specs.Readings.{columns_read_by_update, columns_read_by_delete}
use Rattle.database_laws.proofs.QueryLemmas.{into_map}

-- ---- expressions that are bound

each_joined : {A B : Type 0} (f : A → Result B SqlState) (xs ys : List A) (vs ws : List B) → each f xs ≡ Ok vs → each f ys ≡ Ok ws → each f (xs ++ ys) ≡ Ok (vs ++ ws)
each_joined f [] ys vs ws e g = g ∙ ap (λ l. Ok (l ++ ws)) (ok_inside [] vs e)
each_joined {A} {B} f (x ∷ xs) ys vs ws e g =
    let first = bind_ok (f x) (λ y. each f xs >>= λ l. Ok (y ∷ l)) vs e in
    let rest = bind_ok (each f xs) (λ l. Ok (first.0 ∷ l)) vs first.2 in
    ap (λ (o : Result B SqlState). o >>= λ y. each f (xs ++ ys) >>= λ l. Ok (y ∷ l)) first.1
    ∙ ap (λ (r : Result (List B) SqlState). r >>= λ l. Ok (first.0 ∷ l)) (each_joined f xs ys rest.0 ws rest.1 g)
    ∙ ap (λ l. Ok (l ++ ws)) (ok_inside (first.0 ∷ rest.0) vs rest.2)

each_if_any : {A B : Type 0} (f : A → Result B SqlState) (o : Option A) (p : Option B) → optional f o ≡ Ok p → each f (option_to_list o) ≡ Ok (option_to_list p)
each_if_any f None p e = ap (λ q. Ok (option_to_list q)) (ok_inside None p e)
each_if_any {A} {B} f (Some x) p e =
    let found = bind_ok (f x) (λ y. Ok (Some y)) p e in
    ap (λ (o : Result B SqlState). o >>= λ y. Ok (y ∷ [])) found.1 ∙ ap (λ q. Ok (option_to_list q)) (ok_inside (Some found.0) p found.2)

module _ (tables : List ScopeTable) where
  -- each column that an expression names is found, and the bound one has what was found
  abbrev IsFound : Term ColumnName → Type 0
  IsFound e = (t : Term ColumnIndex) → resolved tables e ≡ Ok t → each (found_in tables) (columns_in e) ≡ Ok (columns_in t)

  both_found : (k : Term ColumnIndex → Term ColumnIndex → Term ColumnIndex) → ((x y : Term ColumnIndex) → columns_in (k x y) ≡ columns_in x ++ columns_in y) → (a b : Term ColumnName) → IsFound a → IsFound b →
      (t : Term ColumnIndex) → after_both (resolved tables a) (resolved tables b) (λ x y. Ok (k x y)) ≡ Ok t → each (found_in tables) (columns_in a ++ columns_in b) ≡ Ok (columns_in t)
  both_found k own a b f g t e =
      let x = bind_ok (resolved tables a) (λ x. after (resolved tables b) (λ y. Ok (k x y))) t e in
      let y = bind_ok (resolved tables b) (λ y. Ok (k x.0 y)) t x.2 in
      each_joined (found_in tables) (columns_in a) (columns_in b) (columns_in x.0) (columns_in y.0) (f x.0 x.1) (g y.0 y.1)
      ∙ ap (λ (l : List ColumnIndex). Ok l) (sym (own x.0 y.0)) ∙ ap (λ (z : Term ColumnIndex). Ok (columns_in z)) (ok_inside (k x.0 y.0) t y.2)

  one_found : (k : Term ColumnIndex → Term ColumnIndex) → ((x : Term ColumnIndex) → columns_in (k x) ≡ columns_in x) → (a : Term ColumnName) → IsFound a →
      (t : Term ColumnIndex) → after (resolved tables a) (λ x. Ok (k x)) ≡ Ok t → each (found_in tables) (columns_in a) ≡ Ok (columns_in t)
  one_found k own a f t e =
      let x = bind_ok (resolved tables a) (λ x. Ok (k x)) t e in
      f x.0 x.1 ∙ ap (λ (l : List ColumnIndex). Ok l) (sym (own x.0)) ∙ ap (λ (z : Term ColumnIndex). Ok (columns_in z)) (ok_inside (k x.0) t x.2)

  pub found_columns : (e : Term ColumnName) → IsFound e
  found_columns (literal v) t e = ap (λ (z : Term ColumnIndex). Ok (columns_in z)) (ok_inside (literal v) t e)
  found_columns (column c) t e =
      let i = bind_ok (found_in tables c) (λ i. Ok (column i)) t e in
      ap (λ (o : Result ColumnIndex SqlState). o >>= λ y. Ok (y ∷ [])) i.1 ∙ ap (λ (z : Term ColumnIndex). Ok (columns_in z)) (ok_inside (column i.0) t i.2)
  found_columns current_user t e = ap (λ (z : Term ColumnIndex). Ok (columns_in z)) (ok_inside current_user t e)
  found_columns session_user t e = ap (λ (z : Term ColumnIndex). Ok (columns_in z)) (ok_inside session_user t e)
  found_columns (comparison op a b) t e = both_found (comparison op) (λ x y. refl) a b (found_columns a) (found_columns b) t e
  found_columns (operation op a b) t e = both_found (operation op) (λ x y. refl) a b (found_columns a) (found_columns b) t e
  found_columns (minus a) t e = one_found minus (λ x. refl) a (found_columns a) t e
  found_columns (conjunction a b) t e = both_found conjunction (λ x y. refl) a b (found_columns a) (found_columns b) t e
  found_columns (disjunction a b) t e = both_found disjunction (λ x y. refl) a b (found_columns a) (found_columns b) t e
  found_columns (negation a) t e = one_found negation (λ x. refl) a (found_columns a) t e
  found_columns (null_test a) t e = one_found null_test (λ x. refl) a (found_columns a) t e
  found_columns (not_null_test a) t e = one_found not_null_test (λ x. refl) a (found_columns a) t e
  found_columns (member_test a) t e = one_found member_test (λ x. refl) a (found_columns a) t e

  all_found : (es : List (Term ColumnName)) (ts : List (Term ColumnIndex)) → each (resolved tables) es ≡ Ok ts → each (found_in tables) (flat_map columns_in es) ≡ Ok (flat_map columns_in ts)
  all_found [] ts e = ap (λ (l : List (Term ColumnIndex)). Ok (flat_map columns_in l)) (ok_inside [] ts e)
  all_found (x ∷ xs) ts e =
      let first = bind_ok (resolved tables x) (λ y. each (resolved tables) xs >>= λ l. Ok (y ∷ l)) ts e in
      let rest = bind_ok (each (resolved tables) xs) (λ l. Ok (first.0 ∷ l)) ts first.2 in
      each_joined (found_in tables) (columns_in x) (flat_map columns_in xs) (columns_in first.0) (flat_map columns_in rest.0) (found_columns x first.0 first.1) (all_found xs rest.0 rest.1)
      ∙ ap (λ (l : List (Term ColumnIndex)). Ok (flat_map columns_in l)) (ok_inside (first.0 ∷ rest.0) ts rest.2)

-- what a name is found to be is among what is found
pub found_among : (tables : List ScopeTable) (names : List ColumnName) (columns : List ColumnIndex) → each (found_in tables) names ≡ Ok columns → (c : ColumnName) (i : ColumnIndex) → Among c names → found_in tables c ≡ Ok i → Among i columns
found_among tables names columns e c i h f =
    let at = each_to (found_in tables) names columns e c h in
    subst (λ (x : ColumnIndex). Among x columns) (ok_inside at.0 i (sym at.1 ∙ f)) at.2

pub read_among : (number : ℕ) (ts : List (Term ColumnIndex)) (i : ColumnIndex) → Among i (flat_map columns_in ts) → i.table ≡ number → Among i.column (columns_read number ts)
read_among number ts i h at =
    into_map (λ (c : ColumnIndex). c.column) (filter (λ c. nat_eq c.table number) (flat_map columns_in ts)) i
    (into_filter (λ (c : ColumnIndex). nat_eq c.table number) (flat_map columns_in ts) i h (eq-eqb i.table number at))

-- ---- one table alone

only_own : (b : Bool) (o : Option ℕ) (i : ColumnIndex) → only_index (cond b (index_at 0 o) [] ++ []) ≡ Ok i → i.table ≡ 0
only_own true (Some k) i e = ap (λ (x : ColumnIndex). x.table) (sym (ok_inside (record { table = 0; column = k }) i e))
only_own true None i e = cc
only_own false o i e = cc

own_table : (t : TableOf) (c : ColumnName) (i : ColumnIndex) → found_in (own_scope t) c ≡ Ok i → i.table ≡ 0
own_table t c i e = only_own (is_called t.name c.table) (position (λ (x : Column). bytes_eq x.name c.column) t.layout.columns) i e

any_of_each : {A B : Type 0} (f : A → Result B SqlState) (xs : List A) (ys : List B) → each f xs ≡ Ok ys → has_any ys ≡ has_any xs
any_of_each f [] ys e = ap has_any (sym (ok_inside [] ys e))
any_of_each f (x ∷ xs) ys e =
    let first = bind_ok (f x) (λ y. each f xs >>= λ l. Ok (y ∷ l)) ys e in
    let rest = bind_ok (each f xs) (λ l. Ok (first.0 ∷ l)) ys first.2 in
    ap has_any (sym (ok_inside (first.0 ∷ rest.0) ys rest.2))

any_of_map : {A B : Type 0} (f : A → B) (xs : List A) → has_any (map f xs) ≡ has_any xs
any_of_map f [] = refl
any_of_map f (x ∷ xs) = refl

module _ (t : TableOf) (es : List (Term ColumnName)) (ts : List (Term ColumnIndex)) (bound : each (resolved (own_scope t)) es ≡ Ok ts) where
  -- bound expressions read a column where those of the text name one
  reads_alike : has_any (columns_read 0 ts) ≡ has_any (flat_map columns_in es)
  reads_alike =
      let names = flat_map columns_in es in
      let columns = flat_map columns_in ts in
      let found = all_found (own_scope t) es ts bound in
      let all : filter (λ (c : ColumnIndex). nat_eq c.table 0) columns ≡ columns =
      keep_all (λ (c : ColumnIndex). nat_eq c.table 0) columns (λ i h. let from = each_from (found_in (own_scope t)) names columns found i h in eq-eqb i.table 0 (own_table t from.0 i from.2)) in
      any_of_map (λ (c : ColumnIndex). c.column) (filter (λ (c : ColumnIndex). nat_eq c.table 0) columns) ∙ ap has_any all ∙ any_of_each (found_in (own_scope t)) names columns found

  pub named_is_read : (c : ColumnName) (i : ColumnIndex) → Among c (flat_map columns_in es) → found_in (own_scope t) c ≡ Ok i → Among i.column (columns_read 0 ts)
  named_is_read c i h f = read_among 0 ts i (found_among (own_scope t) (flat_map columns_in es) (flat_map columns_in ts) (all_found (own_scope t) es ts bound) c i h f) (own_table t c i f)

-- ---- UPDATE and DELETE

pub update_terms : (db : Database) (users : UserNames) (s : Update) (c : CheckedUpdate) → UpdateFacts db users s c →
    each (resolved (own_scope c.table)) (new_values s ++ option_to_list s.condition) ≡ Ok (c.values ++ option_to_list c.condition)
update_terms db users s c facts =
    each_joined (resolved (own_scope c.table)) (new_values s) (option_to_list s.condition) c.values (option_to_list c.condition) facts.bound
    (each_if_any (resolved (own_scope c.table)) s.condition c.condition facts.condition)

pub delete_terms : (db : Database) (users : UserNames) (s : Delete) (c : CheckedDelete) → DeleteFacts db users s c → each (resolved (own_scope c.table)) (option_to_list s.condition) ≡ Ok (option_to_list c.condition)
delete_terms db users s c facts = each_if_any (resolved (own_scope c.table)) s.condition c.condition facts.condition

pub update_reads : (db : Database) (users : UserNames) (s : Update) (c : CheckedUpdate) → UpdateFacts db users s c → has_any (columns_read 0 (c.values ++ option_to_list c.condition)) ≡ has_any (columns_read_by_update s)
update_reads db users s c facts = reads_alike c.table (new_values s ++ option_to_list s.condition) (c.values ++ option_to_list c.condition) (update_terms db users s c facts)

pub delete_reads : (db : Database) (users : UserNames) (s : Delete) (c : CheckedDelete) → DeleteFacts db users s c → has_any (columns_read 0 (option_to_list c.condition)) ≡ has_any (columns_read_by_delete s)
delete_reads db users s c facts = reads_alike c.table (option_to_list s.condition) (option_to_list c.condition) (delete_terms db users s c facts)

-- what the checked form says of it
pub update_as_written : (db : Database) (users : UserNames) (s : Update) (c : CheckedUpdate) → UpdateFacts db users s c → c.reads ≡ has_any (columns_read_by_update s)
update_as_written db users s c facts = facts.reads ∙ update_reads db users s c facts

pub delete_as_written : (db : Database) (users : UserNames) (s : Delete) (c : CheckedDelete) → DeleteFacts db users s c → c.reads ≡ has_any (columns_read_by_delete s)
delete_as_written db users s c facts = facts.reads ∙ delete_reads db users s c facts
