-- What the rows of an answer are made of, whatever the SELECT.
use Rattle.std.proofs.Common.{◌≡◌, ◌≤◌, ◌⊎◌, ℕ, suc, Bool, true, false, cond, List, [], ◌∷◌, ◌++◌, map, flat_map, length, Option, Some, None, Result, Ok, Err, pos, refl, sym, ap, ◌∙◌, subst, inl, inr, arith, Ordering, is_gt}
use Rattle.std.proofs.lemmas.List.{length-map, length-take}
use Rattle.sql_types.specs.declared.state.SqlState.{SqlState}
use Rattle.sql_types.specs.declared.value.Value.{Value}
use Rattle.sql_types.specs.declared.value.Value.TheVariants.{Null, Int, Text, Bool as Boolean}
use Rattle.sql_types.specs.declared.answer.Answer.TheVariants as answer
use Rattle.sql_ast.specs.declared.privilege.Action.TheVariants as action
use Rattle.sql_ast.specs.declared.statement.Select.{Select}
use Rattle.sql_ast.specs.declared.statement.SelectList.{SelectList}
use Rattle.sql_ast.specs.declared.statement.SelectList.TheVariants as list
use Rattle.sql_ast.specs.Scope.{Table as ScopeTable}
use Rattle.expressions.specs.Outcome.{Outcome}
use Rattle.expressions.specs.Meaning.{UserNames}
use Rattle.abstract_database.specs.Lists.{Among}
use Rattle.expressions.specs.Stages.{◌>>=◌, each}
use Rattle.abstract_database.specs.Database.{Table, Database}
use Rattle.sql_types.specs.Row.{Row}
use Rattle.abstract_database.specs.Expressions.{passing, bound_value, when_true}
use Rattle.abstract_database.specs.Guards.{guard, using_clause}
use Rattle.abstract_database.specs.Queries.{Combination, product, put_before, sorted, cut, Keyed, with_keys, keys_cmp, ordered, all_columns, condition_value, conditions_of, keys_of, limit_of, select_parts, BoundList, each_column, each_value, their_count, BoundKey, BoundQuery, bound_list, bound_condition, bound_key, bound_query, listed, Source, query, tables_in, scope_of}
use Rattle.abstract_database.specs.Checks.{find_table}
use Rattle.abstract_database.specs.Statements.{effect, Effect, select}
use Rattle.abstract_database.proofs.ValueTypes.{by_names}
use Rattle.std.proofs.Math.Path.{fun_ext}
use Rattle.sql_types.specs.declared.state.SqlState.TheVariants.{NumericValueOutOfRange}
use Rattle.sql_ast.specs.declared.scope.ColumnIndex.{ColumnIndex}
use Rattle.sql_ast.specs.Term.{Term}
use Rattle.expressions.specs.Names.{resolved}
use Rattle.expressions.specs.Operators.{bigint, is_bigint}
use Rattle.expressions.specs.Parts.{check_expressions}
use Rattle.database_laws.specs.Visible.{visible_of}
use Rattle.database_laws.proofs.VisibleLemmas.{passing_is_filter}
use Rattle.database_laws.specs.Queries.{IsPassing, listed_of, IsMadeOfPassing, IsMadeOfAllPassing}
use Rattle.abstract_database.proofs.ListLemmas.{in_append_left}
use Rattle.abstract_database.proofs.ResultLemmas.{ok_inside, bind_ok, length_each, Every, every_bind, every_ok, passing_from, passing_to}
use Rattle.database_laws.proofs.QueryLemmas.{of_map, into_map, of_ordered, into_ordered}
use Rattle.database_laws.proofs.SelectLemmas.{table_source, definitions_in, selected_steps}

-- ---- products

module _ {X : Type 0} where
  of_append : (xs ys : List X) (z : X) → Among z (xs ++ ys) → Among z xs ⊎ Among z ys
  of_append [] ys z h = inr h
  of_append (x ∷ xs) ys z (inl is) = inl (inl is)
  of_append (x ∷ xs) ys z (inr later) = elim (of_append xs ys z later) [ inl h ↦ inl (inr h) | inr h ↦ inr h ]

  append_right : (xs ys : List X) (z : X) → Among z ys → Among z (xs ++ ys)
  append_right [] ys z h = h
  append_right (x ∷ xs) ys z h = inr (append_right xs ys z h)

abbrev with_first : List Combination → Row → List Combination
with_first rest row = map (λ r. row ∷ r) rest

-- a row and a combination of the rest
pub record IsPair (rows : List Row) (rest : List Combination) (c : Combination) : Type 0 where
  pub first : Row
  pub others : Combination
  pub among : Among first rows
  pub behind : Among others rest
  pub is : c ≡ first ∷ others

pub of_pairs : (rest : List Combination) (rows : List Row) (c : Combination) → Among c (flat_map (with_first rest) rows) → IsPair rows rest c
of_pairs rest [] c h = absurd h
of_pairs rest (row ∷ rows) c h = elim (of_append (with_first rest row) (flat_map (with_first rest) rows) c h) [
  | inl here ↦ let at = of_map (λ (r : Combination). row ∷ r) rest c here in record { first = row; others = at.0; among = inl refl; behind = at.1; is = sym at.2 }
  | inr later ↦ let p = of_pairs rest rows c later in record { first = p.first; others = p.others; among = inr p.among; behind = p.behind; is = p.is }
]

into_pairs : (rest : List Combination) (rows : List Row) (row : Row) (c : Combination) → Among row rows → Among c rest → Among (row ∷ c) (flat_map (with_first rest) rows)
into_pairs rest [] row c h k = absurd h
into_pairs rest (r ∷ rows) row c (inl is) k = in_append_left (with_first rest r) (flat_map (with_first rest) rows) (row ∷ c)
    (subst (λ x. Among (row ∷ c) (with_first rest x)) (sym is) (into_map (λ (l : Combination). row ∷ l) rest c k))
into_pairs rest (r ∷ rows) row c (inr later) k = append_right (with_first rest r) (flat_map (with_first rest) rows) (row ∷ c) (into_pairs rest rows row c later k)

module _ (db : Database) (users : UserNames) where
  abbrev shown : Table → List Row → Type 0
  shown t rows = passing (guard db users t.definition action.Select using_clause) t.rows ≡ Ok rows

  -- the rows of each table that pass
  abbrev all_shown : List Table → List (List Row) → Type 0
  all_shown ts visible = each (λ (s : Source). passing s.guard s.rows) (map (table_source db users) ts) ≡ Ok visible

  record Taken (t : Table) (ts : List Table) (visible : List (List Row)) : Type 0 where
    first : List Row
    rest : List (List Row)
    first_is : shown t first
    rest_is : all_shown ts rest
    is : first ∷ rest ≡ visible

  taken : (t : Table) (ts : List Table) (visible : List (List Row)) → all_shown (t ∷ ts) visible → Taken t ts visible
  taken t ts visible e =
      let one = bind_ok (passing (guard db users t.definition action.Select using_clause) t.rows) (λ (v : List Row). each (λ (s : Source). passing s.guard s.rows) (map (table_source db users) ts) >>= λ vs. Ok (v ∷ vs)) visible e in
      let more = bind_ok (each (λ (s : Source). passing s.guard s.rows) (map (table_source db users) ts)) (λ (vs : List (List Row)). Ok (one.0 ∷ vs)) visible one.2 in
      record { first = one.0; rest = more.0; first_is = one.1; rest_is = more.1; is = ok_inside (one.0 ∷ more.0) visible more.2 }

  pub of_product : (ts : List Table) (visible : List (List Row)) → all_shown ts visible → (c : Combination) → Among c (product visible) → IsPassing db users ts c
  of_product [] visible e c h = alone c (subst (λ v. Among c (product v)) (sym (ok_inside [] visible e)) h) where
    alone : (c : Combination) → Among c ([] ∷ []) → IsPassing db users [] c
    alone [] h = tt
    alone (row ∷ rows) (inl is) = cc
    alone (row ∷ rows) (inr other) = absurd other
  of_product (t ∷ ts) visible e c h =
      let v = taken t ts visible e in
      let p = of_pairs (product v.rest) v.first c (subst (λ l. Among c (product l)) (sym v.is) h) in
      let met = passing_from (guard db users t.definition action.Select using_clause) t.rows v.first v.first_is p.first p.among in
      subst (λ x. IsPassing db users (t ∷ ts) x) (sym p.is) (met.0, met.1, of_product ts v.rest v.rest_is p.others p.behind)

  pub into_product : (ts : List Table) (visible : List (List Row)) → all_shown ts visible → (c : Combination) → IsPassing db users ts c → Among c (product visible)
  into_product [] visible e [] h = subst (λ v. Among [] (product v)) (ok_inside [] visible e) (inl refl)
  into_product [] visible e (row ∷ rows) h = absurd h
  into_product (t ∷ ts) visible e [] h = absurd h
  into_product (t ∷ ts) visible e (row ∷ rows) h =
      let v = taken t ts visible e in
      subst (λ l. Among (row ∷ rows) (product l)) v.is
      (into_pairs (product v.rest) v.first row rows (passing_to (guard db users t.definition action.Select using_clause) t.rows v.first v.first_is row h.0 h.1) (into_product ts v.rest v.rest_is rows h.2))

-- ---- how many

length_kept : {A : Type 0} (v : Value) (x : A) (ys : List A) → length (when_true v (x ∷ ys) ys) ≤ suc (length ys)
length_kept (Boolean true) x ys = omega arith
length_kept (Boolean false) x ys = omega arith
length_kept Null x ys = omega arith
length_kept (Int n) x ys = omega arith
length_kept (Text t) x ys = omega arith

length_passing : {A : Type 0} (p : A → Outcome) (xs ys : List A) → passing p xs ≡ Ok ys → length ys ≤ length xs
length_passing p [] ys e = subst (λ l. length l ≤ 0) (ok_inside [] ys e) (omega arith)
length_passing p (x ∷ xs) ys e =
    let first = bind_ok (p x) (λ v. passing p xs >>= λ l. Ok (when_true v (x ∷ l) l)) ys e in
    let rest = bind_ok (passing p xs) (λ l. Ok (when_true first.0 (x ∷ l) l)) ys first.2 in
    let less = length_passing p xs rest.0 rest.1 in
    let kept = length_kept first.0 x rest.0 in
    let whole : length (when_true first.0 (x ∷ rest.0) rest.0) ≤ suc (length xs) = omega (arith, less, kept) in
    subst (λ l. length l ≤ suc (length xs)) (ok_inside (when_true first.0 (x ∷ rest.0) rest.0) ys rest.2) whole

module _ {A : Type 0} (cmp : A → A → Ordering) where
  length_put_at : (b : Bool) (x y : A) (ys zs : List A) → length zs ≡ suc (length ys) → length (cond b (y ∷ zs) (x ∷ y ∷ ys)) ≡ suc (suc (length ys))
  length_put_at true x y ys zs e = ap suc e
  length_put_at false x y ys zs e = refl

  length_put : (x : A) (ys : List A) → length (put_before cmp x ys) ≡ suc (length ys)
  length_put x [] = refl
  length_put x (y ∷ ys) = length_put_at (is_gt (cmp x y)) x y ys (put_before cmp x ys) (length_put x ys)

  length_sorted : (xs : List A) → length (sorted cmp xs) ≡ length xs
  length_sorted [] = refl
  length_sorted (x ∷ xs) = length_put x (sorted cmp xs) ∙ ap suc (length_sorted xs)

length_cut : {A : Type 0} (limit : Option ℕ) (xs : List A) → length (cut limit xs) ≤ length xs
length_cut None xs = omega arith
length_cut (Some n) xs = let least = length-take n xs in omega (arith, least)

length_ordered : (users : UserNames) (keys : List BoundKey) (limit : Option ℕ) (cs out : List Combination) → ordered users keys limit cs ≡ Ok out → length out ≤ length cs
length_ordered users keys limit cs out e =
    let cmp = λ (a b : Keyed). keys_cmp keys a.keys b.keys in
    let steps = bind_ok (each (with_keys users keys) cs) (λ ks. Ok (map (λ k. k.combination) (cut limit (sorted cmp ks)))) out e in
    let same = ok_inside (map (λ (k : Keyed). k.combination) (cut limit (sorted cmp steps.0))) out steps.2 in
    let mapped : length (map (λ (k : Keyed). k.combination) (cut limit (sorted cmp steps.0))) ≡ length (cut limit (sorted cmp steps.0)) = length-map (cut limit (sorted cmp steps.0)) (λ (k : Keyed). k.combination) in
    let short = length_cut limit (sorted cmp steps.0) in
    let all = length_sorted cmp steps.0 in
    let keyed = length_each (with_keys users keys) cs steps.0 steps.1 in
    let whole : length (map (λ (k : Keyed). k.combination) (cut limit (sorted cmp steps.0))) ≤ length cs = omega (arith, mapped, short, all, keyed) in
    subst (λ l. length l ≤ length cs) same whole

module _ (db : Database) (users : UserNames) where
  -- the rows that are shown are those that a filter leaves
  shown_is : (ts : List Table) (visible : List (List Row)) → all_shown db users ts visible → visible ≡ map (λ (t : Table). visible_of db users t.definition t.rows) ts
  shown_is [] visible e = sym (ok_inside [] visible e)
  shown_is (t ∷ ts) visible e =
      let v = taken db users t ts visible e in
      sym v.is
      ∙ ap (λ rows. rows ∷ v.rest) (passing_is_filter (guard db users t.definition action.Select using_clause) t.rows v.first v.first_is)
      ∙ ap (λ rest. visible_of db users t.definition t.rows ∷ rest) (shown_is ts v.rest v.rest_is)

-- ---- the list

-- what a bound list makes of combinations of rows
abbrev pub bound_listed : UserNames → BoundList → List Combination → Result (List Row) SqlState
bound_listed users each_column cs = Ok (map all_columns cs)
bound_listed users (each_value terms) cs = each (λ c. each (bound_value users c) terms) cs
bound_listed users their_count cs = bigint (pos (length cs)) >>= λ count. Ok ((count ∷ []) ∷ [])

-- what is listed: some of the combinations, all of them where there is no limit
record IsListed (users : UserNames) (l : BoundList) (limit : Option ℕ) (chosen : List Combination) (rows : List Row) : Type 0 where
  combinations : List Combination
  of_chosen : (c : Combination) → Among c combinations → Among c chosen
  few : length combinations ≤ length chosen
  listed_is : bound_listed users l combinations ≡ Ok rows
  whole : limit ≡ None → (c : Combination) → Among c chosen → Among c combinations

module _ (users : UserNames) (keys : List BoundKey) where
  all_of_ordered : (limit : Option ℕ) (cs out : List Combination) → ordered users keys limit cs ≡ Ok out → limit ≡ None → (c : Combination) → Among c cs → Among c out
  all_of_ordered limit cs out e none c h = into_ordered users keys cs out (subst (λ l. ordered users keys l cs ≡ Ok out) none e) c h

  in_order : (l : BoundList) (limit : Option ℕ) (chosen cs : List Combination) (rows : List Row) → ordered users keys limit chosen ≡ Ok cs → bound_listed users l cs ≡ Ok rows → IsListed users l limit chosen rows
  in_order l limit chosen cs rows e is = record {
    combinations = cs;
    of_chosen = λ c h. of_ordered users keys limit chosen cs e c h;
    few = length_ordered users keys limit chosen cs e;
    listed_is = is;
    whole = λ none c h. all_of_ordered limit chosen cs e none c h;
  }

  is_listed : (l : BoundList) (limit : Option ℕ) (chosen : List Combination) (rows : List Row) → listed users l keys limit chosen ≡ Ok rows → IsListed users l limit chosen rows
  is_listed their_count limit chosen rows e = record {
    combinations = chosen;
    of_chosen = λ c h. h;
    few = omega arith;
    listed_is = e;
    whole = λ none c h. h;
  }
  is_listed each_column limit chosen rows e =
      let o = bind_ok (ordered users keys limit chosen) (λ (cs : List Combination). Ok (map all_columns cs)) rows e in
      in_order each_column limit chosen o.0 rows o.1 o.2
  is_listed (each_value terms) limit chosen rows e =
      let o = bind_ok (ordered users keys limit chosen) (λ (cs : List Combination). each (λ c. each (bound_value users c) terms) cs) rows e in
      in_order (each_value terms) limit chosen o.0 rows o.1 o.2

-- ---- the list by its names

count_in : (b : Bool) (n : ℕ) (rows : List Row) → (cond b (Ok (Int (pos n))) (Err NumericValueOutOfRange) >>= λ count. Ok ((count ∷ []) ∷ [])) ≡ Ok rows → ◌≡◌ {A = Result (List Row) SqlState} (Ok ((Int (pos n) ∷ []) ∷ [])) (Ok rows)
count_in true n rows e = e
count_in false n rows e = cc

pub by_its_names : (scope : List ScopeTable) (users : UserNames) (l : SelectList) (b : BoundList) (cs : List Combination) (rows : List Row) → bound_list scope l ≡ Ok b → bound_listed users b cs ≡ Ok rows → listed_of scope users l cs ≡ Ok rows
by_its_names scope users list.Asterisk b cs rows found e = ap (λ x. bound_listed users x cs) (ok_inside each_column b found) ∙ e
by_its_names scope users (list.Expressions terms) b cs rows found e =
    let at = bind_ok (each (resolved scope) terms) (λ bound. Ok (each_value bound)) b found in
    sym (ap (λ (f : Combination → Result Row SqlState). each f cs) (fun_ext (λ (c : Combination). by_names scope users c terms at.0 at.1)))
    ∙ ap (λ x. bound_listed users x cs) (ok_inside (each_value at.0) b at.2) ∙ e
by_its_names scope users list.Count b cs rows found e =
    count_in (is_bigint (pos (length cs))) (length cs) rows (ap (λ x. bound_listed users x cs) (ok_inside their_count b found) ∙ e)

-- ---- answers

-- the steps of a query over these tables
record IsQueried (db : Database) (users : UserNames) (q : BoundQuery) (tables : List Table) (rows : List Row) : Type 0 where
  visible : List (List Row)
  visible_is : all_shown db users tables visible
  chosen : List Combination
  chosen_is : passing (condition_value users q.conditions) (product visible) ≡ Ok chosen
  listing : IsListed users q.list q.limit chosen rows

queried : (db : Database) (users : UserNames) (q : BoundQuery) (tables : List Table) (rows : List Row) → query (map (table_source db users) tables) users q ≡ Ok rows → IsQueried db users q tables rows
queried db users q tables rows e =
    let go = λ (visible : List (List Row)). passing (condition_value users q.conditions) (product visible) >>= λ chosen. listed users q.list q.keys q.limit chosen in
    let first = bind_ok (each (λ (x : Source). passing x.guard x.rows) (map (table_source db users) tables)) go rows e in
    let second = bind_ok (passing (condition_value users q.conditions) (product first.0)) (λ (chosen : List Combination). listed users q.list q.keys q.limit chosen) rows first.2 in
    record {
      visible = first.0;
      visible_is = first.1;
      chosen = second.0;
      chosen_is = second.1;
      listing = is_listed users q.keys q.list q.limit second.0 rows second.2;
    }

rows_inside : (db : Database) (rows out : List Row) → effect (answer.Rows rows) db ≡ effect (answer.Rows out) db → rows ≡ out
rows_inside db rows out e = let answers : answer.Rows rows ≡ answer.Rows out = ap (λ (x : Effect). x.answer) e in cc

-- the parts of a query that was bound
record IsBoundAs (scope : List ScopeTable) (s : Select) (q : BoundQuery) : Type 0 where
  list_is : bound_list scope s.list ≡ Ok q.list
  conditions_are : each (bound_condition scope) (conditions_of s.source) ≡ Ok q.conditions
  limit_is : q.limit ≡ limit_of s.source

bound_as : (scope : List ScopeTable) (s : Select) → Every (IsBoundAs scope s) (bound_query scope s.list s.source)
bound_as scope s =
    let P = IsBoundAs scope s in
    every_bind P (bound_list scope s.list) _ (λ l l-is.
    every_bind P (each (bound_condition scope) (conditions_of s.source)) _ (λ conditions conditions-is.
    every_bind P (each (bound_key scope) (keys_of s.source)) _ (λ keys keys-is.
    every_bind P (check_expressions (select_parts scope s.list s.source)) _ (λ typed typed-is.
    every_ok P (record { list = l; conditions = conditions; keys = keys; limit = limit_of s.source }) (record { list_is = l-is; conditions_are = conditions-is; limit_is = refl })))))

abbrev scope_in : Select → List Table → List ScopeTable
scope_in s tables = scope_of (tables_in s.source) (definitions_in tables)

abbrev made_of : (db : Database) (users : UserNames) (s : Select) (tables : List Table) (q : BoundQuery) (rows : List Row) → each (λ r. find_table db r.table) (tables_in s.source) ≡ Ok tables → IsBoundAs (scope_in s tables) s q → IsQueried db users q tables rows → IsMadeOfPassing db users s rows
made_of db users s tables q rows named bound x = record {
  tables = tables;
  named = named;
  combinations = x.listing.combinations;
  passed = λ c h. of_product db users tables x.visible x.visible_is c
      (passing_from (condition_value users q.conditions) (product x.visible) x.chosen x.chosen_is c (x.listing.of_chosen c h)).0;
  few =
      let few = x.listing.few in
      let met = length_passing (condition_value users q.conditions) (product x.visible) x.chosen x.chosen_is in
      let below : length x.listing.combinations ≤ length (product x.visible) = omega (arith, few, met) in
      subst (λ v. length x.listing.combinations ≤ length (product v)) (shown_is db users tables x.visible x.visible_is) below;
  listed = by_its_names (scope_in s tables) users s.list q.list x.listing.combinations rows bound.list_is x.listing.listed_is;
}

record Queried (db : Database) (users : UserNames) (s : Select) (rows : List Row) : Type 0 where
  tables : List Table
  named : each (λ r. find_table db r.table) (tables_in s.source) ≡ Ok tables
  q : BoundQuery
  bound : IsBoundAs (scope_in s tables) s q
  steps : IsQueried db users q tables rows

queried_by : (db : Database) (users : UserNames) (s : Select) (rows : List Row) → select db users s ≡ Ok (effect (answer.Rows rows) db) → Queried db users s rows
queried_by db users s rows e =
    let x = selected_steps db users s (effect (answer.Rows rows) db) e in
    record {
      tables = x.tables;
      named = x.found;
      q = x.q;
      bound = bound_as (scope_in s x.tables) s x.q x.bound;
      steps = queried db users x.q x.tables rows (x.answers ∙ ap (λ r. Ok r) (sym (rows_inside db rows x.rows x.is)));
    }

pub made_of_passing : (db : Database) (users : UserNames) (s : Select) (rows : List Row) → select db users s ≡ Ok (effect (answer.Rows rows) db) → IsMadeOfPassing db users s rows
made_of_passing db users s rows e = let x = queried_by db users s rows e in made_of db users s x.tables x.q rows x.named x.bound x.steps

pub made_of_all : (db : Database) (users : UserNames) (s : Select) (rows : List Row) → select db users s ≡ Ok (effect (answer.Rows rows) db) → conditions_of s.source ≡ [] → limit_of s.source ≡ None → IsMadeOfAllPassing db users s rows
made_of_all db users s rows e free unlimited =
    let x = queried_by db users s rows e in
    let none : x.q.conditions ≡ [] = ok_inside x.q.conditions [] (sym x.bound.conditions_are ∙ ap (each (bound_condition (scope_in s x.tables))) free) in
    record {
      made = made_of db users s x.tables x.q rows x.named x.bound x.steps;
      whole = λ c h.
          let holds : condition_value users x.q.conditions c ≡ Ok (Boolean true) = ap (λ (on : List (Term ColumnIndex)). condition_value users on c) none in
          x.steps.listing.whole (x.bound.limit_is ∙ unlimited) c
          (passing_to (condition_value users x.q.conditions) (product x.steps.visible) x.steps.chosen x.steps.chosen_is c (into_product db users x.tables x.steps.visible x.steps.visible_is c h) holds);
    }
