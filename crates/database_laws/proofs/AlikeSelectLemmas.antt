-- A SELECT over two databases of which its users see the same, and the rows that pass beside those that say something.
use Rattle.std.proofs.Common.{◌≡◌, ◌&&◌, Bool, true, false, not, cond, filter, List, [], ◌∷◌, map, Some, Result, Ok, Err, refl, sym, ap, ◌∙◌, subst, inl, inr}
use Rattle.std.proofs.lemmas.Bool.{and_parts}
use Rattle.sql_types.specs.Row.{Row}
use Rattle.sql_types.specs.declared.state.SqlState.{SqlState}
use Rattle.sql_types.specs.declared.value.Value.TheVariants.{Null, Int, Text, Bool as Boolean}
use Rattle.sql_types.specs.declared.answer.Answer.TheVariants as answer
use Rattle.sql_ast.specs.declared.privilege.Action.TheVariants as action
use Rattle.sql_ast.specs.declared.statement.Select.{Select}
use Rattle.sql_ast.specs.declared.statement.TableReference.{TableReference}
use Rattle.expressions.specs.Outcome.{Outcome}
use Rattle.expressions.specs.Meaning.{UserNames}
use Rattle.expressions.specs.Stages.{◌>>=◌, each}
use Rattle.abstract_database.specs.Lists.{Among, drop_where}
use Rattle.abstract_database.specs.Database.{TableOf, Database, definition_named, rows_named}
use Rattle.abstract_database.specs.Expressions.{passing, when_true}
use Rattle.abstract_database.specs.Guards.{guard, using_clause}
use Rattle.abstract_database.specs.Queries.{tables_in, BoundQuery, Source, query, product, condition_value, listed, CheckedSelect}
use Rattle.abstract_database.specs.Checks.{find_definition, checked_select}
use Rattle.abstract_database.specs.Statements.{effect, source_of, selected, select}
use Rattle.abstract_database.proofs.CheckLemmas.{select_checked}
use Rattle.abstract_database.proofs.ResultLemmas.{each_from}
use Rattle.database_laws.specs.Visible.{is_met, visible_rows, SameVisibleRows, HasValue, NoGuardFails}
use Rattle.database_laws.specs.Worlds.{has_value, is_unmet, is_silent, apparent_rows, SameApparentRows, EndAlike}
use Rattle.database_laws.proofs.WorldLemmas.{checked_alone, named_by_itself}

-- ---- rows that pass

pass_again : (r : Result (List Row) SqlState) → (r >>= λ rest. Ok rest) ≡ r
pass_again (Ok rows) = refl
pass_again (Err code) = refl

unmet_passes_nothing : (o : Outcome) (row : Row) (l : Result (List Row) SqlState) → is_unmet o ≡ true → (o >>= λ v. l >>= λ rest. Ok (when_true v (row ∷ rest) rest)) ≡ l
unmet_passes_nothing (Ok (Boolean true)) row l e = cc
unmet_passes_nothing (Ok (Boolean false)) row l e = pass_again l
unmet_passes_nothing (Ok Null) row l e = pass_again l
unmet_passes_nothing (Ok (Int n)) row l e = pass_again l
unmet_passes_nothing (Ok (Text t)) row l e = pass_again l
unmet_passes_nothing (Err code) row l e = cc

module _ (silent : Row → Bool) (g : Row → Outcome) (hides : (row : Row) → silent row ≡ true → is_unmet (g row) ≡ true) where
  said_at : (row : Row) (rows : List Row) (b : Bool) → silent row ≡ b → passing g rows ≡ passing g (drop_where silent rows) →
      passing g (row ∷ rows) ≡ passing g (cond (not b) (row ∷ drop_where silent rows) (drop_where silent rows))
  said_at row rows true e go = unmet_passes_nothing (g row) row (passing g rows) (hides row e) ∙ go
  said_at row rows false e go = ap (λ (l : Result (List Row) SqlState). g row >>= λ v. l >>= λ rest. Ok (when_true v (row ∷ rest) rest)) go

  pub those_that_say : (rows : List Row) → passing g rows ≡ passing g (drop_where silent rows)
  those_that_say [] = refl
  those_that_say (row ∷ rows) = said_at row rows (silent row) refl (those_that_say rows)

module _ (db : Database) (users : UserNames) (t : TableOf) where
  pub silent_is_unmet : (row : Row) → is_silent db users t row ≡ true → is_unmet (guard db users t action.Select using_clause row) ≡ true
  silent_is_unmet row h = (and_parts (is_unmet (guard db users t action.Select using_clause row)) (has_value (guard db users t action.Update using_clause row) && has_value (guard db users t action.Delete using_clause row)) h).0

-- ---- SELECT

module _ (users : UserNames) (d e : Database) (alike : SameApparentRows users d e) where
  abbrev select_guard : Database → TableOf → Row → Outcome
  select_guard db t = guard db users t action.Select using_clause

  visible_alike : (t : TableOf) → definition_named d t.name ≡ Some t → passing (select_guard d t) (rows_named d t.name) ≡ passing (select_guard e t) (rows_named e t.name)
  visible_alike t h =
      those_that_say (is_silent d users t) (select_guard d t) (silent_is_unmet d users t) (rows_named d t.name)
      ∙ ap (passing (select_guard d t)) (alike.rows t h)
      ∙ ap (λ (x : Database). passing (select_guard x t) (apparent_rows e users t)) alike.definitions
      ∙ sym (those_that_say (is_silent e users t) (select_guard e t) (silent_is_unmet e users t) (rows_named e t.name))

  abbrev seen_of : Source → Result (List Row) SqlState
  seen_of x = passing x.guard x.rows

  all_alike : (ts : List TableOf) → ((t : TableOf) → Among t ts → definition_named d t.name ≡ Some t) → each seen_of (map (source_of d users) ts) ≡ each seen_of (map (source_of e users) ts)
  all_alike [] h = refl
  all_alike (t ∷ ts) h =
      ap (λ (r : Result (List Row) SqlState). r >>= λ y. each seen_of (map (source_of d users) ts) >>= λ ys. Ok (y ∷ ys)) (visible_alike t (h t (inl refl)))
      ∙ ap (λ (r : Result (List (List Row)) SqlState). seen_of (source_of e users t) >>= λ y. r >>= λ ys. Ok (y ∷ ys)) (all_alike ts (λ x k. h x (inr k)))

  shown : (r : Result (List Row) SqlState) → EndAlike users (r >>= λ rows. Ok (effect (answer.Rows rows) d)) (r >>= λ rows. Ok (effect (answer.Rows rows) e))
  shown (Ok rows) = (refl, alike)
  shown (Err code) = refl

  queried : (q : BoundQuery) (ts : List TableOf) → ((t : TableOf) → Among t ts → definition_named d t.name ≡ Some t) → query (map (source_of d users) ts) users q ≡ query (map (source_of e users) ts) users q
  queried q ts h = ap (λ (r : Result (List (List Row)) SqlState). r >>= λ v. passing (condition_value users q.conditions) (product v) >>= λ chosen. listed users q.list q.keys q.limit chosen) (all_alike ts h)

  select_at : (s : Select) (r : Result CheckedSelect SqlState) → checked_select d users s ≡ r → EndAlike users (r >>= selected d users) (r >>= selected e users)
  select_at s (Err code) is = refl
  select_at s (Ok c) is =
      let facts = select_checked d users s c is in
      let named = λ (t : TableOf) (h : Among t c.tables). let from = each_from (λ (r : TableReference). find_definition d r.table) (tables_in s.source) c.tables facts.found t h in named_by_itself d from.0.table t from.2 in
      subst (λ (r : Result (List Row) SqlState). EndAlike users (query (map (source_of d users) c.tables) users c.query >>= λ rows. Ok (effect (answer.Rows rows) d)) (r >>= λ rows. Ok (effect (answer.Rows rows) e)))
      (queried c.query c.tables named) (shown (query (map (source_of d users) c.tables) users c.query))

  pub select_ends_alike : (s : Select) → EndAlike users (select d users s) (select e users s)
  select_ends_alike s =
      subst (λ (r : Result CheckedSelect SqlState). EndAlike users (select d users s) (r >>= selected e users))
      (checked_alone d users s ∙ ap (λ (x : Database). checked_select x users s) alike.definitions ∙ sym (checked_alone e users s))
      (select_at s (checked_select d users s) refl)

-- ---- where no guard fails, the rows that say something are those that pass

filter_same_at : (f g : Row → Bool) (x : Row) (xs ys : List Row) (b : Bool) → g x ≡ b → filter f xs ≡ ys → cond b (x ∷ filter f xs) (filter f xs) ≡ cond (g x) (x ∷ ys) ys
filter_same_at f g x xs ys b e go = ap (λ l. cond b (x ∷ l) l) go ∙ ap (λ m. cond m (x ∷ ys) ys) (sym e)

filter_same : (f g : Row → Bool) (xs : List Row) → ((x : Row) → Among x xs → f x ≡ g x) → filter f xs ≡ filter g xs
filter_same f g [] h = refl
filter_same f g (x ∷ xs) h = filter_same_at f g x xs (filter g xs) (f x) (sym (h x (inl refl))) (filter_same f g xs (λ y k. h y (inr k)))

value_there : (o : Outcome) → HasValue o → has_value o ≡ true
value_there o v = ap has_value v.1

met_or_unmet : (o : Outcome) → has_value o ≡ true → not (is_unmet o) ≡ is_met o
met_or_unmet (Ok (Boolean true)) h = refl
met_or_unmet (Ok (Boolean false)) h = refl
met_or_unmet (Ok Null) h = refl
met_or_unmet (Ok (Int n)) h = refl
met_or_unmet (Ok (Text t)) h = refl
met_or_unmet (Err code) h = cc

said_or_met : (o : Outcome) (a b : Bool) → has_value o ≡ true → a ≡ true → b ≡ true → not (is_unmet o && (a && b)) ≡ is_met o
said_or_met o true true h e f = drop_true (is_unmet o) ∙ met_or_unmet o h where
  drop_true : (c : Bool) → not (c && true) ≡ not c
  drop_true true = refl
  drop_true false = refl
said_or_met o true false h e f = cc
said_or_met o false b h e f = cc

module _ (users : UserNames) (db : Database) (select : NoGuardFails action.Select users db) (update : NoGuardFails action.Update users db) (delete : NoGuardFails action.Delete users db) where
  pub apparent_is_visible : (t : TableOf) → definition_named db t.name ≡ Some t → apparent_rows db users t ≡ visible_rows db users t
  apparent_is_visible t h = filter_same (λ row. not (is_silent db users t row)) (λ row. is_met (guard db users t action.Select using_clause row)) (rows_named db t.name)
      (λ row k. said_or_met (guard db users t action.Select using_clause row) (has_value (guard db users t action.Update using_clause row)) (has_value (guard db users t action.Delete using_clause row))
      (value_there (guard db users t action.Select using_clause row) (select t h row k)) (value_there (guard db users t action.Update using_clause row) (update t h row k)) (value_there (guard db users t action.Delete using_clause row) (delete t h row k)))

met_said : (o : Outcome) (a : Bool) → is_met o ≡ true → not (is_unmet o && a) ≡ true
met_said (Ok (Boolean true)) a h = refl
met_said (Ok (Boolean false)) a h = cc
met_said (Ok Null) a h = cc
met_said (Ok (Int n)) a h = cc
met_said (Ok (Text t)) a h = cc
met_said (Err code) a h = cc

filter_inner_at : (f g : Row → Bool) (x : Row) (xs : List Row) (b : Bool) → g x ≡ b → (f x ≡ true → g x ≡ true) → filter f (filter g xs) ≡ filter f xs → filter f (cond b (x ∷ filter g xs) (filter g xs)) ≡ filter f (x ∷ xs)
filter_inner_at f g x xs true e h go = ap (λ l. cond (f x) (x ∷ l) l) go
filter_inner_at f g x xs false e h go = go ∙ by_test (f x) refl where
  by_test : (b : Bool) → f x ≡ b → filter f xs ≡ cond (f x) (x ∷ filter f xs) (filter f xs)
  by_test true is = let contrary : true ≡ false = sym (h is) ∙ e in cc
  by_test false is = sym (ap (λ m. cond m (x ∷ filter f xs) (filter f xs)) is)

filter_inner : (f g : Row → Bool) (xs : List Row) → ((x : Row) → f x ≡ true → g x ≡ true) → filter f (filter g xs) ≡ filter f xs
filter_inner f g [] h = refl
filter_inner f g (x ∷ xs) h = filter_inner_at f g x xs (g x) refl (h x) (filter_inner f g xs h)

module _ (users : UserNames) (d e : Database) where
  abbrev is_visible : Database → TableOf → Row → Bool
  is_visible db t row = is_met (guard db users t action.Select using_clause row)

  visible_of_apparent : (db : Database) (t : TableOf) → filter (is_visible db t) (apparent_rows db users t) ≡ visible_rows db users t
  visible_of_apparent db t = filter_inner (is_visible db t) (λ row. not (is_silent db users t row)) (rows_named db t.name)
      (λ row h. met_said (guard db users t action.Select using_clause row) (has_value (guard db users t action.Update using_clause row) && has_value (guard db users t action.Delete using_clause row)) h)

  pub agree_of_alike : SameApparentRows users d e → SameVisibleRows users d e
  agree_of_alike alike = record {
    definitions = alike.definitions;
    rows = λ t h. sym (visible_of_apparent d t) ∙ ap (filter (is_visible d t)) (alike.rows t h)
        ∙ ap (λ (x : Database). filter (is_visible x t) (apparent_rows e users t)) alike.definitions ∙ visible_of_apparent e t;
  }

  pub alike_of_agree : SameVisibleRows users d e → NoGuardFails action.Select users d → NoGuardFails action.Update users d → NoGuardFails action.Delete users d →
      NoGuardFails action.Select users e → NoGuardFails action.Update users e → NoGuardFails action.Delete users e → ((t : TableOf) → definition_named d t.name ≡ Some t → definition_named e t.name ≡ Some t) → SameApparentRows users d e
  alike_of_agree agree a b c i j k named = record {
    definitions = agree.definitions;
    rows = λ t h. apparent_is_visible users d a b c t h ∙ agree.rows t h ∙ sym (apparent_is_visible users e i j k t (named t h));
  }
