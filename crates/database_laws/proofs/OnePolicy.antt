-- Statements over tables whose policies say one thing of every command, over two databases of which their users see the same.
use Rattle.std.proofs.Common.{◌≡◌, ◌||◌, Bool, true, false, List, [], ◌∷◌, ◌++◌, Some, Result, Ok, Err, refl, sym, ap, ◌∙◌, subst, inl, inr, Ordering, Less, Equal, Greater, is_eq}
use Rattle.std.specs.List.{list_any}
use Rattle.std.specs.Option.{option_map}
use Rattle.std.proofs.lemmas.Option.{same_Some}
use Rattle.sql_types.specs.Row.{Row}
use Rattle.sql_types.specs.declared.state.SqlState.{SqlState}
use Rattle.sql_types.specs.declared.state.SqlState.TheVariants.{InsufficientPrivilege}
use Rattle.sql_types.specs.declared.value.Value.TheVariants.{Null, Int, Text, Bool as Boolean}
use Rattle.sql_ast.specs.Rows.{row_cmp}
use Rattle.sql_ast.specs.declared.privilege.Action.TheVariants as action
use Rattle.sql_ast.specs.declared.statement.DatabaseStatement.{DatabaseStatement}
use Rattle.sql_ast.specs.declared.statement.DatabaseStatement.TheVariants as on_database
use Rattle.sql_ast.specs.declared.statement.RowStatement.{RowStatement}
use Rattle.sql_ast.specs.declared.statement.RowStatement.TheVariants as over_rows
use Rattle.sql_ast.specs.declared.statement.Insert.{Insert}
use Rattle.sql_ast.specs.declared.statement.Update.{Update}
use Rattle.sql_ast.specs.declared.statement.Delete.{Delete}
use Rattle.expressions.specs.Outcome.{Outcome}
use Rattle.expressions.specs.Meaning.{UserNames}
use Rattle.expressions.specs.Stages.{◌>>=◌, require, each}
use Rattle.abstract_database.specs.Lists.{TheName, Among, drop_where}
use Rattle.abstract_database.specs.Database.{TableOf, Table, Database, is_table_named, definition_named, rows_in, rows_named}
use Rattle.abstract_database.specs.Expressions.{when_true}
use Rattle.abstract_database.specs.Guards.{Guard, guard, using_clause, existing_guard, new_guard}
use Rattle.abstract_database.specs.Changes.{has_double_key, is_admitted, CheckedUpdate, CheckedDelete, choose, new_rows, other_rows, condition_on_row, assigned}
use Rattle.abstract_database.specs.Checks.{checked_update, checked_delete}
use Rattle.abstract_database.specs.Statements.{Effect, UserPair, as_seen, exec_as, exec, insert, update}
use Rattle.abstract_database.proofs.CheckLemmas.{found_definition, insert_checked, update_checked, delete_checked}
use Rattle.abstract_database.proofs.ResultLemmas.{bind_ok}
use Rattle.abstract_database.proofs.RowOrder.{RowFits, row_reversed, apart_of, of_apart}
use Rattle.database_laws.specs.Tables.{EachTable, IsTyped, HasDistinctKeys}
use Rattle.database_laws.specs.Invariants.{IsSound}
use Rattle.database_laws.specs.Worlds.{is_unmet, is_silent, SameApparentRows, EndAlike, EndAlikeWithoutKeys}
use Rattle.database_laws.specs.OnePolicy.{HasPoliciesForAll, SpeaksOfKeys, IsForAll, IsByKey, one_policy_for_all, keys_tell_nothing}
use Rattle.database_laws.proofs.RowLemmas.{Part, of_part, apart_part, chosen_row, others_part}
use Rattle.database_laws.proofs.TableLemmas.{inserted_rows_fit, updated_rows_fit}
use Rattle.database_laws.proofs.WholeLists.{find_found}
use Rattle.database_laws.proofs.WorldLemmas.{named_by_itself, some_table}
use Rattle.database_laws.proofs.AlikeLemmas.{PassesOver, defined_alike, silent_alike, passing_delete_ends_alike}
use Rattle.database_laws.proofs.AlikeWriteLemmas.{checked_by_keys, insert_ends_alike, checked_insert_ends_alike, without_keys, checked_update_ends_alike}
use Rattle.database_laws.proofs.AlikeSelectLemmas.{select_ends_alike, silent_is_unmet}
use Rattle.database_laws.proofs.ForAllLemmas.{delete_passes, update_passes, inserted_is_seen, updated_is_seen}
use Rattle.database_laws.proofs.KeyLemmas.{guard_same, doubles_alike}

-- ---- what is said of each table, of the one of a name

pub of_named : (Q : Table → Type 0) (db : Database) (t : TableOf) → definition_named db t.name ≡ Some t → EachTable Q db → Q (record { definition = t; rows = rows_named db t.name })
of_named Q db t named all =
    let x = some_table db t.name t named in
    let is : x.0.definition ≡ t = same_Some x.0.definition t (sym (ap (option_map (λ (y : Table). y.definition)) x.1) ∙ named) in
    let rows : rows_named db t.name ≡ x.0.rows = ap rows_in x.1 in
    subst (λ (d : TableOf). Q (record { definition = d; rows = rows_named db t.name })) is
    (subst (λ (l : List Row). Q (record { definition = x.0.definition; rows = l })) (sym rows) (all x.0 (find_found (is_table_named t.name) db.tables x.0 x.1).0))

-- ---- new rows that are admitted

admitted_at : (o : Outcome) (u : Unit {0}) → (o >>= λ v. require (when_true v true false) InsufficientPrivilege) ≡ Ok u → o ≡ Ok (Boolean true)
admitted_at (Ok (Boolean true)) u e = refl
admitted_at (Ok (Boolean false)) u e = cc
admitted_at (Ok Null) u e = cc
admitted_at (Ok (Int n)) u e = cc
admitted_at (Ok (Text x)) u e = cc
admitted_at (Err code) u e = cc

all_admitted : (g : Guard) (new : List Row) (l : List (Unit {0})) → each (is_admitted g) new ≡ Ok l → (row : Row) → Among row new → g row ≡ Ok (Boolean true)
all_admitted g [] l e row h = absurd h
all_admitted g (x ∷ xs) l e row h =
    let first = bind_ok (is_admitted g x) (λ y. each (is_admitted g) xs >>= λ ys. Ok (y ∷ ys)) l e in
    let rest = bind_ok (each (is_admitted g) xs) (λ ys. Ok (first.0 ∷ ys)) l first.2 in
    elim h [
      | inl is ↦ subst (λ (y : Row). g y ≡ Ok (Boolean true)) is (admitted_at (g x) first.0 first.1)
      | inr later ↦ all_admitted g xs rest.0 rest.1 row later
    ]

-- ---- no new row has the key of one that says nothing

equal_if : (o : Ordering) → is_eq o ≡ true → o ≡ Equal
equal_if Less e = cc
equal_if Equal e = refl
equal_if Greater e = cc

module _ (db : Database) (users : UserNames) (t : TableOf) (keys : SpeaksOfKeys db users.current t) where
  abbrev sees : Guard
  sees = guard db users t action.Select using_clause

  apart_at : (row other : Row) → RowFits t.layout.columns row → RowFits t.layout.columns other → is_silent db users t row ≡ true → sees other ≡ Ok (Boolean true) →
      (b : Bool) → is_eq (row_cmp t.layout.key row other) ≡ b → b ≡ false
  apart_at row other fits fits_other silent seen false e = refl
  apart_at row other fits fits_other silent seen true e =
      let same : sees row ≡ sees other = guard_same db users t keys row other fits fits_other action.Select (equal_if (row_cmp t.layout.key row other) e) in
      let contrary : false ≡ true = sym (ap is_unmet (same ∙ seen)) ∙ silent_is_unmet db users t row silent in cc

  meets_none : (row : Row) → RowFits t.layout.columns row → is_silent db users t row ≡ true → (new : List Row) → ((other : Row) → Among other new → RowFits t.layout.columns other × (sees other ≡ Ok (Boolean true))) →
      list_any (λ other. is_eq (row_cmp t.layout.key row other)) new ≡ false
  meets_none row fits silent [] h = refl
  meets_none row fits silent (x ∷ xs) h =
      let first = h x (inl refl) in
      none_at (is_eq (row_cmp t.layout.key row x)) (apart_at row x fits first.0 silent first.1 (is_eq (row_cmp t.layout.key row x)) refl) (meets_none row fits silent xs (λ y k. h y (inr k)))
    where
      none_at : (b : Bool) → b ≡ false → list_any (λ other. is_eq (row_cmp t.layout.key row other)) xs ≡ false → (b || list_any (λ other. is_eq (row_cmp t.layout.key row other)) xs) ≡ false
      none_at true e go = cc
      none_at false e go = go

  -- the rows that are kept of the table's
  pub record AreKept (rows : List Row) : Type 0 where
    pub distinct : has_double_key t.layout.key rows ≡ false
    pub fits : (row : Row) → Among row rows → RowFits t.layout.columns row

  pub one_answer : (kept other new : List Row) → AreKept kept → AreKept other → drop_where (is_silent db users t) kept ≡ drop_where (is_silent db users t) other →
      ((row : Row) → Among row new → RowFits t.layout.columns row × (sees row ≡ Ok (Boolean true))) →
      has_double_key t.layout.key (kept ++ new) ≡ has_double_key t.layout.key (other ++ new)
  one_answer kept other new of_kept of_other same seen =
      doubles_alike t.layout.key (is_silent db users t) new kept other of_kept.distinct of_other.distinct
      (λ row h silent. meets_none row (of_kept.fits row h) silent new seen) (λ row h silent. meets_none row (of_other.fits row h) silent new seen) same

  part_kept : (xs ys : List Row) → Part xs ys → AreKept ys → AreKept xs
  part_kept xs ys part of = record {
    distinct = of_apart t.layout.key xs (apart_part (row_cmp t.layout.key) (row_reversed t.layout.key) part (apart_of t.layout.key ys of.distinct));
    fits = λ row h. of.fits row (of_part part row h);
  }

  all_kept : (other : Database) → definition_named other t.name ≡ Some t → IsSound other → AreKept (rows_named other t.name)
  all_kept other named on = record {
    distinct = of_named HasDistinctKeys other t named on.2;
    fits = λ row h. (of_named IsTyped other t named on.0).1 row h;
  }

-- ---- statements

module _ (users : UserNames) (d e : Database) (alike : SameApparentRows users d e) (on_d : IsSound d) (on_e : IsSound e) where
  abbrev SpeakOf : TheName → Type 0
  SpeakOf table = (t : TableOf) → t.name ≡ table → definition_named d t.name ≡ Some t → SpeaksOfKeys d users.current t

  pub update_over : (s : Update) → HasPoliciesForAll d users.current s.table → (c : CheckedUpdate) → checked_update d users s ≡ Ok c → PassesOver d users c.table action.Update c.reads
  update_over s one c is = update_passes d users c.table (subst (HasPoliciesForAll d users.current) (sym (found_definition d s.table c.table (update_checked d users s c is).found).own) one) c.reads

  pub delete_over : (s : Delete) → HasPoliciesForAll d users.current s.table → (c : CheckedDelete) → checked_delete d users s ≡ Ok c → PassesOver d users c.table action.Delete c.reads
  delete_over s one c is = delete_passes d users c.table (subst (HasPoliciesForAll d users.current) (sym (found_definition d s.table c.table (delete_checked d users s c is).found).own) one) c.reads

  insert_by_keys : (s : Insert) → HasPoliciesForAll d users.current s.table → SpeakOf s.table → EndAlike users (insert d users s) (insert e users s)
  insert_by_keys s one speak = checked_insert_ends_alike users d e alike s (λ c is new made.
      let found = (insert_checked d users s c is).found in
      let t = c.table in
      let own : t.name ≡ s.table = (found_definition d s.table t found).own in
      let named : definition_named d t.name ≡ Some t = named_by_itself d s.table t found in
      let keys = speak t own named in
      let own_one = subst (HasPoliciesForAll d users.current) (sym own) one in
      let xs = rows_named d t.name in
      let ys = rows_named e t.name in
      let g = new_guard d users t action.Insert false in
      checked_by_keys t.layout g xs ys new (λ l admitted.
      one_answer d users t keys xs ys new (all_kept d users t keys d named on_d) (all_kept d users t keys e (sym (defined_alike users d e alike t.name) ∙ named) on_e)
      (alike.rows t named ∙ ap (λ (f : Row → Bool). drop_where f ys) (sym (silent_alike users d e alike t)))
      (λ row h. (inserted_rows_fit d users s c is new made row h, inserted_is_seen d users t own_one row (all_admitted g new l admitted row h))))) on_d on_e

  update_by_keys : (s : Update) → HasPoliciesForAll d users.current s.table → SpeakOf s.table → EndAlike users (update d users s) (update e users s)
  update_by_keys s one speak = checked_update_ends_alike users d e alike s (record {
    passes = update_over s one;
    checks = λ c is cs ks of_d of_e same.
        let found = (update_checked d users s c is).found in
        let t = c.table in
        let own : t.name ≡ s.table = (found_definition d s.table t found).own in
        let named : definition_named d t.name ≡ Some t = named_by_itself d s.table t found in
        let keys = speak t own named in
        let own_one = subst (HasPoliciesForAll d users.current) (sym own) one in
        let existing = existing_guard d users t action.Update c.reads in
        let g = new_guard d users t action.Update c.reads in
        let condition = condition_on_row users c.condition in
        let becomes = assigned users c.columns c.values in
        let of = chosen_row existing condition becomes in
        let xs = rows_named d t.name in
        let ys = rows_named e t.name in
        let on_xs = all_kept d users t keys d named on_d in
        let on_ys = all_kept d users t keys e (sym (defined_alike users d e alike t.name) ∙ named) on_e in
        checked_by_keys t.layout g (other_rows cs) (other_rows ks) (new_rows cs) (λ l admitted.
        one_answer d users t keys (other_rows cs) (other_rows ks) (new_rows cs)
        (part_kept d users t keys (other_rows cs) xs (others_part becomes (choose existing condition becomes) of xs cs of_d) on_xs)
        (part_kept d users t keys (other_rows ks) ys (others_part becomes (choose existing condition becomes) of ys ks of_e) on_ys)
        same.1
        (λ row h. (updated_rows_fit d users s c is existing xs on_xs.fits cs of_d row h, updated_is_seen d users t own_one c.reads row (all_admitted g (new_rows cs) l admitted row h))));
  }) on_d on_e

-- over the other database the users are the same
pub other_users : (pair : UserPair) (d e : Database) (x : DatabaseStatement) → SameApparentRows (as_seen pair d) d e → exec_as e (as_seen pair d) x ≡ exec e pair x
other_users pair d e x alike = ap (λ (db : Database). exec_as e (as_seen pair db) x) alike.definitions

abbrev over : RowStatement → DatabaseStatement
over x = on_database.OverRows x

for_all_users : (users : UserNames) (d e : Database) (x : RowStatement) → IsForAll d users.current x → IsSound d → IsSound e → SameApparentRows users d e → EndAlikeWithoutKeys users (exec_as d users (over x)) (exec_as e users (over x))
for_all_users users d e (over_rows.Select s) all on_d on_e alike m n = select_ends_alike users d e alike s
for_all_users users d e (over_rows.Insert s) all on_d on_e alike m n = insert_ends_alike users d e alike s on_d on_e m n
for_all_users users d e (over_rows.Update s) all on_d on_e alike m n =
    checked_update_ends_alike users d e alike s (without_keys users d e alike s (update_over users d e alike on_d on_e s (all s.table refl)) m n) on_d on_e
for_all_users users d e (over_rows.Delete s) all on_d on_e alike m n = passing_delete_ends_alike users d e alike s (delete_over users d e alike on_d on_e s (all s.table refl))

by_key_users : (users : UserNames) (d e : Database) (x : RowStatement) → IsForAll d users.current x → IsByKey d users.current x → IsSound d → IsSound e → SameApparentRows users d e → EndAlike users (exec_as d users (over x)) (exec_as e users (over x))
by_key_users users d e (over_rows.Select s) all by_key on_d on_e alike = select_ends_alike users d e alike s
by_key_users users d e (over_rows.Insert s) all by_key on_d on_e alike =
    insert_by_keys users d e alike on_d on_e s (all s.table refl) (λ t own named. by_key t (ap (λ (n : TheName). Some n) (sym own)) named)
by_key_users users d e (over_rows.Update s) all by_key on_d on_e alike =
    update_by_keys users d e alike on_d on_e s (all s.table refl) (λ t own named. by_key t (ap (λ (n : TheName). Some n) (sym own)) named)
by_key_users users d e (over_rows.Delete s) all by_key on_d on_e alike = passing_delete_ends_alike users d e alike s (delete_over users d e alike on_d on_e s (all s.table refl))

pub for_all_ends_alike : one_policy_for_all
for_all_ends_alike pair d e x all on_d on_e alike =
    subst (λ (r : Result Effect SqlState). EndAlikeWithoutKeys (as_seen pair d) (exec d pair (over x)) r) (other_users pair d e (over x) alike) (for_all_users (as_seen pair d) d e x all on_d on_e alike)

pub by_key_ends_alike : keys_tell_nothing
by_key_ends_alike pair d e x all by_key on_d on_e alike =
    subst (λ (r : Result Effect SqlState). EndAlike (as_seen pair d) (exec d pair (over x)) r) (other_users pair d e (over x) alike) (by_key_users (as_seen pair d) d e x all by_key on_d on_e alike)
