-- Checks, and what is done after them.
use Rattle.std.proofs.Common.{◌≡◌, ◌||◌, Bool, true, false, not, cond, List, [], ◌∷◌, map, find, is_none, bytes_eq, Option, Some, None, Result, Ok, Err, refl, sym, ap, ◌∙◌, Ordering, Less, Equal, Greater, is_lt, is_eq}
use Rattle.std.specs.List.{list_any}
use Rattle.std.specs.Option.{option_map}
use Rattle.sql_types.specs.declared.state.SqlState.{SqlState}
use Rattle.sql_types.specs.declared.state.SqlState.TheVariants.{UndefinedTable}
use Rattle.sql_types.specs.declared.tag.Tag.{Tag}
use Rattle.sql_types.specs.declared.warning.Warning.{Warning}
use Rattle.sql_ast.specs.declared.statement.RowStatement.{RowStatement}
use Rattle.sql_ast.specs.declared.statement.RowStatement.TheVariants as over_rows
use Rattle.sql_ast.specs.declared.statement.Select.{Select}
use Rattle.sql_ast.specs.declared.statement.TableReference.{TableReference}
use Rattle.expressions.specs.Meaning.{UserNames}
use Rattle.expressions.specs.Stages.{◌>>=◌, each}
use Rattle.abstract_database.specs.Lists.{TheName, found_or, put, the_new, change_first, drop_where}
use Rattle.abstract_database.specs.Database.{TableOf, Table, Database, without_its_rows, without_rows, is_table_named, table_named, table_cmp}
use Rattle.abstract_database.specs.Queries.{tables_in}
use Rattle.abstract_database.specs.Checks.{find_definition, checked_insert, checked_update, checked_delete, checked_select}
use Rattle.abstract_database.specs.Statements.{Effect, warned, exec_over_rows, inserted, updated, deleted, selected, Checked, defines, inserts, updates, deletes, selects, checked_over_rows, performed}
use Rattle.database_laws.specs.Stages.{apart_from_rows}

-- ---- checked, and then performed

pub defined_then : (db : Database) (users : UserNames) (r : Result Effect SqlState) → r ≡ ((r >>= λ e. Ok (defines e)) >>= performed db users)
defined_then db users (Ok e) = refl
defined_then db users (Err code) = refl

done_then : {A : Type 0} (r : Result A SqlState) (made : A → Checked) (go : A → Result Effect SqlState) (perform : Checked → Result Effect SqlState) → ((a : A) → go a ≡ perform (made a)) → (r >>= go) ≡ ((r >>= λ a. Ok (made a)) >>= perform)
done_then (Ok a) made go perform h = h a
done_then (Err code) made go perform h = refl

-- ---- tables without their rows

abbrev pub bare : List Table → List Table
bare tables = map without_its_rows tables

find_bare_at : (name : TheName) (t : Table) (ts : List Table) (b : Bool) → find (is_table_named name) (bare ts) ≡ option_map without_its_rows (find (is_table_named name) ts) →
    cond b (Some (without_its_rows t)) (find (is_table_named name) (bare ts)) ≡ option_map without_its_rows (cond b (Some t) (find (is_table_named name) ts))
find_bare_at name t ts true go = refl
find_bare_at name t ts false go = go

find_bare : (name : TheName) (ts : List Table) → find (is_table_named name) (bare ts) ≡ option_map without_its_rows (find (is_table_named name) ts)
find_bare name [] = refl
find_bare name (t ∷ ts) = find_bare_at name t ts (is_table_named name t) (find_bare name ts)

same_definition_in : (o : Option Table) → option_map (λ (t : Table). t.definition) (option_map without_its_rows o) ≡ option_map (λ (t : Table). t.definition) o
same_definition_in None = refl
same_definition_in (Some t) = refl

definition_bare : (db : Database) (name : TheName) → find_definition (without_rows db) name ≡ find_definition db name
definition_bare db name =
    ap (λ (o : Option Table). found_or UndefinedTable (option_map (λ (t : Table). t.definition) o)) (find_bare name db.tables)
    ∙ ap (found_or UndefinedTable) (same_definition_in (table_named db name))

none_in : (o : Option Table) → is_none (option_map without_its_rows o) ≡ is_none o
none_in None = refl
none_in (Some t) = refl

pub is_none_bare : (db : Database) (name : TheName) → is_none (table_named (without_rows db) name) ≡ is_none (table_named db name)
is_none_bare db name = ap (λ (o : Option Table). is_none o) (find_bare name db.tables) ∙ none_in (table_named db name)

pub owner_bare : (role : TheName) (ts : List Table) → list_any (λ t. bytes_eq t.definition.owner role) (bare ts) ≡ list_any (λ t. bytes_eq t.definition.owner role) ts
owner_bare role [] = refl
owner_bare role (t ∷ ts) = ap (λ (b : Bool). bytes_eq t.definition.owner role || b) (owner_bare role ts)

put_bare_at : (n y : Table) (ys : List Table) (o : Ordering) → put table_cmp the_new (without_its_rows n) (bare ys) ≡ bare (put table_cmp the_new n ys) →
    cond (is_lt o) (without_its_rows n ∷ without_its_rows y ∷ bare ys) (cond (is_eq o) (without_its_rows n ∷ bare ys) (without_its_rows y ∷ put table_cmp the_new (without_its_rows n) (bare ys)))
    ≡ bare (cond (is_lt o) (n ∷ y ∷ ys) (cond (is_eq o) (n ∷ ys) (y ∷ put table_cmp the_new n ys)))
put_bare_at n y ys Less go = refl
put_bare_at n y ys Equal go = refl
put_bare_at n y ys Greater go = ap (λ l. without_its_rows y ∷ l) go

pub put_bare : (n : Table) (ys : List Table) → put table_cmp the_new (without_its_rows n) (bare ys) ≡ bare (put table_cmp the_new n ys)
put_bare n [] = refl
put_bare n (y ∷ ys) = put_bare_at n y ys (table_cmp n y) (put_bare n ys)

drop_bare_at : (name : TheName) (t : Table) (ts : List Table) (b : Bool) → drop_where (is_table_named name) (bare ts) ≡ bare (drop_where (is_table_named name) ts) →
    cond b (without_its_rows t ∷ drop_where (is_table_named name) (bare ts)) (drop_where (is_table_named name) (bare ts)) ≡ bare (cond b (t ∷ drop_where (is_table_named name) ts) (drop_where (is_table_named name) ts))
drop_bare_at name t ts true go = ap (λ l. without_its_rows t ∷ l) go
drop_bare_at name t ts false go = go

pub drop_bare : (name : TheName) (ts : List Table) → drop_where (is_table_named name) (bare ts) ≡ bare (drop_where (is_table_named name) ts)
drop_bare name [] = refl
drop_bare name (t ∷ ts) = drop_bare_at name t ts (not (is_table_named name t)) (drop_bare name ts)

module _ (name : TheName) (change : Table → Table) (same : (t : Table) → change (without_its_rows t) ≡ without_its_rows (change t)) where
  change_bare_at : (t : Table) (ts : List Table) (b : Bool) → change_first (is_table_named name) change (bare ts) ≡ bare (change_first (is_table_named name) change ts) →
      cond b (change (without_its_rows t) ∷ bare ts) (without_its_rows t ∷ change_first (is_table_named name) change (bare ts)) ≡ bare (cond b (change t ∷ ts) (t ∷ change_first (is_table_named name) change ts))
  change_bare_at t ts true go = ap (λ x. x ∷ bare ts) (same t)
  change_bare_at t ts false go = ap (λ l. without_its_rows t ∷ l) go

  pub change_bare : (ts : List Table) → change_first (is_table_named name) change (bare ts) ≡ bare (change_first (is_table_named name) change ts)
  change_bare [] = refl
  change_bare (t ∷ ts) = change_bare_at t ts (is_table_named name t) (change_bare ts)

-- ---- steps

-- the same first step, and after it the same
pub then_same : {A B : Type 0} (r q : Result A SqlState) (go to : A → Result B SqlState) → r ≡ q → ((a : A) → go a ≡ to a) → (r >>= go) ≡ (q >>= to)
then_same r (Ok a) go to e h = ap (λ x. x >>= go) e ∙ h a
then_same r (Err code) go to e h = ap (λ x. x >>= go) e

each_same : {A B : Type 0} (f g : A → Result B SqlState) → ((a : A) → f a ≡ g a) → (xs : List A) → each f xs ≡ each g xs
each_same f g h [] = refl
each_same f g h (x ∷ xs) = then_same (f x) (g x) (λ y. each f xs >>= λ ys. Ok (y ∷ ys)) (λ y. each g xs >>= λ ys. Ok (y ∷ ys)) (h x) (λ y. ap (λ r. r >>= λ ys. Ok (y ∷ ys)) (each_same f g h xs))

abbrev pub bared : Effect → Effect
bared e = record e { database = without_rows e.database }

-- the same checks, and after them the same effect apart from rows
pub effect_same : {A : Type 0} (r q : Result A SqlState) (go to : A → Effect) → r ≡ q → ((a : A) → go a ≡ bared (to a)) →
    (r >>= λ a. Ok (go a)) ≡ ((q >>= λ a. Ok (to a)) >>= λ e. Ok (bared e))
effect_same r (Ok a) go to e h = ap (λ x. x >>= λ a. Ok (go a)) e ∙ ap (λ e. Ok e) (h a)
effect_same r (Err code) go to e h = ap (λ x. x >>= λ a. Ok (go a)) e

pub defines_same : (r q : Result Effect SqlState) → r ≡ (q >>= λ e. Ok (bared e)) →
    (r >>= λ e. Ok (defines e)) ≡ ((q >>= λ e. Ok (defines e)) >>= λ c. Ok (apart_from_rows c))
defines_same r (Ok e) is = ap (λ x. x >>= λ e. Ok (defines e)) is
defines_same r (Err code) is = ap (λ x. x >>= λ e. Ok (defines e)) is

does_same : {A : Type 0} (r q : Result A SqlState) (made : A → Checked) → r ≡ q → ((a : A) → apart_from_rows (made a) ≡ made a) → (r >>= λ c. Ok (made c)) ≡ ((q >>= λ c. Ok (made c)) >>= λ c. Ok (apart_from_rows c))
does_same r (Ok a) made e h = ap (λ x. x >>= λ c. Ok (made c)) e ∙ ap (λ c. Ok c) (sym (h a))
does_same r (Err code) made e h = ap (λ x. x >>= λ c. Ok (made c)) e

pub warned_bare : (t : Tag) (b : Bool) (w : Warning) (db : Database) → warned t b w (without_rows db) ≡ bared (warned t b w db)
warned_bare t true w db = refl
warned_bare t false w db = refl

-- checks that find their table first, and ask for nothing of it but its definition
pub found_same : {B : Type 0} (db : Database) (name : TheName) (go : TableOf → Result B SqlState) →
    (find_definition (without_rows db) name >>= go) ≡ (find_definition db name >>= go)
found_same db name go = ap (λ r. r >>= go) (definition_bare db name)

-- ---- statements over rows

module _ (db : Database) (users : UserNames) where
  select_checks : (s : Select) → checked_select (without_rows db) users s ≡ checked_select db users s
  select_checks s =
      then_same (each (λ (r : TableReference). find_definition (without_rows db) r.table) (tables_in s.source)) (each (λ (r : TableReference). find_definition db r.table) (tables_in s.source)) _ _
      (each_same (λ (r : TableReference). find_definition (without_rows db) r.table) (λ (r : TableReference). find_definition db r.table) (λ r. definition_bare db r.table) (tables_in s.source)) (λ tables. refl)

  pub over_rows_staged : (x : RowStatement) → exec_over_rows db users x ≡ (checked_over_rows db users x >>= performed db users)
  over_rows_staged (over_rows.Insert s) =
      done_then (checked_insert db users s) inserts (inserted db users) (performed db users) (λ c. refl)
  over_rows_staged (over_rows.Update s) =
      done_then (checked_update db users s) updates (updated db users) (performed db users) (λ c. refl)
  over_rows_staged (over_rows.Delete s) =
      done_then (checked_delete db users s) deletes (deleted db users) (performed db users) (λ c. refl)
  over_rows_staged (over_rows.Select s) =
      done_then (checked_select db users s) selects (selected db users) (performed db users) (λ c. refl)

  pub over_rows_apart : (x : RowStatement) →
      checked_over_rows (without_rows db) users x ≡ (checked_over_rows db users x >>= λ c. Ok (apart_from_rows c))
  over_rows_apart (over_rows.Insert s) =
      does_same (checked_insert (without_rows db) users s) (checked_insert db users s) inserts (found_same db s.table _) (λ c. refl)
  over_rows_apart (over_rows.Update s) =
      does_same (checked_update (without_rows db) users s) (checked_update db users s) updates (found_same db s.table _) (λ c. refl)
  over_rows_apart (over_rows.Delete s) =
      does_same (checked_delete (without_rows db) users s) (checked_delete db users s) deletes (found_same db s.table _) (λ c. refl)
  over_rows_apart (over_rows.Select s) =
      does_same (checked_select (without_rows db) users s) (checked_select db users s) selects (select_checks s) (λ c. refl)
