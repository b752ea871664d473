-- A DELETE over two databases of which its users see the same.
use Rattle.std.proofs.Common.{◌≡◌, ◌&&◌, Bool, true, false, not, cond, is_none, length, option_to_list, bytes_eq, List, [], ◌∷◌, ◌++◌, Option, Some, None, Result, Ok, Err, refl, sym, ap, ◌∙◌, subst}
use Rattle.std.proofs.Math.Path.{fun_ext}
use Rattle.std.proofs.lemmas.Bool.{and_parts}
use Rattle.std.proofs.lemmas.Option.{same_Some}
use Rattle.sql_types.specs.Row.{Row}
use Rattle.sql_types.specs.declared.state.SqlState.{SqlState}
use Rattle.sql_types.specs.declared.state.SqlState.TheVariants.{UndefinedTable}
use Rattle.sql_types.specs.declared.value.Value.TheVariants.{Null, Int, Text, Bool as Boolean}
use Rattle.sql_types.specs.declared.answer.Answer.TheVariants as answer
use Rattle.sql_types.specs.declared.tag.Tag.TheVariants as tag
use Rattle.sql_ast.specs.declared.privilege.Action.{Action}
use Rattle.sql_ast.specs.declared.privilege.Action.TheVariants as action
use Rattle.sql_ast.specs.declared.statement.Delete.{Delete}
use Rattle.expressions.specs.Outcome.{Outcome}
use Rattle.expressions.specs.Meaning.{UserNames}
use Rattle.expressions.specs.Parts.{check_expressions}
use Rattle.expressions.specs.Names.{resolved}
use Rattle.expressions.specs.Stages.{◌>>=◌, each}
use Rattle.abstract_database.specs.Lists.{TheName, found_or, optional, drop_where}
use Rattle.abstract_database.specs.Database.{TableOf, Database, definition_named, rows_named, without_rows}
use Rattle.abstract_database.specs.Expressions.{own_scope, when_true}
use Rattle.abstract_database.specs.Guards.{guard, using_clause, existing_guard}
use Rattle.abstract_database.specs.Needs.{has_any, columns_read, needs_of_delete}
use Rattle.abstract_database.specs.Changes.{Chosen, choose, new_rows, other_rows, condition_on_row, CheckedDelete, Changed}
use Rattle.abstract_database.specs.Checks.{condition_parts, require_needs, checked_delete}
use Rattle.abstract_database.specs.Definitions.{with_rows_of}
use Rattle.abstract_database.specs.Statements.{Effect, counted, deleted, delete}
use Rattle.abstract_database.proofs.CheckLemmas.{delete_checked}
use Rattle.abstract_database.proofs.ListLemmas.{bytes_same}
use Rattle.abstract_database.proofs.ResultLemmas.{ok_inside, bind_ok, Every}
use Rattle.database_laws.specs.Readings.{columns_read_by_delete}
use Rattle.database_laws.specs.Worlds.{has_value, is_unmet, is_silent, SameApparentRows, EndAlike}
use Rattle.database_laws.proofs.ReadingLemmas.{delete_as_written}
use Rattle.database_laws.proofs.RowLemmas.{chosen_row}
use Rattle.database_laws.proofs.RowChangeLemmas.{rows_of_one}
use Rattle.database_laws.proofs.WriteLemmas.{rows_after}
use Rattle.database_laws.proofs.WorldLemmas.{definitions_alone, named_by_itself, some_table}

-- ---- rows that are chosen

-- what is chosen of some rows, beside what is chosen of those that say something
pub record Beside (silent : Row → Bool) (f : Row → Result Chosen SqlState) (rows : List Row) (cs : List Chosen) : Type 0 where
  pub chosen : List Chosen
  pub is : each f rows ≡ Ok chosen
  pub new : new_rows chosen ≡ new_rows cs
  pub others : other_rows chosen ≡ drop_where silent (other_rows cs)

abbrev pub EndsBeside : (Row → Bool) → (Row → Result Chosen SqlState) → List Row → Result (List Chosen) SqlState → Type 0
EndsBeside silent f rows (Ok cs) = Beside silent f rows cs
EndsBeside silent f rows (Err code) = each f rows ≡ Err code

-- two choices with the same new rows, whose other rows say the same
abbrev pub ChosenAlike : (Row → Bool) → Result (List Chosen) SqlState → Result (List Chosen) SqlState → Type 0
ChosenAlike silent (Ok cs) (Ok ks) = (new_rows cs ≡ new_rows ks) × (drop_where silent (other_rows cs) ≡ drop_where silent (other_rows ks))
ChosenAlike silent (Err c) (Err k) = c ≡ k
ChosenAlike silent (Ok cs) (Err k) = ⊥
ChosenAlike silent (Err c) (Ok ks) = ⊥

module _ (silent : Row → Bool) (f : Row → Result Chosen SqlState) (of : (row : Row) → Every (λ (c : Chosen). c.row ≡ row) (f row)) (infallible : (row : Row) → silent row ≡ true → f row ≡ Ok (record { row = row; new = None })) where
  others_keep : (b : Bool) (x : Row) (said all : List Row) → silent x ≡ false → said ≡ drop_where silent all → cond b (x ∷ []) [] ++ said ≡ drop_where silent (cond b (x ∷ []) [] ++ all)
  others_keep true x said all e go = ap (λ l. x ∷ l) go ∙ sym (ap (λ m. cond (not m) (x ∷ drop_where silent all) (drop_where silent all)) e)
  others_keep false x said all e go = go

  beside_silent : (row : Row) (rows : List Row) (l : Result (List Chosen) SqlState) → silent row ≡ true → EndsBeside silent f rows l → EndsBeside silent f rows (l >>= λ ys. Ok (record { row = row; new = None } ∷ ys))
  beside_silent row rows (Ok ys) e go = record {
    chosen = go.chosen;
    is = go.is;
    new = go.new;
    others = go.others ∙ sym (ap (λ m. cond (not m) (row ∷ drop_where silent (other_rows ys)) (drop_where silent (other_rows ys))) e);
  }
  beside_silent row rows (Err code) e go = go

  beside_said : (row : Row) (rows : List Row) (r : Result Chosen SqlState) (l : Result (List Chosen) SqlState) → silent row ≡ false → f row ≡ r → EndsBeside silent f rows l → EndsBeside silent f (row ∷ rows) (r >>= λ y. l >>= λ ys. Ok (y ∷ ys))
  beside_said row rows (Err code) l e is go = ap (λ (r : Result Chosen SqlState). r >>= λ y. each f rows >>= λ ys. Ok (y ∷ ys)) is
  beside_said row rows (Ok y) (Err code) e is go =
      ap (λ (r : Result Chosen SqlState). r >>= λ z. each f rows >>= λ ys. Ok (z ∷ ys)) is
      ∙ ap (λ (l : Result (List Chosen) SqlState). l >>= λ ys. Ok (y ∷ ys)) go
  beside_said row rows (Ok y) (Ok ys) e is go = record {
    chosen = y ∷ go.chosen;
    is = ap (λ (r : Result Chosen SqlState). r >>= λ z. each f rows >>= λ zs. Ok (z ∷ zs)) is
        ∙ ap (λ (l : Result (List Chosen) SqlState). l >>= λ zs. Ok (y ∷ zs)) go.is;
    new = ap (λ l. option_to_list y.new ++ l) go.new;
    others = others_keep (is_none y.new) y.row (other_rows go.chosen) (other_rows ys) (ap silent (of row y is) ∙ e) go.others;
  }

  beside_at : (row : Row) (rows : List Row) (b : Bool) → silent row ≡ b → EndsBeside silent f (drop_where silent rows) (each f rows) →
      EndsBeside silent f (cond (not b) (row ∷ drop_where silent rows) (drop_where silent rows)) (each f (row ∷ rows))
  beside_at row rows true e go =
      subst (λ (r : Result Chosen SqlState). EndsBeside silent f (drop_where silent rows) (r >>= λ y. each f rows >>= λ ys. Ok (y ∷ ys))) (sym (infallible row e))
      (beside_silent row (drop_where silent rows) (each f rows) e go)
  beside_at row rows false e go = beside_said row (drop_where silent rows) (f row) (each f rows) e refl go

  pub beside : (rows : List Row) → EndsBeside silent f (drop_where silent rows) (each f rows)
  beside [] = record { chosen = []; is = refl; new = refl; others = refl }
  beside (row ∷ rows) = beside_at row rows (silent row) refl (beside rows)

  both_beside : (rows : List Row) (r s : Result (List Chosen) SqlState) → EndsBeside silent f rows r → EndsBeside silent f rows s → ChosenAlike silent r s
  both_beside rows (Ok cs) (Ok ks) a b =
      let same : a.chosen ≡ b.chosen = ok_inside a.chosen b.chosen (sym a.is ∙ b.is) in
      (sym a.new ∙ ap new_rows same ∙ b.new, sym a.others ∙ ap other_rows same ∙ b.others)
  both_beside rows (Err c) (Err k) a b = let same : ◌≡◌ {A = Result (List Chosen) SqlState} (Err c) (Err k) = sym a ∙ b in cc
  both_beside rows (Ok cs) (Err k) a b = let contrary : ◌≡◌ {A = Result (List Chosen) SqlState} (Ok a.chosen) (Err k) = sym a.is ∙ b in cc
  both_beside rows (Err c) (Ok ks) a b = let contrary : ◌≡◌ {A = Result (List Chosen) SqlState} (Err c) (Ok b.chosen) = sym a ∙ b.is in cc

  pub chosen_alike : (xs ys : List Row) → drop_where silent xs ≡ drop_where silent ys → ChosenAlike silent (each f xs) (each f ys)
  chosen_alike xs ys same =
      both_beside (drop_where silent ys) (each f xs) (each f ys)
      (subst (λ l. EndsBeside silent f l (each f xs)) same (beside xs)) (beside ys)

-- ---- the rows that are not chosen, by a test of the row alone

abbrev pub has_new : Result Chosen SqlState → Bool
has_new (Ok c) = not (is_none c.new)
has_new (Err code) = false

abbrev pub is_chosen : (Row → Result Chosen SqlState) → Row → Bool
is_chosen f row = has_new (f row)

others_at : (f : Row → Result Chosen SqlState) (row : Row) (rows : List Row) (c : Chosen) (cs : List Chosen) (b : Bool) → is_none c.new ≡ b → is_chosen f row ≡ not b → c.row ≡ row →
    other_rows cs ≡ drop_where (is_chosen f) rows → cond b (c.row ∷ []) [] ++ other_rows cs ≡ drop_where (is_chosen f) (row ∷ rows)
others_at f row rows c cs true e test same go =
    ap (λ (r : Row). r ∷ other_rows cs) same ∙ ap (λ l. row ∷ l) go ∙ sym (ap (λ m. cond (not m) (row ∷ drop_where (is_chosen f) rows) (drop_where (is_chosen f) rows)) test)
others_at f row rows c cs false e test same go =
    go ∙ sym (ap (λ m. cond (not m) (row ∷ drop_where (is_chosen f) rows) (drop_where (is_chosen f) rows)) test)

module _ (f : Row → Result Chosen SqlState) (of : (row : Row) → Every (λ (c : Chosen). c.row ≡ row) (f row)) where
  pub others_by_test : (rows : List Row) (chosen : List Chosen) → each f rows ≡ Ok chosen → other_rows chosen ≡ drop_where (is_chosen f) rows
  others_by_test [] chosen e = ap other_rows (sym (ok_inside [] chosen e))
  others_by_test (row ∷ rows) chosen e =
      let first = bind_ok (f row) (λ y. each f rows >>= λ ys. Ok (y ∷ ys)) chosen e in
      let rest = bind_ok (each f rows) (λ ys. Ok (first.0 ∷ ys)) chosen first.2 in
      ap other_rows (sym (ok_inside (first.0 ∷ rest.0) chosen rest.2))
      ∙ others_at f row rows first.0 rest.0 (is_none first.0.new) refl (ap has_new first.1) (of row first.0 first.1) (others_by_test rows rest.0 rest.1)

-- ---- a row that says nothing is not chosen

module _ (condition : Row → Outcome) (becomes : Row → Result Row SqlState) (row : Row) where
  abbrev choose_by : Outcome → Outcome → Result Chosen SqlState
  choose_by o p = (o >>= λ v. when_true v p (Ok v)) >>= λ visible.
      when_true visible (condition row) (Ok (Boolean false)) >>= λ chosen.
      when_true chosen (becomes row >>= λ r. Ok (Some r)) (Ok None) >>= λ new.
      Ok (record { row = row; new = new })

  abbrev unchosen : Result Chosen SqlState
  unchosen = Ok (record { row = row; new = None })

  behind_first : (p : Outcome) → is_unmet p ≡ true → choose_by (Ok (Boolean true)) p ≡ unchosen
  behind_first (Ok (Boolean true)) e = cc
  behind_first (Ok (Boolean false)) e = refl
  behind_first (Ok Null) e = refl
  behind_first (Ok (Int n)) e = refl
  behind_first (Ok (Text t)) e = refl
  behind_first (Err code) e = cc

  pub not_chosen : (o p : Outcome) → has_value o ≡ true → is_unmet p ≡ true → choose_by o p ≡ unchosen
  not_chosen (Ok (Boolean true)) p h e = behind_first p e
  not_chosen (Ok (Boolean false)) p h e = refl
  not_chosen (Ok Null) p h e = refl
  not_chosen (Ok (Int n)) p h e = refl
  not_chosen (Ok (Text t)) p h e = refl
  not_chosen (Err code) p h e = cc

-- whether it reads a column or not, a command chooses no row that says nothing, whatever WHERE and SET would say of it
abbrev pub PassesOver : Database → UserNames → TableOf → Action → Bool → Type 0
PassesOver db users t a reads = (condition : Row → Outcome) (becomes : Row → Result Row SqlState) (row : Row) → is_silent db users t row ≡ true →
    choose (existing_guard db users t a reads) condition becomes row ≡ Ok (record { row = row; new = None })

module _ (db : Database) (users : UserNames) (t : TableOf) (condition : Row → Outcome) (becomes : Row → Result Row SqlState) where
  pub silent_not_deleted : (row : Row) → is_silent db users t row ≡ true → choose (existing_guard db users t action.Delete true) condition becomes row ≡ Ok (record { row = row; new = None })
  silent_not_deleted row h =
      let parts = and_parts (is_unmet (guard db users t action.Select using_clause row)) (has_value (guard db users t action.Update using_clause row) && has_value (guard db users t action.Delete using_clause row)) h in
      let values = and_parts (has_value (guard db users t action.Update using_clause row)) (has_value (guard db users t action.Delete using_clause row)) parts.1 in
      not_chosen condition becomes row (guard db users t action.Delete using_clause row) (guard db users t action.Select using_clause row) values.1 parts.0

  pub silent_not_updated : (row : Row) → is_silent db users t row ≡ true → choose (existing_guard db users t action.Update true) condition becomes row ≡ Ok (record { row = row; new = None })
  silent_not_updated row h =
      let parts = and_parts (is_unmet (guard db users t action.Select using_clause row)) (has_value (guard db users t action.Update using_clause row) && has_value (guard db users t action.Delete using_clause row)) h in
      let values = and_parts (has_value (guard db users t action.Update using_clause row)) (has_value (guard db users t action.Delete using_clause row)) parts.1 in
      not_chosen condition becomes row (guard db users t action.Update using_clause row) (guard db users t action.Select using_clause row) values.0 parts.0

-- ---- the rows of one table are set in both

module _ (users : UserNames) (d e : Database) (alike : SameApparentRows users d e) where
  pub defined_alike : (name : TheName) → definition_named d name ≡ definition_named e name
  defined_alike name = definitions_alone d name ∙ ap (λ (x : Database). definition_named x name) alike.definitions ∙ sym (definitions_alone e name)

  pub silent_alike : (t : TableOf) → is_silent d users t ≡ is_silent e users t
  silent_alike t = ap (λ (x : Database). is_silent x users t) alike.definitions

  module _ (t : TableOf) (named : definition_named d t.name ≡ Some t) (xs ys : List Row) (same : drop_where (is_silent d users t) xs ≡ drop_where (is_silent d users t) ys) where
    rows_set_at : (u : TableOf) → definition_named d u.name ≡ Some u → (b : Bool) → bytes_eq u.name t.name ≡ b →
        drop_where (is_silent d users u) (rows_named (with_rows_of t.name xs d) u.name) ≡ drop_where (is_silent e users u) (rows_named (with_rows_of t.name ys e) u.name)
    rows_set_at u h false b =
        ap (drop_where (is_silent d users u)) ((rows_of_one t.name xs d).others u.name b)
        ∙ alike.rows u h
        ∙ sym (ap (drop_where (is_silent e users u)) ((rows_of_one t.name ys e).others u.name b))
    rows_set_at u h true b =
        let one : u.name ≡ t.name = bytes_same u.name t.name b in
        let is : t ≡ u = same_Some t u (sym named ∙ ap (definition_named d) (sym one) ∙ h) in
        let x = some_table d t.name t named in
        let y = some_table e t.name t (sym (defined_alike t.name) ∙ named) in
        subst (λ (z : TableOf). drop_where (is_silent d users z) (rows_named (with_rows_of t.name xs d) z.name) ≡ drop_where (is_silent e users z) (rows_named (with_rows_of t.name ys e) z.name)) is
        (ap (drop_where (is_silent d users t)) (rows_after d t.name x.0 xs x.1)
        ∙ same
        ∙ ap (λ (f : Row → Bool). drop_where f ys) (silent_alike t)
        ∙ sym (ap (drop_where (is_silent e users t)) (rows_after e t.name y.0 ys y.1)))

    pub set_alike : SameApparentRows users (with_rows_of t.name xs d) (with_rows_of t.name ys e)
    set_alike = record {
      definitions = (rows_of_one t.name xs d).definitions ∙ alike.definitions ∙ sym (rows_of_one t.name ys e).definitions;
      rows = λ u h. rows_set_at u (definitions_alone d u.name ∙ ap (λ (x : Database). definition_named x u.name) (sym (rows_of_one t.name xs d).definitions) ∙ sym (definitions_alone (with_rows_of t.name xs d) u.name) ∙ h) (bytes_eq u.name t.name) refl;
    }

-- ---- DELETE

-- the checks of a DELETE, over what finds definitions
abbrev delete_checked_by : Database → (TheName → Option TableOf) → UserNames → Delete → Result CheckedDelete SqlState
delete_checked_by db find users s = do
  table ← found_or UndefinedTable (find s.table)
  condition ← optional (resolved (own_scope table)) s.condition
  typed ← check_expressions (condition_parts table s.condition)
  allowed ← require_needs db users (needs_of_delete table condition)
  Ok (record { table = table; condition = condition; reads = has_any (columns_read 0 (option_to_list condition)) })

pub delete_alone : (db : Database) (users : UserNames) (s : Delete) → checked_delete db users s ≡ checked_delete (without_rows db) users s
delete_alone db users s = ap (λ (find : TheName → Option TableOf). delete_checked_by db find users s) (fun_ext (λ (name : TheName). definitions_alone db name))

-- the rows that are left, and how many are gone
abbrev left_by : List Chosen → Changed
left_by chosen = record { rows = other_rows chosen; count = length (new_rows chosen) }

module _ (users : UserNames) (d e : Database) (alike : SameApparentRows users d e) (s : Delete) where
  abbrev removed_from : Database → CheckedDelete → Result (List Chosen) SqlState → Result Effect SqlState
  removed_from db c r = (r >>= λ chosen. Ok (left_by chosen)) >>= λ changed. Ok (counted tag.Delete changed.count (with_rows_of c.table.name changed.rows db))

  ends : (c : CheckedDelete) → definition_named d c.table.name ≡ Some c.table → (r k : Result (List Chosen) SqlState) → ChosenAlike (is_silent d users c.table) r k → EndAlike users (removed_from d c r) (removed_from e c k)
  ends c named (Ok cs) (Ok ks) same =
      (ap (λ (l : List Row). answer.Done tag.Delete (Some (length l)) None) same.0, set_alike users d e alike c.table named (other_rows cs) (other_rows ks) same.1)
  ends c named (Err i) (Err k) same = same
  ends c named (Ok cs) (Err k) same = same
  ends c named (Err i) (Ok ks) same = same

  abbrev choices : Database → CheckedDelete → Bool → Row → Result Chosen SqlState
  choices db c reads = choose (existing_guard db users c.table action.Delete reads) (condition_on_row users c.condition) (λ row. Ok row)

  carried : (c : CheckedDelete) → definition_named d c.table.name ≡ Some c.table → PassesOver d users c.table action.Delete c.reads →
      EndAlike users (removed_from d c (each (choices d c c.reads) (rows_named d c.table.name))) (removed_from e c (each (choices e c c.reads) (rows_named e c.table.name)))
  carried c named passes =
      let xs = rows_named d c.table.name in
      let ys = rows_named e c.table.name in
      let silent = is_silent d users c.table in
      let same = alike.rows c.table named ∙ ap (λ (f : Row → Bool). drop_where f ys) (sym (silent_alike users d e alike c.table)) in
      let all = chosen_alike silent (choices d c c.reads) (λ row x is. (chosen_row (existing_guard d users c.table action.Delete c.reads) (condition_on_row users c.condition) (λ r. Ok r) row x is).0)
      (passes (condition_on_row users c.condition) (λ r. Ok r)) xs ys same in
      ends c named (each (choices d c c.reads) xs) (each (choices e c c.reads) ys)
      (subst (λ r. ChosenAlike silent (each (choices d c c.reads) xs) r) (ap (λ (x : Database). each (choices x c c.reads) ys) alike.definitions) all)

  abbrev pub DeletePasses : Type 0
  DeletePasses = (c : CheckedDelete) → checked_delete d users s ≡ Ok c → PassesOver d users c.table action.Delete c.reads

  delete_at : DeletePasses → (r : Result CheckedDelete SqlState) → checked_delete d users s ≡ r → EndAlike users (r >>= deleted d users) (r >>= deleted e users)
  delete_at passes (Err code) is = refl
  delete_at passes (Ok c) is =
      let facts = delete_checked d users s c is in
      carried c (named_by_itself d s.table c.table facts.found) (passes c is)

  pub passing_delete_ends_alike : DeletePasses → EndAlike users (delete d users s) (delete e users s)
  passing_delete_ends_alike passes =
      subst (λ (r : Result CheckedDelete SqlState). EndAlike users (delete d users s) (r >>= deleted e users))
      (delete_alone d users s ∙ ap (λ (x : Database). checked_delete x users s) alike.definitions ∙ sym (delete_alone e users s))
      (delete_at passes (checked_delete d users s) refl)

  pub delete_ends_alike : has_any (columns_read_by_delete s) ≡ true → EndAlike users (delete d users s) (delete e users s)
  delete_ends_alike reads = passing_delete_ends_alike (λ c is.
      let told : c.reads ≡ true = delete_as_written d users s c (delete_checked d users s c is) ∙ reads in
      subst (PassesOver d users c.table action.Delete) (sym told) (silent_not_deleted d users c.table))
