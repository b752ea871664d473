-- What others see of a database after a statement over rows that are out of their sight.
use Rattle.std.proofs.Common.{◌≡◌, ◌⊎◌, Bool, true, false, not, bytes_eq, List, Some, Ok, refl, sym, ap, ◌∙◌, subst, inl, inr}
use Rattle.std.proofs.lemmas.Option.{same_Some}
use Rattle.sql_types.specs.Row.{Row}
use Rattle.sql_ast.specs.Rows.{row_cmp}
use Rattle.sql_ast.specs.declared.statement.DatabaseStatement.TheVariants as on_database
use Rattle.sql_ast.specs.declared.statement.RowStatement.{RowStatement}
use Rattle.sql_ast.specs.declared.statement.RowStatement.TheVariants as over_rows
use Rattle.sql_ast.specs.declared.statement.Insert.{Insert}
use Rattle.sql_ast.specs.declared.statement.Update.{Update}
use Rattle.sql_ast.specs.declared.statement.Delete.{Delete}
use Rattle.expressions.specs.Meaning.{UserNames}
use Rattle.abstract_database.specs.Lists.{TheName, Among, drop_where}
use Rattle.abstract_database.specs.Database.{TableOf, Database, definition_named, rows_named, without_rows}
use Rattle.abstract_database.specs.Changes.{IsInKeyOrder}
use Rattle.abstract_database.specs.Checks.{checked_insert, checked_update, checked_delete}
use Rattle.abstract_database.specs.Statements.{Effect, inserted, insert, updated, update, deleted, delete, as_seen, exec_as}
use Rattle.abstract_database.proofs.CheckLemmas.{found_definition, insert_checked, update_checked, delete_checked}
use Rattle.abstract_database.proofs.ElementLemmas.{of_filter, into_filter}
use Rattle.abstract_database.proofs.ListLemmas.{bytes_same}
use Rattle.abstract_database.proofs.ResultLemmas.{bind_ok}
use Rattle.abstract_database.proofs.RowOrder.{row_reversed}
use Rattle.database_laws.specs.Tables.{EachTable}
use Rattle.database_laws.specs.Invariants.{IsSound}
use Rattle.database_laws.specs.RowChanges.{ChangesRowsOf}
use Rattle.database_laws.specs.Worlds.{is_silent, SameApparentRows}
use Rattle.database_laws.specs.OutOfSight.{MayWrite, inserts, makes, changes, removes, IsOutOfSight, WritesOutOfSight, unseen_by_others, unseen_by_all}
use Rattle.database_laws.proofs.TableLemmas.{no_double}
use Rattle.database_laws.proofs.RisingLemmas.{dropped_rise}
use Rattle.database_laws.proofs.SoundLemmas.{sound_for}
use Rattle.database_laws.proofs.WriteLemmas.{inserted_passed, inserted_kept, updated_passed, updated_took, deleted_added, deleted_took}
use Rattle.database_laws.proofs.ConcernLemmas.{inserted_in_its_table, updated_in_its_table, deleted_in_its_table}
use Rattle.database_laws.proofs.WorldLemmas.{definitions_alone, named_by_itself}
use Rattle.database_laws.proofs.AlikeWriteLemmas.{one_rising}
use Rattle.database_laws.proofs.OnePolicy.{of_named}
use Rattle.database_laws.proofs.AllAlikeRows.{select_leaves}

-- ---- the same rows that say something

module _ (others : UserNames) (db : Database) (on : IsSound db) (t : TableOf) (named : definition_named db t.name ≡ Some t) (after : Database) (order : EachTable IsInKeyOrder after) (alone : ChangesRowsOf t.name db after) where
  abbrev silent : Row → Bool
  silent = is_silent db others t

  abbrev StayAmong : List Row → List Row → Type 0
  StayAmong xs ys = (row : Row) → Among row xs → silent row ≡ false → Among row ys

  module _ (kept : StayAmong (rows_named db t.name) (rows_named after t.name)) (came : StayAmong (rows_named after t.name) (rows_named db t.name)) where
    named_after : definition_named after t.name ≡ Some t
    named_after = definitions_alone after t.name ∙ ap (λ (x : Database). definition_named x t.name) alone.definitions ∙ sym (definitions_alone db t.name) ∙ named

    said : (xs ys : List Row) → StayAmong xs ys → (row : Row) → Among row (drop_where silent xs) → Among row (drop_where silent ys)
    said xs ys stay row h =
        let of = of_filter (λ (x : Row). not (silent x)) xs row h in
        into_filter (λ (x : Row). not (silent x)) ys row (stay row of.0 (no_double (silent row) of.1)) of.1

    of_table : drop_where silent (rows_named db t.name) ≡ drop_where silent (rows_named after t.name)
    of_table =
        one_rising (row_cmp t.layout.key) (row_reversed t.layout.key) (drop_where silent (rows_named db t.name)) (drop_where silent (rows_named after t.name))
        (dropped_rise (row_cmp t.layout.key) silent (rows_named db t.name) (of_named IsInKeyOrder db t named on.1))
        (dropped_rise (row_cmp t.layout.key) silent (rows_named after t.name) (of_named IsInKeyOrder after t named_after order))
        (said (rows_named db t.name) (rows_named after t.name) kept) (said (rows_named after t.name) (rows_named db t.name) came)

    of_each : (u : TableOf) → definition_named db u.name ≡ Some u → (b : Bool) → bytes_eq u.name t.name ≡ b →
        drop_where (is_silent db others u) (rows_named db u.name) ≡ drop_where (is_silent db others u) (rows_named after u.name)
    of_each u h false b = sym (ap (drop_where (is_silent db others u)) (alone.others u.name b))
    of_each u h true b =
        let one : u.name ≡ t.name = bytes_same u.name t.name b in
        let is : t ≡ u = same_Some t u (sym named ∙ ap (definition_named db) (sym one) ∙ h) in
        subst (λ (z : TableOf). drop_where (is_silent db others z) (rows_named db z.name) ≡ drop_where (is_silent db others z) (rows_named after z.name)) is of_table

    looks_as_before : SameApparentRows others db after
    looks_as_before = record {
      definitions = sym alone.definitions;
      rows = λ u h. of_each u h (bytes_eq u.name t.name) refl
          ∙ ap (λ (f : Row → Bool). drop_where f (rows_named after u.name)) (ap (λ (x : Database). is_silent x others u) (sym alone.definitions));
    }

-- ---- what a statement writes

module _ (users others : UserNames) (db : Database) (on : IsSound db) where
  -- it changes the rows of one table alone, and each that it takes or adds is one that it may write
  record Wrote (name : TheName) (e : Effect) : Type 0 where
    t : TableOf
    own : t.name ≡ name
    named : definition_named db t.name ≡ Some t
    alone : ChangesRowsOf name db e.database
    took : (row : Row) → Among row (rows_named db name) → Among row (rows_named e.database name) ⊎ MayWrite db users t row
    added : (row : Row) → Among row (rows_named e.database name) → Among row (rows_named db name) ⊎ MayWrite db users t row

  says_something : (t : TableOf) → IsOutOfSight db users others t → (row : Row) → is_silent db others t row ≡ false → {P : Type 0} → P ⊎ MayWrite db users t row → P
  says_something t hides row says (inl p) = p
  says_something t hides row says (inr may) = let contrary : true ≡ false = sym (hides row may) ∙ says in cc

  wrote_unseen : (x : RowStatement) (name : TheName) (e : Effect) → exec_as db users (on_database.OverRows x) ≡ Ok e → (w : Wrote name e) → IsOutOfSight db users others w.t → SameApparentRows others db e.database
  wrote_unseen x name e is w hides =
      looks_as_before others db on w.t w.named e.database (sound_for db users (on_database.OverRows x) e is on).1
      (subst (λ (n : TheName). ChangesRowsOf n db e.database) (sym w.own) w.alone)
      (subst (λ (n : TheName). (row : Row) → Among row (rows_named db n) → is_silent db others w.t row ≡ false → Among row (rows_named e.database n)) (sym w.own)
      (λ row h says. says_something w.t hides row says (w.took row h)))
      (subst (λ (n : TheName). (row : Row) → Among row (rows_named e.database n) → is_silent db others w.t row ≡ false → Among row (rows_named db n)) (sym w.own)
      (λ row h says. says_something w.t hides row says (w.added row h)))

  -- the table of a name
  abbrev by_name : (name : TheName) (t : TableOf) → t.name ≡ name → definition_named db t.name ≡ Some t → definition_named db name ≡ Some t
  by_name name t own named = ap (definition_named db) (sym own) ∙ named

  inserts_rows : (s : Insert) (e : Effect) → insert db users s ≡ Ok e → Wrote s.table e
  inserts_rows s e is =
      let c = bind_ok (checked_insert db users s) (inserted db users) e is in
      let found = (insert_checked db users s c.0 c.1).found in
      let own : c.0.table.name ≡ s.table = (found_definition db s.table c.0.table found).own in
      let named = named_by_itself db s.table c.0.table found in
      record {
        t = c.0.table;
        own = own;
        named = named;
        alone = inserted_in_its_table db users s e is;
        took = λ row h. inl (inserted_kept db users s e is row h);
        added = λ row h. elim (inserted_passed db users s e is c.0.table (by_name s.table c.0.table own named) row h) [
          | inl old ↦ inl old
          | inr new ↦ inr (inserts new.by_command)
        ];
      }

  updates_rows : (s : Update) (e : Effect) → update db users s ≡ Ok e → Wrote s.table e
  updates_rows s e is =
      let c = bind_ok (checked_update db users s) (updated db users) e is in
      let found = (update_checked db users s c.0 c.1).found in
      let own : c.0.table.name ≡ s.table = (found_definition db s.table c.0.table found).own in
      let named = named_by_itself db s.table c.0.table found in
      record {
        t = c.0.table;
        own = own;
        named = named;
        alone = updated_in_its_table db users s e is;
        took = λ row h. elim (updated_took db users s e is c.0.table (by_name s.table c.0.table own named) row h) [
          | inl stays ↦ inl stays
          | inr seen ↦ inr (changes seen.by_command)
        ];
        added = λ row h. elim (updated_passed db users s e is c.0.table (by_name s.table c.0.table own named) row h) [
          | inl old ↦ inl old
          | inr new ↦ inr (makes new.3.by_command)
        ];
      }

  deletes_rows : (s : Delete) (e : Effect) → delete db users s ≡ Ok e → Wrote s.table e
  deletes_rows s e is =
      let c = bind_ok (checked_delete db users s) (deleted db users) e is in
      let found = (delete_checked db users s c.0 c.1).found in
      let own : c.0.table.name ≡ s.table = (found_definition db s.table c.0.table found).own in
      let named = named_by_itself db s.table c.0.table found in
      record {
        t = c.0.table;
        own = own;
        named = named;
        alone = deleted_in_its_table db users s e is;
        took = λ row h. elim (deleted_took db users s e is c.0.table (by_name s.table c.0.table own named) row h) [
          | inl stays ↦ inl stays
          | inr seen ↦ inr (removes seen.by_command)
        ];
        added = λ row h. inl (deleted_added db users s e is row h);
      }

  in_its_table : (x : RowStatement) (name : TheName) (e : Effect) → exec_as db users (on_database.OverRows x) ≡ Ok e → ((t : TableOf) → t.name ≡ name → definition_named db t.name ≡ Some t → IsOutOfSight db users others t) → Wrote name e → SameApparentRows others db e.database
  in_its_table x name e is hides w = wrote_unseen x name e is w (hides w.t w.own w.named)

  pub unseen : (x : RowStatement) (e : Effect) → exec_as db users (on_database.OverRows x) ≡ Ok e → WritesOutOfSight db users others x → SameApparentRows others db e.database
  unseen (over_rows.Select s) e is hides = subst (λ (x : Database). SameApparentRows others db x) (sym (select_leaves db users s e is)) (record { definitions = refl; rows = λ t h. refl })
  unseen (over_rows.Insert s) e is hides = in_its_table (over_rows.Insert s) s.table e is (λ t own named. hides t (ap (λ (n : TheName). Some n) (sym own)) named) (inserts_rows s e is)
  unseen (over_rows.Update s) e is hides = in_its_table (over_rows.Update s) s.table e is (λ t own named. hides t (ap (λ (n : TheName). Some n) (sym own)) named) (updates_rows s e is)
  unseen (over_rows.Delete s) e is hides = in_its_table (over_rows.Delete s) s.table e is (λ t own named. hides t (ap (λ (n : TheName). Some n) (sym own)) named) (deletes_rows s e is)

-- and it leaves the definitions
leaves_definitions : (users : UserNames) (db : Database) (x : RowStatement) (e : Effect) → exec_as db users (on_database.OverRows x) ≡ Ok e → without_rows db ≡ without_rows e.database
leaves_definitions users db (over_rows.Select s) e is = ap without_rows (sym (select_leaves db users s e is))
leaves_definitions users db (over_rows.Insert s) e is = sym (inserted_in_its_table db users s e is).definitions
leaves_definitions users db (over_rows.Update s) e is = sym (updated_in_its_table db users s e is).definitions
leaves_definitions users db (over_rows.Delete s) e is = sym (deleted_in_its_table db users s e is).definitions

pub others_unseen : unseen_by_others
others_unseen pair others db x e on hides is = unseen (as_seen pair db) others db on x e is hides

pub unseen_all : unseen_by_all
unseen_all pair login db x e on hides is = record {
  definitions = leaves_definitions (as_seen pair db) db x e is;
  rows = λ other acts. unseen (as_seen pair db) (as_seen other db) db on x e is (hides other acts);
}
