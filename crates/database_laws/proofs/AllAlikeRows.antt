-- A statement over rows over two databases that look alike to all that a login role may act as.
use Rattle.std.proofs.Common.{◌≡◌, ◌&&◌, ◌||◌, Bool, true, false, not, is_none, map, bytes_eq, Option, Some, None, Result, Ok, Err, refl, sym, ap, ◌∙◌, subst}
use Rattle.std.proofs.lemmas.Bool.{and_parts}
use Rattle.sql_types.specs.declared.state.SqlState.{SqlState}
use Rattle.sql_types.specs.declared.answer.Answer.TheVariants as answer
use Rattle.sql_ast.specs.declared.policy.Policy.{Policy}
use Rattle.sql_ast.specs.declared.policy.PolicyClause.{PolicyClause}
use Rattle.sql_ast.specs.declared.policy.PolicyCommand.{PolicyCommand}
use Rattle.sql_ast.specs.declared.policy.PolicyCommand.TheVariants as command
use Rattle.sql_ast.specs.declared.privilege.Action.TheVariants as action
use Rattle.sql_ast.specs.declared.statement.DatabaseStatement.TheVariants as on_database
use Rattle.sql_ast.specs.declared.statement.RowStatement.{RowStatement}
use Rattle.sql_ast.specs.declared.statement.RowStatement.TheVariants as over_rows
use Rattle.sql_ast.specs.declared.statement.Update.{Update}
use Rattle.sql_ast.specs.declared.statement.Delete.{Delete}
use Rattle.sql_ast.specs.declared.statement.Select.{Select}
use Rattle.expressions.specs.Meaning.{UserNames}
use Rattle.abstract_database.specs.Lists.{TheName}
use Rattle.abstract_database.specs.Database.{Database, without_rows}
use Rattle.abstract_database.specs.Needs.{has_any}
use Rattle.abstract_database.specs.Roles.{may_set_role}
use Rattle.abstract_database.specs.Guards.{is_for_role}
use Rattle.abstract_database.specs.Changes.{CheckedUpdate}
use Rattle.abstract_database.specs.Checks.{checked_select, checked_update}
use Rattle.abstract_database.specs.Queries.{query}
use Rattle.abstract_database.specs.Statements.{Effect, effect, source_of, selected, insert, update, delete, select, UserPair, as_seen, exec_as}
use Rattle.abstract_database.proofs.CheckLemmas.{update_checked, delete_checked}
use Rattle.abstract_database.proofs.ListLemmas.{same_bytes}
use Rattle.abstract_database.proofs.ResultLemmas.{Every, every_bind, every_ok}
use Rattle.database_laws.specs.Readings.{columns_read_by_update, columns_read_by_delete}
use Rattle.database_laws.specs.Invariants.{IsSound}
use Rattle.database_laws.specs.Worlds.{SameApparentRows, EndAlike}
use Rattle.database_laws.specs.OnePolicy.{Concerns, HasPoliciesForAll}
use Rattle.database_laws.specs.HiddenRuns.{MayActAs, SameApparentRowsForPairs, is_for_all_commands, has_policies_for_all, goes_by_visible}
use Rattle.database_laws.proofs.RowLemmas.{all_of_list}
use Rattle.database_laws.proofs.RowChangeLemmas.{rows_of_one}
use Rattle.database_laws.proofs.ConcernLemmas.{deleted_in_its_table}
use Rattle.database_laws.proofs.ReadingLemmas.{update_as_written, delete_as_written}
use Rattle.database_laws.proofs.AlikeLemmas.{PassesOver, silent_not_deleted, silent_not_updated, DeletePasses, passing_delete_ends_alike}
use Rattle.database_laws.proofs.AlikeWriteLemmas.{FailsByKey, WriteAlike, left_alike, insert_writes, insert_checks, without_keys, update_writes}
use Rattle.database_laws.proofs.AlikeSelectLemmas.{select_ends_alike}
use Rattle.database_laws.proofs.OtherEyes.{delete_for_others}
use Rattle.database_laws.proofs.OnePolicy.{update_over, delete_over}

-- ---- databases afterwards

module _ (pairs : UserPair → Bool) (d e : Database) (alike : SameApparentRowsForPairs pairs d e) where
  pub acts_before : (a : Database) → without_rows a ≡ without_rows d → (pair : UserPair) → MayActAs a pairs pair → MayActAs d pairs pair
  acts_before a same pair acts = (acts.0, sym (ap (λ (x : Database). may_set_role x pair.session pair.current) same) ∙ acts.1)

  -- the definitions stay, and what is left looks alike to each to whom the databases did
  pub all_after : (a b : Database) → without_rows a ≡ without_rows d → without_rows b ≡ without_rows e → ((pair : UserPair) → MayActAs d pairs pair → SameApparentRows (as_seen pair d) a b) → SameApparentRowsForPairs pairs a b
  all_after a b on_d on_e each = record {
    definitions = on_d ∙ alike.definitions ∙ sym on_e;
    rows = λ pair acts. subst (λ (u : UserNames). SameApparentRows u a b) (ap (λ (x : Database). as_seen pair x) (sym on_d)) (each pair (acts_before a on_d pair acts));
  }

-- refused with one code, or carried out with one answer, and what they leave looks alike again to all
abbrev pub EndAll : (UserPair → Bool) → Result Effect SqlState → Result Effect SqlState → Type 0
EndAll pairs (Ok a) (Ok b) = (a.answer ≡ b.answer) × SameApparentRowsForPairs pairs a.database b.database
EndAll pairs (Err c) (Err k) = c ≡ k
EndAll pairs (Ok a) (Err k) = ⊥
EndAll pairs (Err c) (Ok b) = ⊥

-- ---- policies for all commands

all_commands : (c : PolicyCommand) → is_for_all_commands c ≡ true → c ≡ command.All
all_commands command.All e = refl
all_commands (command.Only a) e = cc

no_check : (o : Option PolicyClause) → is_none o ≡ true → o ≡ None
no_check None e = refl
no_check (Some c) e = cc

module _ (db : Database) (role table : TheName) (all : has_policies_for_all db role table ≡ true) where
  own_parts : (p : Policy) → Concerns db role table p → (is_for_all_commands p.command ≡ true) × (is_none p.check ≡ true)
  own_parts p of =
      let test = all_of_list (λ (q : Policy). not (bytes_eq q.table table && is_for_role db.memberships role q.roles) || (is_for_all_commands q.command && is_none q.check)) db.policies all p of.among in
      and_parts (is_for_all_commands p.command) (is_none p.check)
      (subst (λ (b : Bool). (not b || (is_for_all_commands p.command && is_none p.check)) ≡ true) of.for_role
      (subst (λ (b : Bool). (not (b && is_for_role db.memberships role p.roles) || (is_for_all_commands p.command && is_none p.check)) ≡ true) (same_bytes p.table table of.of_table) test))

  pub policies_for_all : HasPoliciesForAll db role table
  policies_for_all = record {
    command = λ p of. all_commands p.command (own_parts p of).0;
    check = λ p of. no_check p.check (own_parts p of).1;
  }

-- ---- statements over rows

pub select_leaves : (db : Database) (users : UserNames) (s : Select) → Every (λ (x : Effect). x.database ≡ db) (select db users s)
select_leaves db users s =
    every_bind (λ (x : Effect). x.database ≡ db) (checked_select db users s) (selected db users) (λ c c-is.
    every_bind (λ (x : Effect). x.database ≡ db) (query (map (source_of db users) c.tables) users c.query) _ (λ rows rows-is.
    every_ok (λ (x : Effect). x.database ≡ db) (effect (answer.Rows rows) db) refl))

module _ (pairs : UserPair → Bool) (d e : Database) (alike : SameApparentRowsForPairs pairs d e) (on_d : IsSound d) (on_e : IsSound e) (pair : UserPair) (may : MayActAs d pairs pair) where
  abbrev users : UserNames
  users = as_seen pair d

  own : SameApparentRows users d e
  own = alike.rows pair may

  wrote : (x : RowStatement) (r k : Result Effect SqlState) → exec_as d users (on_database.OverRows x) ≡ r → exec_as e users (on_database.OverRows x) ≡ k → WriteAlike users d e own r k → EndAll pairs r k
  wrote x (Ok a) (Ok b) f g w = (
    w.answers,
    all_after pairs d e alike a.database b.database
        (ap without_rows w.first_is ∙ (rows_of_one w.t.name w.rows d).definitions)
        (ap without_rows w.second_is ∙ (rows_of_one w.t.name w.others e).definitions)
        (λ v acts. left_alike users d e own (on_database.OverRows x) on_d on_e (as_seen v d) (alike.rows v acts) a b f g w),
  )
  wrote x (Err c) (Err k) f g w = w
  wrote x (Ok a) (Err k) f g w = w
  wrote x (Err c) (Ok b) f g w = w

  deleted_at : (s : Delete) (r k : Result Effect SqlState) → delete d users s ≡ r → delete e users s ≡ k → EndAlike users r k → EndAll pairs r k
  deleted_at s (Ok a) (Ok b) f g h = (
    h.0,
    all_after pairs d e alike a.database b.database
        (deleted_in_its_table d users s a f).definitions (deleted_in_its_table e users s b g).definitions
        (λ v acts. delete_for_others users (as_seen v d) d e s a b (alike.rows v acts) f g),
  )
  deleted_at s (Err c) (Err k) f g h = h
  deleted_at s (Ok a) (Err k) f g h = h
  deleted_at s (Err c) (Ok b) f g h = h

  selected_at : (s : Select) (r k : Result Effect SqlState) → select d users s ≡ r → select e users s ≡ k → EndAlike users r k → EndAll pairs r k
  selected_at s (Ok a) (Ok b) f g h = (
    h.0,
    subst (λ (x : Database). SameApparentRowsForPairs pairs x b.database) (sym (select_leaves d users s a f))
        (subst (λ (x : Database). SameApparentRowsForPairs pairs d x) (sym (select_leaves e users s b g)) alike),
  )
  selected_at s (Err c) (Err k) f g h = h
  selected_at s (Ok a) (Err k) f g h = h
  selected_at s (Err c) (Ok b) f g h = h

  update_by : (s : Update) (told : Bool) → has_any (columns_read_by_update s) ≡ told → (told || has_policies_for_all d users.current s.table) ≡ true →
      (c : CheckedUpdate) → checked_update d users s ≡ Ok c → PassesOver d users c.table action.Update c.reads
  update_by s true reads told c is =
      let reads_so : c.reads ≡ true = update_as_written d users s c (update_checked d users s c is) ∙ reads in
      subst (PassesOver d users c.table action.Update) (sym reads_so) (silent_not_updated d users c.table)
  update_by s false reads told c is = update_over users d e own on_d on_e s (policies_for_all d users.current s.table told) c is

  delete_by : (s : Delete) (told : Bool) → has_any (columns_read_by_delete s) ≡ told → (told || has_policies_for_all d users.current s.table) ≡ true → DeletePasses users d e own s
  delete_by s true reads told c is =
      let reads_so : c.reads ≡ true = delete_as_written d users s c (delete_checked d users s c is) ∙ reads in
      subst (PassesOver d users c.table action.Delete) (sym reads_so) (silent_not_deleted d users c.table)
  delete_by s false reads told c is = delete_over users d e own on_d on_e s (policies_for_all d users.current s.table told) c is

  pub rows_end : (x : RowStatement) → goes_by_visible d users.current x ≡ true → (FailsByKey (exec_as d users (on_database.OverRows x)) → ⊥) → (FailsByKey (exec_as e users (on_database.OverRows x)) → ⊥) →
      EndAll pairs (exec_as d users (on_database.OverRows x)) (exec_as e users (on_database.OverRows x))
  rows_end (over_rows.Select s) told m n = selected_at s (select d users s) (select e users s) refl refl (select_ends_alike users d e own s)
  rows_end (over_rows.Insert s) told m n = wrote (over_rows.Insert s) (insert d users s) (insert e users s) refl refl (insert_writes users d e own s (insert_checks users d e own s m n))
  rows_end (over_rows.Update s) told m n =
      wrote (over_rows.Update s) (update d users s) (update e users s) refl refl
      (update_writes users d e own s (without_keys users d e own s (update_by s (has_any (columns_read_by_update s)) refl told) m n))
  rows_end (over_rows.Delete s) told m n =
      deleted_at s (delete d users s) (delete e users s) refl refl
      (passing_delete_ends_alike users d e own s (delete_by s (has_any (columns_read_by_delete s)) refl told))
