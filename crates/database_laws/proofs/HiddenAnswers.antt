-- What a session is answered by two machines that hide different rows from it.
use Rattle.std.proofs.Common.{◌≡◌, ◌&&◌, ◌||◌, ℕ, Bool, true, false, not, cond, Option, Some, Result, Ok, Err, refl, sym, ap, ◌∙◌, subst}
use Rattle.sql_types.specs.declared.state.SqlState.{SqlState}
use Rattle.sql_types.specs.declared.state.SqlState.TheVariants.{InFailedTransaction, InvalidAuthorization, InsufficientPrivilege, LockNotAvailable, IoError, UniqueViolation}
use Rattle.sql_types.specs.declared.answer.Answer.{Answer}
use Rattle.sql_types.specs.declared.answer.Answer.TheVariants as answer
use Rattle.sql_ast.specs.declared.statement.Statement.{Statement}
use Rattle.sql_ast.specs.declared.statement.Statement.TheVariants as statement
use Rattle.sql_ast.specs.declared.statement.DatabaseStatement.TheVariants as on_database
use Rattle.sql_ast.specs.declared.statement.RowStatement.{RowStatement}
use Rattle.expressions.specs.Meaning.{UserNames}
use Rattle.expressions.specs.Stages.{◌>>=◌, require}
use Rattle.abstract_database.specs.Database.{Database, has_role}
use Rattle.abstract_database.specs.Statements.{Effect, as_seen, exec}
use Rattle.abstract_database.specs.Machine.{Session, Machine, session_of, users_of, is_held_by_other, seen, executes, running_transition, execute, execute_in, transition_or_refusal, applied, may_execute, has_failed, sets_role, keeps_role, is_writing, changes_rows, refuses}
use Rattle.database_laws.specs.Worlds.{EndAlike, EndAlikeWithoutKeys, answer_from, answers_hide}
use Rattle.database_laws.proofs.TwoWorlds.{ends_alike}

abbrev told : Result Effect SqlState → Answer
told (Ok e) = e.answer
told (Err code) = answer.Refused code

abbrev may_by : Database → Bool → Session → Statement → Result (Unit {0}) SqlState
may_by db held s x = do
  unfailed ← require (not (has_failed s.block)) InFailedTransaction
  authorized ← require (has_role db s.login) InvalidAuthorization
  allowed ← require (sets_role x || keeps_role db s) InsufficientPrivilege
  require (not (is_writing x && held)) LockNotAvailable

module _ (m : Machine) (number : ℕ) (s : Session) where
  abbrev outcome : RowStatement → Result Effect SqlState
  outcome x = may_execute m number s (statement.OnDatabase (on_database.OverRows x)) >>= λ free. exec (seen m number) (users_of s) (on_database.OverRows x)

  answered : (writing : Bool) (r : Result (Unit {0}) SqlState) (q : Result Effect SqlState) →
      (transition_or_refusal m number s (r >>= λ free. (q >>= λ e. Ok (applied m number s writing e)))).answer ≡ told (r >>= λ free. q)
  answered writing (Err code) q = refl
  answered writing (Ok u) (Err code) = refl
  answered true (Ok u) (Ok e) = refl
  answered false (Ok u) (Ok e) = refl

  executed : (x : RowStatement) → (execute_in m number s (Ok (statement.OnDatabase (on_database.OverRows x)))).answer ≡ told (outcome x)
  executed x = answered (changes_rows x) (may_execute m number s (statement.OnDatabase (on_database.OverRows x))) (exec (seen m number) (users_of s) (on_database.OverRows x))

  running : (x : RowStatement) → session_of number m.sessions ≡ Some s → (running_transition m (executes number (Ok (statement.OnDatabase (on_database.OverRows x))))).answer ≡ told (outcome x)
  running x there = ap (λ (o : Option Session). (execute m number (Ok (statement.OnDatabase (on_database.OverRows x))) o).answer) there ∙ executed x

  at_stop : (x : RowStatement) (b : Bool) → m.stopped ≡ b → session_of number m.sessions ≡ Some s → answer_from m number x ≡ cond b (answer.Refused IoError) (told (outcome x))
  at_stop x true e there = ap (λ (b : Bool). (cond b (refuses m IoError) (running_transition m (executes number (Ok (statement.OnDatabase (on_database.OverRows x)))))).answer) e
  at_stop x false e there = ap (λ (b : Bool). (cond b (refuses m IoError) (running_transition m (executes number (Ok (statement.OnDatabase (on_database.OverRows x)))))).answer) e ∙ running x there

told_alike : (users : UserNames) (r s : Result Effect SqlState) → EndAlike users r s → told r ≡ told s
told_alike users (Ok a) (Ok b) h = h.0
told_alike users (Err c) (Err k) h = ap (λ (z : SqlState). answer.Refused z) h
told_alike users (Ok a) (Err k) h = absurd h
told_alike users (Err c) (Ok b) h = absurd h

abbrev IsKey : Answer → Type 0
IsKey a = a ≡ answer.Refused UniqueViolation

after_checks : (users : UserNames) (g : Result (Unit {0}) SqlState) (r s : Result Effect SqlState) → EndAlikeWithoutKeys users r s →
    (IsKey (told (g >>= λ free. r)) → ⊥) → (IsKey (told (g >>= λ free. s)) → ⊥) → told (g >>= λ free. r) ≡ told (g >>= λ free. s)
after_checks users (Err code) r s h m n = refl
after_checks users (Ok u) r s h m n = told_alike users r s (h (λ e. m (ap told e)) (λ e. n (ap told e)))

pub hide : answers_hide
hide number s m k x told_x there alike on_m on_k not_m not_k = by_stop m.stopped refl where
  there_k : session_of number k.sessions ≡ Some s
  there_k = ap (session_of number) (sym alike.sessions) ∙ there

  checks : may_execute m number s (statement.OnDatabase (on_database.OverRows x)) ≡ may_execute k number s (statement.OnDatabase (on_database.OverRows x))
  checks =
      ap (λ (held : Bool). may_by (seen m number) held s (statement.OnDatabase (on_database.OverRows x))) alike.lock
      ∙ ap (λ (db : Database). may_by db (is_held_by_other number k.holder) s (statement.OnDatabase (on_database.OverRows x))) alike.rows.definitions

  ends : EndAlikeWithoutKeys (as_seen (users_of s) (seen m number)) (exec (seen m number) (users_of s) (on_database.OverRows x)) (exec (seen k number) (users_of s) (on_database.OverRows x))
  ends = ends_alike (users_of s) (seen m number) (seen k number) x told_x on_m on_k alike.rows

  same : (IsKey (told (outcome m number s x)) → ⊥) → (IsKey (told (outcome k number s x)) → ⊥) → told (outcome m number s x) ≡ told (outcome k number s x)
  same a b =
      let r = exec (seen k number) (users_of s) (on_database.OverRows x) in
      subst (λ (g : Result (Unit {0}) SqlState). (IsKey (told (g >>= λ free. r)) → ⊥) → told (outcome m number s x) ≡ told (g >>= λ free. r)) checks
      (λ c. after_checks (as_seen (users_of s) (seen m number)) (may_execute m number s (statement.OnDatabase (on_database.OverRows x))) (exec (seen m number) (users_of s) (on_database.OverRows x)) r ends a c) b

  by_stop : (b : Bool) → m.stopped ≡ b → answer_from m number x ≡ answer_from k number x
  by_stop true e = at_stop m number s x true e there ∙ sym (at_stop k number s x true (sym alike.stopped ∙ e) there_k)
  by_stop false e =
      let first = at_stop m number s x false e there in
      let second = at_stop k number s x false (sym alike.stopped ∙ e) there_k in
      first ∙ same (λ h. not_m (first ∙ h)) (λ h. not_k (second ∙ h)) ∙ sym second
