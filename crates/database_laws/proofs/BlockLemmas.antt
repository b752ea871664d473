-- How statements are executed in an open session: refused, or performed.
use Rattle.std.proofs.Common.{◌≡◌, ℕ, Bool, true, false, cond, Result, Ok, Err, Option, refl, sym, ap, ◌∙◌}
use Rattle.sql_types.specs.declared.state.SqlState.{SqlState}
use Rattle.sql_types.specs.declared.state.SqlState.TheVariants.{IoError}
use Rattle.sql_types.specs.declared.tag.Tag.TheVariants as tag
use Rattle.sql_ast.specs.declared.statement.Statement.{Statement}
use Rattle.sql_ast.specs.declared.statement.Statement.TheVariants as statement
use Rattle.sql_ast.specs.declared.statement.DatabaseStatement.{DatabaseStatement}
use Rattle.sql_ast.specs.declared.statement.SessionStatement.{SessionStatement}
use Rattle.sql_ast.specs.declared.statement.SessionStatement.TheVariants as of_session
use Rattle.sql_ast.specs.declared.statement.SetRole.{SetRole}
use Rattle.expressions.specs.Stages.{◌>>=◌}
use Rattle.abstract_database.specs.Statements.{Effect, exec}
use Rattle.abstract_database.specs.Machine.{Session, Event, executes, Reading, Machine, Transition, refuses, succeeds, users_of, as_role, with_session_changed, seen, refused, transition_or_refusal, changes_database, may_execute, begin, with_role_set, commit, rollback, applied, where_admitted, execute_in, execute, running_transition}
use Rattle.abstract_database.proofs.ResultLemmas.{ok_inside, bind_ok}
use Rattle.database_laws.specs.Blocks.{IsOpen, executed}

-- ---- open sessions

stopped_is : (m : Machine) (event : Event Reading) (stopped : Bool) → stopped ≡ false → cond stopped (refuses m IoError) (running_transition m event) ≡ running_transition m event
stopped_is m event true e = cc
stopped_is m event false e = refl

pub executed_in : (m : Machine) (number : ℕ) (s : Session) (reading : Reading) → IsOpen m number s → executed m number reading ≡ execute_in m number s reading
executed_in m number s reading o = stopped_is m (executes number reading) m.stopped o.running ∙ ap (λ (there : Option Session). execute m number reading there) o.session

-- ---- what a statement is to the machine

-- what a statement does that is not refused before it is executed
abbrev pub done_of_session : Machine → ℕ → Session → SessionStatement → Result Transition SqlState
done_of_session m number s of_session.Commit = Ok (commit m number s s.block)
done_of_session m number s of_session.Rollback = Ok (rollback m number s s.block)
done_of_session m number s of_session.Begin = Ok (begin m number s s.block)
done_of_session m number s (of_session.SetRole x) = with_role_set (seen m number) s x.role >>= λ changed. Ok (succeeds tag.Set (with_session_changed m number changed))
done_of_session m number s of_session.ResetRole = Ok (succeeds tag.Reset (with_session_changed m number (as_role s.login s)))

abbrev pub done_by : Machine → ℕ → Session → Statement → Result Transition SqlState
done_by m number s (statement.OfSession x) = done_of_session m number s x
done_by m number s (statement.OnDatabase x) = exec (seen m number) (users_of s) x >>= λ e. Ok (applied m number s (changes_database x) e)

-- every statement but COMMIT and ROLLBACK is executed so
abbrev pub ordinary : Machine → ℕ → Session → Statement → Transition
ordinary m number s x = where_admitted m number s x (done_by m number s x)

pub data Sort (x : Statement) : Type 0 where
  commits : x ≡ (statement.OfSession of_session.Commit) → Sort x
  rolls_back : x ≡ (statement.OfSession of_session.Rollback) → Sort x
  is_ordinary : ((m : Machine) (number : ℕ) (s : Session) → execute_in m number s (Ok x) ≡ ordinary m number s x) → Sort x

pub sort_of : (x : Statement) → Sort x
sort_of (statement.OfSession of_session.Commit) = commits refl
sort_of (statement.OfSession of_session.Rollback) = rolls_back refl
sort_of (statement.OfSession of_session.Begin) = is_ordinary (λ m number s. refl)
sort_of (statement.OfSession (of_session.SetRole x)) = is_ordinary (λ m number s. refl)
sort_of (statement.OfSession of_session.ResetRole) = is_ordinary (λ m number s. refl)
sort_of (statement.OnDatabase x) = is_ordinary (λ m number s. refl)

-- ---- refused, or performed

pub data Outcome (m : Machine) (number : ℕ) (s : Session) (x : Statement) (t : Transition) : Type 0 where
  is_refused : (code : SqlState) → t ≡ refused m number s code → Outcome m number s x t
  is_performed : (u : Unit {0}) → may_execute m number s x ≡ Ok u → done_by m number s x ≡ Ok t → Outcome m number s x t

outcome_of : (m : Machine) (number : ℕ) (s : Session) (x : Statement) (may : Result (Unit {0}) SqlState) (does : Result Transition SqlState) → may_execute m number s x ≡ may → done_by m number s x ≡ does →
    Outcome m number s x (transition_or_refusal m number s (may >>= λ free. does))
outcome_of m number s x (Err code) does a b = is_refused code refl
outcome_of m number s x (Ok u) (Err code) a b = is_refused code refl
outcome_of m number s x (Ok u) (Ok t) a b = is_performed u a b

pub outcome : (m : Machine) (number : ℕ) (s : Session) (x : Statement) → Outcome m number s x (ordinary m number s x)
outcome m number s x = outcome_of m number s x (may_execute m number s x) (done_by m number s x) refl refl

pub data Performed (m : Machine) (number : ℕ) (s : Session) (x : Statement) (t : Transition) : Type 0 where
  has_committed : x ≡ (statement.OfSession of_session.Commit) → t ≡ commit m number s s.block → Performed m number s x t
  has_rolled_back : x ≡ (statement.OfSession of_session.Rollback) → t ≡ rollback m number s s.block → Performed m number s x t
  has_begun : x ≡ (statement.OfSession of_session.Begin) → t ≡ begin m number s s.block → Performed m number s x t
  has_set : (r : SetRole) (changed : Session) → x ≡ (statement.OfSession (of_session.SetRole r)) → with_role_set (seen m number) s r.role ≡ Ok changed → t ≡ succeeds tag.Set (with_session_changed m number changed) → Performed m number s x t
  has_reset : x ≡ (statement.OfSession of_session.ResetRole) → t ≡ succeeds tag.Reset (with_session_changed m number (as_role s.login s)) → Performed m number s x t
  has_worked : (d : DatabaseStatement) (e : Effect) → x ≡ statement.OnDatabase d → exec (seen m number) (users_of s) d ≡ Ok e → t ≡ applied m number s (changes_database d) e → Performed m number s x t

module _ (m : Machine) (number : ℕ) (s : Session) where
  worked : (d : DatabaseStatement) (t : Transition) → (exec (seen m number) (users_of s) d >>= λ e. Ok (applied m number s (changes_database d) e)) ≡ Ok t → Performed m number s (statement.OnDatabase d) t
  worked d t h =
      let found = bind_ok (exec (seen m number) (users_of s) d) (λ e. Ok (applied m number s (changes_database d) e)) t h in
      has_worked d found.0 refl found.1 (sym (ok_inside (applied m number s (changes_database d) found.0) t found.2))

  set_by : (r : SetRole) (t : Transition) → (with_role_set (seen m number) s r.role >>= λ changed. Ok (succeeds tag.Set (with_session_changed m number changed))) ≡ Ok t → Performed m number s (statement.OfSession (of_session.SetRole r)) t
  set_by r t h =
      let found = bind_ok (with_role_set (seen m number) s r.role) (λ changed. Ok (succeeds tag.Set (with_session_changed m number changed))) t h in
      has_set r found.0 refl found.1 (sym (ok_inside (succeeds tag.Set (with_session_changed m number found.0)) t found.2))

  pub performed_as : (x : Statement) (t : Transition) → done_by m number s x ≡ Ok t → Performed m number s x t
  performed_as (statement.OfSession of_session.Commit) t h = has_committed refl (sym (ok_inside (commit m number s s.block) t h))
  performed_as (statement.OfSession of_session.Rollback) t h = has_rolled_back refl (sym (ok_inside (rollback m number s s.block) t h))
  performed_as (statement.OfSession of_session.Begin) t h = has_begun refl (sym (ok_inside (begin m number s s.block) t h))
  performed_as (statement.OfSession (of_session.SetRole r)) t h = set_by r t h
  performed_as (statement.OfSession of_session.ResetRole) t h = has_reset refl (sym (ok_inside (succeeds tag.Reset (with_session_changed m number (as_role s.login s))) t h))
  performed_as (statement.OnDatabase d) t h = worked d t h
