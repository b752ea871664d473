-- No event stops the session machine by itself: a transition leaves a machine that works working.
use Rattle.std.proofs.Common.{◌≡◌, ℕ, Bool, true, false, cond, nat_le, length, is_some, Result, Ok, Err, Option, Some, None, refl}
use Rattle.sql_types.specs.declared.state.SqlState.{SqlState}
use Rattle.sql_types.specs.declared.state.SqlState.TheVariants.{InvalidAuthorization, TooManyConnections, ConnectionNameInUse, IoError}
use Rattle.sql_types.specs.declared.tag.Tag.TheVariants as tag
use Rattle.sql_ast.specs.declared.statement.Statement.{Statement}
use Rattle.sql_ast.specs.declared.statement.Statement.TheVariants as statement
use Rattle.sql_ast.specs.declared.statement.DatabaseStatement.{DatabaseStatement}
use Rattle.sql_ast.specs.declared.statement.SessionStatement.{SessionStatement}
use Rattle.sql_ast.specs.declared.statement.SessionStatement.TheVariants as of_session
use Rattle.expressions.specs.Stages.{◌>>=◌}
use Rattle.abstract_database.specs.Lists.{TheName}
use Rattle.abstract_database.specs.Roles.{may_log_in}
use Rattle.abstract_database.specs.Statements.{Effect, exec}
use Rattle.abstract_database.specs.Machine.{client_of, own_sessions, Block, Outside, Inside, Failed, Session, Event, opens, executes, closes, Reading, Machine, Transition, refuses, succeeds, session_of, users_of, as_role, with_session_changed, seen, open_session, close_session, after_refusal, transition_or_refusal, may_execute, begin, with_role_set, commit, rollback, with_changes, applied, where_admitted, changes_database, execute_of_session, execute_in, execute, running_transition, transition}
use Rattle.abstract_database.proofs.ResultLemmas.{Every, every_bind, every_ok}

module _ (m : Machine) where
  -- the machine after it has stopped where this one had
  abbrev Lasts : Transition → Type 0
  Lasts t = t.machine.stopped ≡ m.stopped

  open_lasts : (number : ℕ) (login : TheName) (a b c : Bool) →
      Lasts (cond a (refuses m ConnectionNameInUse) (cond b (refuses m TooManyConnections) (cond c (succeeds tag.Open (with_session_changed m number (record { login = login; role = login; block = Outside }))) (refuses m InvalidAuthorization))))
  open_lasts number login true b c = refl
  open_lasts number login false true c = refl
  open_lasts number login false false true = refl
  open_lasts number login false false false = refl

  opened_lasts : (number : ℕ) (login : TheName) → Lasts (open_session m number login)
  opened_lasts number login = open_lasts number login (is_some (session_of number m.sessions)) (nat_le 256 (length (own_sessions (client_of number) m.sessions))) (may_log_in m.committed login)

  closed_lasts : (number : ℕ) (s : Option Session) → Lasts (close_session m number s)
  closed_lasts number None = refl
  closed_lasts number (Some s) = refl

  refused_lasts : (number : ℕ) (s : Session) (code : SqlState) (b : Block) → Lasts (refuses (after_refusal m number s b) code)
  refused_lasts number s code Outside = refl
  refused_lasts number s code (Inside role) = refl
  refused_lasts number s code (Failed role) = refl

  begin_lasts : (number : ℕ) (s : Session) (b : Block) → Lasts (begin m number s b)
  begin_lasts number s Outside = refl
  begin_lasts number s (Inside role) = refl
  begin_lasts number s (Failed role) = refl

  commit_lasts : (number : ℕ) (s : Session) (b : Block) → Lasts (commit m number s b)
  commit_lasts number s Outside = refl
  commit_lasts number s (Inside role) = refl
  commit_lasts number s (Failed role) = refl

  rollback_lasts : (number : ℕ) (s : Session) (b : Block) → Lasts (rollback m number s b)
  rollback_lasts number s Outside = refl
  rollback_lasts number s (Inside role) = refl
  rollback_lasts number s (Failed role) = refl

  changed_lasts : (number : ℕ) (b : Block) (e : Effect) → (with_changes m number b e.database).stopped ≡ m.stopped
  changed_lasts number Outside e = refl
  changed_lasts number (Inside role) e = refl
  changed_lasts number (Failed role) e = refl

  applied_lasts : (number : ℕ) (s : Session) (writes : Bool) (e : Effect) → Lasts (applied m number s writes e)
  applied_lasts number s true e = changed_lasts number s.block e
  applied_lasts number s false e = refl

  executed_lasts : (number : ℕ) (s : Session) (x : DatabaseStatement) → Every Lasts (exec (seen m number) (users_of s) x >>= λ e. Ok (applied m number s (changes_database x) e))
  executed_lasts number s x = every_bind Lasts (exec (seen m number) (users_of s) x) (λ e. Ok (applied m number s (changes_database x) e))
      (λ e is. every_ok Lasts (applied m number s (changes_database x) e) (applied_lasts number s (changes_database x) e))

  role_set_lasts : (number : ℕ) (r : Result Session SqlState) → Every Lasts (r >>= λ changed. Ok (succeeds tag.Set (with_session_changed m number changed)))
  role_set_lasts number r = every_bind Lasts r (λ changed. Ok (succeeds tag.Set (with_session_changed m number changed))) (λ changed is. every_ok Lasts (succeeds tag.Set (with_session_changed m number changed)) refl)

  told_lasts : (number : ℕ) (s : Session) (r : Result Transition SqlState) → Every Lasts r → Lasts (transition_or_refusal m number s r)
  told_lasts number s (Ok t) h = h t refl
  told_lasts number s (Err code) h = refused_lasts number s code s.block

  admitted_lasts : (number : ℕ) (s : Session) (x : Statement) (does : Result Transition SqlState) → Every Lasts does → Lasts (where_admitted m number s x does)
  admitted_lasts number s x does h =
      told_lasts number s (may_execute m number s x >>= λ free. does) (every_bind Lasts (may_execute m number s x) (λ free. does) (λ free is. h))

  of_session_lasts : (number : ℕ) (s : Session) (x : SessionStatement) → Lasts (execute_of_session m number s x)
  of_session_lasts number s of_session.Commit = commit_lasts number s s.block
  of_session_lasts number s of_session.Rollback = rollback_lasts number s s.block
  of_session_lasts number s of_session.Begin = admitted_lasts number s (statement.OfSession of_session.Begin) (Ok (begin m number s s.block)) (every_ok Lasts (begin m number s s.block) (begin_lasts number s s.block))
  of_session_lasts number s (of_session.SetRole x) = admitted_lasts number s (statement.OfSession (of_session.SetRole x))
      (with_role_set (seen m number) s x.role >>= λ changed. Ok (succeeds tag.Set (with_session_changed m number changed))) (role_set_lasts number (with_role_set (seen m number) s x.role))
  of_session_lasts number s of_session.ResetRole = admitted_lasts number s (statement.OfSession of_session.ResetRole)
      (Ok (succeeds tag.Reset (with_session_changed m number (as_role s.login s)))) (every_ok Lasts (succeeds tag.Reset (with_session_changed m number (as_role s.login s))) refl)

  execute_in_lasts : (number : ℕ) (s : Session) (x : Statement) → Lasts (execute_in m number s (Ok x))
  execute_in_lasts number s (statement.OfSession x) = of_session_lasts number s x
  execute_in_lasts number s (statement.OnDatabase x) = admitted_lasts number s (statement.OnDatabase x)
      (exec (seen m number) (users_of s) x >>= λ e. Ok (applied m number s (changes_database x) e)) (executed_lasts number s x)

  reading_lasts : (number : ℕ) (s : Session) (reading : Reading) → Lasts (execute_in m number s reading)
  reading_lasts number s (Ok x) = execute_in_lasts number s x
  reading_lasts number s (Err code) = refused_lasts number s code s.block

  execute_lasts : (number : ℕ) (reading : Reading) (s : Option Session) → Lasts (execute m number reading s)
  execute_lasts number reading None = refl
  execute_lasts number reading (Some s) = reading_lasts number s reading

  running_lasts : (event : Event Reading) → Lasts (running_transition m event)
  running_lasts (opens number login) = opened_lasts number login
  running_lasts (executes number reading) = execute_lasts number reading (session_of number m.sessions)
  running_lasts (closes number) = closed_lasts number (session_of number m.sessions)

  event_lasts : (event : Event Reading) (stopped : Bool) → Lasts (cond stopped (refuses m IoError) (running_transition m event))
  event_lasts event true = refl
  event_lasts event false = running_lasts event

-- a transition neither stops a machine nor sets it going
pub transition_lasts : (m : Machine) (event : Event Reading) → (transition m event).machine.stopped ≡ m.stopped
transition_lasts m event = event_lasts m event m.stopped
