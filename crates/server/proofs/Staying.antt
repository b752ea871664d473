-- No transition of the machine stops it.
use Rattle.std.proofs.Common.{◌≡◌, ◌∙◌, ℕ, nat_le, Bool, true, false, cond, length, Option, Some, None, is_some, Result, Ok, Err, IfOk, refl, sym, ap}
use Rattle.sql_types.specs.declared.answer.Answer.{Answer}
use Rattle.sql_types.specs.declared.state.SqlState.{SqlState}
use Rattle.sql_types.specs.declared.state.SqlState.TheVariants.{ConnectionNameInUse, TooManyConnections, InvalidAuthorization, IoError}
use Rattle.sql_types.specs.declared.tag.Tag.TheVariants as tag
use Rattle.sql_ast.specs.declared.statement.Statement.TheVariants as statement
use Rattle.sql_ast.specs.declared.statement.DatabaseStatement.{DatabaseStatement}
use Rattle.sql_ast.specs.declared.statement.SessionStatement.{SessionStatement}
use Rattle.sql_ast.specs.declared.statement.SessionStatement.TheVariants as of_session
use Rattle.expressions.specs.Stages.{◌>>=◌}
use Rattle.abstract_database.specs.Database.{Database}
use Rattle.abstract_database.specs.Roles.{may_log_in}
use Rattle.abstract_database.specs.Statements.{Effect, exec}
use Rattle.abstract_database.specs.Machine.{Block, Outside, Inside, Failed, Session, Event, opens, executes, closes, Reading, Machine, Transition, refuses, succeeds, client_of, own_sessions, session_of, as_role, users_of, seen, with_session_changed, close_session, after_refusal, transition_or_refusal, may_execute, changes_database, begin, with_role_set, commit, rollback, with_changes, applied, execute_of_session, execute_on_database, execute_in, execute, running_transition}
use Rattle.abstract_database.specs.Runs.{TheText, ReadingRelation, Counts, IsStep, by_transition, for_memory, for_space, for_number, for_device}

never_both : (b : Bool) → b ≡ false → b ≡ true → ⊥
never_both b p q = let wrong : false ≡ true = sym p ∙ q in cc

module _ (m : Machine) (number : ℕ) where
  abbrev Stays : Transition → Type 0
  Stays t = t.machine.stopped ≡ m.stopped

  module _ (s : Session) where
    after_refused : (code : SqlState) (b : Block) → Stays (refuses (after_refusal m number s b) code)
    after_refused code Outside = refl
    after_refused code (Inside role) = refl
    after_refused code (Failed role) = refl

    unless_refused : (r : Result Transition SqlState) → IfOk r Stays → Stays (transition_or_refusal m number s r)
    unless_refused (Ok t) stays = stays
    unless_refused (Err code) stays = after_refused code s.block

    where_free : (free : Result (Unit {0}) SqlState) (does : Result Transition SqlState) → IfOk does Stays → Stays (transition_or_refusal m number s (free >>= λ v. does))
    where_free (Ok v) does stays = unless_refused does stays
    where_free (Err code) does stays = after_refused code s.block

    begun : (b : Block) → Stays (begin m number s b)
    begun Outside = refl
    begun (Inside role) = refl
    begun (Failed role) = refl

    committed : (b : Block) → Stays (commit m number s b)
    committed Outside = refl
    committed (Inside role) = refl
    committed (Failed role) = refl

    rolled_back : (b : Block) → Stays (rollback m number s b)
    rolled_back Outside = refl
    rolled_back (Inside role) = refl
    rolled_back (Failed role) = refl

    role_set : (r : Result Session SqlState) → IfOk (r >>= λ changed. Ok (succeeds tag.Set (with_session_changed m number changed))) Stays
    role_set (Ok changed) = refl
    role_set (Err code) = tt

    changed : (b : Block) (db : Database) → (with_changes m number b db).stopped ≡ m.stopped
    changed Outside db = refl
    changed (Inside role) db = refl
    changed (Failed role) db = refl

    applied_stays : (writes : Bool) (e : Effect) → Stays (applied m number s writes e)
    applied_stays true e = changed s.block e.database
    applied_stays false e = refl

    performed : (writes : Bool) (r : Result Effect SqlState) → IfOk (r >>= λ e. Ok (applied m number s writes e)) Stays
    performed writes (Ok e) = applied_stays writes e
    performed writes (Err code) = tt

    of_session_stays : (x : SessionStatement) → Stays (execute_of_session m number s x)
    of_session_stays of_session.Commit = committed s.block
    of_session_stays of_session.Rollback = rolled_back s.block
    of_session_stays of_session.Begin =
        where_free (may_execute m number s (statement.OfSession of_session.Begin)) (Ok (begin m number s s.block)) (begun s.block)
    of_session_stays (of_session.SetRole x) =
        where_free (may_execute m number s (statement.OfSession (of_session.SetRole x))) _ (role_set (with_role_set (seen m number) s x.role))
    of_session_stays of_session.ResetRole =
        where_free (may_execute m number s (statement.OfSession of_session.ResetRole)) (Ok (succeeds tag.Reset (with_session_changed m number (as_role s.login s)))) refl

    on_database_stays : (x : DatabaseStatement) → Stays (execute_on_database m number s x)
    on_database_stays x = where_free (may_execute m number s (statement.OnDatabase x)) _ (performed (changes_database x) (exec (seen m number) (users_of s) x))

    executed_in : (reading : Reading) → Stays (execute_in m number s reading)
    executed_in (Err code) = after_refused code s.block
    executed_in (Ok (statement.OfSession x)) = of_session_stays x
    executed_in (Ok (statement.OnDatabase x)) = on_database_stays x

  executed : (reading : Reading) (found : Option Session) → Stays (execute m number reading found)
  executed reading None = refl
  executed reading (Some s) = executed_in s reading

  closed : (found : Option Session) → Stays (close_session m number found)
  closed None = refl
  closed (Some s) = refl

  opened : (s : Session) (used full may : Bool) → Stays (cond used (refuses m ConnectionNameInUse) (cond full (refuses m TooManyConnections) (cond may (succeeds tag.Open (with_session_changed m number s)) (refuses m InvalidAuthorization))))
  opened s true full may = refl
  opened s false true may = refl
  opened s false false true = refl
  opened s false false false = refl

module _ (m : Machine) where
  running : (e : Event Reading) → (running_transition m e).machine.stopped ≡ m.stopped
  running (opens number login) =
      opened m number _ (is_some (session_of number m.sessions)) (nat_le 256 (length (own_sessions (client_of number) m.sessions))) (may_log_in m.committed login)
  running (closes number) = closed m number (session_of number m.sessions)
  running (executes number reading) = executed m number reading (session_of number m.sessions)

  or_stopped : (b : Bool) (e : Event Reading) → (cond b (refuses m IoError) (running_transition m e)).machine.stopped ≡ m.stopped
  or_stopped true e = refl
  or_stopped false e = running e

  -- a step that stops a machine leaves all else of it
  pub stopping : (Reads : ReadingRelation) (old new : Counts) (e : Event TheText) (a : Answer) (after : Machine) → m.stopped ≡ false → after.stopped ≡ true → IsStep Reads old new m e a after
      → after ≡ record m { stopped = true }
  stopping Reads old new e a after runs stops (by_transition is) =
      absurd (never_both after.stopped (ap (λ (t : Transition). t.machine.stopped) is.is ∙ or_stopped m.stopped is.as_read ∙ runs) stops)
  stopping Reads old new e a after runs stops (for_memory answer same may) = absurd (never_both after.stopped (ap (λ (n : Machine). n.stopped) same ∙ runs) stops)
  stopping Reads old new e a after runs stops (for_space answer same may rises) = absurd (never_both after.stopped (ap (λ (n : Machine). n.stopped) same ∙ runs) stops)
  stopping Reads old new e a after runs stops (for_number answer same may greatest) = absurd (never_both after.stopped (ap (λ (n : Machine). n.stopped) same ∙ runs) stops)
  stopping Reads old new e a after runs stops (for_device t is may answer same failed) = same
