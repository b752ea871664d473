-- What an event does, under other numbers.
use Rattle.std.proofs.Common.{◌≡◌, ◌∙◌, ℕ, nat_le, Bool, true, false, cond, not, ◌&&◌, ◌||◌, List, length, is_some, Option, Some, None, Result, Ok, Err, refl, ap}
use Rattle.sql_types.specs.declared.state.SqlState.{SqlState}
use Rattle.sql_types.specs.declared.state.SqlState.TheVariants.{InsufficientPrivilege, InFailedTransaction, LockNotAvailable, InvalidAuthorization, TooManyConnections, ConnectionNameInUse, IoError}
use Rattle.sql_types.specs.declared.tag.Tag.TheVariants as tag
use Rattle.sql_ast.specs.declared.statement.Statement.{Statement}
use Rattle.sql_ast.specs.declared.statement.Statement.TheVariants as statement
use Rattle.sql_ast.specs.declared.statement.DatabaseStatement.{DatabaseStatement}
use Rattle.sql_ast.specs.declared.statement.SessionStatement.{SessionStatement}
use Rattle.sql_ast.specs.declared.statement.SessionStatement.TheVariants as of_session
use Rattle.expressions.specs.Stages.{◌>>=◌, require}
use Rattle.abstract_database.specs.Lists.{TheName}
use Rattle.abstract_database.specs.Database.{Database, has_role}
use Rattle.abstract_database.specs.Roles.{may_log_in}
use Rattle.abstract_database.specs.Statements.{Effect, exec}
use Rattle.abstract_database.specs.Machine.{client_of, own_sessions, Block, Outside, Inside, Failed, Session, Holder, Event, opens, executes, closes, Reading, Machine, Transition, refuses, succeeds, session_of, users_of, with_session_changed, as_role, in_block, seen, is_held_by_other, released, open_session, close_session, after_refusal, refused, transition_or_refusal, has_failed, sets_role, keeps_role, is_writing, changes_database, may_execute, begin, with_role_set, with_block_ended, commit, rollback, with_changes, applied, where_admitted, execute_of_session, execute_on_database, execute_in, execute, running_transition}
use Rattle.client_laws.specs.Renumbered.{IsOneToOne, renumbered, renumbered_machine, renumbered_event, renumbered_transition, numbers_change_no_answer}
use Rattle.client_laws.proofs.Lists.{session_so, with_so, without_so, as_many, released_so, seen_so, held_so}

-- the checks before a statement, by what its session sees and whether another holds the writer lock
abbrev may_with : Database → Bool → Session → Statement → Result (Unit {0}) SqlState
may_with db held s x = do
  unfailed ← require (not (has_failed s.block)) InFailedTransaction
  authorized ← require (has_role db s.login) InvalidAuthorization
  allowed ← require (sets_role x || keeps_role db s) InsufficientPrivilege
  require (not (is_writing x && held)) LockNotAvailable

module _ (place : ℕ → ℕ) (apart : IsOneToOne place) where
  abbrev moved : Transition → Transition
  moved t = renumbered_transition place t

  -- one refusal, or one transition under these numbers
  abbrev moved_result : Result Transition SqlState → Result Transition SqlState
  moved_result (Ok t) = Ok (moved t)
  moved_result (Err code) = Err code

  module _ (m : Machine) (number : ℕ) where
    abbrev k : Machine
    k = renumbered_machine place m

    abbrev n : ℕ
    n = renumbered place number

    sees : seen k n ≡ seen m number
    sees = seen_so place apart number m.holder m.committed

    changed_so : (s : Session) → with_session_changed k n s ≡ renumbered_machine place (with_session_changed m number s)
    changed_so s = ap (λ (l : List (ℕ × Session)). record k { sessions = l }) (with_so place apart number s m.sessions)

    ended_so : (s : Session) (db : Database) (role : TheName) → with_block_ended k n s db role ≡ renumbered_machine place (with_block_ended m number s db role)
    ended_so s db role =
        ap (λ (l : List (ℕ × Session)). record k { committed = db; holder = released n k.holder; sessions = l }) (with_so place apart number (in_block Outside (as_role role s)) m.sessions)
        ∙ ap (λ (o : Option Holder). record k { committed = db; holder = o; sessions = (renumbered_machine place (with_block_ended m number s db role)).sessions }) (released_so place apart number m.holder)

    -- ---- opening and closing

    open_by : (login : TheName) (there full may : Bool) →
        cond there (refuses k ConnectionNameInUse) (cond full (refuses k TooManyConnections) (cond may (succeeds tag.Open (with_session_changed k n (record { login = login; role = login; block = Outside }))) (refuses k InvalidAuthorization)))
        ≡ moved (cond there (refuses m ConnectionNameInUse) (cond full (refuses m TooManyConnections) (cond may (succeeds tag.Open (with_session_changed m number (record { login = login; role = login; block = Outside }))) (refuses m InvalidAuthorization))))
    open_by login true full may = refl
    open_by login false true may = refl
    open_by login false false true = ap (λ (z : Machine). succeeds tag.Open z) (changed_so (record { login = login; role = login; block = Outside }))
    open_by login false false false = refl

    opened_so : (login : TheName) → open_session k n login ≡ moved (open_session m number login)
    opened_so login =
        ap (λ (o : Option Session). cond (is_some o) (refuses k ConnectionNameInUse) (cond (nat_le 256 (length (own_sessions (client_of n) k.sessions))) (refuses k TooManyConnections)
        (cond (may_log_in m.committed login) (succeeds tag.Open (with_session_changed k n (record { login = login; role = login; block = Outside }))) (refuses k InvalidAuthorization)))) (session_so place apart number m.sessions)
        ∙ ap (λ (i : ℕ). cond (is_some (session_of number m.sessions)) (refuses k ConnectionNameInUse) (cond (nat_le 256 i) (refuses k TooManyConnections)
        (cond (may_log_in m.committed login) (succeeds tag.Open (with_session_changed k n (record { login = login; role = login; block = Outside }))) (refuses k InvalidAuthorization)))) (as_many place apart number m.sessions)
        ∙ open_by login (is_some (session_of number m.sessions)) (nat_le 256 (length (own_sessions (client_of number) m.sessions))) (may_log_in m.committed login)

    closed_by : (o : Option Session) → close_session k n o ≡ moved (close_session m number o)
    closed_by None = refl
    closed_by (Some s) =
        ap (λ (l : List (ℕ × Session)). succeeds tag.Close (record k { sessions = l; holder = released n k.holder })) (without_so place apart number m.sessions)
        ∙ ap (λ (o : Option Holder). succeeds tag.Close (record k { sessions = (renumbered_transition place (close_session m number (Some s))).machine.sessions; holder = o })) (released_so place apart number m.holder)

    module _ (s : Session) where
      -- ---- refusals

      failed_so : (b : Block) → after_refusal k n s b ≡ renumbered_machine place (after_refusal m number s b)
      failed_so Outside = refl
      failed_so (Inside role) = changed_so (in_block (Failed role) s)
      failed_so (Failed role) = refl

      refused_so : (code : SqlState) → refused k n s code ≡ moved (refused m number s code)
      refused_so code = ap (λ (z : Machine). refuses z code) (failed_so s.block)

      ended_or_refused : (r : Result Transition SqlState) → transition_or_refusal k n s (moved_result r) ≡ moved (transition_or_refusal m number s r)
      ended_or_refused (Ok t) = refl
      ended_or_refused (Err code) = refused_so code

      may_so : (x : Statement) → may_execute k n s x ≡ may_execute m number s x
      may_so x =
          ap (λ (db : Database). may_with db (is_held_by_other n k.holder) s x) sees
          ∙ ap (λ (held : Bool). may_with (seen m number) held s x) (held_so place apart number m.holder)

      checked_first : (may : Result (Unit {0}) SqlState) (does : Result Transition SqlState) → (may >>= λ free. moved_result does) ≡ moved_result (may >>= λ free. does)
      checked_first (Ok u) does = refl
      checked_first (Err code) does = refl

      admitted_so : (x : Statement) (does there : Result Transition SqlState) → there ≡ moved_result does → where_admitted k n s x there ≡ moved (where_admitted m number s x does)
      admitted_so x does there is =
          ap (λ (r : Result Transition SqlState). where_admitted k n s x r) is
          ∙ ap (λ (may : Result (Unit {0}) SqlState). transition_or_refusal k n s (may >>= λ free. moved_result does)) (may_so x)
          ∙ ap (transition_or_refusal k n s) (checked_first (may_execute m number s x) does)
          ∙ ended_or_refused (may_execute m number s x >>= λ free. does)

      -- ---- statements of sessions

      begun_so : (b : Block) → begin k n s b ≡ moved (begin m number s b)
      begun_so Outside = ap (λ (z : Machine). succeeds tag.Begin z) (changed_so (in_block (Inside s.role) s))
      begun_so (Inside role) = refl
      begun_so (Failed role) = refl

      committed_so : (b : Block) → commit k n s b ≡ moved (commit m number s b)
      committed_so Outside = refl
      committed_so (Inside role) =
          ap (λ (db : Database). succeeds tag.Commit (with_block_ended k n s db s.role)) sees
          ∙ ap (λ (z : Machine). succeeds tag.Commit z) (ended_so s (seen m number) s.role)
      committed_so (Failed role) = ap (λ (z : Machine). succeeds tag.Rollback z) (ended_so s m.committed role)

      rolled_back_so : (b : Block) → rollback k n s b ≡ moved (rollback m number s b)
      rolled_back_so Outside = refl
      rolled_back_so (Inside role) = ap (λ (z : Machine). succeeds tag.Rollback z) (ended_so s m.committed role)
      rolled_back_so (Failed role) = ap (λ (z : Machine). succeeds tag.Rollback z) (ended_so s m.committed role)

      set_by : (r : Result Session SqlState) → (r >>= λ changed. Ok (succeeds tag.Set (with_session_changed k n changed))) ≡ moved_result (r >>= λ changed. Ok (succeeds tag.Set (with_session_changed m number changed)))
      set_by (Ok changed) = ap (λ (z : Machine). Ok (succeeds tag.Set z)) (changed_so changed)
      set_by (Err code) = refl

      of_session_so : (x : SessionStatement) → execute_of_session k n s x ≡ moved (execute_of_session m number s x)
      of_session_so of_session.Commit = committed_so s.block
      of_session_so of_session.Rollback = rolled_back_so s.block
      of_session_so of_session.Begin = admitted_so (statement.OfSession of_session.Begin) (Ok (begin m number s s.block)) (Ok (begin k n s s.block)) (ap (λ (t : Transition). Ok t) (begun_so s.block))
      of_session_so (of_session.SetRole x) =
          admitted_so (statement.OfSession (of_session.SetRole x)) (with_role_set (seen m number) s x.role >>= λ changed. Ok (succeeds tag.Set (with_session_changed m number changed)))
          (with_role_set (seen k n) s x.role >>= λ changed. Ok (succeeds tag.Set (with_session_changed k n changed)))
          (ap (λ (db : Database). with_role_set db s x.role >>= λ changed. Ok (succeeds tag.Set (with_session_changed k n changed))) sees ∙ set_by (with_role_set (seen m number) s x.role))
      of_session_so of_session.ResetRole =
          admitted_so (statement.OfSession of_session.ResetRole) (Ok (succeeds tag.Reset (with_session_changed m number (as_role s.login s)))) (Ok (succeeds tag.Reset (with_session_changed k n (as_role s.login s))))
          (ap (λ (z : Machine). Ok (succeeds tag.Reset z)) (changed_so (as_role s.login s)))

      -- ---- statements over the database

      changes_so : (b : Block) (db : Database) → with_changes k n b db ≡ renumbered_machine place (with_changes m number b db)
      changes_so Outside db = refl
      changes_so (Inside role) db = refl
      changes_so (Failed role) db = refl

      applied_so : (writes : Bool) (e : Effect) → applied k n s writes e ≡ moved (applied m number s writes e)
      applied_so true e = ap (λ (z : Machine). record { answer = e.answer; machine = z }) (changes_so s.block e.database)
      applied_so false e = refl

      worked_by : (writes : Bool) (r : Result Effect SqlState) → (r >>= λ e. Ok (applied k n s writes e)) ≡ moved_result (r >>= λ e. Ok (applied m number s writes e))
      worked_by writes (Ok e) = ap (λ (t : Transition). Ok t) (applied_so writes e)
      worked_by writes (Err code) = refl

      on_database_so : (x : DatabaseStatement) → execute_on_database k n s x ≡ moved (execute_on_database m number s x)
      on_database_so x =
          admitted_so (statement.OnDatabase x) (exec (seen m number) (users_of s) x >>= λ e. Ok (applied m number s (changes_database x) e))
          (exec (seen k n) (users_of s) x >>= λ e. Ok (applied k n s (changes_database x) e))
          (ap (λ (db : Database). exec db (users_of s) x >>= λ e. Ok (applied k n s (changes_database x) e)) sees ∙ worked_by (changes_database x) (exec (seen m number) (users_of s) x))

      executed_so : (r : Reading) → execute_in k n s r ≡ moved (execute_in m number s r)
      executed_so (Err code) = refused_so code
      executed_so (Ok (statement.OfSession x)) = of_session_so x
      executed_so (Ok (statement.OnDatabase x)) = on_database_so x

    in_session : (r : Reading) (o : Option Session) → execute k n r o ≡ moved (execute m number r o)
    in_session r None = refl
    in_session r (Some s) = executed_so s r

  -- ---- one event

  running_so : (m : Machine) (event : Event Reading) → running_transition (renumbered_machine place m) (renumbered_event place event) ≡ moved (running_transition m event)
  running_so m (opens number login) = opened_so m number login
  running_so m (closes number) =
      ap (close_session (renumbered_machine place m) (renumbered place number)) (session_so place apart number m.sessions) ∙ closed_by m number (session_of number m.sessions)
  running_so m (executes number reading) =
      ap (execute (renumbered_machine place m) (renumbered place number) reading) (session_so place apart number m.sessions) ∙ in_session m number reading (session_of number m.sessions)

  stopped_or : (m : Machine) (event : Event Reading) (b : Bool) → cond b (refuses (renumbered_machine place m) IoError) (running_transition (renumbered_machine place m) (renumbered_event place event)) ≡ moved (cond b (refuses m IoError) (running_transition m event))
  stopped_or m event true = refl
  stopped_or m event false = running_so m event

pub moves_so : numbers_change_no_answer
moves_so place apart m event = stopped_or place apart m event m.stopped
