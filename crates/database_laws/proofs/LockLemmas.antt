-- What the writer lock keeps from the sessions that do not hold it.
use Rattle.std.proofs.Common.{◌≡◌, ◌&&◌, ◌||◌, ◌==◌, ℕ, Bool, true, false, not, cond, nat_le, length, is_some, Result, Ok, Err, Option, Some, None, refl, sym, ap, ◌∙◌}
use Rattle.sql_types.specs.declared.state.SqlState.{SqlState}
use Rattle.sql_types.specs.declared.state.SqlState.TheVariants.{InsufficientPrivilege, InFailedTransaction, LockNotAvailable, InvalidAuthorization, TooManyConnections, ConnectionNameInUse, IoError}
use Rattle.sql_types.specs.declared.answer.Answer.{Answer}
use Rattle.sql_types.specs.declared.answer.Answer.TheVariants as answer
use Rattle.sql_types.specs.declared.tag.Tag.TheVariants as tag
use Rattle.sql_types.specs.declared.warning.Warning.TheVariants as warning
use Rattle.sql_ast.specs.declared.statement.Statement.{Statement}
use Rattle.sql_ast.specs.declared.statement.Statement.TheVariants as statement
use Rattle.sql_ast.specs.declared.statement.SessionStatement.{SessionStatement}
use Rattle.sql_ast.specs.declared.statement.SessionStatement.TheVariants as of_session
use Rattle.abstract_database.specs.Lists.{TheName}
use Rattle.expressions.specs.Stages.{◌>>=◌, require}
use Rattle.abstract_database.specs.Database.{Database, has_role}
use Rattle.abstract_database.specs.Roles.{may_log_in}
use Rattle.abstract_database.specs.Statements.{Effect, exec}
use Rattle.abstract_database.specs.Machine.{client_of, own_sessions, Block, Outside, Inside, Failed, Session, Event, opens, executes, closes, Reading, Machine, Holder, Transition, refuses, succeeds, session_of, users_of, as_role, with_session_changed, is_held_by_other, released, seen_by, seen, open_session, close_session, after_refusal, transition_or_refusal, is_writing, sets_role, has_failed, keeps_role, may_execute, begin, with_role_set, commit, rollback, applied, where_admitted, changes_database, execute_of_session, execute_in, execute, running_transition, transition}
use Rattle.database_laws.specs.Sessions.{number_of}
use Rattle.abstract_database.proofs.ResultLemmas.{require_ok, Every, every_bind, every_ok}
use Rattle.database_laws.proofs.MachineLemmas.{Same, opened_same}

-- ---- another session holds the writer lock

other_preserved : (b : Bool) (h : Holder) → not b ≡ true → ◌≡◌ {A = Option Holder} (cond b None (Some h)) (Some h)
other_preserved true h e = cc
other_preserved false h e = refl

released_other : (number : ℕ) (h : Option Holder) → is_held_by_other number h ≡ true → released number h ≡ h
released_other number None e = cc
released_other number (Some h) e = other_preserved (h.session == number) h e

not_seen : (b : Bool) (mine theirs : Database) → not b ≡ true → cond b mine theirs ≡ theirs
not_seen true mine theirs e = cc
not_seen false mine theirs e = refl

seen_other : (number : ℕ) (h : Option Holder) (db : Database) → is_held_by_other number h ≡ true → seen_by number h db ≡ db
seen_other number None db e = refl
seen_other number (Some h) db e = not_seen (h.session == number) h.database db e

abbrev IsPreserved : Machine → Transition → Type 0
IsPreserved m t = (t.machine.committed ≡ m.committed) × (t.machine.holder ≡ m.holder)

kept_by : (m : Machine) (t : Transition) → Same m t.machine → IsPreserved m t
kept_by m t s = (s.committed, s.holder)

refused_preserved : (m : Machine) (number : ℕ) (s : Session) (code : SqlState) (b : Block) → IsPreserved m (refuses (after_refusal m number s b) code)
refused_preserved m number s code Outside = (refl, refl)
refused_preserved m number s code (Inside role) = (refl, refl)
refused_preserved m number s code (Failed role) = (refl, refl)

module _ (m : Machine) (number : ℕ) (other : is_held_by_other number m.holder ≡ true) where
  commit_preserved : (s : Session) (b : Block) → IsPreserved m (commit m number s b)
  commit_preserved s Outside = (refl, refl)
  commit_preserved s (Inside role) = (seen_other number m.holder m.committed other, released_other number m.holder other)
  commit_preserved s (Failed role) = (refl, released_other number m.holder other)

  rollback_preserved : (s : Session) (b : Block) → IsPreserved m (rollback m number s b)
  rollback_preserved s Outside = (refl, refl)
  rollback_preserved s (Inside role) = (refl, released_other number m.holder other)
  rollback_preserved s (Failed role) = (refl, released_other number m.holder other)

  begin_preserved : (s : Session) (b : Block) → IsPreserved m (begin m number s b)
  begin_preserved s Outside = (refl, refl)
  begin_preserved s (Inside role) = (refl, refl)
  begin_preserved s (Failed role) = (refl, refl)

  not_true : (b : Bool) → not b ≡ true → b ≡ false
  not_true true e = cc
  not_true false e = refl

  abbrev Free : Statement → Unit {0} → Type 0
  Free x u = (is_writing x && is_held_by_other number m.holder) ≡ false

  free_of : (s : Session) (x : Statement) → Every (Free x) (may_execute m number s x)
  free_of s x =
      every_bind (Free x) (require (not (has_failed s.block)) InFailedTransaction) _ (λ u1 a.
      every_bind (Free x) (require (has_role (seen m number) s.login) InvalidAuthorization) _ (λ u2 b.
      every_bind (Free x) (require (sets_role x || keeps_role (seen m number) s) InsufficientPrivilege) _ (λ u3 c.
      λ u d. not_true (is_writing x && is_held_by_other number m.holder) (require_ok (not (is_writing x && is_held_by_other number m.holder)) LockNotAvailable u d))))

  never_writes : (r : Result Transition SqlState) → is_held_by_other number m.holder ≡ false → Every (IsPreserved m) r
  never_writes r e t is = let contrary : true ≡ false = sym other ∙ e in cc

  applied_preserved : (s : Session) (r : Result Effect SqlState) (writing : Bool) → (writing && is_held_by_other number m.holder) ≡ false → Every (IsPreserved m) (r >>= λ e. Ok (applied m number s writing e))
  applied_preserved s r true free = never_writes (r >>= λ e. Ok (applied m number s true e)) free
  applied_preserved s r false free = every_bind (IsPreserved m) r (λ e. Ok (applied m number s false e)) (λ e is. every_ok (IsPreserved m) (applied m number s false e) (refl, refl))

  role_set_preserved : (r : Result Session SqlState) → Every (IsPreserved m) (r >>= λ changed. Ok (succeeds tag.Set (with_session_changed m number changed)))
  role_set_preserved r = every_bind (IsPreserved m) r (λ changed. Ok (succeeds tag.Set (with_session_changed m number changed))) (λ changed is. every_ok (IsPreserved m) (succeeds tag.Set (with_session_changed m number changed)) (refl, refl))

  settled_preserved : (s : Session) (r : Result Transition SqlState) → Every (IsPreserved m) r → IsPreserved m (transition_or_refusal m number s r)
  settled_preserved s (Ok t) h = h t refl
  settled_preserved s (Err code) h = refused_preserved m number s code s.block

  admitted_preserved : (s : Session) (x : Statement) (does : Result Transition SqlState) → ((is_writing x && is_held_by_other number m.holder) ≡ false → Every (IsPreserved m) does) → IsPreserved m (where_admitted m number s x does)
  admitted_preserved s x does h = settled_preserved s (may_execute m number s x >>= λ free. does)
      (every_bind (IsPreserved m) (may_execute m number s x) (λ free. does) (λ free is. h (free_of s x free is)))

  of_session_preserved : (s : Session) (x : SessionStatement) → IsPreserved m (execute_of_session m number s x)
  of_session_preserved s of_session.Commit = commit_preserved s s.block
  of_session_preserved s of_session.Rollback = rollback_preserved s s.block
  of_session_preserved s of_session.Begin = admitted_preserved s (statement.OfSession of_session.Begin) (Ok (begin m number s s.block)) (λ free. every_ok (IsPreserved m) (begin m number s s.block) (begin_preserved s s.block))
  of_session_preserved s (of_session.SetRole x) = admitted_preserved s (statement.OfSession (of_session.SetRole x)) (with_role_set (seen m number) s x.role >>= λ changed. Ok (succeeds tag.Set (with_session_changed m number changed)))
      (λ free. role_set_preserved (with_role_set (seen m number) s x.role))
  of_session_preserved s of_session.ResetRole = admitted_preserved s (statement.OfSession of_session.ResetRole) (Ok (succeeds tag.Reset (with_session_changed m number (as_role s.login s))))
      (λ free. every_ok (IsPreserved m) (succeeds tag.Reset (with_session_changed m number (as_role s.login s))) (refl, refl))

  execute_in_preserved : (s : Session) (x : Statement) → IsPreserved m (execute_in m number s (Ok x))
  execute_in_preserved s (statement.OfSession x) = of_session_preserved s x
  execute_in_preserved s (statement.OnDatabase x) = admitted_preserved s (statement.OnDatabase x) (exec (seen m number) (users_of s) x >>= λ e. Ok (applied m number s (changes_database x) e))
      (λ free. applied_preserved s (exec (seen m number) (users_of s) x) (changes_database x) free)

  reading_preserved : (s : Session) (reading : Reading) → IsPreserved m (execute_in m number s reading)
  reading_preserved s (Ok x) = execute_in_preserved s x
  reading_preserved s (Err code) = refused_preserved m number s code s.block

  execute_preserved : (reading : Reading) (s : Option Session) → IsPreserved m (execute m number reading s)
  execute_preserved reading None = (refl, refl)
  execute_preserved reading (Some s) = reading_preserved s reading

  closed_preserved : (s : Option Session) → IsPreserved m (close_session m number s)
  closed_preserved None = (refl, refl)
  closed_preserved (Some s) = (refl, released_other number m.holder other)

running_preserved : (m : Machine) (event : Event Reading) → is_held_by_other (number_of event) m.holder ≡ true → IsPreserved m (running_transition m event)
running_preserved m (opens number login) other = kept_by m (open_session m number login) (opened_same m number login)
running_preserved m (executes number reading) other = execute_preserved m number other reading (session_of number m.sessions)
running_preserved m (closes number) other = closed_preserved m number other (session_of number m.sessions)

stopped_preserved : (m : Machine) (event : Event Reading) (stopped : Bool) → is_held_by_other (number_of event) m.holder ≡ true → IsPreserved m (cond stopped (refuses m IoError) (running_transition m event))
stopped_preserved m event true other = (refl, refl)
stopped_preserved m event false other = running_preserved m event other

pub transition_preserves : (m : Machine) (event : Event Reading) → is_held_by_other (number_of event) m.holder ≡ true → IsPreserved m (transition m event)
transition_preserves m event other = stopped_preserved m event m.stopped other

-- ---- an answer depends on the database that the session sees, and on whether another holds the writer lock

abbrev go_on : Database → Bool → Session → Statement → Result (Unit {0}) SqlState
go_on db held s x = do
  unfailed ← require (not (has_failed s.block)) InFailedTransaction
  authorized ← require (has_role db s.login) InvalidAuthorization
  allowed ← require (sets_role x || keeps_role db s) InsufficientPrivilege
  require (not (is_writing x && held)) LockNotAvailable

begin_answer : Block → Answer
begin_answer Outside = answer.Done tag.Begin None None
begin_answer (Inside role) = answer.Done tag.Begin None (Some warning.ActiveTransaction)
begin_answer (Failed role) = answer.Refused InFailedTransaction

abbrev answer_of : Result Transition SqlState → Result Answer SqlState
answer_of r = r >>= λ t. Ok t.answer

abbrev answer_in : Result Answer SqlState → Answer
answer_in (Ok a) = a
answer_in (Err code) = answer.Refused code

begin_answers : (m : Machine) (number : ℕ) (s : Session) (b : Block) → (begin m number s b).answer ≡ begin_answer b
unfolding begin_answer
begin_answers m number s Outside = refl
begin_answers m number s (Inside role) = refl
begin_answers m number s (Failed role) = refl

applied_answers : (m : Machine) (number : ℕ) (s : Session) (writing : Bool) (r : Result Effect SqlState) → answer_of (r >>= λ e. Ok (applied m number s writing e)) ≡ (r >>= λ e. Ok e.answer)
applied_answers m number s true (Ok e) = refl
applied_answers m number s false (Ok e) = refl
applied_answers m number s writing (Err code) = refl

role_set_answers : (m : Machine) (number : ℕ) (r : Result Session SqlState) → answer_of (r >>= λ changed. Ok (succeeds tag.Set (with_session_changed m number changed))) ≡ (r >>= λ changed. Ok (answer.Done tag.Set None None))
role_set_answers m number (Ok changed) = refl
role_set_answers m number (Err code) = refl

transition_answers : (m : Machine) (number : ℕ) (s : Session) (r : Result Transition SqlState) → (transition_or_refusal m number s r).answer ≡ answer_in (answer_of r)
transition_answers m number s (Ok t) = refl
transition_answers m number s (Err code) = refl

then_answers : (free : Result (Unit {0}) SqlState) (r : Result Transition SqlState) → answer_of (free >>= λ u. r) ≡ (free >>= λ u. answer_of r)
then_answers (Ok u) r = refl
then_answers (Err code) r = refl

abbrev admitted_answer : Database → Bool → Session → Statement → Result Answer SqlState → Answer
admitted_answer db held s x answers = answer_in (go_on db held s x >>= λ free. answers)

admitted_answers : (m : Machine) (number : ℕ) (s : Session) (x : Statement) (does : Result Transition SqlState) (answers : Result Answer SqlState) → answer_of does ≡ answers →
    (where_admitted m number s x does).answer ≡ admitted_answer (seen m number) (is_held_by_other number m.holder) s x answers
admitted_answers m number s x does answers h =
    transition_answers m number s (may_execute m number s x >>= λ free. does)
    ∙ ap answer_in (then_answers (may_execute m number s x) does)
    ∙ ap (λ r. answer_in (may_execute m number s x >>= λ free. r)) h

module _ (m n : Machine) (number : ℕ) (seen_same : seen m number ≡ seen n number) (held_same : is_held_by_other number m.holder ≡ is_held_by_other number n.holder) where
  -- two machines answer the same that differ in no more than an answer's database
  admitted_same : (s : Session) (x : Statement) (here there : Result Transition SqlState) (answers : Database → Result Answer SqlState) →
      answer_of here ≡ answers (seen m number) → answer_of there ≡ answers (seen n number) → (where_admitted m number s x here).answer ≡ (where_admitted n number s x there).answer
  admitted_same s x here there answers a b =
      admitted_answers m number s x here (answers (seen m number)) a
      ∙ ap (λ db. admitted_answer db (is_held_by_other number m.holder) s x (answers db)) seen_same
      ∙ ap (λ held. admitted_answer (seen n number) held s x (answers (seen n number))) held_same
      ∙ sym (admitted_answers n number s x there (answers (seen n number)) b)

  commit_same : (s : Session) (b : Block) → (commit m number s b).answer ≡ (commit n number s b).answer
  commit_same s Outside = refl
  commit_same s (Inside role) = refl
  commit_same s (Failed role) = refl

  rollback_same : (s : Session) (b : Block) → (rollback m number s b).answer ≡ (rollback n number s b).answer
  rollback_same s Outside = refl
  rollback_same s (Inside role) = refl
  rollback_same s (Failed role) = refl

  of_session_same : (s : Session) (x : SessionStatement) → (execute_of_session m number s x).answer ≡ (execute_of_session n number s x).answer
  of_session_same s of_session.Commit = commit_same s s.block
  of_session_same s of_session.Rollback = rollback_same s s.block
  of_session_same s of_session.Begin = admitted_same s (statement.OfSession of_session.Begin) (Ok (begin m number s s.block)) (Ok (begin n number s s.block)) (λ db. Ok (begin_answer s.block))
      (ap (λ a. Ok a) (begin_answers m number s s.block)) (ap (λ a. Ok a) (begin_answers n number s s.block))
  of_session_same s (of_session.SetRole x) = admitted_same s (statement.OfSession (of_session.SetRole x))
      (with_role_set (seen m number) s x.role >>= λ changed. Ok (succeeds tag.Set (with_session_changed m number changed))) (with_role_set (seen n number) s x.role >>= λ changed. Ok (succeeds tag.Set (with_session_changed n number changed)))
      (λ db. with_role_set db s x.role >>= λ changed. Ok (answer.Done tag.Set None None)) (role_set_answers m number (with_role_set (seen m number) s x.role)) (role_set_answers n number (with_role_set (seen n number) s x.role))
  of_session_same s of_session.ResetRole = admitted_same s (statement.OfSession of_session.ResetRole)
      (Ok (succeeds tag.Reset (with_session_changed m number (as_role s.login s)))) (Ok (succeeds tag.Reset (with_session_changed n number (as_role s.login s)))) (λ db. Ok (answer.Done tag.Reset None None)) refl refl

  execute_in_same : (s : Session) (x : Statement) → (execute_in m number s (Ok x)).answer ≡ (execute_in n number s (Ok x)).answer
  execute_in_same s (statement.OfSession x) = of_session_same s x
  execute_in_same s (statement.OnDatabase x) = admitted_same s (statement.OnDatabase x)
      (exec (seen m number) (users_of s) x >>= λ e. Ok (applied m number s (changes_database x) e)) (exec (seen n number) (users_of s) x >>= λ e. Ok (applied n number s (changes_database x) e))
      (λ db. exec db (users_of s) x >>= λ e. Ok e.answer) (applied_answers m number s (changes_database x) (exec (seen m number) (users_of s) x)) (applied_answers n number s (changes_database x) (exec (seen n number) (users_of s) x))

  reading_same : (s : Session) (reading : Reading) → (execute_in m number s reading).answer ≡ (execute_in n number s reading).answer
  reading_same s (Ok x) = execute_in_same s x
  reading_same s (Err code) = refl

  execute_same : (reading : Reading) (s : Option Session) → (execute m number reading s).answer ≡ (execute n number reading s).answer
  execute_same reading None = refl
  execute_same reading (Some s) = reading_same s reading

  closed_same : (s : Option Session) → (close_session m number s).answer ≡ (close_session n number s).answer
  closed_same None = refl
  closed_same (Some s) = refl

open_answers : (m n : Machine) (number : ℕ) (login : TheName) (a b c : Bool) →
    (cond a (refuses m ConnectionNameInUse) (cond b (refuses m TooManyConnections) (cond c (succeeds tag.Open (with_session_changed m number (record { login = login; role = login; block = Outside }))) (refuses m InvalidAuthorization)))).answer
    ≡ (cond a (refuses n ConnectionNameInUse) (cond b (refuses n TooManyConnections) (cond c (succeeds tag.Open (with_session_changed n number (record { login = login; role = login; block = Outside }))) (refuses n InvalidAuthorization)))).answer
open_answers m n number login true b c = refl
open_answers m n number login false true c = refl
open_answers m n number login false false true = refl
open_answers m n number login false false false = refl

abbrev pub holding : Machine → Holder → Database → Machine
holding m h db = record m { holder = Some (record h { database = db }) }

not_mine : (b : Bool) (mine theirs : Database) → b ≡ false → cond b mine theirs ≡ theirs
not_mine true mine theirs e = cc
not_mine false mine theirs e = refl

running_unseen : (m : Machine) (h : Holder) (mine yours : Database) (event : Event Reading) → (h.session == number_of event) ≡ false →
    (running_transition (holding m h mine) event).answer ≡ (running_transition (holding m h yours) event).answer
running_unseen m h mine yours (opens number login) e =
    open_answers (holding m h mine) (holding m h yours) number login (is_some (session_of number m.sessions)) (nat_le 256 (length (own_sessions (client_of number) m.sessions))) (may_log_in m.committed login)
running_unseen m h mine yours (executes number reading) e =
    execute_same (holding m h mine) (holding m h yours) number (not_mine (h.session == number) mine m.committed e ∙ sym (not_mine (h.session == number) yours m.committed e)) refl reading (session_of number m.sessions)
running_unseen m h mine yours (closes number) e =
    closed_same (holding m h mine) (holding m h yours) number (not_mine (h.session == number) mine m.committed e ∙ sym (not_mine (h.session == number) yours m.committed e)) refl (session_of number m.sessions)

stopped_unseen : (m n : Machine) (event : Event Reading) (stopped : Bool) → (running_transition m event).answer ≡ (running_transition n event).answer →
    (cond stopped (refuses m IoError) (running_transition m event)).answer ≡ (cond stopped (refuses n IoError) (running_transition n event)).answer
stopped_unseen m n event true e = refl
stopped_unseen m n event false e = e

pub transition_unseen : (m : Machine) (h : Holder) (mine yours : Database) (event : Event Reading) → (h.session == number_of event) ≡ false →
    (transition (holding m h mine) event).answer ≡ (transition (holding m h yours) event).answer
transition_unseen m h mine yours event e = stopped_unseen (holding m h mine) (holding m h yours) event m.stopped (running_unseen m h mine yours event e)

pub seen_committed : (m : Machine) (number : ℕ) → is_held_by_other number m.holder ≡ true → seen m number ≡ m.committed
seen_committed m number other = seen_other number m.holder m.committed other
