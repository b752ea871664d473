-- What a refusal leaves, exactly.
use Rattle.std.proofs.Common.{◌≡◌, ℕ, Bool, true, false, not, cond, nat_le, length, is_some, Result, Ok, Err, Option, Some, None, refl, sym, ap, ◌∙◌}
use Rattle.sql_types.specs.declared.state.SqlState.{SqlState}
use Rattle.sql_types.specs.declared.state.SqlState.TheVariants.{InFailedTransaction, InvalidAuthorization, TooManyConnections, ConnectionNameInUse, IoError}
use Rattle.sql_types.specs.declared.tag.Tag.TheVariants as tag
use Rattle.sql_ast.specs.declared.statement.Statement.{Statement}
use Rattle.sql_ast.specs.declared.statement.Statement.TheVariants as statement
use Rattle.sql_ast.specs.declared.statement.SessionStatement.TheVariants as of_session
use Rattle.expressions.specs.Stages.{◌>>=◌, require}
use Rattle.abstract_database.specs.Lists.{TheName}
use Rattle.abstract_database.specs.Roles.{may_log_in}
use Rattle.abstract_database.specs.Statements.{Effect}
use Rattle.abstract_database.specs.Machine.{client_of, own_sessions, Block, Outside, Inside, Failed, Session, Event, opens, executes, closes, Reading, Machine, Transition, refuses, succeeds, session_of, users_of, in_block, with_session_changed, seen, close_session, after_refusal, refused, transition_or_refusal, changes_database, has_failed, begin, commit, rollback, applied, execute_in, execute, running_transition, transition}
use Rattle.database_laws.specs.Blocks.{IsOpen, executed, IsRefused, IsInBlock}
use Rattle.database_laws.proofs.EffectLemmas.{Answers}
use Rattle.database_laws.proofs.StatementLemmas.{exec_answers}
use Rattle.database_laws.proofs.BlockLemmas.{executed_in, Sort, commits, rolls_back, is_ordinary, sort_of, done_by, ordinary, Outcome, is_refused, is_performed, outcome, Performed, has_committed, has_rolled_back, has_begun, has_set, has_reset, has_worked, performed_as}

-- where it is refused, the machine is as a refusal leaves it
abbrev Left : Machine → ℕ → Session → Transition → Type 0
Left m number s t = IsRefused t → t.machine ≡ after_refusal m number s s.block

module _ (m : Machine) (number : ℕ) (s : Session) where
  left_as : (t u : Transition) → t ≡ u → Left m number s u → Left m number s t
  left_as t u e h (code, r) = ap (λ (x : Transition). x.machine) e ∙ h (code, sym (ap (λ (x : Transition). x.answer) e) ∙ r)

  begun_left : (b : Block) → s.block ≡ b → IsRefused (begin m number s b) → (begin m number s b).machine ≡ after_refusal m number s b
  begun_left Outside e (code, r) = cc
  begun_left (Inside role) e (code, r) = cc
  begun_left (Failed role) e (code, r) = refl

  commit_left : (b : Block) → IsRefused (commit m number s b) → (commit m number s b).machine ≡ after_refusal m number s b
  commit_left Outside (code, r) = cc
  commit_left (Inside role) (code, r) = cc
  commit_left (Failed role) (code, r) = cc

  rollback_left : (b : Block) → IsRefused (rollback m number s b) → (rollback m number s b).machine ≡ after_refusal m number s b
  rollback_left Outside (code, r) = cc
  rollback_left (Inside role) (code, r) = cc
  rollback_left (Failed role) (code, r) = cc

  applied_answers : (w : Bool) (e : Effect) → Answers e → IsRefused (applied m number s w e) → ⊥
  applied_answers true e a (code, r) = a code r
  applied_answers false e a (code, r) = a code r

  performed_left : (x : Statement) (t : Transition) → Performed m number s x t → Left m number s t
  performed_left x t (has_committed is at) = left_as t (commit m number s s.block) at (commit_left s.block)
  performed_left x t (has_rolled_back is at) = left_as t (rollback m number s s.block) at (rollback_left s.block)
  performed_left x t (has_begun is at) = left_as t (begin m number s s.block) at (begun_left s.block refl)
  performed_left x t (has_set r changed is ok at) = left_as t (succeeds tag.Set _) at (λ (code, r). cc)
  performed_left x t (has_reset is at) = left_as t (succeeds tag.Reset _) at (λ (code, r). cc)
  performed_left x t (has_worked d e here is at) = left_as t (applied m number s (changes_database d) e) at (λ r. absurd (applied_answers (changes_database d) e (exec_answers (seen m number) (users_of s) d e is) r))

  outcome_left : (x : Statement) (t : Transition) → Outcome m number s x t → Left m number s t
  outcome_left x t (is_refused code at) = left_as t (refused m number s code) at (λ r. refl)
  outcome_left x t (is_performed u may does) = performed_left x t (performed_as m number s x t does)

  statement_left : (x : Statement) → Sort x → Left m number s (execute_in m number s (Ok x))
  statement_left x (commits is) = left_as (execute_in m number s (Ok x)) (commit m number s s.block) (ap (λ (y : Statement). execute_in m number s (Ok y)) is) (commit_left s.block)
  statement_left x (rolls_back is) = left_as (execute_in m number s (Ok x)) (rollback m number s s.block) (ap (λ (y : Statement). execute_in m number s (Ok y)) is) (rollback_left s.block)
  statement_left x (is_ordinary at) = left_as (execute_in m number s (Ok x)) (ordinary m number s x) (at m number s) (outcome_left x (ordinary m number s x) (outcome m number s x))

  reading_left : (reading : Reading) → Left m number s (execute_in m number s reading)
  reading_left (Ok x) = statement_left x (sort_of x)
  reading_left (Err code) = λ r. refl

  pub fails_the_block : (role : TheName) (reading : Reading) → IsOpen m number s → s.block ≡ Inside role → IsRefused (executed m number reading) →
      (executed m number reading).machine ≡ with_session_changed m number (in_block (Failed role) s)
  fails_the_block role reading o b r =
      left_as (executed m number reading) (execute_in m number s reading) (executed_in m number s reading o) (reading_left reading) r
      ∙ ap (after_refusal m number s) b

  unblocked : (b : Block) → ((role : TheName) → b ≡ Inside role → ⊥) → after_refusal m number s b ≡ m
  unblocked Outside h = refl
  unblocked (Inside role) h = absurd (h role refl)
  unblocked (Failed role) h = refl

-- ---- every other event

execute_left : (m : Machine) (number : ℕ) (reading : Reading) (there : Option Session) → ((s : Session) → there ≡ Some s → (role : TheName) → s.block ≡ Inside role → ⊥) →
    IsRefused (execute m number reading there) → (execute m number reading there).machine ≡ m
execute_left m number reading None h r = refl
execute_left m number reading (Some s) h r = reading_left m number s reading r ∙ unblocked m number s s.block (h s refl)

close_left : (m : Machine) (number : ℕ) (there : Option Session) → IsRefused (close_session m number there) → (close_session m number there).machine ≡ m
close_left m number None r = refl
close_left m number (Some s) (code, r) = cc

open_left : (m : Machine) (number : ℕ) (login : TheName) (a b c : Bool) →
    (let t = cond a (refuses m ConnectionNameInUse) (cond b (refuses m TooManyConnections) (cond c (succeeds tag.Open (with_session_changed m number (record { login = login; role = login; block = Outside }))) (refuses m InvalidAuthorization))) in
    IsRefused t → t.machine ≡ m)
open_left m number login true b c = λ r. refl
open_left m number login false true c = λ r. refl
open_left m number login false false true = λ (code, r). cc
open_left m number login false false false = λ r. refl

running_left : (m : Machine) (event : Event Reading) → m.stopped ≡ false → (IsInBlock m event → ⊥) → IsRefused (running_transition m event) → (running_transition m event).machine ≡ m
running_left m (opens number login) k h r = open_left m number login (is_some (session_of number m.sessions)) (nat_le 256 (length (own_sessions (client_of number) m.sessions))) (may_log_in m.committed login) r
running_left m (executes number reading) k h r = execute_left m number reading (session_of number m.sessions) (λ s at role b. h (s, record { running = k; session = at }, (role, b))) r
running_left m (closes number) k h r = close_left m number (session_of number m.sessions) r

stopped_left : (m : Machine) (event : Event Reading) (stopped : Bool) → m.stopped ≡ stopped → (IsInBlock m event → ⊥) →
    (let t = cond stopped (refuses m IoError) (running_transition m event) in IsRefused t → t.machine ≡ m)
stopped_left m event true k h = λ r. refl
stopped_left m event false k h = running_left m event k h

pub changes_nothing : (m : Machine) (event : Event Reading) → (IsInBlock m event → ⊥) → IsRefused (transition m event) → (transition m event).machine ≡ m
changes_nothing m event h = stopped_left m event m.stopped refl h

pub stopped_refuses : (m : Machine) (event : Event Reading) → m.stopped ≡ true → transition m event ≡ refuses m IoError
stopped_refuses m event e = ap (λ (b : Bool). cond b (refuses m IoError) (running_transition m event)) e

-- ---- failed blocks

failed_at : (m : Machine) (number : ℕ) (s : Session) (x : Statement) (t : Bool) (rest : Result (Unit {0}) SqlState) (b : Block) (role : TheName) → s.block ≡ b → b ≡ Failed role → t ≡ false →
    transition_or_refusal m number s ((require t InFailedTransaction >>= λ unfailed. rest) >>= λ free. done_by m number s x) ≡ refuses (after_refusal m number s b) InFailedTransaction
failed_at m number s x true rest b role e f g = cc
failed_at m number s x false rest b role e f g = ap (λ (k : Block). refuses (after_refusal m number s k) InFailedTransaction) e

failed_refuses_by : (m : Machine) (number : ℕ) (s : Session) (role : TheName) (x : Statement) → Sort x → s.block ≡ Failed role →
    (x ≡ (statement.OfSession of_session.Commit) → ⊥) → (x ≡ (statement.OfSession of_session.Rollback) → ⊥) → execute_in m number s (Ok x) ≡ refuses m InFailedTransaction
failed_refuses_by m number s role x (commits is) b c r = absurd (c is)
failed_refuses_by m number s role x (rolls_back is) b c r = absurd (r is)
failed_refuses_by m number s role x (is_ordinary at) b c r =
    at m number s
    ∙ failed_at m number s x (not (has_failed s.block)) _ s.block role refl b (ap (λ (k : Block). not (has_failed k)) b)
    ∙ ap (λ (k : Block). refuses (after_refusal m number s k) InFailedTransaction) b

pub failed_refuses : (m : Machine) (number : ℕ) (s : Session) (role : TheName) (x : Statement) → IsOpen m number s → s.block ≡ Failed role →
    (x ≡ (statement.OfSession of_session.Commit) → ⊥) → (x ≡ (statement.OfSession of_session.Rollback) → ⊥) → executed m number (Ok x) ≡ refuses m InFailedTransaction
failed_refuses m number s role x o b c r = executed_in m number s (Ok x) o ∙ failed_refuses_by m number s role x (sort_of x) b c r
