-- A machine opens no session beyond the limit.
use Rattle.std.proofs.Common.{◌≡◌, ◌≤◌, ◌<◌, ◌+◌, ◌%◌, ◌∙◌, ℕ, suc, Bool, true, false, cond, List, [], ◌∷◌, length, Option, Some, None, Result, Ok, Err, if◌then◌else◌, refl, sym, ap, subst, leb-false, arith}
use Rattle.std.specs.Prelude.{nat_eq, nat_le, is_some}
use Rattle.std.proofs.lemmas.Nat.{div-mul-add}
use Rattle.std.proofs.Math.Nat.{mod-lt}
use Rattle.sql_types.specs.declared.answer.Answer.{Answer}
use Rattle.sql_types.specs.declared.event.Event.{Event}
use Rattle.sql_types.specs.declared.event.Event.TheVariants as event
use Rattle.sql_types.specs.declared.state.SqlState.{SqlState}
use Rattle.sql_types.specs.declared.state.SqlState.TheVariants.{InvalidAuthorization, TooManyConnections, ConnectionNameInUse, IoError}
use Rattle.sql_types.specs.declared.tag.Tag.TheVariants as tag
use Rattle.sql_ast.specs.declared.statement.Statement.TheVariants as statement
use Rattle.sql_ast.specs.declared.statement.SessionStatement.{SessionStatement}
use Rattle.sql_ast.specs.declared.statement.SessionStatement.TheVariants as of_session
use Rattle.expressions.specs.Stages.{◌>>=◌}
use Rattle.abstract_database.specs.Lists.{TheName}
use Rattle.abstract_database.specs.Database.{Database}
use Rattle.abstract_database.specs.Roles.{may_log_in}
use Rattle.abstract_database.specs.Statements.{Effect, exec}
use Rattle.abstract_database.specs.Machine.{Block, Outside, Inside, Failed, Session, Event as MachineEvent, opens, executes, closes, Reading, client_of, number_in, own_sessions, Machine, Transition, refuses, succeeds, session_of, with_session, without_session, users_of, with_session_changed, as_role, in_block, seen, close_session, after_refusal, transition_or_refusal, may_execute, begin, with_role_set, commit, rollback, with_changes, applied, changes_database, execute_of_session, execute_in, execute, running_transition}
use Rattle.abstract_database.specs.Runs.{ReadingRelation, TheText, IsReadAs, Counts, IsStep, by_transition, for_memory, for_space, for_number, for_device, RanBy, Stops, At, Happens}
use Rattle.server.specs.Standing.{event_of, events_of}
use Rattle.wire.specs.Closing.{Sessions, AreOfOne}

-- the open sessions are of the one client, and no more than a machine opens
abbrev pub IsWithinLimit : Machine → Type 0
IsWithinLimit m = AreOfOne m.sessions × (length m.sessions ≤ 256)

-- ---- lists of sessions

with_one_more : (sessions : Sessions) (number : ℕ) (s : Session) → length (with_session sessions number s) ≤ length sessions + 1
with_one_more [] number s = omega arith
with_one_more (e ∷ es) number s = by_number (nat_eq number e.0) (with_one_more es number s) where
  by_number : (b : Bool) → length (with_session es number s) ≤ length es + 1 → length (if b then (e.0, s) ∷ es else e ∷ with_session es number s) ≤ length (e ∷ es) + 1
  by_number true rest = omega arith
  by_number false rest = omega (arith, rest)

-- one more of the one client
of_one_more : (sessions : Sessions) (number : ℕ) (s : Session) → client_of number ≡ 0 → AreOfOne sessions → AreOfOne (with_session sessions number s)
of_one_more [] number s own are = (own, tt)
of_one_more (e ∷ es) number s own are = by_number (nat_eq number e.0) (of_one_more es number s own are.1) where
  by_number : (b : Bool) → AreOfOne (with_session es number s) → AreOfOne (if b then (e.0, s) ∷ es else e ∷ with_session es number s)
  by_number true rest = are
  by_number false rest = (are.0, rest)

of_one_less : (sessions : Sessions) (number : ℕ) → AreOfOne sessions → AreOfOne (without_session number sessions)
of_one_less [] number are = tt
of_one_less (e ∷ es) number are = by_number (nat_eq number e.0) (of_one_less es number are.1) where
  by_number : (b : Bool) → AreOfOne (without_session number es) → AreOfOne (cond b es (e ∷ without_session number es))
  by_number true rest = are.1
  by_number false rest = (are.0, rest)

-- the own sessions of the one client are all
pub all_own : (sessions : Sessions) → AreOfOne sessions → own_sessions 0 sessions ≡ sessions
all_own [] are = refl
all_own (e ∷ es) are = ap (λ (n : ℕ). cond (nat_eq 0 n) (e ∷ own_sessions 0 es) (own_sessions 0 es)) are.0 ∙ ap (λ (l : Sessions). e ∷ l) (all_own es are.1)

-- an open session is changed in its place
in_its_place : (sessions : Sessions) (number : ℕ) (s x : Session) → session_of number sessions ≡ Some s → length (with_session sessions number x) ≡ length sessions
in_its_place [] number s x is = cc
in_its_place (e ∷ es) number s x is = by_number (nat_eq number e.0) (in_its_place es number s x) is where
  by_number : (b : Bool) → (session_of number es ≡ Some s → length (with_session es number x) ≡ length es) → cond b (Some e.1) (session_of number es) ≡ Some s
      → length (if b then (e.0, x) ∷ es else e ∷ with_session es number x) ≡ length (e ∷ es)
  by_number true rest is = refl
  by_number false rest is = ap suc (rest is)

no_more : (sessions : Sessions) (number : ℕ) → length (without_session number sessions) ≤ length sessions
no_more [] number = omega arith
no_more (e ∷ es) number = by_number (nat_eq number e.0) (no_more es number) where
  by_number : (b : Bool) → length (without_session number es) ≤ length es → length (cond b es (e ∷ without_session number es)) ≤ length (e ∷ es)
  by_number true rest = omega arith
  by_number false rest = omega (arith, rest)

-- ---- a statement in an open session

-- the machine after a transition is within the limit
abbrev IsFew : Transition → Type 0
IsFew t = IsWithinLimit t.machine

abbrev AreFew : Result Transition SqlState → Type 0
AreFew (Ok t) = IsFew t
AreFew (Err code) = Unit {0}

module _ (m : Machine) (number : ℕ) (own : client_of number ≡ 0) (s : Session) (there : session_of number m.sessions ≡ Some s) (few : IsWithinLimit m) where
  changed : (x : Session) → AreOfOne (with_session m.sessions number x) × (length (with_session m.sessions number x) ≤ 256)
  changed x = let same = in_its_place m.sessions number s x there in let before = few.1 in (of_one_more m.sessions number x own few.0, omega (arith, same, before))

  refused_few : (code : SqlState) (b : Block) → IsFew (refuses (after_refusal m number s b) code)
  refused_few code Outside = few
  refused_few code (Inside role) = changed (in_block (Failed role) s)
  refused_few code (Failed role) = few

  begin_few : (b : Block) → IsFew (begin m number s b)
  begin_few Outside = changed (in_block (Inside s.role) s)
  begin_few (Inside role) = few
  begin_few (Failed role) = few

  commit_few : (b : Block) → IsFew (commit m number s b)
  commit_few Outside = few
  commit_few (Inside role) = changed (in_block Outside (as_role s.role s))
  commit_few (Failed role) = changed (in_block Outside (as_role role s))

  rollback_few : (b : Block) → IsFew (rollback m number s b)
  rollback_few Outside = few
  rollback_few (Inside role) = changed (in_block Outside (as_role role s))
  rollback_few (Failed role) = changed (in_block Outside (as_role role s))

  changes_few : (b : Block) (db : Database) → IsWithinLimit (with_changes m number b db)
  changes_few Outside db = few
  changes_few (Inside role) db = few
  changes_few (Failed role) db = few

  worked_few : (writes : Bool) (r : Result Effect SqlState) → AreFew (r >>= λ e. Ok (applied m number s writes e))
  worked_few true (Ok e) = changes_few s.block e.database
  worked_few false (Ok e) = few
  worked_few writes (Err code) = tt

  role_few : (r : Result Session SqlState) → AreFew (r >>= λ x. Ok (succeeds tag.Set (with_session_changed m number x)))
  role_few (Ok x) = changed x
  role_few (Err code) = tt

  allowed_few : (may : Result (Unit {0}) SqlState) (r : Result Transition SqlState) → AreFew r → IsFew (transition_or_refusal m number s (may >>= λ free. r))
  allowed_few (Ok free) (Ok t) are = are
  allowed_few (Ok free) (Err code) are = refused_few code s.block
  allowed_few (Err code) r are = refused_few code s.block

  of_session_few : (x : SessionStatement) → IsFew (execute_of_session m number s x)
  of_session_few of_session.Commit = commit_few s.block
  of_session_few of_session.Rollback = rollback_few s.block
  of_session_few of_session.Begin = allowed_few (may_execute m number s (statement.OfSession of_session.Begin)) (Ok (begin m number s s.block)) (begin_few s.block)
  of_session_few (of_session.SetRole x) = allowed_few (may_execute m number s (statement.OfSession (of_session.SetRole x)))
      (with_role_set (seen m number) s x.role >>= λ y. Ok (succeeds tag.Set (with_session_changed m number y))) (role_few (with_role_set (seen m number) s x.role))
  of_session_few of_session.ResetRole = allowed_few (may_execute m number s (statement.OfSession of_session.ResetRole)) (Ok (succeeds tag.Reset (with_session_changed m number (as_role s.login s)))) (changed (as_role s.login s))

  execute_few : (reading : Reading) → IsFew (execute_in m number s reading)
  execute_few (Err code) = refused_few code s.block
  execute_few (Ok (statement.OfSession x)) = of_session_few x
  execute_few (Ok (statement.OnDatabase x)) = allowed_few (may_execute m number s (statement.OnDatabase x))
      (exec (seen m number) (users_of s) x >>= λ e. Ok (applied m number s (changes_database x) e)) (worked_few (changes_database x) (exec (seen m number) (users_of s) x))

-- ---- any event

-- the event is of the one client
abbrev IsOfOne : {T : Type 0} → MachineEvent T → Type 0
IsOfOne (opens number login) = client_of number ≡ 0
IsOfOne (executes number text) = client_of number ≡ 0
IsOfOne (closes number) = client_of number ≡ 0

module _ (m : Machine) (few : IsWithinLimit m) where
  open_few : (number : ℕ) (login : TheName) (a b c : Bool) → client_of number ≡ 0 → nat_le 256 (length (own_sessions (client_of number) m.sessions)) ≡ b
      → IsFew (cond a (refuses m ConnectionNameInUse) (cond b (refuses m TooManyConnections) (cond c (succeeds tag.Open (with_session_changed m number (record { login = login; role = login; block = Outside }))) (refuses m InvalidAuthorization))))
  open_few number login true b c own is = few
  open_few number login false true c own is = few
  open_few number login false false true own is =
      let s : Session = record { login = login; role = login; block = Outside } in
      let all : own_sessions (client_of number) m.sessions ≡ m.sessions = ap (λ (n : ℕ). own_sessions n m.sessions) own ∙ all_own m.sessions few.0 in
      let less = leb-false 256 (length m.sessions) (sym (ap (λ (l : Sessions). nat_le 256 (length l)) all) ∙ is) in
      let more = with_one_more m.sessions number s in
      (of_one_more m.sessions number s own few.0, omega (arith, less, more))
  open_few number login false false false own is = few

  close_few : (number : ℕ) (s : Option Session) → IsFew (close_session m number s)
  close_few number None = few
  close_few number (Some s) = let less = no_more m.sessions number in let before = few.1 in (of_one_less m.sessions number few.0, omega (arith, less, before))

  statement_few : (number : ℕ) (reading : Reading) (s : Option Session) → client_of number ≡ 0 → session_of number m.sessions ≡ s → IsFew (execute m number reading s)
  statement_few number reading None own is = few
  statement_few number reading (Some s) own is = execute_few m number own s is few reading

  running_few : (event : MachineEvent Reading) → IsOfOne event → IsFew (running_transition m event)
  running_few (opens number login) own =
      open_few number login (is_some (session_of number m.sessions)) (nat_le 256 (length (own_sessions (client_of number) m.sessions))) (may_log_in m.committed login) own refl
  running_few (executes number reading) own = statement_few number reading (session_of number m.sessions) own refl
  running_few (closes number) own = close_few number (session_of number m.sessions)

  transition_few : (event : MachineEvent Reading) (stopped : Bool) → IsOfOne event → IsFew (cond stopped (refuses m IoError) (running_transition m event))
  transition_few event true own = few
  transition_few event false own = running_few event own

-- ---- any run

-- each event of the one client is
pub below : 0 < 4294967296
below = omega arith

one_number : (session : ℕ) → client_of (number_in 0 session) ≡ 0
one_number session = div-mul-add 0 4294967296 (session % 4294967296) (mod-lt session below)

event_of_one : (e : Event) → IsOfOne (event_of 0 e)
event_of_one (event.Open session login) = one_number session
event_of_one (event.Statement session text) = one_number session
event_of_one (event.Close session) = one_number session

read_of_one : (Reads : ReadingRelation) (m : Machine) (e : MachineEvent TheText) (x : MachineEvent Reading) → IsReadAs Reads m e x → IsOfOne e → IsOfOne x
read_of_one Reads m (opens number login) x read own = subst IsOfOne (sym read) own
read_of_one Reads m (executes number text) x read own = subst IsOfOne (sym read.1) own
read_of_one Reads m (closes number) x read own = subst IsOfOne (sym read) own

module _ (Reads : ReadingRelation) where
  step_few : (old new : Counts) (m : Machine) (event : MachineEvent TheText) (answer : Answer) (after : Machine) → IsOfOne event → IsWithinLimit m → IsStep Reads old new m event answer after → IsWithinLimit after
  step_few old new m event answer after own few (by_transition t) = subst IsWithinLimit (sym (ap (λ x. x.machine) t.is)) (transition_few m few t.as_read m.stopped (read_of_one Reads m event t.as_read t.read own))
  step_few old new m event answer after own few (for_memory a is may) = subst IsWithinLimit (sym is) few
  step_few old new m event answer after own few (for_space a is may rises) = subst IsWithinLimit (sym is) few
  step_few old new m event answer after own few (for_number a is may greatest) = subst IsWithinLimit (sym is) few
  step_few old new m event answer after own few (for_device t moves may a is failed) = subst IsWithinLimit (sym is) few

  pub ran_few : (Leave : Stops) (w end : At) (events : List Event) (answers : List Answer) → IsWithinLimit w.standing.machine → RanBy (Happens Reads Leave) w (events_of 0 events) answers end
      → IsWithinLimit end.standing.machine
  ran_few Leave w end [] [] few ran = subst (λ (z : At). IsWithinLimit z.standing.machine) (sym ran) few
  ran_few Leave w end (e ∷ events) (a ∷ answers) few ran =
      ran_few Leave ran.0 end events answers (step_few w.counts ran.0.counts w.standing.machine (event_of 0 e) a ran.0.standing.machine (event_of_one e) few ran.1.step) ran.2
  ran_few Leave w end [] (a ∷ answers) few ran = absurd ran
  ran_few Leave w end (e ∷ events) [] few ran = absurd ran
