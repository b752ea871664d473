-- The statements of an open session, kind by kind.
use Rattle.std.proofs.Common.{◌≡◌, ◌∙◌, ℕ, Bool, Option, Result, Ok, Err, refl, sym, ap, subst, inl, inr}
use Rattle.sql_types.specs.declared.state.SqlState.{SqlState}
use Rattle.sql_types.specs.declared.tag.Tag.TheVariants as tag
use Rattle.sql_ast.specs.declared.statement.SetRole.{SetRole}
use Rattle.sql_ast.specs.declared.statement.Statement.{Statement}
use Rattle.sql_ast.specs.declared.statement.Statement.TheVariants as statement
use Rattle.sql_ast.specs.declared.statement.DatabaseStatement.{DatabaseStatement}
use Rattle.sql_ast.specs.declared.statement.SessionStatement.TheVariants as of_session
use Rattle.expressions.specs.Stages.{◌>>=◌}
use Rattle.store.specs.Records.{Records}
use Rattle.store.specs.declared.fault.Fault.{Fault}
use Rattle.store.specs.declared.fault.Fault.TheVariants.{Memory, Device, Damaged}
use Rattle.store.specs.declared.stop.StatementError.{StatementError}
use Rattle.store.specs.declared.stop.StatementError.TheVariants.{Refused, Failed}
use Rattle.abstract_database.specs.Database.{Database}
use Rattle.abstract_database.specs.Machine.{Machine, Holder, Session, Transition, is_held_by_other, seen, users_of, succeeds, refused, transition_or_refusal, with_session_changed, with_role_set, as_role, may_execute, where_admitted, begin, commit, rollback, changes_database, applied, execute_in}
use Rattle.abstract_database.specs.Statements.{exec}
use Rattle.abstract_database.specs.Runs.{CommitsAt}
use Rattle.stored_database.specs.Definitions.{Definitions}
use Rattle.server.specs.declared.decision.Decision.{Decision}
use Rattle.server.specs.declared.decision.Decision.TheVariants as decision
use Rattle.server.specs.declared.writer.Writer.{Writer}
use Rattle.server.specs.Decisions.{Entries, machine_at}
use Rattle.sessions.specs.Admission.{SeesRolesOf, admission_of}
use Rattle.sessions.specs.Decisions.{Makes, Serves, Always, Never}
use Rattle.sessions.specs.Roles.{role_set}
use Rattle.sessions.specs.Writers.{is_lock_of_other, definitions_seen}
use Rattle.sessions.specs.Serving.{EndsBlock, Admits, IsAdmission, RefusesAdmission, CarriesOut, IsOpenOver, ServesOver}
use Rattle.sessions.specs.declared.statements.OpenSession.{OpenSession}
use Rattle.sessions.proofs.SeenDefinitions.{sees_roles, held_by_other}

-- a decision that commits where it may makes the same where more may commit
makes_more : (records : Records) (d : Definitions) (writer : Option Writer) (db : Database) (holder : Option Holder) (sessions : Entries) (May More : Type 0) (t : Transition) (what : Decision)
    → (May → More) → Makes records d writer db holder sessions May t what → Makes records d writer db holder sessions More t what
makes_more records d writer db holder sessions May More t (decision.Answer a c) more p = p
makes_more records d writer db holder sessions May More t (decision.Open a n s) more p = p
makes_more records d writer db holder sessions May More t (decision.Release a c) more p = p
makes_more records d writer db holder sessions May More t (decision.Commit it) more p = (p.0, p.1, p.2, more p.3, p.4)
makes_more records d writer db holder sessions May More t (decision.Hold n it) more p = p
makes_more records d writer db holder sessions May More t (decision.CommitWriter a c) more p = (p.0, p.1, p.2, more p.3, p.4)

module _ (records : Records) (at : OpenSession) (x : Statement) (what : Decision) where
  abbrev number : ℕ
  number = at.number

  abbrev s : Session
  s = at.session.now

  abbrev d : Definitions
  d = at.catalogue.now

  abbrev writer : Option Writer
  writer = at.writer.now

  -- the statement's transition, in the words of what serves it
  abbrev Is : (Machine → Type 0) → (Machine → Transition) → Type 0
  Is Given leads = (m : Machine) → Given m → leads m ≡ execute_in m number s (Ok x)

  serves_over : (Asked Given May : Machine → Type 0) (leads : Machine → Transition) → Serves writer number s Asked May leads what
      → ((db : Database) (holder : Option Holder) (sessions : Entries) → IsOpenOver records at db holder sessions → Asked (machine_at db holder sessions))
      → ((m : Machine) → May m → CommitsAt m number s.block x) → Is Given leads → ServesOver records at x Given (Ok what)
  serves_over Asked Given May leads serves asked may is db holder sessions over given =
      let m = machine_at db holder sessions in
      makes_more records d writer db holder sessions (May m) (CommitsAt m number s.block x) (execute_in m number s (Ok x)) what (may m)
      (subst (λ (t : Transition). Makes records d writer db holder sessions (May m) t what) (is m given) (serves records d db holder sessions over.held over.in_block over.is_open (asked db holder sessions over)))

  pub serves_commit : x ≡ (statement.OfSession of_session.Commit) → Serves writer number s Always (λ m. CommitsAt m number s.block (statement.OfSession of_session.Commit)) (λ m. commit m number s s.block) what
      → ServesOver records at x Always (Ok what)
  serves_commit is serves =
      serves_over Always Always (λ m. CommitsAt m number s.block (statement.OfSession of_session.Commit)) (λ m. commit m number s s.block) serves (λ db holder sessions over. tt)
      (λ m may. rw is may) (λ m given. rw is refl)

  pub serves_rollback : x ≡ (statement.OfSession of_session.Rollback) → Serves writer number s Always Never (λ m. rollback m number s s.block) what → ServesOver records at x Always (Ok what)
  serves_rollback is serves =
      serves_over Always Always Never (λ m. rollback m number s s.block) serves (λ db holder sessions over. tt) (λ m may. absurd may) (λ m given. rw is refl)

  pub serves_begin : x ≡ (statement.OfSession of_session.Begin) → Serves writer number s Always Never (λ m. begin m number s s.block) what → ServesOver records at x (Admits at x) (Ok what)
  serves_begin is serves =
      serves_over Always (Admits at x) Never (λ m. begin m number s s.block) serves (λ db holder sessions over. tt) (λ m may. absurd may)
      (λ m given. let admitted : may_execute m number s (statement.OfSession of_session.Begin) ≡ Ok tt = rw is at given in rw is (rw admitted refl))

  pub serves_reset : x ≡ (statement.OfSession of_session.ResetRole) → Serves writer number s Always Never (λ m. succeeds tag.Reset (with_session_changed m number (as_role s.login s))) what
      → ServesOver records at x (Admits at x) (Ok what)
  serves_reset is serves =
      serves_over Always (Admits at x) Never (λ m. succeeds tag.Reset (with_session_changed m number (as_role s.login s))) serves (λ db holder sessions over. tt) (λ m may. absurd may)
      (λ m given. let admitted : may_execute m number s (statement.OfSession of_session.ResetRole) ≡ Ok tt = rw is at given in rw is (rw admitted refl))

  pub serves_set : (set : SetRole) → x ≡ (statement.OfSession (of_session.SetRole set)) → Serves writer number s (SeesRolesOf (definitions_seen number writer d) number) Never (λ m. role_set m number s set.role) what
      → ServesOver records at x (Admits at x) (Ok what)
  serves_set set is serves =
      serves_over (SeesRolesOf (definitions_seen number writer d) number) (Admits at x) Never (λ m. role_set m number s set.role) serves
      (λ db holder sessions over. sees_roles records d writer db holder number over.committed over.held) (λ m may. absurd may)
      (λ m given. let admitted : may_execute m number s (statement.OfSession (of_session.SetRole set)) ≡ Ok tt = rw is at given in rw is (rw admitted refl))

  -- ---- refusals

  -- a statement that is refused makes the refusal's transition
  pub serves_refusal : (code : SqlState) → RefusesAdmission records at x code → ((given : Option Writer) → Serves given number s Always Never (λ m. refused m number s code) what) → ServesOver records at x Always (Ok what)
  serves_refusal code refuses serves db holder sessions over given =
      let m = machine_at db holder sessions in
      makes_more records d writer db holder sessions ⊥ (CommitsAt m number s.block x) (execute_in m number s (Ok x)) what (λ never. absurd never)
      (subst (λ (t : Transition). Makes records d writer db holder sessions ⊥ t what) (sym (refuses db holder sessions over)) (serves writer records d db holder sessions over.held over.in_block over.is_open tt))

-- ---- admission

-- the other statements end no block
pub database_ends_none : (a : DatabaseStatement) → EndsBlock (statement.OnDatabase a) → ⊥
database_ends_none a (inl is) = cc
database_ends_none a (inr is) = cc

pub begin_ends_none : EndsBlock (statement.OfSession of_session.Begin) → ⊥
begin_ends_none (inl is) = cc
begin_ends_none (inr is) = cc

pub set_ends_none : (a : SetRole) → EndsBlock (statement.OfSession (of_session.SetRole a)) → ⊥
set_ends_none a (inl is) = cc
set_ends_none a (inr is) = cc

pub reset_ends_none : EndsBlock (statement.OfSession of_session.ResetRole) → ⊥
reset_ends_none (inl is) = cc
reset_ends_none (inr is) = cc

module _ (m : Machine) (number : ℕ) (s : Session) (code : SqlState) where
  not_admitted : (x : Statement) (does : Result Transition SqlState) → may_execute m number s x ≡ Err code → where_admitted m number s x does ≡ refused m number s code
  not_admitted x does e = ap (λ (r : Result (Unit {0}) SqlState). transition_or_refusal m number s (r >>= λ free. does)) e

  -- a statement that is not admitted, and does not end a block, is refused
  refused_as : (x : Statement) → (EndsBlock x → ⊥) → may_execute m number s x ≡ Err code → execute_in m number s (Ok x) ≡ refused m number s code
  refused_as (statement.OnDatabase a) o e = not_admitted (statement.OnDatabase a) (exec (seen m number) (users_of s) a >>= λ f. Ok (applied m number s (changes_database a) f)) e
  refused_as (statement.OfSession of_session.Begin) o e = not_admitted (statement.OfSession of_session.Begin) (Ok (begin m number s s.block)) e
  refused_as (statement.OfSession (of_session.SetRole a)) o e =
      not_admitted (statement.OfSession (of_session.SetRole a)) (with_role_set (seen m number) s a.role >>= λ changed. Ok (succeeds tag.Set (with_session_changed m number changed))) e
  refused_as (statement.OfSession of_session.ResetRole) o e = not_admitted (statement.OfSession of_session.ResetRole) (Ok (succeeds tag.Reset (with_session_changed m number (as_role s.login s)))) e
  refused_as (statement.OfSession of_session.Commit) o e = absurd (o (inl refl))
  refused_as (statement.OfSession of_session.Rollback) o e = absurd (o (inr refl))

-- as the session's definitions and the writer lock say
pub is_admission : (at : OpenSession) (x : Statement) (seen_there : Definitions) (held_there : Bool) (refusal : Option SqlState)
    → seen_there ≡ definitions_seen at.number at.writer.now at.catalogue.now → held_there ≡ is_lock_of_other at.number at.writer.now
    → ((m : Machine) (n : ℕ) → SeesRolesOf seen_there n m → is_held_by_other n m.holder ≡ held_there → may_execute m n at.session.now x ≡ admission_of refusal)
    → (records : Records) (db : Database) (holder : Option Holder) (sessions : Entries) → IsOpenOver records at db holder sessions → may_execute (machine_at db holder sessions) at.number at.session.now x ≡ admission_of refusal
is_admission at x seen_there held_there refusal sees held_is admitted records db holder sessions over =
    admitted (machine_at db holder sessions) at.number (rw sees (sees_roles records at.catalogue.now at.writer.now db holder at.number over.committed over.held))
    (held_by_other records at.catalogue.now at.writer.now holder at.number over.held ∙ sym held_is)

-- ---- by admission

pub not_device : Device ≡ Memory → ⊥
not_device e = cc

pub not_damaged : Damaged ≡ Memory → ⊥
not_damaged e = cc

-- a statement that ends no block, and that its session may not execute, is refused
pub admission_refuses : (A : Type 0) (records : Records) (at : OpenSession) (x : Statement) (stop : StatementError) → (EndsBlock x → ⊥) → IsAdmission {A = A} records at x (Err stop) → CarriesOut records at x (Err stop)
admission_refuses A records at x (Refused code) ordinary not_admitted =
    λ db holder sessions over. refused_as (machine_at db holder sessions) at.number at.session.now code x ordinary (not_admitted db holder sessions over)
admission_refuses A records at x (Failed Memory) ordinary memory = λ db holder sessions over given. tt
admission_refuses A records at x (Failed Device) ordinary memory = absurd (not_device memory)
admission_refuses A records at x (Failed Damaged) ordinary memory = absurd (not_damaged memory)

-- what serves it where it is admitted serves it
pub admitted_serves : {A : Type 0} (records : Records) (at : OpenSession) (x : Statement) (admitted : A) (r : Result Decision Fault) → IsAdmission records at x (Ok admitted) → ServesOver records at x (Admits at x) r → ServesOver records at x Always r
admitted_serves records at x admitted r admission serves db holder sessions over given = serves db holder sessions over (admission db holder sessions over)

-- a failure of memory, which no statement need have, serves it
pub memory_carries : (records : Records) (at : OpenSession) (x : Statement) → CarriesOut records at x (Err (Failed Memory))
memory_carries records at x db holder sessions over given = tt
