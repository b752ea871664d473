-- A statement over the database that its session may execute.
use Rattle.std.proofs.Common.{◌≡◌, ◌&&◌, ℕ, Bool, true, false, not, Option, Result, Ok, Err, refl, sym, subst}
use Rattle.std.specs.Result.{IsErrAnd}
use Rattle.std.proofs.lemmas.Bool.{and_parts}
use Rattle.sql_types.specs.declared.state.SqlState.{SqlState}
use Rattle.sql_types.specs.declared.state.SqlState.TheVariants.{InsufficientPrivilege, InFailedTransaction, LockNotAvailable, InvalidAuthorization}
use Rattle.sql_ast.specs.declared.statement.Statement.TheVariants as statement
use Rattle.sql_ast.specs.declared.statement.DatabaseStatement.{DatabaseStatement}
use Rattle.sql_ast.specs.Statements.{IsReadOnDatabase}
use Rattle.sql_parser.specs.Policies.{HasConditionsAsWritten}
use Rattle.expressions.specs.Stages.{◌>>=◌, require}
use Rattle.store.specs.Records.{Records}
use Rattle.store.specs.Readers.{HasRead}
use Rattle.store.specs.StatementError.{FailsForMemory, ReadsMap}
use Rattle.store.specs.Store.{StoreState, OnlyReads}
use Rattle.store.specs.declared.fault.Fault.{Fault}
use Rattle.store.specs.declared.fault.Fault.TheVariants.{Memory, Device, Damaged}
use Rattle.store.specs.declared.stop.StatementError.{StatementError}
use Rattle.store.specs.declared.stop.StatementError.TheVariants.{Refused, Failed}
use Rattle.catalogue.specs.declared.effect.Effect.{Effect}
use Rattle.abstract_database.specs.Database.{Database, has_role}
use Rattle.abstract_database.specs.Roles.{may_set_role}
use Rattle.abstract_database.specs.Machine.{Machine, Holder, Session, seen_by, seen, users_of, has_failed, changes_database, is_held_by_other, keeps_role, may_execute}
use Rattle.stored_database.specs.Records.{Shows}
use Rattle.server.specs.declared.decision.Decision.{Decision}
use Rattle.server.specs.Standing.{HolderShows}
use Rattle.server.specs.Decisions.{machine_at}
use Rattle.server.specs.Executed.{MayExecute}
use Rattle.sessions.specs.Concluded.{ComesTo, Concludes}
use Rattle.sessions.specs.Serving.{Admits, IsAdmission, CarriesOut, ServesOver}
use Rattle.sessions.proofs.Serving.{not_device, not_damaged, admitted_serves}
use Rattle.sessions.proofs.Meant.{refused_as}
use Rattle.sessions.specs.declared.statements.OpenSession.{OpenSession}

-- all four checks are passed
passed : (unfailed authorized allowed free : Bool) →
    (require unfailed InFailedTransaction >>= λ u. require authorized InvalidAuthorization >>= λ a. require allowed InsufficientPrivilege >>= λ f. require free LockNotAvailable) ≡ Ok tt →
    (authorized ≡ true) × (allowed ≡ true)
passed true true true free is = (refl, refl)
passed true true false free is = cc
passed true false allowed free is = cc
passed false authorized allowed free is = cc

-- who may execute a statement over the database acts as roles of it
admitted_may : (m : Machine) (number : ℕ) (s : Session) (x : DatabaseStatement) → IsReadOnDatabase x → HasConditionsAsWritten (statement.OnDatabase x) → may_execute m number s (statement.OnDatabase x) ≡ Ok tt
    → MayExecute (seen m number) (users_of s) x
admitted_may m number s x read written admitted =
    let db = seen m number in
    let both = passed (not (has_failed s.block)) (has_role db s.login) (keeps_role db s) (not (changes_database x && is_held_by_other number m.holder)) admitted in
    record { read = read; written = written; roles = record { current = (and_parts (has_role db s.role) (may_set_role db s.login s.role) both.1).0; session = both.0 } }

module _ (records : Records) (at : OpenSession) (x : DatabaseStatement) (read : IsReadOnDatabase x) (written : HasConditionsAsWritten (statement.OnDatabase x)) where
  -- the statement comes to this wherever the session may execute it
  abbrev pub Comes : Result Effect StatementError → Type 0
  Comes result = (db : Database) (holder : Option Holder) → Shows records at.catalogue.now db → HolderShows records at.catalogue.now at.writer.now holder
      → MayExecute (seen_by at.number holder db) (users_of at.session.now) x → ComesTo records at.catalogue.now at.writer.now db holder at.number at.session.now x result

  -- what it comes to leads to the decision
  pub serves_result : (result : Result Effect StatementError) (what : Decision) → Comes result → Concludes at.number at.session.now x result what → ServesOver records at (statement.OnDatabase x) (Admits at (statement.OnDatabase x)) (Ok what)
  serves_result result what comes concludes db holder sessions over admitted =
      concludes records at.catalogue.now at.writer.now db holder sessions over.held over.in_block (record { is_open = over.is_open; may = admitted })
      (comes db holder over.committed over.held (admitted_may (machine_at db holder sessions) at.number at.session.now x read written admitted))

  -- a failure is no decision
  serves_failure : (fault : Fault) → Comes (Err (Failed fault)) → ServesOver records at (statement.OnDatabase x) (Admits at (statement.OnDatabase x)) (Err fault)
  serves_failure Memory comes db holder sessions over admitted = tt
  serves_failure Device comes db holder sessions over admitted = tt
  serves_failure Damaged comes db holder sessions over admitted =
      comes db holder over.committed over.held (admitted_may (machine_at db holder sessions) at.number at.session.now x read written admitted)

  -- where the session may execute it, a statement that stops is refused or fails
  pub stop_carries : {A : Type 0} (admitted : A) (stop : StatementError) → IsAdmission records at (statement.OnDatabase x) (Ok admitted) → Comes (Err stop) → CarriesOut records at (statement.OnDatabase x) (Err stop)
  stop_carries admitted (Refused code) admission comes = λ db holder sessions over.
      let may = admission db holder sessions over in
      refused_as (machine_at db holder sessions) at.number at.session.now x may code
      (comes db holder over.committed over.held (admitted_may (machine_at db holder sessions) at.number at.session.now x read written may))
  stop_carries admitted (Failed fault) admission comes = admitted_serves records at (statement.OnDatabase x) admitted (Err fault) admission (serves_failure fault comes)

-- ---- what was read

pub answer_read : {A : Type 0} (x : A) (what : Decision) (old new : StoreState) → ReadsMap (Ok x) old new → HasRead (Ok what) old new
answer_read x what old new h = record { only_reads = h.only_reads; cause = tt; failed = h.failed }

pub refusal_read : {A : Type 0} (code : SqlState) (what : Decision) (old new : StoreState) → ReadsMap {A = A} (Err (Refused code)) old new → HasRead (Ok what) old new
refusal_read code what old new h = record { only_reads = h.only_reads; cause = tt; failed = h.failed }

pub failure_read : {A : Type 0} (fault : Fault) (old new : StoreState) → ReadsMap {A = A} (Err (Failed fault)) old new → HasRead {T = Decision} (Err fault) old new
failure_read Memory old new h = record { only_reads = h.only_reads; cause = tt; failed = h.failed }
failure_read Device old new h = record { only_reads = h.only_reads; cause = h.cause; failed = h.failed }
failure_read Damaged old new h = record { only_reads = h.only_reads; cause = tt; failed = h.failed }

-- a call that came to this one's answer read what it read
pub decided_read : {A : Type 0} (x : A) (what : Decision) (old new : StoreState) → ReadsMap (Ok x) old new → ReadsMap (Ok what) old new
decided_read x what old new h = record { only_reads = h.only_reads; cause = tt; failed = h.failed }

pub stopped_read : {A : Type 0} (stop : StatementError) (old new : StoreState) → ReadsMap {A = A} (Err stop) old new → ReadsMap {A = Decision} (Err stop) old new
stopped_read (Refused code) old new h = record { only_reads = h.only_reads; cause = tt; failed = h.failed }
stopped_read (Failed Memory) old new h = record { only_reads = h.only_reads; cause = tt; failed = h.failed }
stopped_read (Failed Device) old new h = record { only_reads = h.only_reads; cause = h.cause; failed = h.failed }
stopped_read (Failed Damaged) old new h = record { only_reads = h.only_reads; cause = tt; failed = h.failed }

-- before anything is read, a statement fails for memory alone
pub unread : {A : Type 0} (stop : StatementError) (s : StoreState) → FailsForMemory stop → OnlyReads s s → ReadsMap {A = A} (Err stop) s s
unread (Refused code) s memory reads = record { only_reads = reads; cause = tt; failed = refl }
unread (Failed Memory) s memory reads = record { only_reads = reads; cause = tt; failed = refl }
unread (Failed Device) s memory reads = absurd (not_device memory)
unread (Failed Damaged) s memory reads = absurd (not_damaged memory)

-- ---- what `?` hands on

-- a stop that is handed on
pub ended : {A : Type 0} (stop : StatementError) (P : Result A StatementError → Type 0) (r : Result A StatementError) → IsErrAnd r (λ other. other ≡ stop) → P (Err stop) → P r
ended stop P (Ok x) is p = absurd is
ended stop P (Err other) is p = subst (λ (y : StatementError). P (Err y)) (sym is) p
