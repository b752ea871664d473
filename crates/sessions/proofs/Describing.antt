-- What is told of a statement that is not carried out.
use Rattle.std.proofs.Common.{◌≡◌, ◌⊎◌, ℕ, Bool, true, false, ◌&&◌, not, is_some, Option, Some, None, Result, Ok, Err, refl, sym, ◌∙◌, ap, subst, inl, inr}
use Rattle.sql_types.specs.declared.state.SqlState.{SqlState}
use Rattle.sql_types.specs.declared.state.SqlState.TheVariants.{OutOfMemory, InsufficientPrivilege, InFailedTransaction, InvalidAuthorization, LockNotAvailable}
use Rattle.sql_ast.specs.declared.description.StatementDescription.{StatementDescription}
use Rattle.sql_ast.specs.declared.description.StatementDescription.TheVariants.{Refused}
use Rattle.sql_ast.specs.declared.statement.DatabaseStatement.{DatabaseStatement}
use Rattle.sql_ast.specs.declared.statement.Statement.{Statement}
use Rattle.sql_ast.specs.declared.statement.Statement.TheVariants as statement
use Rattle.sql_ast.specs.Statements.{IsRead, IsReadOnDatabase}
use Rattle.store.specs.Records.{Records}
use Rattle.expressions.specs.Stages.{◌>>=◌, require}
use Rattle.abstract_database.specs.Database.{Database, has_role}
use Rattle.abstract_database.specs.Descriptions.{describe, description, description_for, description_in, described_if, may_describe, IsDescription}
use Rattle.abstract_database.specs.Machine.{Machine, Holder, Reading, Session, changes_database, has_failed, is_held_by_other, keeps_role, seen, seen_by, session_of, users_of, may_execute}
use Rattle.abstract_database.specs.Runs.{TheText}
use Rattle.stored_database.specs.Definitions.{Definitions}
use Rattle.stored_database.specs.Records.{Shows}
use Rattle.server.specs.Decisions.{Entries, machine_at}
use Rattle.sessions.specs.Admission.{SeesRolesOf, admission_of}
use Rattle.sessions.specs.Readings.{ReadsText}
use Rattle.sessions.specs.Serving.{IsOpenOver}
use Rattle.sessions.specs.Visible.{records_seen}
use Rattle.sessions.specs.Writers.{definitions_seen}
use Rattle.sessions.specs.declared.statements.OpenSession.{OpenSession}
use Rattle.sessions.proofs.SeenDefinitions.{sees_roles}
use Rattle.sessions.proofs.SeenRecords.{seen_shown}

-- ---- admission, as where nobody holds the writer lock

abbrev admitted_by : Bool → Bool → Bool → Result (Unit {0}) SqlState
admitted_by failed named keeps =
    require (not failed) InFailedTransaction >>= λ unfailed. require named InvalidAuthorization >>= λ authorized. require keeps InsufficientPrivilege

admitted_free : (failed named keeps writes : Bool) →
    (require (not failed) InFailedTransaction >>= λ unfailed. require named InvalidAuthorization >>= λ authorized. require keeps InsufficientPrivilege >>= λ allowed. require (not (writes && false)) LockNotAvailable)
    ≡ admitted_by failed named keeps
admitted_free true named keeps writes = refl
admitted_free false false keeps writes = refl
admitted_free false true false writes = refl
admitted_free false true true true = refl
admitted_free false true true false = refl

module _ (at : OpenSession) (x : DatabaseStatement) (records : Records) (db : Database) (holder : Option Holder) (sessions : Entries) (there : IsOpenOver records at db holder sessions) where
  abbrev here : Machine
  here = machine_at db holder sessions

  -- the machine in which all see what the session sees, and nobody holds the writer lock
  abbrev alone : Machine
  alone = machine_at (seen here at.number) None sessions

  sees : SeesRolesOf (definitions_seen at.number at.writer.now at.catalogue.now) at.number alone
  sees = sees_roles records at.catalogue.now at.writer.now db holder at.number there.committed there.held

  admission : may_execute alone at.number at.session.now (statement.OnDatabase x) ≡ may_describe here at.number at.session.now
  admission = admitted_free (has_failed at.session.now.block) (has_role (seen here at.number) at.session.now.login) (keeps_role (seen here at.number) at.session.now) (changes_database x)

  -- as it is admitted or refused by what the session sees
  module _ (all : Statement) (d : Definitions) (refusal : Option SqlState) (is : all ≡ statement.OnDatabase x) (seen_is : d ≡ definitions_seen at.number at.writer.now at.catalogue.now)
      (asked : (m : Machine) (number : ℕ) → SeesRolesOf d number m → is_held_by_other number m.holder ≡ false → may_execute m number at.session.now all ≡ admission_of refusal) where
    may : may_describe here at.number at.session.now ≡ admission_of refusal
    may = sym admission ∙ ap (λ (a : Statement). may_execute alone at.number at.session.now a) (sym is) ∙ asked alone at.number (subst (λ (e : Definitions). SeesRolesOf e at.number alone) (sym seen_is) sees) refl

    abbrev answers : Result (Unit {0}) SqlState → StatementDescription
    answers admitted = described_if admitted (describe (seen here at.number) (users_of at.session.now) x)

    pub refused_told : (code : SqlState) → refusal ≡ Some code → ◌≡◌ {A = StatementDescription} (Refused code) (description_in here at.number at.session.now (Ok all))
    refused_told code refuses =
        subst (λ (a : Statement). ◌≡◌ {A = StatementDescription} (Refused code) (description_in here at.number at.session.now (Ok a))) (sym is) (sym (ap answers (may ∙ ap admission_of refuses)))

    pub admitted_told : (told : StatementDescription) → refusal ≡ None → IsRead all
        → (IsReadOnDatabase x → (own : Records) (of : Database) → Shows own d of → (told ≡ Refused OutOfMemory) ⊎ (told ≡ describe of (users_of at.session.now) x))
        → (told ≡ Refused OutOfMemory) ⊎ (told ≡ description_in here at.number at.session.now (Ok all))
    admitted_told told admits read describes =
        subst (λ (a : Statement). (told ≡ Refused OutOfMemory) ⊎ (told ≡ description_in here at.number at.session.now (Ok a))) (sym is)
        (go (describes (subst IsRead is read) (records_seen at.number at.writer.now records) (seen here at.number) (subst (λ (e : Definitions). Shows (records_seen at.number at.writer.now records) e (seen here at.number)) (sym seen_is)
        (seen_shown at.number records at.catalogue.now at.writer.now db holder there.committed there.held))))
      where
        go : (told ≡ Refused OutOfMemory) ⊎ (told ≡ describe (seen here at.number) (users_of at.session.now) x) → (told ≡ Refused OutOfMemory) ⊎ (told ≡ description_in here at.number at.session.now (Ok (statement.OnDatabase x)))
        go (inl e) = inl e
        go (inr e) = inr (e ∙ sym (ap answers (may ∙ ap admission_of admits)))

-- ---- texts

module _ (db : Database) (holder : Option Holder) (sessions : Entries) (number : ℕ) (text : TheText) where
  abbrev over : Machine
  over = machine_at db holder sessions

  -- of no session
  pub unopened_described : session_of number sessions ≡ None → (told : StatementDescription) → ((reading : Reading) → told ≡ description_for over number reading None) → IsDescription ReadsText over number text told
  unopened_described missing told is = inr (Err OutOfMemory, (λ may. absurd (nobody may.1)), is (Err OutOfMemory) ∙ ap (description_for over number (Err OutOfMemory)) (sym missing)) where
    nobody : is_some (session_of number sessions) ≡ true → ⊥
    nobody there = let same : false ≡ true = sym (ap is_some missing) ∙ there in cc

  -- of a session
  pub text_described : (s : Session) → session_of number sessions ≡ Some s → (reading : Reading) (told : StatementDescription) → ReadsText text reading
      → (told ≡ Refused OutOfMemory) ⊎ (told ≡ description_in over number s reading) → IsDescription ReadsText over number text told
  text_described s found reading told read (inl e) = inl e
  text_described s found reading told read (inr e) = inr (reading, (λ may. read), e ∙ ap (description_for over number reading) (sym found))
