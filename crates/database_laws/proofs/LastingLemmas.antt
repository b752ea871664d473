-- What each statement keeps of a database, each event keeps.
use Rattle.std.proofs.Common.{◌≡◌, ◌==◌, ℕ, Bool, true, false, not, ◌||◌, cond, Result, Ok, Err, Option, Some, None, refl, sym, subst}
use Rattle.sql_types.specs.declared.state.SqlState.{SqlState}
use Rattle.sql_types.specs.declared.state.SqlState.TheVariants.{InFailedTransaction, InvalidAuthorization, InsufficientPrivilege, IoError}
use Rattle.sql_types.specs.declared.tag.Tag.TheVariants as tag
use Rattle.sql_ast.specs.declared.statement.Statement.{Statement}
use Rattle.sql_ast.specs.declared.statement.Statement.TheVariants as statement
use Rattle.sql_ast.specs.declared.statement.DatabaseStatement.{DatabaseStatement}
use Rattle.sql_ast.specs.declared.statement.SessionStatement.{SessionStatement}
use Rattle.sql_ast.specs.declared.statement.SessionStatement.TheVariants as of_session
use Rattle.std.proofs.lemmas.Bool.{and_parts}
use Rattle.expressions.specs.Stages.{◌>>=◌, require}
use Rattle.abstract_database.specs.Database.{Database, has_role}
use Rattle.abstract_database.specs.Roles.{may_set_role}
use Rattle.abstract_database.specs.Whole.{AreRolesOf}
use Rattle.abstract_database.specs.Statements.{Effect, UserPair, as_seen, exec}
use Rattle.abstract_database.specs.Machine.{Block, Outside, Inside, Failed, Session, Event, opens, executes, closes, Reading, Machine, Holder, Transition, refuses, succeeds, session_of, users_of, as_role, with_session_changed, released, seen_by, seen, open_session, close_session, after_refusal, transition_or_refusal, has_failed, sets_role, keeps_role, may_execute, begin, with_role_set, commit, rollback, with_changes, applied, where_admitted, changes_database, execute_of_session, execute_in, execute, running_transition, transition}
use Rattle.database_laws.specs.Invariants.{IsStatementInvariant, HoldsOfHolder}
use Rattle.abstract_database.proofs.ResultLemmas.{Every, every_bind, every_ok, bind_ok, require_ok}
use Rattle.database_laws.proofs.MachineLemmas.{Same, opened_same}

-- ---- who acts

require_of : (b c : Bool) → (b || c) ≡ true → b ≡ false → c ≡ true
require_of true c e f = cc
require_of false c e f = e

-- a statement that is executed, and sets no role, is executed for roles of the database
roles_act : (m : Machine) (number : ℕ) (s : Session) (x : Statement) (u : Unit {0}) → may_execute m number s x ≡ Ok u → sets_role x ≡ false → AreRolesOf (seen m number) (as_seen (users_of s) (seen m number))
roles_act m number s x u e sets_none =
    let unfailed = bind_ok (require (not (has_failed s.block)) InFailedTransaction) _ u e in
    let authorized = bind_ok (require (has_role (seen m number) s.login) InvalidAuthorization) _ u unfailed.2 in
    let allowed = bind_ok (require (sets_role x || keeps_role (seen m number) s) InsufficientPrivilege) _ u authorized.2 in
    let keeps = require_of (sets_role x) (keeps_role (seen m number) s) (require_ok (sets_role x || keeps_role (seen m number) s) InsufficientPrivilege allowed.0 allowed.1) sets_none in
    record {
      current = (and_parts (has_role (seen m number) s.role) (may_set_role (seen m number) s.login s.role) keeps).0;
      session = require_ok (has_role (seen m number) s.login) InvalidAuthorization authorized.0 authorized.1;
    }

-- ---- events

-- what holds of the statement of an event, if it has one
abbrev pub OfReading : (Statement → Type 0) → Reading → Type 0
OfReading May (Ok x) = May x
OfReading May (Err code) = Unit {0}

abbrev pub OfEvent : (Statement → Type 0) → Event Reading → Type 0
OfEvent May (opens number login) = Unit {0}
OfEvent May (executes number reading) = OfReading May reading
OfEvent May (closes number) = Unit {0}

-- a fact about databases that a statement of some sort keeps, executed for roles of the database
module _ (Q : Database → Type 0) (May : Statement → Type 0) (lasting : (db : Database) (pair : UserPair) (x : DatabaseStatement) (e : Effect) → May (statement.OnDatabase x) → AreRolesOf db (as_seen pair db) → exec db pair x ≡ Ok e → Q db → Q e.database) where
  abbrev Holds : Machine → Type 0
  Holds m = Q m.committed × HoldsOfHolder Q m.holder

  seen_at : (number : ℕ) (b : Bool) (h : Holder) (db : Database) → Q db → Q h.database → Q (cond b h.database db)
  seen_at number true h db q k = k
  seen_at number false h db q k = q

  seen_holds : (number : ℕ) (h : Option Holder) (db : Database) → Q db → HoldsOfHolder Q h → Q (seen_by number h db)
  seen_holds number None db q k = q
  seen_holds number (Some h) db q k = seen_at number (h.session == number) h db q k

  released_at : (b : Bool) (h : Holder) → Q h.database → HoldsOfHolder Q (cond b None (Some h))
  released_at true h k = tt
  released_at false h k = k

  released_holds : (number : ℕ) (h : Option Holder) → HoldsOfHolder Q h → HoldsOfHolder Q (released number h)
  released_holds number None k = tt
  released_holds number (Some h) k = released_at (h.session == number) h k

  module _ (m : Machine) (q : Q m.committed) (k : HoldsOfHolder Q m.holder) where
    refused_holds : (number : ℕ) (s : Session) (b : Block) → Holds (after_refusal m number s b)
    refused_holds number s Outside = (q, k)
    refused_holds number s (Inside role) = (q, k)
    refused_holds number s (Failed role) = (q, k)

    commit_holds : (number : ℕ) (s : Session) (b : Block) → Holds (commit m number s b).machine
    commit_holds number s Outside = (q, k)
    commit_holds number s (Inside role) = (seen_holds number m.holder m.committed q k, released_holds number m.holder k)
    commit_holds number s (Failed role) = (q, released_holds number m.holder k)

    rollback_holds : (number : ℕ) (s : Session) (b : Block) → Holds (rollback m number s b).machine
    rollback_holds number s Outside = (q, k)
    rollback_holds number s (Inside role) = (q, released_holds number m.holder k)
    rollback_holds number s (Failed role) = (q, released_holds number m.holder k)

    begin_holds : (number : ℕ) (s : Session) (b : Block) → Holds (begin m number s b).machine
    begin_holds number s Outside = (q, k)
    begin_holds number s (Inside role) = (q, k)
    begin_holds number s (Failed role) = (q, k)

    placed_holds : (number : ℕ) (b : Block) (db : Database) → Q db → Holds (with_changes m number b db)
    placed_holds number Outside db d = (d, k)
    placed_holds number (Inside role) db d = (q, d)
    placed_holds number (Failed role) db d = (q, k)

    applied_holds : (number : ℕ) (s : Session) (writing : Bool) (e : Effect) → Q e.database → Holds (applied m number s writing e).machine
    applied_holds number s true e d = placed_holds number s.block e.database d
    applied_holds number s false e d = (q, k)

    abbrev TurnHolds : Transition → Type 0
    TurnHolds t = Holds t.machine

    abbrev Act : ℕ → Session → Statement → Type 0
    Act number s x = sets_role x ≡ false → AreRolesOf (seen m number) (as_seen (users_of s) (seen m number))

    statement_holds : (number : ℕ) (s : Session) (x : DatabaseStatement) (writing : Bool) → May (statement.OnDatabase x) → AreRolesOf (seen m number) (as_seen (users_of s) (seen m number)) → Every TurnHolds (exec (seen m number) (users_of s) x >>= λ e. Ok (applied m number s writing e))
    statement_holds number s x writing may are = every_bind TurnHolds (exec (seen m number) (users_of s) x) (λ e. Ok (applied m number s writing e))
        (λ e is. every_ok TurnHolds (applied m number s writing e) (applied_holds number s writing e (lasting (seen m number) (users_of s) x e may are is (seen_holds number m.holder m.committed q k))))

    role_set_holds : (number : ℕ) (r : Result Session SqlState) → Every TurnHolds (r >>= λ changed. Ok (succeeds tag.Set (with_session_changed m number changed)))
    role_set_holds number r = every_bind TurnHolds r (λ changed. Ok (succeeds tag.Set (with_session_changed m number changed))) (λ changed is. every_ok TurnHolds (succeeds tag.Set (with_session_changed m number changed)) (q, k))

    settled_holds : (number : ℕ) (s : Session) (r : Result Transition SqlState) → Every TurnHolds r → Holds (transition_or_refusal m number s r).machine
    settled_holds number s (Ok t) h = h t refl
    settled_holds number s (Err code) h = refused_holds number s s.block

    admitted_holds : (number : ℕ) (s : Session) (x : Statement) (does : Result Transition SqlState) → (Act number s x → Every TurnHolds does) → Holds (where_admitted m number s x does).machine
    admitted_holds number s x does h = settled_holds number s (may_execute m number s x >>= λ free. does)
        (every_bind TurnHolds (may_execute m number s x) (λ free. does) (λ free is. h (roles_act m number s x free is)))

    of_session_holds : (number : ℕ) (s : Session) (x : SessionStatement) → Holds (execute_of_session m number s x).machine
    of_session_holds number s of_session.Commit = commit_holds number s s.block
    of_session_holds number s of_session.Rollback = rollback_holds number s s.block
    of_session_holds number s of_session.Begin = admitted_holds number s (statement.OfSession of_session.Begin) (Ok (begin m number s s.block)) (λ are. every_ok TurnHolds (begin m number s s.block) (begin_holds number s s.block))
    of_session_holds number s (of_session.SetRole x) = admitted_holds number s (statement.OfSession (of_session.SetRole x)) (with_role_set (seen m number) s x.role >>= λ changed. Ok (succeeds tag.Set (with_session_changed m number changed)))
        (λ are. role_set_holds number (with_role_set (seen m number) s x.role))
    of_session_holds number s of_session.ResetRole = admitted_holds number s (statement.OfSession of_session.ResetRole) (Ok (succeeds tag.Reset (with_session_changed m number (as_role s.login s))))
        (λ are. every_ok TurnHolds (succeeds tag.Reset (with_session_changed m number (as_role s.login s))) (q, k))

    execute_in_holds : (number : ℕ) (s : Session) (x : Statement) → May x → Holds (execute_in m number s (Ok x)).machine
    execute_in_holds number s (statement.OfSession x) may = of_session_holds number s x
    execute_in_holds number s (statement.OnDatabase x) may = admitted_holds number s (statement.OnDatabase x) (exec (seen m number) (users_of s) x >>= λ e. Ok (applied m number s (changes_database x) e))
        (λ are. statement_holds number s x (changes_database x) may (are refl))

    reading_holds : (number : ℕ) (s : Session) (reading : Reading) → OfReading May reading → Holds (execute_in m number s reading).machine
    reading_holds number s (Ok x) may = execute_in_holds number s x may
    reading_holds number s (Err code) may = refused_holds number s s.block

    execute_holds : (number : ℕ) (reading : Reading) (s : Option Session) → OfReading May reading → Holds (execute m number reading s).machine
    execute_holds number reading None may = (q, k)
    execute_holds number reading (Some s) may = reading_holds number s reading may

    closed_holds : (number : ℕ) (s : Option Session) → Holds (close_session m number s).machine
    closed_holds number None = (q, k)
    closed_holds number (Some s) = (q, released_holds number m.holder k)

    by_sameness : (after : Machine) → Same m after → Holds after
    by_sameness after s = (subst Q (sym s.committed) q, subst (HoldsOfHolder Q) (sym s.holder) k)

    running_holds : (event : Event Reading) → OfEvent May event → Holds (running_transition m event).machine
    running_holds (opens number login) may = by_sameness (open_session m number login).machine (opened_same m number login)
    running_holds (executes number reading) may = execute_holds number reading (session_of number m.sessions) may
    running_holds (closes number) may = closed_holds number (session_of number m.sessions)

    stopped_holds : (event : Event Reading) (b : Bool) → OfEvent May event → Holds (cond b (refuses m IoError) (running_transition m event)).machine
    stopped_holds event true may = (q, k)
    stopped_holds event false may = running_holds event may

  pub read_transition_holds : (m : Machine) (event : Event Reading) → OfEvent May event → Q m.committed → HoldsOfHolder Q m.holder → Holds (transition m event).machine
  read_transition_holds m event may q k = stopped_holds m q k event m.stopped may

anything_of_reading : (reading : Reading) → OfReading (λ x. Unit {0}) reading
anything_of_reading (Ok x) = tt
anything_of_reading (Err code) = tt

anything : (event : Event Reading) → OfEvent (λ x. Unit {0}) event
anything (opens number login) = tt
anything (executes number reading) = anything_of_reading reading
anything (closes number) = tt

-- what each statement keeps
pub transition_holds : (Q : Database → Type 0) → IsStatementInvariant Q → (m : Machine) (event : Event Reading) → Q m.committed → HoldsOfHolder Q m.holder →
    Q (transition m event).machine.committed × HoldsOfHolder Q (transition m event).machine.holder
transition_holds Q lasting m event q k = read_transition_holds Q (λ x. Unit {0}) (λ db pair x e may are is h. lasting db pair x e is h) m event (anything event) q k
