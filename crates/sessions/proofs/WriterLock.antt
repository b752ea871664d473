-- Statements that are refused for the writer lock.
use Rattle.std.proofs.Common.{◌≡◌, ℕ, Bool, true, false, not, ◌&&◌, ◌||◌, if◌then◌else◌, Option, Result, Ok, Err, refl, sym, ◌∙◌, ap}
use Rattle.sql_types.specs.declared.state.SqlState.{SqlState}
use Rattle.sql_types.specs.declared.state.SqlState.TheVariants.{InsufficientPrivilege, InFailedTransaction, LockNotAvailable, InvalidAuthorization, IoError}
use Rattle.sql_ast.specs.declared.statement.Statement.{Statement}
use Rattle.sql_ast.specs.declared.statement.Statement.TheVariants as statement
use Rattle.expressions.specs.Stages.{◌>>=◌, require}
use Rattle.abstract_database.specs.Database.{has_role}
use Rattle.abstract_database.specs.Machine.{opens, executes, closes, Machine, Session, session_of, seen, users_of, is_writing, changes_database, sets_role, has_failed, keeps_role, is_held_by_other, may_execute, transition_or_refusal, refuses, refused, applied, execute_in, execute}
use Rattle.abstract_database.specs.Runs.{ReadingRelation}
use Rattle.abstract_database.specs.Statements.{exec}
use Rattle.server.specs.LockedOut.{RefusesLockedOut}

-- ---- the writer lock is what is asked for last

abbrev admission : Bool → Bool → Bool → Bool → Result (Unit {0}) SqlState
admission a b c d = require a InFailedTransaction >>= λ x. (require b InvalidAuthorization >>= λ y. (require c InsufficientPrivilege >>= λ z. require d LockNotAvailable))

refused_last : (a b c d : Bool) → admission a b c d ≡ Err LockNotAvailable → d ≡ false
refused_last false b c d is = cc
refused_last true false c d is = cc
refused_last true true false d is = cc
refused_last true true true true is = cc
refused_last true true true false is = refl

held_at : (writes held : Bool) → not (writes && held) ≡ false → held ≡ true
held_at true true is = refl
held_at true false is = cc
held_at false held is = cc

-- where a statement is refused for it, another session holds it
pub held_where_refused : (m : Machine) (number : ℕ) (s : Session) (x : Statement) → may_execute m number s x ≡ Err LockNotAvailable → is_held_by_other number m.holder ≡ true
held_where_refused m number s x is = held_at (is_writing x) (is_held_by_other number m.holder)
    (refused_last (not (has_failed s.block)) (has_role (seen m number) s.login) (sets_role x || keeps_role (seen m number) s) (not (is_writing x && is_held_by_other number m.holder)) is)

-- ---- what the machine answers

never_both : (b : Bool) → b ≡ true → b ≡ false → ⊥
never_both b p q = let wrong : true ≡ false = sym p ∙ q in cc

refused_there : (m : Machine) (number : ℕ) (s : Session) (x : Statement) → may_execute m number s x ≡ Err LockNotAvailable → execute_in m number s (Ok x) ≡ refused m number s LockNotAvailable
refused_there m number s (statement.OnDatabase x) is =
    ap (λ (r : Result (Unit {0}) SqlState). transition_or_refusal m number s (r >>= λ free. (exec (seen m number) (users_of s) x >>= λ e. Ok (applied m number s (changes_database x) e)))) is
-- a statement of the session changes no database
refused_there m number s (statement.OfSession x) is =
    absurd (never_both true refl (refused_last (not (has_failed s.block)) (has_role (seen m number) s.login) (sets_role (statement.OfSession x) || keeps_role (seen m number) s) true is))

pub locked_out_is_refused : (Reads : ReadingRelation) → RefusesLockedOut Reads
locked_out_is_refused Reads m (opens number login) locked = absurd locked
locked_out_is_refused Reads m (closes number) locked = absurd locked
locked_out_is_refused Reads m (executes number text) locked =
    let s = locked.1.0 in
    let x = locked.1.2.0 in (
      refused m number s LockNotAvailable,
      record {
        as_read = executes number (Ok x);
        read = (Ok x, refl, λ may. locked.1.2.1);
        is = sym (ap (λ (b : Bool). if b then refuses m IoError else execute m number (Ok x) (session_of number m.sessions)) locked.0
            ∙ ap (λ (o : Option Session). execute m number (Ok x) o) locked.1.1 ∙ refused_there m number s x locked.1.2.2);
      },
      refl,
    )
