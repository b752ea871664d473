-- What the machine does on a statement of the database that a session may execute.
use Rattle.std.proofs.Common.{◌≡◌, ℕ, Bool, true, false, not, ◌&&◌, Result, Ok, Err, refl, sym, ◌∙◌, ap}
use Rattle.sql_types.specs.declared.state.SqlState.{SqlState}
use Rattle.sql_types.specs.declared.state.SqlState.TheVariants.{InsufficientPrivilege, InFailedTransaction, LockNotAvailable, InvalidAuthorization}
use Rattle.sql_types.specs.declared.answer.Answer.{Answer}
use Rattle.sql_ast.specs.declared.statement.Statement.TheVariants as statement
use Rattle.sql_ast.specs.declared.statement.DatabaseStatement.{DatabaseStatement}
use Rattle.expressions.specs.Stages.{◌>>=◌, require}
use Rattle.abstract_database.specs.Database.{Database, has_role}
use Rattle.abstract_database.specs.Statements.{Effect, effect, exec}
use Rattle.abstract_database.specs.Machine.{Machine, Session, Transition, users_of, seen, refused, transition_or_refusal, changes_database, has_failed, keeps_role, is_held_by_other, may_execute, applied, execute_in}
use Rattle.abstract_database.proofs.ResultLemmas.{bind_ok, require_ok}

module _ (m : Machine) (number : ℕ) (s : Session) where
  -- its transition, of what it is meant to come to
  abbrev transition_of : DatabaseStatement → Result Effect SqlState → Transition
  transition_of x meant = transition_or_refusal m number s (meant >>= λ e. Ok (applied m number s (changes_database x) e))

  module _ (x : DatabaseStatement) (may : may_execute m number s (statement.OnDatabase x) ≡ Ok tt) where
    -- ---- of a session that may execute it

    concluded : execute_in m number s (Ok (statement.OnDatabase x)) ≡ transition_of x (exec (seen m number) (users_of s) x)
    concluded = ap (λ (r : Result (Unit {0}) SqlState). transition_or_refusal m number s (r >>= λ free. (exec (seen m number) (users_of s) x >>= λ e. Ok (applied m number s (changes_database x) e)))) may

    -- it is refused
    pub refused_as : (code : SqlState) → exec (seen m number) (users_of s) x ≡ Err code → execute_in m number s (Ok (statement.OnDatabase x)) ≡ refused m number s code
    refused_as code is = concluded ∙ ap (transition_of x) is

    -- it is carried out
    pub carried_as : (answer : Answer) (after : Database) → exec (seen m number) (users_of s) x ≡ Ok (effect answer after) → (writes : Bool) → changes_database x ≡ writes
        → execute_in m number s (Ok (statement.OnDatabase x)) ≡ applied m number s writes (effect answer after)
    carried_as answer after is writes known =
        concluded ∙ ap (transition_of x) is ∙ ap (λ (b : Bool). applied m number s b (effect answer after)) known

    -- ---- what it says of the session that it may

    not_true : (b : Bool) → not b ≡ true → b ≡ false
    not_true true e = cc
    not_true false e = refl

    -- no other session holds the writer lock that a statement needs which changes the database
    pub is_free : changes_database x ≡ true → is_held_by_other number m.holder ≡ false
    is_free writes =
        let first = bind_ok (require (not (has_failed s.block)) InFailedTransaction) _ tt may in
        let second = bind_ok (require (has_role (seen m number) s.login) InvalidAuthorization) _ tt first.2 in
        let third = bind_ok (require (keeps_role (seen m number) s) InsufficientPrivilege) _ tt second.2 in
        let free : not (changes_database x && is_held_by_other number m.holder) ≡ true = require_ok (not (changes_database x && is_held_by_other number m.holder)) LockNotAvailable tt third.2 in
        not_true (is_held_by_other number m.holder) (ap (λ (b : Bool). not (b && is_held_by_other number m.holder)) (sym writes) ∙ free)
