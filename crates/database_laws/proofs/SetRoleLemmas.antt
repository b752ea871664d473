-- The roles that statements are executed for.
use Rattle.std.proofs.Common.{◌≡◌, ◌||◌, ℕ, Bool, true, false, not, Ok, Some, refl, sym, ap, ◌∙◌, subst}
use Rattle.std.proofs.lemmas.Bool.{and_parts}
use Rattle.sql_types.specs.declared.state.SqlState.TheVariants.{UndefinedObject, InsufficientPrivilege, InFailedTransaction, InvalidAuthorization}
use Rattle.sql_types.specs.declared.tag.Tag.TheVariants as tag
use Rattle.sql_ast.specs.declared.statement.Statement.{Statement}
use Rattle.sql_ast.specs.declared.statement.Statement.TheVariants as statement
use Rattle.sql_ast.specs.declared.statement.SessionStatement.TheVariants as of_session
use Rattle.sql_ast.specs.declared.statement.SetRole.{SetRole}
use Rattle.expressions.specs.Stages.{require}
use Rattle.abstract_database.specs.Lists.{TheName}
use Rattle.abstract_database.specs.Database.{has_role}
use Rattle.abstract_database.specs.Roles.{may_set_role}
use Rattle.abstract_database.specs.Machine.{Session, Machine, Transition, succeeds, session_of, as_role, with_session_changed, seen, sets_role, keeps_role, has_failed, may_execute, with_role_set, execute_in}
use Rattle.abstract_database.proofs.ResultLemmas.{ok_inside, bind_ok, require_ok}
use Rattle.database_laws.specs.Blocks.{IsOpen, executed, IsRefused}
use Rattle.database_laws.specs.Rights.{IsFor}
use Rattle.database_laws.proofs.BlockLemmas.{executed_in, Sort, commits, rolls_back, is_ordinary, sort_of, done_by, ordinary, Outcome, is_refused, is_performed, outcome}
use Rattle.database_laws.proofs.CommitLemmas.{session_there}
use Rattle.database_laws.proofs.RightLemmas.{acts_as}

-- a statement that is not refused was performed
pub record IsPerformed (m : Machine) (number : ℕ) (s : Session) (x : Statement) (t : Transition) : Type 0 where
  pub unit : Unit {0}
  pub may : may_execute m number s x ≡ Ok unit
  pub does : done_by m number s x ≡ Ok t

performed_of : (m : Machine) (number : ℕ) (s : Session) (x : Statement) (t : Transition) → Outcome m number s x t → (IsRefused t → ⊥) → IsPerformed m number s x t
performed_of m number s x t (is_refused code at) h = absurd (h (code, ap (λ (u : Transition). u.answer) at))
performed_of m number s x t (is_performed u may does) h = record { unit = u; may = may; does = does }

pub performed_by : (m : Machine) (number : ℕ) (s : Session) (x : Statement) → IsOpen m number s → execute_in m number s (Ok x) ≡ ordinary m number s x → (IsRefused (executed m number (Ok x)) → ⊥) →
    IsPerformed m number s x (executed m number (Ok x))
performed_by m number s x o at h =
    let same = executed_in m number s (Ok x) o ∙ at in
    subst (IsPerformed m number s x) (sym same) (performed_of m number s x (ordinary m number s x) (outcome m number s x) (λ r. h (subst IsRefused (sym same) r)))

performed_sort : (m : Machine) (number : ℕ) (s : Session) (x : Statement) → IsOpen m number s → Sort x → (x ≡ (statement.OfSession of_session.Commit) → ⊥) → (x ≡ (statement.OfSession of_session.Rollback) → ⊥) →
    (IsRefused (executed m number (Ok x)) → ⊥) → IsPerformed m number s x (executed m number (Ok x))
performed_sort m number s x o (commits is) c r h = absurd (c is)
performed_sort m number s x o (rolls_back is) c r h = absurd (r is)
performed_sort m number s x o (is_ordinary at) c r h = performed_by m number s x o (at m number s) h

-- ---- the checks before a statement

module _ (m : Machine) (number : ℕ) (s : Session) where
  record Admits (x : Statement) : Type 0 where
    login : has_role (seen m number) s.login ≡ true
    role : (sets_role x || keeps_role (seen m number) s) ≡ true

  admitted : (x : Statement) (u : Unit {0}) → may_execute m number s x ≡ Ok u → Admits x
  admitted x u e =
      let unfailed = bind_ok (require (not (has_failed s.block)) InFailedTransaction) _ u e in
      let authorized = bind_ok (require (has_role (seen m number) s.login) InvalidAuthorization) _ u unfailed.2 in
      let allowed = bind_ok (require (sets_role x || keeps_role (seen m number) s) InsufficientPrivilege) _ u authorized.2 in
      record {
        login = require_ok (has_role (seen m number) s.login) InvalidAuthorization authorized.0 authorized.1;
        role = require_ok (sets_role x || keeps_role (seen m number) s) InsufficientPrivilege allowed.0 allowed.1;
      }

  second : (a b : Bool) → (a || b) ≡ true → a ≡ false → b ≡ true
  second true b e f = cc
  second false b e f = e

  pub for_roles : (x : Statement) → IsOpen m number s → (x ≡ (statement.OfSession of_session.Commit) → ⊥) → (x ≡ (statement.OfSession of_session.Rollback) → ⊥) → (IsRefused (executed m number (Ok x)) → ⊥) → sets_role x ≡ false → IsFor (seen m number) s.login s.role
  for_roles x o c r h sets_none =
      let p = performed_sort m number s x o (sort_of x) c r h in
      let a = admitted x p.unit p.may in
      let keeps = and_parts (has_role (seen m number) s.role) (may_set_role (seen m number) s.login s.role) (second (sets_role x) (keeps_role (seen m number) s) a.role sets_none) in
      record { has_login = a.login; has_role = keeps.0; allowed = acts_as (seen m number) s.login s.role keeps.1 }

  role_set : (role : TheName) (changed : Session) → with_role_set (seen m number) s (Some role) ≡ Ok changed →
      (has_role (seen m number) role ≡ true) × ((may_set_role (seen m number) s.login role ≡ true) × (as_role role s ≡ changed))
  role_set role changed e =
      let named = bind_ok (require (has_role (seen m number) role) UndefinedObject) _ changed e in
      let allowed = bind_ok (require (may_set_role (seen m number) s.login role) InsufficientPrivilege) _ changed named.2 in
      (require_ok (has_role (seen m number) role) UndefinedObject named.0 named.1, (require_ok (may_set_role (seen m number) s.login role) InsufficientPrivilege allowed.0 allowed.1, ok_inside (as_role role s) changed allowed.2))

  pub role_is_set : (r : SetRole) (role : TheName) → IsOpen m number s → r.role ≡ Some role → (IsRefused (executed m number (Ok (statement.OfSession (of_session.SetRole r)))) → ⊥) →
      IsFor (seen m number) s.login role × (session_of number (executed m number (Ok (statement.OfSession (of_session.SetRole r)))).machine.sessions ≡ Some (as_role role s))
  role_is_set r role o is h =
      let t = executed m number (Ok (statement.OfSession (of_session.SetRole r))) in
      let p = performed_by m number s (statement.OfSession (of_session.SetRole r)) o refl h in
      let done = bind_ok (with_role_set (seen m number) s r.role) (λ (c : Session). Ok (succeeds tag.Set (with_session_changed m number c))) t p.does in
      let set = role_set role done.0 (ap (with_role_set (seen m number) s) (sym is) ∙ done.1) in
      let a = admitted (statement.OfSession (of_session.SetRole r)) p.unit p.may in (
        record { has_login = a.login; has_role = set.0; allowed = acts_as (seen m number) s.login role set.1.0 },
        ap (λ (u : Transition). session_of number u.machine.sessions) (sym (ok_inside (succeeds tag.Set (with_session_changed m number done.0)) t done.2))
            ∙ session_there m.sessions number done.0
            ∙ ap (λ (c : Session). Some c) (sym set.1.1),
      )
