use Rattle.std.proofs.Common.{◌≡◌, ◌∙◌, ◌++◌, Result, Ok, Err, is_ok, refl, sym, ap, inr, true, false}
use Rattle.std.specs.List.{list_all}
use Rattle.sql_types.specs.declared.state.SqlState.{SqlState}
use Rattle.sql_types.specs.declared.state.SqlState.TheVariants.{InsufficientPrivilege}
use Rattle.sql_ast.specs.declared.statement.GrantRole.{GrantRole}
use Rattle.expressions.specs.Meaning.{UserNames}
use Rattle.expressions.specs.Stages.{◌>>=◌, require}
use Rattle.abstract_database.specs.Lists.{TheName}
use Rattle.abstract_database.specs.Database.{Database}
use Rattle.abstract_database.specs.Roles.{memberships_of, with_memberships, may_grant_role}
use Rattle.abstract_database.specs.Checks.{require_roles, checked_grant_role}
use Rattle.role_membership.specs.Chains.{IsOneInOne}
use Rattle.role_membership.specs.Rights.{database_of, checked_names}
use Rattle.role_membership.proofs.Cycles.{granted_without_cycle, refused_with_cycle}
use Rattle.role_membership.proofs.Puts.{all_rise}
use Rattle.role_membership.proofs.granting.grant_roles.Goals as goal

both_pass : {X : Type 0} (a b : Result (Unit {0}) SqlState) (c : Result X SqlState) → (a >>= λ named. b) ≡ Ok tt → (a >>= λ named. b >>= λ allowed. c) ≡ c
both_pass (Ok u) (Ok v) c e = refl
both_pass (Ok u) (Err code) c e = cc
both_pass (Err code) b c e = cc

after_names : (db : Database) (users : UserNames) (current : TheName) (s : GrantRole) → users.current ≡ current → checked_names db current s.roles s.members ≡ Ok tt →
    checked_grant_role db users s ≡ with_memberships (memberships_of s.roles s.members s.with_admin_option) db.memberships
after_names db users current s is named =
    both_pass (require_roles db (s.roles ++ s.members)) (require (list_all (may_grant_role db users.current) s.roles) InsufficientPrivilege)
    (with_memberships (memberships_of s.roles s.members s.with_admin_option) db.memberships)
    (ap (λ (n : TheName). checked_names db n s.roles s.members) is ∙ named)

pub returns-then-branch-clause-refused : goal.returns-then-branch-clause-refused
returns-then-branch-clause-refused c = inr (λ users is.
    let s = c.args.statement.now in
    let ms = c.args.memberships.now.items in
    let named = rw (c.as_slice.ensures.value, c.as_slice-granted.ensures, c.as_slice-members.ensures) at c.in_ok-check_names.ensures.allowed in
    let cycle = rw (c.as_slice-2.ensures.value, c.as_slice-granted.ensures, c.as_slice-members.ensures) at (c.in_ok-is_one_in_one.ensures.0 c.if-branch.true) in
    after_names (database_of c.args.roles.now ms) users c.args.current.now s is named ∙ refused_with_cycle ms s.roles s.members s.with_admin_option cycle)

pub returns-clause-allowed : goal.returns-clause-allowed
returns-clause-allowed c = λ users is.
    let s = c.args.statement.now in
    let ms = c.args.memberships.now.items in
    let named = rw (c.as_slice.ensures.value, c.as_slice-granted.ensures, c.as_slice-members.ensures) at c.in_ok-check_names.ensures.allowed in
    let test = rw (c.as_slice-2.ensures.value, c.as_slice-granted.ensures, c.as_slice-members.ensures) at c.in_ok-is_one_in_one.ensures.1 in
    let none = λ (cycle : IsOneInOne ms s.roles s.members). (let contrary : true ≡ false = sym (test cycle) ∙ c.if-branch.false in let impossible : ⊥ = cc in impossible) in
    ap is_ok (after_names (database_of c.args.roles.now ms) users c.args.current.now s is named ∙ granted_without_cycle ms s.roles s.members s.with_admin_option none)

pub returns-clause-granted : goal.returns-clause-granted
returns-clause-granted c = λ rising users is.
    let s = c.args.statement.now in
    let ms = c.args.memberships.now.items in
    let named = rw (c.as_slice.ensures.value, c.as_slice-granted.ensures, c.as_slice-members.ensures) at c.in_ok-check_names.ensures.allowed in
    let test = rw (c.as_slice-2.ensures.value, c.as_slice-granted.ensures, c.as_slice-members.ensures) at c.in_ok-is_one_in_one.ensures.1 in
    let none = λ (cycle : IsOneInOne ms s.roles s.members). (let contrary : true ≡ false = sym (test cycle) ∙ c.if-branch.false in let impossible : ⊥ = cc in impossible) in
    let list = rw (c.as_slice-3.ensures.value, c.as_slice-granted.ensures, c.as_slice-members.ensures) at c.in_ok-memberships.ensures in
    after_names (database_of c.args.roles.now ms) users c.args.current.now s is named
    ∙ granted_without_cycle ms s.roles s.members s.with_admin_option none
    ∙ ap Ok (sym (list rising))

pub returns-clause-in_order : goal.returns-clause-in_order
returns-clause-in_order c = λ rising.
    let s = c.args.statement.now in
    let list = rw (c.as_slice-3.ensures.value, c.as_slice-granted.ensures, c.as_slice-members.ensures) at c.in_ok-memberships.ensures in
    rw (list rising) (all_rise (memberships_of s.roles s.members s.with_admin_option) c.args.memberships.now.items rising)
