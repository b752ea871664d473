-- What the checks say of the role that issues a statement.
use Rattle.std.proofs.Common.{◌≡◌, ◌&&◌, true, not, List, bytes_eq, Result, Ok, Option, Some, None, refl, sym, ap, ◌∙◌, inl, inr}
use Rattle.std.specs.List.{list_any, list_all}
use Rattle.std.proofs.lemmas.Bool.{or_cases, and_parts, and_from}
use Rattle.sql_types.specs.declared.state.SqlState.{SqlState}
use Rattle.sql_types.specs.declared.state.SqlState.TheVariants.{UndefinedTable, InsufficientPrivilege}
use Rattle.sql_ast.specs.declared.role.Role.{Role}
use Rattle.sql_ast.specs.declared.role.Membership.{Membership}
use Rattle.sql_ast.specs.declared.privilege.Action.TheVariants as action
use Rattle.sql_ast.specs.declared.privilege.Descriptor.{Descriptor}
use Rattle.expressions.specs.Meaning.{UserNames}
use Rattle.expressions.specs.Stages.{◌>>=◌, require}
use Rattle.abstract_database.specs.Lists.{TheName, Among, found_or}
use Rattle.abstract_database.specs.Database.{TableOf, Database, is_role_named, definition_named}
use Rattle.abstract_database.specs.Roles.{is_in, IsSuperuser, is_superuser, acts_as_owner, administers, may_grant_role}
use Rattle.abstract_database.specs.Privileges.{IsFor, by_superuser, by_descriptor, on_table, privilege_of, reaches, has_some_privilege}
use Rattle.abstract_database.specs.Checks.{find_definition, require_owner, require_superuser}
use Rattle.abstract_database.proofs.ResultLemmas.{ok_inside, bind_ok, require_ok}
use Rattle.abstract_database.proofs.ElementLemmas.{any_found, any_holds}
use Rattle.abstract_database.proofs.ListLemmas.{bytes_same, same_bytes}
use Rattle.abstract_database.proofs.ChainLemmas.{found_role}
use Rattle.database_laws.specs.Rights.{ActsAs, ActsAsOwnerOf, HasAdminOption, MayGrantRole, HasSomePrivilege}
use Rattle.database_laws.proofs.HoldingLemmas.{reached}
use Rattle.database_laws.proofs.WholeLists.{each_passes}

module _ (db : Database) (role : TheName) where
  -- ---- what the tests say

  pub a_superuser : (name : TheName) → is_superuser db name ≡ true → IsSuperuser db name
  a_superuser name e =
      let found = any_found (λ (r : Role). is_role_named name r && r.attributes.superuser) db.roles e in
      let parts = and_parts (is_role_named name found.0) found.0.attributes.superuser found.2 in
      (found.0, found.1, bytes_same found.0.name name parts.0, parts.1)

  pub superuser_told : (name : TheName) → IsSuperuser db name → is_superuser db name ≡ true
  superuser_told name s =
      any_holds (λ (r : Role). is_role_named name r && r.attributes.superuser) db.roles s.0 s.1
      (and_from (is_role_named name s.0) s.0.attributes.superuser (same_bytes s.0.name name s.2) s.3)

  no_superuser : (name : TheName) → not (is_superuser db name) ≡ true → IsSuperuser db name → ⊥
  no_superuser name e s = let contrary : not true ≡ true = sym (ap not (superuser_told name s)) ∙ e in cc

  pub acts_as : (other : TheName) → acts_as_owner db role other ≡ true → ActsAs db role other
  acts_as other e = elim (or_cases (is_superuser db role) (is_in db.memberships role other) e) [
    | inl s ↦ inl (a_superuser role s)
    | inr i ↦ inr (found_role db.memberships role other i)
  ]

  admin_option : (granted : TheName) → administers db role granted ≡ true → HasAdminOption db role granted
  admin_option granted e =
      let found = any_found (λ (m : Membership). bytes_eq m.role granted && m.admin && is_in db.memberships role m.member) db.memberships e in
      let parts = and_parts (bytes_eq found.0.role granted && found.0.admin) (is_in db.memberships role found.0.member) found.2 in
      let first = and_parts (bytes_eq found.0.role granted) found.0.admin parts.0 in
      (found.0, found.1, bytes_same found.0.role granted first.0, first.1, found_role db.memberships role found.0.member parts.1)

  may_grant : (granted : TheName) → may_grant_role db role granted ≡ true → MayGrantRole db role granted
  may_grant granted e = elim (or_cases (is_superuser db role) (not (is_superuser db granted) && administers db role granted) e) [
    | inl s ↦ inl (a_superuser role s)
    | inr both ↦ let parts = and_parts (not (is_superuser db granted)) (administers db role granted) both in inr (no_superuser granted parts.0, admin_option granted parts.1)
  ]

  some_privilege : (table : TheName) → has_some_privilege db role table ≡ true → HasSomePrivilege db role table
  some_privilege table e = elim (or_cases (is_superuser db role) (list_any (λ d. bytes_eq d.table table && reaches db.memberships role d.grantee) db.descriptors) e) [
    | inl s ↦ (on_table action.Select, by_superuser (a_superuser role s))
    | inr some ↦
        let found = any_found (λ (d : Descriptor). bytes_eq d.table table && reaches db.memberships role d.grantee) db.descriptors some in
        let parts = and_parts (bytes_eq found.0.table table) (reaches db.memberships role found.0.grantee) found.2 in
        let for_it : IsFor table (privilege_of found.0) found.0 = record { table = bytes_same found.0.table table parts.0; action = refl; column = inr refl } in
        (privilege_of found.0, by_descriptor found.0 found.1 for_it (reached db.memberships role found.0.grantee parts.1))
  ]

pub defined_as : (code : SqlState) (o : Option TableOf) (t : TableOf) → found_or code o ≡ Ok t → o ≡ Some t
defined_as code None t e = cc
defined_as code (Some x) t e = ap (λ (y : TableOf). Some y) (ok_inside x t e)

-- ---- what the checks say

module _ (db : Database) (users : UserNames) where
  pub superuser_checked : (u : Unit {0}) → require_superuser db users ≡ Ok u → IsSuperuser db users.current
  superuser_checked u e = a_superuser db users.current users.current (require_ok (is_superuser db users.current) InsufficientPrivilege u e)

  pub owner_checked : (name : TheName) (t : TableOf) (u : Unit {0}) → find_definition db name ≡ Ok t → require_owner db users t ≡ Ok u → ActsAsOwnerOf db users.current name
  owner_checked name t u f e = (t, defined_as UndefinedTable (definition_named db name) t f, acts_as db users.current t.owner (require_ok (acts_as_owner db users.current t.owner) InsufficientPrivilege u e))

  pub grants_checked : (roles : List TheName) (u : Unit {0}) → require (list_all (may_grant_role db users.current) roles) InsufficientPrivilege ≡ Ok u → (granted : TheName) → Among granted roles → MayGrantRole db users.current granted
  grants_checked roles u e granted h = may_grant db users.current granted (each_passes (may_grant_role db users.current) roles (require_ok (list_all (may_grant_role db users.current) roles) InsufficientPrivilege u e) granted h)

  pub privilege_checked : (table : TheName) (u : Unit {0}) → require (has_some_privilege db users.current table) InsufficientPrivilege ≡ Ok u → HasSomePrivilege db users.current table
  privilege_checked table u e = some_privilege db users.current table (require_ok (has_some_privilege db users.current table) InsufficientPrivilege u e)

-- ---- steps one after the other

-- what holds wherever steps end well
abbrev pub Always : {A : Type 0} → Type 0 → Result A SqlState → Type 0
Always {A} P r = (a : A) → r ≡ Ok a → P

pub then : {A B : Type 0} (P : Type 0) (r : Result A SqlState) (go : A → Result B SqlState) → ((a : A) → r ≡ Ok a → Always P (go a)) → Always P (r >>= go)
then P r go h b e = let found = bind_ok r go b e in h found.0 found.1 b found.2

pub at_once : {A B : Type 0} (P : Type 0) (r : Result A SqlState) (go : A → Result B SqlState) → ((a : A) → r ≡ Ok a → P) → Always P (r >>= go)
at_once P r go h = then P r go (λ a e b f. h a e)
