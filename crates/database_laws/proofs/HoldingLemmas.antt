-- Who has a privilege.
use Rattle.std.proofs.Common.{◌≡◌, ◌⊎◌, ◌&&◌, ℕ, Bool, true, List, Option, Some, None, bytes_eq, refl, ap, ◌∙◌, sym, subst, inl, inr}
use Rattle.std.specs.List.{list_any}
use Rattle.sql_ast.specs.declared.role.Role.{Role}
use Rattle.sql_ast.specs.declared.role.Membership.{Membership}
use Rattle.sql_ast.specs.declared.privilege.Action.{Action}
use Rattle.sql_ast.specs.declared.privilege.Privilege.{Privilege}
use Rattle.sql_ast.specs.declared.privilege.Grantee.{Grantee}
use Rattle.sql_ast.specs.declared.privilege.Grantee.TheVariants as grantee
use Rattle.sql_ast.specs.declared.privilege.Descriptor.{Descriptor}
use Rattle.abstract_database.specs.Lists.{TheName}
use Rattle.abstract_database.specs.Database.{Database, same_action, is_role_named}
use Rattle.abstract_database.specs.Roles.{IsSuperuser, is_superuser}
use Rattle.abstract_database.specs.Privileges.{on_table, on_column, has_on_some_column, Reaches, by_public, by_role, IsFor, HasPrivilege, by_superuser, by_descriptor, has_privilege, covers, is_for, reaches}
use Rattle.std.proofs.lemmas.Bool.{or_cases, and_parts, or_left, or_right, and_from, eq-eqb, eqb-true}
use Rattle.abstract_database.proofs.Actions.{action_itself, actions_same}
use Rattle.abstract_database.proofs.ElementLemmas.{any_found, any_holds}
use Rattle.abstract_database.proofs.ListLemmas.{bytes_same, same_bytes}
use Rattle.abstract_database.proofs.ChainLemmas.{found_role, role_found}

pub covered_by : (a b : Option ℕ) → covers a b ≡ true → (a ≡ None) ⊎ (a ≡ b)
covered_by None b e = inl refl
covered_by (Some i) None e = cc
covered_by (Some i) (Some j) e = inr (ap Some (eqb-true i j e))

pub by_covering : (a b : Option ℕ) → (a ≡ None) ⊎ (a ≡ b) → covers a b ≡ true
by_covering None b h = refl
by_covering (Some i) b (inl e) = cc
by_covering (Some i) b (inr e) = ap (covers (Some i)) (sym e) ∙ eq-eqb i i refl

-- the parts of the test
pub is_one_for : (table : TheName) (p : Privilege) (d : Descriptor) → is_for table p d ≡ true → IsFor table p d
is_one_for table p d e =
    let parts = and_parts (bytes_eq d.table table && same_action d.action p.action) (covers d.column p.column) e in
    let front = and_parts (bytes_eq d.table table) (same_action d.action p.action) parts.0 in
    record { table = bytes_same d.table table front.0; action = actions_same d.action p.action front.1; column = covered_by d.column p.column parts.1 }

pub one_for : (table : TheName) (p : Privilege) (d : Descriptor) → IsFor table p d → is_for table p d ≡ true
one_for table p d is =
    and_from (bytes_eq d.table table && same_action d.action p.action) (covers d.column p.column)
    (and_from (bytes_eq d.table table) (same_action d.action p.action) (same_bytes d.table table is.table) (ap (λ (x : Action). same_action d.action x) (sym is.action) ∙ action_itself d.action))
    (by_covering d.column p.column is.column)

superuser_found : (db : Database) (name : TheName) → is_superuser db name ≡ true → IsSuperuser db name
superuser_found db name e =
    let found = any_found (λ (r : Role). is_role_named name r && r.attributes.superuser) db.roles e in
    let parts = and_parts (is_role_named name found.0) found.0.attributes.superuser found.2 in
    (found.0, found.1, bytes_same found.0.name name parts.0, parts.1)

found_superuser : (db : Database) (name : TheName) → IsSuperuser db name → is_superuser db name ≡ true
found_superuser db name s =
    any_holds (λ (r : Role). is_role_named name r && r.attributes.superuser) db.roles s.0 s.1
    (and_from (is_role_named name s.0) s.0.attributes.superuser (same_bytes s.0.name name s.2) s.3)

pub reached : (ms : List Membership) (role : TheName) (g : Grantee) → reaches ms role g ≡ true → Reaches ms role g
reached ms role grantee.Public e = by_public
reached ms role (grantee.Role name) e = by_role name (found_role ms role name e)

pub reaching : (ms : List Membership) (role : TheName) (g : Grantee) → Reaches ms role g → reaches ms role g ≡ true
reaching ms role grantee.Public r = refl
reaching ms role (grantee.Role name) (by_role n i) = role_found ms role name i

module _ (db : Database) (role table : TheName) (p : Privilege) where
  abbrev gives : Descriptor → Bool
  gives d = is_for table p d && reaches db.memberships role d.grantee

  pub privilege_given : has_privilege db role table p ≡ true → HasPrivilege db role table p
  privilege_given e = elim (or_cases (is_superuser db role) (list_any gives db.descriptors) e) [
    | inl s ↦ by_superuser (superuser_found db role s)
    | inr some ↦ let found = any_found gives db.descriptors some in
        let parts = and_parts (is_for table p found.0) (reaches db.memberships role found.0.grantee) found.2 in
        by_descriptor found.0 found.1 (is_one_for table p found.0 parts.0) (reached db.memberships role found.0.grantee parts.1)
  ]

  pub given_privilege : HasPrivilege db role table p → has_privilege db role table p ≡ true
  given_privilege (by_superuser s) = or_left (is_superuser db role) (list_any gives db.descriptors) (found_superuser db role s)
  given_privilege (by_descriptor d among is r) =
      or_right (is_superuser db role) (list_any gives db.descriptors)
      (any_holds gives db.descriptors d among
      (and_from (is_for table p d) (reaches db.memberships role d.grantee) (one_for table p d is)
      (reaching db.memberships role d.grantee r)))

-- ---- columns

module _ (db : Database) (role table : TheName) (a : Action) where
  wider : (index : ℕ) → HasPrivilege db role table (on_table a) → HasPrivilege db role table (on_column a index)
  wider index (by_superuser s) = by_superuser s
  wider index (by_descriptor d among is r) = by_descriptor d among (record { table = is.table; action = is.action; column = inl (elim is.column [ inl none ↦ none | inr none ↦ none ]) }) r

  -- a privilege on a table is one on each of its columns
  pub column_covered : (index : ℕ) → has_privilege db role table (on_table a) ≡ true → has_privilege db role table (on_column a index) ≡ true
  column_covered index e = given_privilege db role table (on_column a index) (wider index (privilege_given db role table (on_table a) e))

  abbrev gives_some : Descriptor → Bool
  gives_some d = bytes_eq d.table table && same_action d.action a && reaches db.memberships role d.grantee

  -- an action on some column is had by some privilege
  pub some_column_given : has_on_some_column db role table a ≡ true → (p : Privilege) × (p.action ≡ a) × (has_privilege db role table p ≡ true)
  some_column_given e = elim (or_cases (is_superuser db role) (list_any gives_some db.descriptors) e) [
    | inl s ↦ (on_table a, refl, or_left (is_superuser db role) (list_any (gives db role table (on_table a)) db.descriptors) s)
    | inr some ↦ let found = any_found gives_some db.descriptors some in
        let d = found.0 in
        let p : Privilege = record { action = a; column = d.column } in
        let parts = and_parts (bytes_eq d.table table && same_action d.action a) (reaches db.memberships role d.grantee) found.2 in (
          p,
          refl,
          or_right (is_superuser db role) (list_any (gives db role table p) db.descriptors)
              (any_holds (gives db role table p) db.descriptors d found.1
              (and_from (is_for table p d) (reaches db.memberships role d.grantee)
              (and_from (bytes_eq d.table table && same_action d.action a) (covers d.column d.column) parts.0 (by_covering d.column d.column (inr refl))) parts.1)),
        )
  ]

  pub some_column_had : (p : Privilege) → p.action ≡ a → has_privilege db role table p ≡ true → has_on_some_column db role table a ≡ true
  some_column_had p same e = elim (or_cases (is_superuser db role) (list_any (gives db role table p) db.descriptors) e) [
    | inl s ↦ or_left (is_superuser db role) (list_any gives_some db.descriptors) s
    | inr some ↦ let found = any_found (gives db role table p) db.descriptors some in
        let d = found.0 in
        let parts = and_parts (is_for table p d) (reaches db.memberships role d.grantee) found.2 in
        let front = and_parts (bytes_eq d.table table && same_action d.action p.action) (covers d.column p.column) parts.0 in
        or_right (is_superuser db role) (list_any gives_some db.descriptors)
        (any_holds gives_some db.descriptors d found.1
        (and_from (bytes_eq d.table table && same_action d.action a) (reaches db.memberships role d.grantee)
        (subst (λ (x : Action). (bytes_eq d.table table && same_action d.action x) ≡ true) same front.0) parts.1))
  ]
