-- Laws of what GRANT and REVOKE leave of the memberships of roles.
use Rattle.std.specs.Prelude.{◌≡◌, ◌⊎◌, ◌↔◌, true, false, List, Ok}
use Rattle.sql_ast.specs.declared.role.Membership.{Membership}
use Rattle.sql_ast.specs.declared.statement.DatabaseStatement.TheVariants as on_database
use Rattle.sql_ast.specs.declared.statement.DefiningStatement.TheVariants as defining
use Rattle.sql_ast.specs.declared.statement.GrantRole.{GrantRole}
use Rattle.sql_ast.specs.declared.statement.RevokeRole.{RevokeRole}
use Rattle.abstract_database.specs.Lists.{TheName, Among}
use Rattle.abstract_database.specs.Database.{Database}
use Rattle.abstract_database.specs.Statements.{Effect, UserPair, exec}

-- the membership is of one of these roles, and of one of these members
abbrev pub IsNamed : List TheName → List TheName → Membership → Type 0
IsNamed roles members m = Among m.role roles × Among m.member members

-- ---- GRANT

-- a GRANT of roles, and what it leaves
abbrev pub GrantsRoles : Database → UserPair → GrantRole → Effect → Type 0
GrantsRoles db pair s e = exec db pair (on_database.Defining (defining.GrantRole s)) ≡ Ok e

-- a membership after GRANT was there, or is one that the statement names, with the option that it gives
abbrev pub grants_give_named_memberships : Type 0
grants_give_named_memberships = (db : Database) (pair : UserPair) (s : GrantRole) (e : Effect) → GrantsRoles db pair s e →
    (m : Membership) → Among m e.database.memberships → Among m db.memberships ⊎ (IsNamed s.roles s.members m × (m.admin ≡ s.with_admin_option))

-- the membership is there, if perhaps with the admin option of another grant
abbrev pub IsHeld : Database → Membership → Type 0
IsHeld db m = Among m db.memberships ⊎ Among (record m { admin = true }) db.memberships

-- it gives each of those, with at least the option that it gives
abbrev pub grants_give_all_memberships : Type 0
grants_give_all_memberships = (db : Database) (pair : UserPair) (s : GrantRole) (e : Effect) → GrantsRoles db pair s e →
    (m : Membership) → IsNamed s.roles s.members m → m.admin ≡ s.with_admin_option → IsHeld e.database m

-- it takes none and no option of one, and changes nothing but memberships
abbrev pub grants_take_no_membership : Type 0
grants_take_no_membership = (db : Database) (pair : UserPair) (s : GrantRole) (e : Effect) → GrantsRoles db pair s e →
    ((m : Membership) → Among m db.memberships → IsHeld e.database m) × (e.database ≡ record db { memberships = e.database.memberships })

-- ---- REVOKE

-- a REVOKE of roles, and what it leaves
abbrev pub RevokesRoles : Database → UserPair → RevokeRole → Effect → Type 0
RevokesRoles db pair s e = exec db pair (on_database.Defining (defining.RevokeRole s)) ≡ Ok e

-- a membership that the statement does not name
abbrev pub IsUnnamed : Database → RevokeRole → Membership → Type 0
IsUnnamed db s m = Among m db.memberships × (IsNamed s.roles s.members m → ⊥)

-- REVOKE of roles, not of their admin option alone, leaves each membership that it does not name, and no other
abbrev pub revoke_takes_memberships : Type 0
revoke_takes_memberships = (db : Database) (pair : UserPair) (s : RevokeRole) (e : Effect) → s.admin_option_for ≡ false → RevokesRoles db pair s e →
    (m : Membership) → Among m e.database.memberships ↔ IsUnnamed db s m

-- a membership that the statement names, without the option
pub record LosesOption (db : Database) (s : RevokeRole) (m : Membership) : Type 0 where
  pub old : Membership
  pub was_there : Among old db.memberships
  pub named : IsNamed s.roles s.members old
  pub is : m ≡ record old { admin = false }

-- REVOKE of the admin option leaves each membership: those that it names without the option, and the others as they were
abbrev pub revoke_clears_options : Type 0
revoke_clears_options = (db : Database) (pair : UserPair) (s : RevokeRole) (e : Effect) → s.admin_option_for ≡ true → RevokesRoles db pair s e →
    (m : Membership) → Among m e.database.memberships ↔ (IsUnnamed db s m ⊎ LosesOption db s m)

-- it changes nothing but memberships
abbrev pub revokes_change_memberships : Type 0
revokes_change_memberships = (db : Database) (pair : UserPair) (s : RevokeRole) (e : Effect) → RevokesRoles db pair s e →
    e.database ≡ record db { memberships = e.database.memberships }
