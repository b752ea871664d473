-- Laws of GRANT and REVOKE as statements: what they name, what they give, what they take, and who grants.
use Rattle.std.specs.Prelude.{◌≡◌, ◌⊎◌, ◌↔◌, Bool, true, false, List, Some, None, Ok, Err}
use Rattle.sql_types.specs.declared.state.SqlState.TheVariants.{DependentPrivileges}
use Rattle.sql_types.specs.declared.answer.Answer.{Answer}
use Rattle.sql_types.specs.declared.answer.Answer.TheVariants as answer
use Rattle.sql_types.specs.declared.tag.Tag.{Tag}
use Rattle.sql_types.specs.declared.tag.Tag.TheVariants as tag
use Rattle.sql_types.specs.declared.warning.Warning.{Warning}
use Rattle.sql_types.specs.declared.warning.Warning.TheVariants as warning
use Rattle.sql_ast.specs.declared.statement.Privileges.{Privileges}
use Rattle.sql_ast.specs.declared.statement.Privileges.TheVariants as privileges
use Rattle.sql_ast.specs.declared.privilege.Privilege.{Privilege}
use Rattle.sql_ast.specs.declared.privilege.Grantor.TheVariants as grantor
use Rattle.sql_ast.specs.declared.privilege.Grantee.{Grantee}
use Rattle.sql_ast.specs.declared.privilege.Grantee.TheVariants as grantee
use Rattle.sql_ast.specs.declared.privilege.Descriptor.{Descriptor}
use Rattle.sql_ast.specs.declared.statement.Grant.{Grant}
use Rattle.sql_ast.specs.declared.statement.Revoke.{Revoke}
use Rattle.expressions.specs.Meaning.{UserNames}
use Rattle.abstract_database.specs.Lists.{TheName, Among}
use Rattle.abstract_database.specs.Database.{TableOf, Database, definition_named}
use Rattle.abstract_database.specs.Roles.{IsIn}
use Rattle.abstract_database.specs.Privileges.{IsSupported, IsFor, covers, acting_grantor, privilege_of, privileges_of, is_cascade, without_option}
use Rattle.abstract_database.specs.Statements.{Effect, grant, revoke}
use Rattle.abstract_database.specs.Whole.{IsWhole}
use Rattle.database_laws.specs.Privileges.{IsUndoing}
use Rattle.database_laws.specs.Rights.{ActsAs}

-- ---- who grants

-- the role may grant the privilege on the table again: a grantable descriptor is to it
abbrev pub HoldsGrantOption : Database → TheName → TheName → Privilege → Type 0
HoldsGrantOption db role table p = (d : Descriptor) × Among d db.descriptors × IsFor table p d × (d.grantable ≡ true) × (d.grantee ≡ grantee.Role role)

-- the acting grantor is the owner, of one that acts as the owner, or a role that this one is in and that holds a grant option
abbrev pub acting_grantors_may_grant : Type 0
acting_grantors_may_grant = (db : Database) (role : TheName) (t : TableOf) (p : Privilege) (by : TheName) → acting_grantor db role t p ≡ Some by →
    (ActsAs db role t.owner × (by ≡ t.owner)) ⊎ (IsIn db.memberships role by × HoldsGrantOption db by t.name p)

-- one that acts as the owner grants as the owner
abbrev pub owners_are_acting_grantors : Type 0
owners_are_acting_grantors = (db : Database) (role : TheName) (t : TableOf) (p : Privilege) → ActsAs db role t.owner → acting_grantor db role t p ≡ Some t.owner

-- ---- what a statement names

-- a descriptor as a GRANT names it, its option aside: for the table and one of the privileges, to one of the grantees, by the
-- acting grantor
pub record IsNamed (db : Database) (role : TheName) (t : TableOf) (privileges : List Privilege) (grantees : List Grantee) (d : Descriptor) : Type 0 where
  pub for_table : d.table ≡ t.name
  pub for_privilege : Among (privilege_of d) privileges
  pub to_grantee : Among d.grantee grantees
  pub by : TheName
  pub acting : acting_grantor db role t (privilege_of d) ≡ Some by
  pub by_grantor : d.grantor ≡ grantor.Role by

-- a descriptor as a REVOKE names it: for the table, for one of the privileges or a column that it covers, to one of the grantees,
-- by the acting grantor for that privilege
pub record IsTaken (db : Database) (role : TheName) (t : TableOf) (privileges : List Privilege) (grantees : List Grantee) (d : Descriptor) : Type 0 where
  pub for_table : d.table ≡ t.name
  pub privilege : Privilege
  pub named : Among privilege privileges
  pub action : privilege.action ≡ d.action
  pub covered : covers privilege.column d.column ≡ true
  pub to_grantee : Among d.grantee grantees
  pub by : TheName
  pub acting : acting_grantor db role t privilege ≡ Some by
  pub by_grantor : d.grantor ≡ grantor.Role by

-- ---- GRANT

-- a GRANT on a table of a whole database, and what it leaves
pub record Grants (db : Database) (users : UserNames) (g : Grant) (t : TableOf) (e : Effect) : Type 0 where
  pub whole : IsWhole db
  pub table_is : definition_named db g.table ≡ Some t
  pub succeeds : grant db users g ≡ Ok e

abbrev pub IsNamedByGrant : Database → UserNames → Grant → TableOf → Descriptor → Type 0
IsNamedByGrant db users g t d = IsNamed db users.current t (privileges_of t.layout g.privileges) g.grantees d

-- a descriptor after a GRANT was there, or is given, or was there and is given the option
pub data IsAfterGrant (db : Database) (given : Descriptor → Type 0) (option : Bool) (d : Descriptor) : Type 0 where
  was_there : Among d db.descriptors → IsAfterGrant db given option d
  is_given : given d → d.grantable ≡ option → IsAfterGrant db given option d
  is_raised : (old : Descriptor) → Among old db.descriptors → given old → option ≡ true → d ≡ record old { grantable = true } → IsAfterGrant db given option d

-- GRANT gives nothing else than it names
abbrev pub grants_give_what_they_name : Type 0
grants_give_what_they_name = (db : Database) (users : UserNames) (g : Grant) (t : TableOf) (e : Effect) → Grants db users g t e →
    (d : Descriptor) → Among d e.database.descriptors → IsAfterGrant db (IsNamedByGrant db users g t) g.with_grant_option d

-- the descriptor is there, if perhaps with the option of another grant
abbrev pub IsHeld : Database → Descriptor → Type 0
IsHeld db d = Among d db.descriptors ⊎ Among (record d { grantable = true }) db.descriptors

-- it gives all of that
abbrev pub grants_give_all_they_name : Type 0
grants_give_all_they_name = (db : Database) (users : UserNames) (g : Grant) (t : TableOf) (e : Effect) → Grants db users g t e →
    (d : Descriptor) → IsNamedByGrant db users g t d → d.grantable ≡ g.with_grant_option → IsHeld e.database d

-- it takes nothing, and changes nothing but descriptors
abbrev pub grants_take_nothing : Type 0
grants_take_nothing = (db : Database) (users : UserNames) (g : Grant) (t : TableOf) (e : Effect) → Grants db users g t e →
    ((d : Descriptor) → Among d db.descriptors → IsHeld e.database d) × (e.database ≡ record db { descriptors = e.database.descriptors })

-- ---- REVOKE

-- a REVOKE on a table of a whole database, and what it leaves
pub record Revokes (db : Database) (users : UserNames) (r : Revoke) (t : TableOf) (e : Effect) : Type 0 where
  pub whole : IsWhole db
  pub table_is : definition_named db r.table ≡ Some t
  pub succeeds : revoke db users r ≡ Ok e

abbrev pub IsNamedByRevoke : Database → UserNames → Revoke → TableOf → Descriptor → Type 0
IsNamedByRevoke db users r t d = IsTaken db users.current t (privileges_of t.layout r.privileges) r.grantees d

-- what remains once the named descriptors are gone, or with GRANT OPTION FOR have lost their option
pub data Remains (db : Database) (named : Descriptor → Type 0) (option_for : Bool) (d : Descriptor) : Type 0 where
  is_unnamed : Among d db.descriptors → (named d → ⊥) → Remains db named option_for d
  loses_option : (old : Descriptor) → option_for ≡ true → Among old db.descriptors → named old → d ≡ without_option old → Remains db named option_for d

abbrev pub RemainsAfter : Database → UserNames → Revoke → TableOf → Descriptor → Type 0
RemainsAfter db users r t d = Remains db (IsNamedByRevoke db users r t) r.grant_option_for d

-- RESTRICT takes the named descriptors, and no other
abbrev pub restrict_takes_the_named : Type 0
restrict_takes_the_named = (db : Database) (users : UserNames) (r : Revoke) (t : TableOf) (e : Effect) → Revokes db users r t e → is_cascade r.behavior ≡ false →
    (d : Descriptor) → Among d e.database.descriptors ↔ RemainsAfter db users r t d

-- CASCADE leaves just those that are supported in what remains
abbrev pub cascade_leaves_the_supported : Type 0
cascade_leaves_the_supported = (db : Database) (users : UserNames) (r : Revoke) (t : TableOf) (e : Effect) → Revokes db users r t e → is_cascade r.behavior ≡ true →
    (rest : List Descriptor) → ((d : Descriptor) → Among d rest ↔ RemainsAfter db users r t d) →
    (d : Descriptor) → Among d e.database.descriptors ↔ (Among d rest × IsSupported rest d)

-- what is left supports itself, and nothing but descriptors has changed
abbrev pub revokes_leave_the_supported : Type 0
revokes_leave_the_supported = (db : Database) (users : UserNames) (r : Revoke) (t : TableOf) (e : Effect) → Revokes db users r t e →
    ((d : Descriptor) → Among d e.database.descriptors → IsSupported e.database.descriptors d) × (e.database ≡ record db { descriptors = e.database.descriptors })

-- only RESTRICT refuses for dependents, and only where one of those that remain would be supported no more
abbrev pub refused_for_dependents : Type 0
refused_for_dependents = (db : Database) (users : UserNames) (r : Revoke) (t : TableOf) → IsWhole db → definition_named db r.table ≡ Some t → revoke db users r ≡ Err DependentPrivileges →
    (is_cascade r.behavior ≡ false)
    × ((rest : List Descriptor) → ((d : Descriptor) → Among d rest ↔ RemainsAfter db users r t d) → (d : Descriptor) × Among d rest × (IsSupported rest d → ⊥))

-- ---- warnings

-- a privilege that the statement names, on the table or on a column, has no acting grantor; with ALL none of them has one
abbrev pub LeavesOut : Database → TheName → TableOf → Privileges → Type 0
LeavesOut db role t (privileges.All columns) = (p : Privilege) → Among p (privileges_of t.layout (privileges.All columns)) → acting_grantor db role t p ≡ None
LeavesOut db role t (privileges.Actions actions) = (p : Privilege) × Among p (privileges_of t.layout (privileges.Actions actions)) × (acting_grantor db role t p ≡ None)

-- the statement succeeds, with this warning just where it leaves something out
pub data WarnsWhere (done : Tag) (w : Warning) (LeftOut : Type 0) (a : Answer) : Type 0 where
  with_warning : LeftOut → a ≡ answer.Done done None (Some w) → WarnsWhere done w LeftOut a
  without_one : (LeftOut → ⊥) → a ≡ answer.Done done None None → WarnsWhere done w LeftOut a

abbrev pub grants_warn : Type 0
grants_warn = (db : Database) (users : UserNames) (g : Grant) (t : TableOf) (e : Effect) → Grants db users g t e →
    WarnsWhere tag.Grant warning.PrivilegeNotGranted (LeavesOut db users.current t g.privileges) e.answer

abbrev pub revokes_warn : Type 0
revokes_warn = (db : Database) (users : UserNames) (r : Revoke) (t : TableOf) (e : Effect) → Revokes db users r t e →
    WarnsWhere tag.Revoke warning.PrivilegeNotRevoked (LeavesOut db users.current t r.privileges) e.answer

-- ---- GRANT, then REVOKE

-- a GRANT where nothing was there that the REVOKE takes, with the option not to a role that the granting one is in, unless that
-- acts as the owner: it stays the acting grantor
pub record IsNewGrant (db : Database) (users : UserNames) (g : Grant) (r : Revoke) (t : TableOf) : Type 0 where
  pub is_new : (d : Descriptor) → Among d db.descriptors → IsNamedByRevoke db users r t d → ⊥
  pub to_others : g.with_grant_option ≡ true → (name : TheName) → Among (grantee.Role name) g.grantees → IsIn db.memberships users.current name → ActsAs db users.current t.owner

-- the REVOKE of the same by the same role succeeds, and leaves the database that was there
abbrev pub revoke_undoes_grant : Type 0
revoke_undoes_grant = (db : Database) (users : UserNames) (g : Grant) (t : TableOf) (after : Effect) (r : Revoke) → Grants db users g t after → IsNewGrant db users g r t → IsUndoing g r →
    (end : Effect) × (revoke after.database users r ≡ Ok end) × (end.database ≡ db)
