-- Which powers each role has over the whole database.
use Rattle.std.specs.Prelude.{◌≡◌, Bool, not, ◌&&◌, List, map, filter, bytes_eq}
use Rattle.sql_ast.specs.declared.role.Role.{Role}
use Rattle.sql_ast.specs.declared.role.Membership.{Membership}
use Rattle.abstract_database.specs.Lists.{TheName}
use Rattle.abstract_database.specs.Database.{Database, TableOf}
use Rattle.abstract_database.specs.Roles.{is_in}
use Rattle.abstract_database.specs.Whole.{Each}
use Rattle.table_access.specs.declared.powers.RolePowers.{RolePowers}
use Rattle.table_access.specs.Accesses.{IsActedAs}

-- by SET ROLE a role that is no superuser comes to another one; a superuser may set each role
abbrev pub comes_to : List Membership → Role → Role → Bool
comes_to ms role other = not role.attributes.superuser && not (bytes_eq role.name other.name) && is_in ms role.name other.name

abbrev pub is_owned_by : TheName → TableOf → Bool
is_owned_by owner t = bytes_eq t.owner owner

-- what there is of tables, their rows aside
abbrev pub definitions_in : Database → List TableOf
definitions_in db = map (λ t. t.definition) db.tables

-- the tables of which a role is the owner, and the roles that it comes to
pub record HasPowers (db : Database) (x : RolePowers) : Type 0 where
  pub owns : map (λ t. t.now.definition) x.owns.items ≡ filter (is_owned_by x.role.now.name) (definitions_in db)
  pub others : map (λ y. y.role.now) x.others.items ≡ filter (comes_to db.memberships x.role.now) db.roles
  pub memberships : Each (IsActedAs db.memberships x.role.now.name) x.others.items

-- each role of the database
pub record ArePowers (db : Database) (xs : List RolePowers) : Type 0 where
  pub roles : map (λ x. x.role.now) xs ≡ db.roles
  pub each : Each (HasPowers db) xs
