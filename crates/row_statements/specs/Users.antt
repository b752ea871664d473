-- Who acts in a statement over rows.
use Rattle.std.specs.Prelude.{List}
use Rattle.sql_ast.specs.declared.role.Membership.{Membership}
use Rattle.expressions.specs.Meaning.{UserNames}
use Rattle.abstract_database.specs.Lists.{TheName}
use Rattle.abstract_database.specs.Roles.{is_in}
use Rattle.planner.specs.declared.plans.Plan.{Plan}
use Rattle.planner.specs.declared.plans.Plan.TheVariants as plan

-- the users that a statement speaks of, where these are the memberships
abbrev pub seen_users : List Membership → TheName → TheName → UserNames
seen_users memberships current session = record { current = current; session = session; is_in = is_in memberships current }

-- the roles of a plan
abbrev pub roles_of : Plan → List TheName
roles_of (plan.Select p) = p.roles
roles_of (plan.Insert p) = p.roles
roles_of (plan.Update p) = p.roles
roles_of (plan.Delete p) = p.roles
