-- What is asked of CREATE POLICY and DROP POLICY, once their table is found.
use Rattle.std.specs.Prelude.{◌≡◌, Bool, not, ◌&&◌, nat_le, List, [], ◌∷◌, unwrap_or, Option, None, Some, Result, Ok}
use Rattle.std.specs.List.{list_any}
use Rattle.sql_types.specs.declared.state.SqlState.{SqlState}
use Rattle.sql_types.specs.declared.state.SqlState.TheVariants.{UndefinedObject, DuplicateObject, InsufficientPrivilege, ProgramLimitExceeded}
use Rattle.sql_ast.specs.declared.columns.ColumnType.TheVariants.{Boolean}
use Rattle.sql_ast.specs.declared.policy.Policy.{Policy}
use Rattle.sql_ast.specs.declared.policy.PolicyClause.{PolicyClause}
use Rattle.sql_ast.specs.declared.statement.CreatePolicy.{CreatePolicy}
use Rattle.sql_ast.specs.declared.statement.DropPolicy.{DropPolicy}
use Rattle.sql_ast.specs.Rows.{max_value_length}
use Rattle.sql_ast.specs.Scope.{Table}
use Rattle.expressions.specs.Parts.{Part, resolve_parts, check_expressions}
use Rattle.expressions.specs.Stages.{◌>>=◌, require}
use Rattle.expressions.specs.Types.{TypedTerm}
use Rattle.abstract_database.specs.Lists.{TheName}
use Rattle.abstract_database.specs.Database.{is_policy_named}
use Rattle.abstract_database.specs.Roles.{acts_as_owner}
use Rattle.abstract_database.specs.Sizes.{policy_size}
use Rattle.abstract_database.specs.Definitions.{policy_of}
use Rattle.abstract_database.specs.Checks.{require_roles, grantee_roles, policy_parts, has_few_roles}
use Rattle.stored_database.specs.Definitions.{TableDefinition, Definitions, database_of}

-- a policy is for 255 roles at most, and its record takes 1,200 bytes at most
abbrev pub keeps_limits : Policy → Bool
keeps_limits p = has_few_roles p.roles && nat_le (policy_size p) max_value_length

-- the role is a superuser or in the owner of the table
abbrev pub require_owner : Definitions → TheName → TableDefinition → Result (Unit {0}) SqlState
require_owner d current t = require (acts_as_owner (database_of d) current t.definition.owner) InsufficientPrivilege

-- what may be a condition, over these tables
abbrev pub parts_over : List Table → Option PolicyClause → List Part
parts_over scope None = []
parts_over scope (Some c) = record { scope = scope; term = c.expression; expected = Some Boolean } ∷ []

-- where there is a condition, the first of what was bound is taken off for it
abbrev pub Takes : Option PolicyClause → List TypedTerm → List TypedTerm → Option TypedTerm → Type 0
Takes None old new taken = (taken ≡ None) × (new ≡ old)
Takes (Some c) old new None = old ≡ []
Takes (Some c) old new (Some e) = old ≡ e ∷ new

-- the names of all are resolved, and then the types of all are those that are expected
abbrev pub are_conditions : List Part → Result (Unit {0}) SqlState
are_conditions parts = do
  named ← resolve_parts parts
  typed ← check_expressions parts
  Ok tt

-- the roles are there, the name is new, the conditions are BOOLEAN expressions over the columns, the role may change the table,
-- and the policy keeps to the limits
abbrev pub may_create : Definitions → TheName → TableDefinition → CreatePolicy → Result (Unit {0}) SqlState
may_create d current t s = do
  known ← require_roles (database_of d) (grantee_roles (unwrap_or s.grantees []))
  new ← require (not (list_any (is_policy_named s.table s.policy) t.policies)) DuplicateObject
  bound ← are_conditions (policy_parts t.definition s)
  allowed ← require_owner d current t
  require (keeps_limits (policy_of s)) ProgramLimitExceeded

-- the policy is there, and the role may change the table
abbrev pub may_drop : Definitions → TheName → TableDefinition → DropPolicy → Result (Unit {0}) SqlState
may_drop d current t s = do
  there ← require (list_any (is_policy_named s.table s.policy) t.policies) UndefinedObject
  require_owner d current t
