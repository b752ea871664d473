use Rattle.std.proofs.Common.{◌≡◌, [], fold, drop}
use Rattle.sql_ast.specs.declared.policy.PolicyRoles.TheVariants as roles
use Rattle.abstract_database.specs.Definitions.{with_grantee}
use Rattle.schema_statements.proofs.grantees.roles_among.Given as goal

-- the grantees to come are left to add to the names
abbrev pub invariant-loop-grantee : goal.invariant-loop-grantee
invariant-loop-grantee l = fold with_grantee (roles.Only []) l.grantees ≡ fold with_grantee (roles.Only l.names.items) (drop l.grantee-index l.grantees)
