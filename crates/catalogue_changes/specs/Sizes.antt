-- Which policies and privilege descriptors have parts that a record can count.
use Rattle.std.specs.Prelude.{◌≤◌, ◌<◌, ◌^◌, length, IfSome}
use Rattle.sql_ast.specs.declared.privilege.Descriptor.{Descriptor}
use Rattle.sql_ast.specs.declared.policy.Policy.{Policy}
use Rattle.sql_ast.specs.declared.policy.PolicyClause.{PolicyClause}
use Rattle.sql_ast.specs.declared.policy.PolicyRoles.{PolicyRoles}
use Rattle.sql_ast.specs.declared.policy.PolicyRoles.TheVariants as roles
use Rattle.abstract_database.specs.Whole.{max_policy_roles}
use Rattle.stored_database.specs.RecordFormat.{place_byte}

-- a byte has room for the place
abbrev pub HasPlace : Descriptor → Type 0
HasPlace d = place_byte d.column < 2 ^ 8

-- a byte counts the roles
abbrev pub HasCountableRoles : PolicyRoles → Type 0
HasCountableRoles roles.Public = Unit {0}
HasCountableRoles (roles.Only names) = length names ≤ max_policy_roles

-- two bytes count the bytes of the text
abbrev pub HasShortText : PolicyClause → Type 0
HasShortText c = length c.text < 2 ^ 16

-- the parts of the policy are short enough to be counted
pub record FitsRecord (p : Policy) : Type 0 where
  pub roles : HasCountableRoles p.roles
  pub using : IfSome p.using HasShortText
  pub check : IfSome p.check HasShortText
