-- The descriptors that a statement names.
use Rattle.std.specs.Prelude.{◌≡◌, Bool, List, []}
use Rattle.sql_ast.specs.declared.privilege.Grantor.TheVariants as grantor
use Rattle.sql_ast.specs.declared.privilege.Privilege.{Privilege}
use Rattle.sql_ast.specs.declared.privilege.Grantee.{Grantee}
use Rattle.sql_ast.specs.declared.privilege.Descriptor.{Descriptor}
use Rattle.sql_ast.specs.declared.statement.Privileges.{Privileges}
use Rattle.abstract_database.specs.Lists.{TheName}
use Rattle.abstract_database.specs.Database.{Database, TableOf}
use Rattle.abstract_database.specs.Privileges.{privileges_of, granted_by, leaves_out, with_descriptors}
use Rattle.schema_statements.specs.declared.named_descriptors.Named.{Named}

-- a privilege on a table by a role, for one grantee
abbrev pub descriptor_of : TheName → Bool → Privilege → TheName → Grantee → Descriptor
descriptor_of table grantable p by g = record { grantor = grantor.Role by; grantee = g; table = table; action = p.action; column = p.column; grantable = grantable }

-- what a statement of this role names on this table
pub record IsNamed (db : Database) (role : TheName) (table : TableOf) (privileges : Privileges) (grantees : List Grantee) (grantable : Bool) (n : Named) : Type 0 where
  pub descriptors : n.descriptors.items ≡ with_descriptors (granted_by db role table (privileges_of table.layout privileges) grantees grantable) []
  pub leaves_out : n.leaves_out ≡ leaves_out db role table privileges
