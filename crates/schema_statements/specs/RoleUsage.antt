-- Which tables of definitions use a role.
use Rattle.std.specs.Prelude.{Bool, ◌||◌, List, bytes_eq}
use Rattle.std.specs.List.{list_any}
use Rattle.sql_ast.specs.declared.privilege.Descriptor.{Descriptor}
use Rattle.sql_ast.specs.declared.policy.Policy.{Policy}
use Rattle.abstract_database.specs.Lists.{TheName}
use Rattle.abstract_database.specs.Database.{grantor_name, grantee_name}
use Rattle.abstract_database.specs.Definitions.{names_role}
use Rattle.stored_database.specs.Definitions.{TableDefinition}

-- the privilege was granted by the role or to it
abbrev pub is_of_role : TheName → Descriptor → Bool
is_of_role role d = bytes_eq (grantor_name d.grantor) role || bytes_eq (grantee_name d.grantee) role

-- the policy is for the role among others
abbrev pub is_for_role : TheName → Policy → Bool
is_for_role role p = names_role p.roles role

-- the role owns the table, stands in a privilege descriptor for it or is named by a policy of it
abbrev pub uses_role : TheName → TableDefinition → Bool
uses_role role t = bytes_eq t.definition.owner role || list_any (is_of_role role) t.descriptors || list_any (is_for_role role) t.policies

-- the role has to stay: a table uses it, or it is the current role or the login role
abbrev pub stays : TheName → TheName → TheName → List TableDefinition → Bool
stays role current session tables = list_any (uses_role role) tables || bytes_eq current role || bytes_eq session role
