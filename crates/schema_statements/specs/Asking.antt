-- Who runs a statement on the privileges of a table.
use Rattle.std.specs.Prelude.{◌≡◌, ◌&&◌, Bool, [], bytes_eq}
use Rattle.sql_ast.specs.declared.privilege.Descriptor.{Descriptor}
use Rattle.abstract_database.specs.Privileges.{reaches as reaches_grantee}
use Rattle.abstract_database.specs.Lists.{TheName, has_name}
use Rattle.abstract_database.specs.Roles.{is_in}
use Rattle.abstract_database.specs.Database.{Database}
use Rattle.stored_database.specs.Definitions.{TableDefinition, Definitions}
use Rattle.schema_statements.specs.declared.requester.Requester.{Requester}

-- the roles, the memberships and the descriptors that a statement on the privileges of a table looks at
abbrev pub asked_of : Definitions → TableDefinition → Database
asked_of d t = record { roles = d.roles; memberships = d.memberships; tables = []; descriptors = t.descriptors; policies = [] }

-- the same of who asks
abbrev pub asked_by : Requester → Database
asked_by a = asked_of a.catalogue.now a.table.now

-- these are the roles that the role is in
abbrev pub IsRequester : Requester → Type 0
IsRequester a = (s : TheName) → has_name s a.roles.now ≡ is_in a.catalogue.now.memberships a.role.now s

-- the descriptor is for the table and concerns the role
abbrev pub reaches : Requester → Descriptor → Bool
reaches a d = bytes_eq d.table a.table.now.definition.name && reaches_grantee a.catalogue.now.memberships a.role.now d.grantee
