-- What is looked up in definitions.
use Rattle.std.specs.Prelude.{Bool, ◌&&◌, bytes_eq}
use Rattle.sql_ast.specs.declared.role.Membership.{Membership}
use Rattle.abstract_database.specs.Lists.{TheName}
use Rattle.stored_database.specs.Definitions.{TableDefinition}

abbrev pub is_definition_named : TheName → TableDefinition → Bool
is_definition_named name t = bytes_eq t.definition.name name

-- whether this is the membership of the member in the role
abbrev pub is_membership_of : TheName → TheName → Membership → Bool
is_membership_of role member m = bytes_eq m.role role && bytes_eq m.member member
