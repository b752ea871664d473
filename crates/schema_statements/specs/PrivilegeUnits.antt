-- The privileges that a statement names on a table, each once, and by whom each is granted.
use Rattle.std.specs.Prelude.{nat_eq, Bool, not, ◌&&◌, if◌then◌else◌, List, [], ◌∷◌, ◌++◌, position, Option, is_some}
use Rattle.std.specs.List.{list_any, list_all}
use Rattle.std.specs.Option.{option_eq, option_map}
use Rattle.sql_ast.specs.Layout.{Layout}
use Rattle.sql_ast.specs.declared.privilege.Privilege.{Privilege}
use Rattle.sql_ast.specs.declared.privilege.Grantee.{Grantee}
use Rattle.sql_ast.specs.declared.privilege.Descriptor.{Descriptor}
use Rattle.sql_ast.specs.declared.statement.Privileges.{Privileges}
use Rattle.sql_ast.specs.declared.statement.Privileges.TheVariants as privileges
use Rattle.abstract_database.specs.Lists.{TheName}
use Rattle.abstract_database.specs.Database.{Database, TableOf, same_action}
use Rattle.abstract_database.specs.Privileges.{is_column_named, acting_grantor, descriptors_by}
use Rattle.grant_graph.specs.Keys.{now_of}
use Rattle.schema_statements.specs.declared.grantors.NamedPrivilege.{NamedPrivilege}

-- ---- the columns that are named

-- whether a column has the name
abbrev pub is_column : Layout → TheName → Bool
is_column layout name = is_some (position (is_column_named name) layout.columns)

-- ---- the privileges, each once

abbrev pub same_privilege : Privilege → Privilege → Bool
same_privilege p q = same_action p.action q.action && option_eq nat_eq p.column q.column

-- the list with a privilege more, unless it is there
abbrev pub with_one : List Privilege → Privilege → List Privilege
with_one units p = if list_any (same_privilege p) units then units else units ++ p ∷ []

-- the list with each of some privileges
abbrev pub with_each : List Privilege → List Privilege → List Privilege
with_each units [] = units
with_each units (p ∷ ps) = with_each (with_one units p) ps

-- ---- by whom they are granted

-- a privilege, and the role that grants it, if one does
abbrev pub ByRole : Type 0
ByRole = Privilege × Option TheName

abbrev pub by_role : NamedPrivilege → ByRole
by_role n = (n.privilege, option_map now_of n.by)

-- a privilege with its acting grantor
abbrev pub with_grantor : Database → TheName → TableOf → Privilege → ByRole
with_grantor db role table p = (p, acting_grantor db role table p)

-- whether someone grants it
abbrev pub has_grantor : NamedPrivilege → Bool
has_grantor n = is_some n.by

-- whether one of the privileges has no acting grantor, or with ALL none of them has one
abbrev pub leaves_out_by : List NamedPrivilege → Privileges → Bool
leaves_out_by all (privileges.All columns) = not (list_any has_grantor all)
leaves_out_by all (privileges.Actions actions) = not (list_all has_grantor all)

-- the descriptors of a privilege by its acting grantor, to each of the grantees
abbrev pub descriptors_for : TheName → List Grantee → Bool → NamedPrivilege → List Descriptor
descriptors_for table grantees grantable n = descriptors_by table grantees grantable n.privilege (option_map now_of n.by)
