-- The definitions that a catalogue holds, and their order.
use Rattle.std.specs.Prelude.{List}
use Rattle.sql_ast.specs.declared.role.Role.{Role}
use Rattle.sql_ast.specs.declared.role.Membership.{Membership}
use Rattle.abstract_database.specs.Lists.{Rising}
use Rattle.abstract_database.specs.Database.{role_cmp, membership_cmp}
use Rattle.stored_database.specs.Definitions.{TableDefinition, Definitions, definition_cmp}
use Rattle.catalogue.specs.declared.definitions.CatalogueParts.{CatalogueParts}

-- the definitions of these roles, memberships and tables
abbrev pub lists : List Role → List Membership → List TableDefinition → Definitions
lists roles memberships tables = record { roles = roles; memberships = memberships; tables = tables }

-- the definitions that the parts are
abbrev pub definitions_of : CatalogueParts → Definitions
definitions_of c = lists c.roles c.memberships c.tables

-- roles and tables are in the order of their names, memberships in that of role and member
pub record AreInOrder (d : Definitions) : Type 0 where
  pub roles : Rising role_cmp d.roles
  pub memberships : Rising membership_cmp d.memberships
  pub tables : Rising definition_cmp d.tables
