-- What a database says of itself apart from its rows, with the numbers that stand for tables in its records.
use Rattle.std.specs.Prelude.{ℕ, List, [], ◌∷◌, map, flat_map}
use Rattle.std.specs.declared.cmp.Ordering.{Ordering}
use Rattle.sql_types.specs.Row.{Row}
use Rattle.sql_ast.specs.declared.role.Role.{Role}
use Rattle.sql_ast.specs.declared.role.Membership.{Membership}
use Rattle.sql_ast.specs.declared.privilege.Descriptor.{Descriptor}
use Rattle.sql_ast.specs.declared.policy.Policy.{Policy}
use Rattle.abstract_database.specs.Lists.{name_cmp}
use Rattle.abstract_database.specs.Database.{TableOf, Table, Database}

-- a table apart from its rows: its number, what is said of it, the privilege descriptors for it and the policies of it
pub record TableDefinition : Type 0 where
  pub id : ℕ
  pub definition : TableOf
  pub descriptors : List Descriptor
  pub policies : List Policy

-- a database apart from its rows; each list is in the order of the database
pub record Definitions : Type 0 where
  pub roles : List Role
  pub memberships : List Membership
  pub tables : List TableDefinition

-- tables by name
abbrev pub definition_cmp : TableDefinition → TableDefinition → Ordering
definition_cmp t u = name_cmp t.definition.name u.definition.name

-- the numbers of the tables
abbrev pub ids_of : List TableDefinition → List ℕ
ids_of tables = map (λ (t : TableDefinition). t.id) tables

-- the tables with their numbers, descriptors and policies aside
abbrev pub numbered_tables : List TableDefinition → List (ℕ × TableOf)
numbered_tables tables = map (λ (t : TableDefinition). (t.id, t.definition)) tables

-- ---- databases

abbrev pub table_with : TableDefinition → List Row → Table
table_with t rows = record { definition = t.definition; rows = rows }

-- the tables, each with its rows
abbrev pub tables_with : List TableDefinition → List (List Row) → List Table
tables_with (t ∷ ts) (rows ∷ more) = table_with t rows ∷ tables_with ts more
tables_with _ _ = []

abbrev pub descriptors_of : List TableDefinition → List Descriptor
descriptors_of tables = flat_map (λ (t : TableDefinition). t.descriptors) tables

abbrev pub policies_of : List TableDefinition → List Policy
policies_of tables = flat_map (λ (t : TableDefinition). t.policies) tables

-- the database of these definitions and rows: the numbers of tables are no part of it
abbrev pub database_with : Definitions → List (List Row) → Database
database_with d rows = record {
  roles = d.roles;
  memberships = d.memberships;
  tables = tables_with d.tables rows;
  descriptors = descriptors_of d.tables;
  policies = policies_of d.tables;
}

-- the database of these definitions that has no row
abbrev pub database_of : Definitions → Database
database_of d = record {
  roles = d.roles;
  memberships = d.memberships;
  tables = map (λ t. table_with t []) d.tables;
  descriptors = descriptors_of d.tables;
  policies = policies_of d.tables;
}
