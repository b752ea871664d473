-- Which definitions a database may have.
use Rattle.std.specs.Prelude.{◌≡◌, ◌≤◌, nat_eq, IsTrue, List, length}
use Rattle.sql_types.specs.Row.{Row}
use Rattle.sql_ast.specs.declared.privilege.Descriptor.{Descriptor}
use Rattle.sql_ast.specs.declared.policy.Policy.{Policy}
use Rattle.sql_ast.specs.Layout.{all_differ}
use Rattle.abstract_database.specs.Database.{Database}
use Rattle.abstract_database.specs.Whole.{Each, HasWholeDefinitions, HasWholeRows, clauses_of, max_tables}
use Rattle.stored_database.specs.Definitions.{TableDefinition, Definitions, ids_of, database_with, database_of}
use Rattle.expr_parser.specs.Written.{IsAsWritten}

-- the descriptors of the table are for it
abbrev pub HasOwnDescriptors : TableDefinition → Type 0
HasOwnDescriptors t = Each (λ (d : Descriptor). d.table ≡ t.definition.name) t.descriptors

-- and its policies are of it
abbrev pub HasOwnPolicies : TableDefinition → Type 0
HasOwnPolicies t = Each (λ (p : Policy). p.table ≡ t.definition.name) t.policies

-- the number is from 1 to 1,024, and the descriptors and policies are of this table
pub record IsNumbered (t : TableDefinition) : Type 0 where
  pub least : 1 ≤ t.id
  pub most : t.id ≤ max_tables
  pub descriptors : HasOwnDescriptors t
  pub policies : HasOwnPolicies t

-- no two tables have one number
abbrev pub HaveOwnIds : List TableDefinition → Type 0
HaveOwnIds tables = IsTrue (all_differ nat_eq (ids_of tables))

-- the definitions of a whole database, with a number for each table, and with conditions that are read from their texts
pub record AreValid (d : Definitions) : Type 0 where
  pub whole : HasWholeDefinitions (database_of d)
  pub tables : Each IsNumbered d.tables
  pub ids : HaveOwnIds d.tables
  pub conditions : Each IsAsWritten (clauses_of (database_of d))

-- the definitions are those of the database, which is whole
pub record Describes (d : Definitions) (db : Database) : Type 0 where
  pub valid : AreValid d
  pub rows : List (List Row)
  pub each_table : length rows ≡ length d.tables
  pub is : db ≡ database_with d rows
  pub whole_rows : HasWholeRows db
