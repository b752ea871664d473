-- The tables that a statement names, in the definitions of a database.
use Rattle.std.specs.Prelude.{◌≡◌, List, map, find, Some, Result, Ok}
use Rattle.sql_types.specs.declared.state.SqlState.{SqlState}
use Rattle.sql_types.specs.declared.state.SqlState.TheVariants.{UndefinedTable}
use Rattle.sql_ast.specs.declared.statement.TableReference.{TableReference}
use Rattle.expressions.specs.Stages.{each}
use Rattle.abstract_database.specs.Lists.{TheName, Among, found_or}
use Rattle.abstract_database.specs.Database.{TableOf}
use Rattle.abstract_database.specs.Whole.{Each}
use Rattle.stored_database.specs.Definitions.{TableDefinition, Definitions}
use Rattle.catalogue.specs.Lookups.{is_definition_named}

-- the table of a name
abbrev pub table_in : Definitions → TheName → Result TableDefinition SqlState
table_in d name = found_or UndefinedTable (find (is_definition_named name) d.tables)

-- the tables of FROM
abbrev pub tables_for : Definitions → List TableReference → Result (List TableDefinition) SqlState
tables_for d references = each (λ r. table_in d r.table) references

-- what is said of the tables apart from their rows
abbrev pub definitions_in : List TableDefinition → List TableOf
definitions_in tables = map (λ t. t.definition) tables

-- the table of a name, and one of the catalogue's
pub record IsTableNamed (d : Definitions) (name : TheName) (t : TableDefinition) : Type 0 where
  pub found : find (is_definition_named name) d.tables ≡ Some t
  pub among : Among t d.tables

-- the tables of FROM, each of them one of the catalogue's
pub record AreTablesOf (d : Definitions) (references : List TableReference) (tables : List TableDefinition) : Type 0 where
  pub found : tables_for d references ≡ Ok tables
  pub among : Each (λ (t : TableDefinition). Among t d.tables) tables
