-- The tables of a plan are the catalogue's.
use Rattle.std.proofs.Common.{◌≡◌, List, find, Ok, sym, subst}
use Rattle.sql_ast.specs.declared.statement.TableReference.{TableReference}
use Rattle.abstract_database.specs.Lists.{TheName}
use Rattle.abstract_database.proofs.ResultLemmas.{each_from}
use Rattle.stored_database.specs.Definitions.{TableDefinition, Definitions}
use Rattle.catalogue.specs.Lookups.{is_definition_named}
use Rattle.planner.specs.Tables.{table_in, tables_for, IsTableNamed, AreTablesOf}
use Rattle.planner.proofs.Checking.{found_inside, find_among}

pub is_named : (d : Definitions) (name : TheName) (t u : TableDefinition) → table_in d name ≡ Ok t → u ≡ t → IsTableNamed d name u
is_named d name t u e same =
    let found = found_inside (find (is_definition_named name) d.tables) t e in
    subst (IsTableNamed d name) (sym same) (record { found = found; among = find_among (is_definition_named name) d.tables t found })

pub are_tables : (d : Definitions) (refs : List TableReference) (ts : List TableDefinition) → tables_for d refs ≡ Ok ts → AreTablesOf d refs ts
are_tables d refs ts e = record {
  found = e;
  among = λ t h. let from = each_from (λ (r : TableReference). table_in d r.table) refs ts e t h in
      find_among (is_definition_named from.0.table) d.tables t (found_inside (find (is_definition_named from.0.table) d.tables) t from.2);
}
