use Rattle.std.proofs.Common.{◌≡◌, map, take}
use Rattle.abstract_database.specs.Privileges.{on_column, indices_of}
use Rattle.schema_statements.specs.PrivilegeUnits.{with_each}
use Rattle.schema_statements.proofs.privilege_units.add_on_each.Given as goal

abbrev pub invariant-loop-name : goal.invariant-loop-name
invariant-loop-name l = l.units.items ≡ with_each l.initial.units.items (map (on_column l.action) (indices_of l.columns (take l.name-index l.names)))
