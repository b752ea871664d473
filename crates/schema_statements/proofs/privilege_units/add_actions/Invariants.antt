use Rattle.std.proofs.Common.{◌≡◌, flat_map, take}
use Rattle.abstract_database.specs.Privileges.{on_each}
use Rattle.schema_statements.specs.PrivilegeUnits.{with_each}
use Rattle.schema_statements.proofs.privilege_units.add_actions.Given as goal

abbrev pub invariant-loop-named : goal.invariant-loop-named
invariant-loop-named l = l.units.items ≡ with_each l.initial.units.items (flat_map (λ a. on_each l.columns a.columns a.action) (take l.named-index l.actions))
