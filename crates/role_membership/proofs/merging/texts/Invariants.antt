use Rattle.std.proofs.Common.{◌≡◌, take}
use Rattle.sql_types.specs.Name.{IsName}
use Rattle.abstract_database.specs.Lists.{TheName, Among}
use Rattle.role_membership.specs.Merging.{texts}
use Rattle.role_membership.proofs.merging.texts.Given as goal

abbrev pub invariant-loop-name : goal.invariant-loop-name
invariant-loop-name l = record {
  same : texts l.list.items ≡ take l.name-index l.names;
  names : (s : TheName) → Among s (texts l.list.items) → IsName s;
}
