use Rattle.std.proofs.Common.{◌≡◌, map, take}
use Rattle.schema_statements.specs.Asking.{asked_by}
use Rattle.schema_statements.specs.PrivilegeUnits.{by_role, with_grantor}
use Rattle.schema_statements.proofs.grantors.acting_grantors.Given as goal

abbrev pub invariant-loop-privilege : goal.invariant-loop-privilege
invariant-loop-privilege l = map by_role l.all.items ≡ map (with_grantor (asked_by l.requester) l.requester.role.now l.requester.table.now.definition) (take l.privilege-index l.privileges)
