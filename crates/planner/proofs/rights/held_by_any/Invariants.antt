use Rattle.std.proofs.Common.{map, take}
use Rattle.planner.specs.Rights.{IsGivenToAny}
use Rattle.planner.proofs.rights.held_by_any.Given as goal

abbrev pub invariant-loop-role : goal.invariant-loop-role
invariant-loop-role l = IsGivenToAny l.table.descriptors l.action (map (λ r. r.now) (take l.role-index l.roles)) l.mask
