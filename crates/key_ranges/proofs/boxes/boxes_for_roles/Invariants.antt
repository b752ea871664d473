use Rattle.std.proofs.Common.{◌≡◌, ◌++◌, drop, map}
use Rattle.key_ranges.specs.Boxes.{boxes_for_roles}
use Rattle.key_ranges.proofs.boxes.boxes_for_roles.Given as goal

-- what is left to be pushed
abbrev pub invariant-loop-role : goal.invariant-loop-role
invariant-loop-role l = boxes_for_roles (map (λ role. role.now) l.roles) l.column ≡ l.boxes ++ boxes_for_roles (map (λ role. role.now) (drop l.role-index l.roles)) l.column
