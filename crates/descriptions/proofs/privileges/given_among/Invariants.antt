use Rattle.std.proofs.Common.{map, drop}
use Rattle.descriptions.specs.Descriptions.{is_one}
use Rattle.descriptions.proofs.Finding.{Finds}
use Rattle.descriptions.proofs.privileges.given_among.Given as goal

abbrev pub invariant-loop-descriptor : goal.invariant-loop-descriptor
invariant-loop-descriptor l = Finds (λ d. is_one l.roles d.grantee) l.descriptors (drop l.descriptor-index l.descriptors) (map (λ d. d.now) l.found.items)
