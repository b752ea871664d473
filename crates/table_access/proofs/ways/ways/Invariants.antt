use Rattle.std.proofs.Common.{map, drop, ◌&&◌}
use Rattle.abstract_database.specs.Roles.{is_in}
use Rattle.descriptions.proofs.Finding.{Finds}
use Rattle.table_access.proofs.ways.ways.Given as goal

abbrev pub invariant-loop-one : goal.invariant-loop-one
invariant-loop-one l = Finds (λ m. is_in l.memberships l.role m.member && is_in l.memberships m.role l.other) l.memberships (map (λ x. x.membership.now) (drop l.one-index l.all)) (map (λ m. m.now) l.found.items)
