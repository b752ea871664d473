use Rattle.std.proofs.Common.{◌≡◌, map, take}
use Rattle.abstract_database.specs.Queries.{name_in_scope}
use Rattle.planner.proofs.tables.names_in_scope.Given as goal

abbrev pub invariant-loop-reference : goal.invariant-loop-reference
invariant-loop-reference l = map (λ n. n.now) l.names.items ≡ map (λ r. name_in_scope r.now) (take l.reference-index l.references)
