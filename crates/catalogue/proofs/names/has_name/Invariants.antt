use Rattle.std.proofs.Common.{◌≡◌, drop, map}
use Rattle.abstract_database.specs.Lists.{has_name}
use Rattle.catalogue.proofs.names.has_name.Given as goal

abbrev pub invariant-loop-other : goal.invariant-loop-other
invariant-loop-other l = has_name l.name (map (λ n. n.now) l.names) ≡ has_name l.name (map (λ n. n.now) (drop l.other-index l.names))
