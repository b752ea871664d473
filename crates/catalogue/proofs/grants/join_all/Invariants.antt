use Rattle.std.proofs.Common.{◌≡◌, []}
use Rattle.std.specs.Vec.Iter.{into_iter_items}
use Rattle.catalogue.specs.Grants.{join_each}
use Rattle.catalogue.proofs.grants.join_all.Given as goal

abbrev pub invariant-loop-entry : goal.invariant-loop-entry
invariant-loop-entry l = join_each l.all.items (into_iter_items l.entry-iterator) ≡ join_each [] l.fn.sorted.items
