use Rattle.std.proofs.Common.{◌≡◌, ◌++◌, map}
use Rattle.std.specs.Iterator.Adapters.{zip_first, zip_second}
use Rattle.std.specs.Slice.Iter.{iter_rest}
use Rattle.std.specs.Vec.Iter.{into_iter_items}
use Rattle.gathering.specs.Queries.{terms, key_of}
use Rattle.planner.specs.Bound.{key_values}
use Rattle.planner.specs.Parts.{keys_with}
use Rattle.planner.proofs.bound.sorted_by.Given as goal

-- the keys so far, and those that are left; and so their values
abbrev pub invariant-loop-key : goal.invariant-loop-key
invariant-loop-key l =
    (keys_with l.keys (terms l.fn.values.items)
    ≡ map key_of l.sorted ++ keys_with (iter_rest (zip_first l.key-iterator)) (terms (into_iter_items (zip_second l.key-iterator))))
    × (l.fn.values.items ≡ key_values l.sorted ++ into_iter_items (zip_second l.key-iterator))
