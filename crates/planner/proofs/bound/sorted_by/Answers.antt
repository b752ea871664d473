use Rattle.std.proofs.Common.{◌≡◌, length, inl, inr, arith}
use Rattle.std.specs.Iterator.Adapters.{zip_second}
use Rattle.std.specs.Vec.Iter.{into_iter_items}
use Rattle.planner.proofs.Splits.{no_key_left, no_value_left}
use Rattle.planner.proofs.bound.sorted_by.Goals as goal

pub returns-clause-keys : goal.returns-clause-keys
returns-clause-keys c = elim c.in-None.ensures.steps [
  | inl h ↦ no_key_left _ _ _ _ c.loop-key.invariant.0 h.1.0
  | inr h ↦ no_value_left _ _ _ _ c.loop-key.invariant.0 (let e : length (into_iter_items (zip_second c.loop-key.key-iterator)) ≡ 0 = grind (arith, h.1.0, (zip_second c.loop-key.key-iterator).rest.ok) in e)
]

pub returns-clause-values : goal.returns-clause-values
returns-clause-values c = (into_iter_items (zip_second c.loop-key.key-iterator), c.loop-key.invariant.1)
