use Rattle.std.proofs.Common.{◌≡◌, length, inl, inr, arith}
use Rattle.std.specs.Iterator.Adapters.{zip_second}
use Rattle.std.specs.Slice.Iter.{iter_rest}
use Rattle.planner.proofs.Finding.{no_reference_left, no_table_left}
use Rattle.planner.proofs.tables.scope_tables.Goals as goal

pub returns : goal.returns
returns c = elim c.in-None.ensures.steps [
  | inl h ↦ no_reference_left _ _ _ _ c.loop-reference.invariant h.1.0
  | inr h ↦ no_table_left _ _ _ _ c.loop-reference.invariant (let e : length (iter_rest (zip_second c.loop-reference.reference-iterator)) ≡ 0 = grind (arith, h.1.0) in e)
]
