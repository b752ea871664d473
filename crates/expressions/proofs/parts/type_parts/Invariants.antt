use Rattle.std.specs.List.{zip}
use Rattle.std.specs.Iterator.Adapters.{zip_first, zip_second}
use Rattle.std.specs.Slice.Iter.{iter_rest}
use Rattle.std.specs.Vec.Iter.{into_iter_items}
use Rattle.expressions.specs.Parts.{part_of, type_part}
use Rattle.expressions.proofs.Each.{Left}
use Rattle.expressions.proofs.parts.type_parts.Given as goal

abbrev pub invariant-loop-part : goal.invariant-loop-part
invariant-loop-part l = Left (λ p. type_part (part_of p.0) p.1) (zip l.parts l.fn.resolved) (zip (iter_rest (zip_first l.part-iterator)) (into_iter_items (zip_second l.part-iterator))) l.typed
