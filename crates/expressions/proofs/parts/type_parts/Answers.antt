use Rattle.std.proofs.Common.{◌≡◌, length, inl, inr, sym, arith, rules}
use Rattle.std.specs.Iterator.Adapters.{zip_second}
use Rattle.std.specs.Vec.Iter.{into_iter_items}
use Rattle.expressions.proofs.Each.{zip_ends_left, zip_ends_right, zip_goes_on, zip_fails}
use Rattle.expressions.proofs.parts.type_parts.Goals as goal

pub returns : goal.returns
returns c = elim c.in-None.ensures.steps [
  | inl h ↦ zip_ends_left _ _ _ _ _ c.loop-part.invariant h.1.0
  | inr h ↦ zip_ends_right _ _ _ _ _ c.loop-part.invariant (let e : length (into_iter_items (zip_second c.loop-part.part-iterator)) ≡ 0 = grind (arith, h.1.0, (zip_second c.loop-part.part-iterator).rest.ok) in e)
]

pub loop-part-preserved : goal.loop-part-preserved
loop-part-preserved c = rw c.in_ok-push.ensures.ok (zip_goes_on c.loop-part.invariant c.in-Some.ensures.steps.0 c.in-Some.ensures.steps.1.0 (sym c.in_ok-type_part.ensures))

pub returns-in_err-type_part : goal.returns-in_err-type_part
returns-in_err-type_part c =
    let m = zip_fails c.loop-part.invariant c.in-Some.ensures.steps.0 c.in-Some.ensures.steps.1.0 (sym c.in_err-type_part.ensures) in
    search rules
