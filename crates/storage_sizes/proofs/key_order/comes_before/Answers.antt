use Rattle.std.proofs.Common.{arith, ap, sym, ◌∙◌}
use Rattle.std.specs.Ordering.{is_lt}
use Rattle.storage_sizes.proofs.Numbers.{fewer, less_by_number}
use Rattle.storage_sizes.proofs.key_order.comes_before.Goals as goal

-- numbers that differ are in the order of the keys
pub returns-then-x-y : goal.returns-then-x-y
returns-then-x-y c = less_by_number c.first_numbers-x.result.0 c.first_numbers-x.result.1 ∙ sym (ap is_lt (c.first_numbers-x.ensures.apart c.if-x-y.true))

pub comes_before_from-requires-clause-same : goal.comes_before_from-requires-clause-same
comes_before_from-requires-clause-same c = λ k l m. absurd (omega arith)

pub comes_before_from-requires-2-clause-same : goal.comes_before_from-requires-2-clause-same
comes_before_from-requires-2-clause-same c = fewer c.args.key.now c.args.other.now _ _ (omega arith) (c.first_numbers-x.ensures.alike c.if-x-y.false)
