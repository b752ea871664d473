use Rattle.std.proofs.Common.{arith, sym}
use Rattle.storage_sizes.proofs.Numbers.{differ_by_number, fewer}
use Rattle.storage_sizes.proofs.key_order.is_same_key.Goals as goal

-- numbers that differ are of keys that differ
pub returns-then-x-y : goal.returns-then-x-y
returns-then-x-y c = sym (differ_by_number c.args.key.now c.args.other.now _ _ _ c.first_numbers-x.ensures c.if-x-y.true)

pub is_same_from-requires-clause-same : goal.is_same_from-requires-clause-same
is_same_from-requires-clause-same c = λ k l m. absurd (omega arith)

pub is_same_from-requires-2-clause-same : goal.is_same_from-requires-2-clause-same
is_same_from-requires-2-clause-same c = fewer c.args.key.now c.args.other.now _ _ (omega arith) (c.first_numbers-x.ensures.alike c.if-x-y.false)
