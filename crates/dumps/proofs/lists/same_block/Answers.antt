use Rattle.std.proofs.Common.{◌≡◌, true, false, ◌∙◌}
use Rattle.dumps.proofs.lists.same_block.Goals as goal

pub returns-in_default-clause-only : goal.returns-in_default-clause-only
returns-in_default-clause-only c is = absurd (rw c.in_default.is at c.in_ok-block.ensures.only c.args.bytes.now is)

pub returns-then-not-are_equal-clause-only : goal.returns-then-not-are_equal-clause-only
returns-then-not-are_equal-clause-only c is =
    let only = rw c.in-Some.is at c.in_ok-block.ensures.only c.args.bytes.now is in
    let wrong : false ≡ true = c.if-not-are_equal.ensures.1 (c.as_slice.ensures.value ∙ only) in
    absurd cc
