use Rattle.std.proofs.Common.{arith}
use Rattle.store.proofs.Counting.{recounted_pop}
use Rattle.store.proofs.piece.Piece.pop.Goals as goal

-- the change was counted
pub overflow_sub-self : goal.overflow_sub-self
overflow_sub-self c = (recounted_pop c.self.inside.changes.items c.pop.new.self.items c.in_ok-change.change c.self.inside.put_count c.count_put.result c.in_ok-change.ensures.items c.self.invariant c.count_put.ensures.exact).there

pub invariant_of-self-2 : goal.invariant_of-self-2
invariant_of-self-2 c =
    let made = (recounted_pop c.self.inside.changes.items c.pop.new.self.items c.in_ok-change.change c.self.inside.put_count c.count_put.result c.in_ok-change.ensures.items c.self.invariant c.count_put.ensures.exact).exact in
    omega (arith, made)
