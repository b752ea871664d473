use Rattle.std.proofs.Common.{arith}
use Rattle.store.proofs.Apart.{recounted_both}
use Rattle.store.proofs.piece.Piece.move_behind.Goals as goal

-- the values are counted
pub overflow_add-self : goal.overflow_add-self
overflow_add-self c =
    let made = recounted_both c.self.inside.changes.items c.append.new.self.items c.later.inside.changes.items c.self.inside.put_count c.later.inside.put_count c.in_ok-append.ensures.items c.self.invariant c.later.invariant in
    omega (arith, made.few, c.append.new.self.ok, c.append.new.self.small)

pub invariant_of-self-2 : goal.invariant_of-self-2
invariant_of-self-2 c =
    let made = recounted_both c.self.inside.changes.items c.append.new.self.items c.later.inside.changes.items c.self.inside.put_count c.later.inside.put_count c.in_ok-append.ensures.items c.self.invariant c.later.invariant in
    omega (arith, made.exact)
