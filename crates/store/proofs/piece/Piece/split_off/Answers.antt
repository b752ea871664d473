use Rattle.std.proofs.Common.{◌∙◌, ap, length, arith}
use Rattle.store.specs.Records.{Changes}
use Rattle.store.specs.Pieces.{puts}
use Rattle.store.proofs.Counting.{recounted_cut}
use Rattle.store.proofs.piece.Piece.split_off.Goals as goal

-- the changes behind the cut were counted
pub overflow_sub-self : goal.overflow_sub-self
overflow_sub-self c =
    let behind = c.count_puts-put_count.ensures ∙ ap (λ (cs : Changes). length (puts cs)) c.deref.ensures.value in
    (recounted_cut c.args.at c.self.inside.changes.items c.split_off.new.self.items c.in_ok-changes.changes.items c.self.inside.put_count c.count_puts-put_count.result c.in_ok-changes.ensures.items c.in_ok-changes.ensures.tail c.self.invariant behind).there

pub invariant_of-self-2 : goal.invariant_of-self-2
invariant_of-self-2 c =
    let behind = c.count_puts-put_count.ensures ∙ ap (λ (cs : Changes). length (puts cs)) c.deref.ensures.value in
    let made = (recounted_cut c.args.at c.self.inside.changes.items c.split_off.new.self.items c.in_ok-changes.changes.items c.self.inside.put_count c.count_puts-put_count.result c.in_ok-changes.ensures.items c.in_ok-changes.ensures.tail c.self.invariant behind).exact in
    omega (arith, made)
