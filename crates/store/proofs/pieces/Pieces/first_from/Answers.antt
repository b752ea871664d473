use Rattle.std.proofs.Common.{◌<◌, ◌≤◌, ◌∙◌, length, sym, ap, subst, arith}
use Rattle.store.specs.Records.{Changes, IsOrdered, first_from}
use Rattle.store.proofs.InPieces.{piece_ordered, first_index, first_past}
use Rattle.store.proofs.pieces.Pieces.first_from.Goals as goal

pub first_from-requires : goal.first_from-requires
first_from-requires c =
    let inside : c.index-at.result < length c.args.self.now.list.items = omega (arith, c.if-at-len.true, c.len.ensures, c.args.self.now.list.ok) in
    subst (λ (p : Changes). IsOrdered p) (sym c.index.ensures) (piece_ordered c.args.self.now.list.items c.index-at.result c.index.result.now c.args.self.now.ordered inside)

-- the first change from the key on stands in the piece at its index
pub returns-then-at-len : goal.returns-then-at-len
returns-then-at-len c =
    let inside : c.index-at.result < length c.args.self.now.list.items = omega (arith, c.if-at-len.true, c.len.ensures, c.args.self.now.list.ok) in
    c.first_from.ensures ∙ ap (first_from c.args.key.now) c.index.ensures
    ∙ sym (first_index c.args.key.now c.index-at.result c.args.self.now.list.items c.index.result.now c.args.self.now.ordered c.args.self.now.filled c.index-at.ensures.index inside)

-- past the last piece there is none
pub returns-else-at-len : goal.returns-else-at-len
returns-else-at-len c =
    let past : length c.args.self.now.list.items ≤ c.index-at.result = omega (arith, c.if-at-len.false, c.len.ensures, c.args.self.now.list.ok) in
    sym (first_past c.args.key.now c.index-at.result c.args.self.now.list.items c.args.self.now.ordered c.index-at.ensures.index past)
