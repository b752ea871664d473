use Rattle.std.proofs.Common.{◌<◌, List, ℕ, length, subst, arith}
use Rattle.store.specs.Pieces.{IsIndex, IsSpot}
use Rattle.store.proofs.InPieces.{index_home}
use Rattle.store.proofs.pieces.Pieces.put_near.Goals as goal

-- the key belongs in the piece at its index
pub put_in-requires-clause-home : goal.put_in-requires-clause-home
put_in-requires-clause-home c =
    let s = c.make_room.new.self in
    let index = subst (λ (k : List ℕ). IsIndex k c.index-at.result s.list.items) c.key-3.ensures c.index-at.ensures.index in
    let inside : c.index-at.result < length s.list.items = omega (arith, c.if-at-len.true, c.len.ensures, s.list.ok) in
    index_home c.args.change.0 c.index-at.result s.list.items s.ordered s.filled index inside

-- the place of the key
pub put_at-requires-clause-spot : goal.put_at-requires-clause-spot
put_at-requires-clause-spot c =
    subst (λ (k : List ℕ). IsSpot k c.place_of-place.result.piece c.place_of-place.result.at c.args.self.now.list.items) c.key.ensures c.place_of-place.ensures
