use Rattle.std.proofs.Common.{◌<◌, List, ℕ, length, get_or, sym, subst, arith}
use Rattle.store.specs.Records.{Changes, IsOrdered}
use Rattle.store.specs.Place.{IsPlace}
use Rattle.store.proofs.InPieces.{piece_ordered}
use Rattle.store.proofs.Spots.{spot_made}
use Rattle.store.proofs.pieces.Pieces.put_in.Goals as goal

pub place-requires : goal.place-requires
place-requires c =
    let s = c.args.self.now in
    let inside : c.args.at < length s.list.items = omega (arith, c.requires.inside, s.list.ok) in
    subst (λ (p : Changes). IsOrdered p) (sym c.index.ensures) (piece_ordered s.list.items c.args.at c.index.result.now s.ordered inside)

-- the key's place in the piece
pub put_at-requires-clause-spot : goal.put_at-requires-clause-spot
put_at-requires-clause-spot c =
    let s = c.args.self.now in
    let inside : c.args.at < length s.list.items = omega (arith, c.requires.inside, s.list.ok) in
    let place = subst (λ (p : Changes). IsPlace c.key.result.now c.place.result p) c.index.ensures c.place.ensures.place in
    spot_made c.args.change.0 c.args.at c.place.result s.list.items c.index.result.now c.requires.home inside
    (subst (λ (k : List ℕ). IsPlace k c.place.result (get_or s.list.items c.args.at c.index.result.now)) c.key.ensures place)
