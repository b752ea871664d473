use Rattle.std.proofs.Common.{◌<◌, List, ℕ, length, subst, arith}
use Rattle.store.specs.Pieces.{IsSpot}
use Rattle.store.proofs.Spots.{spot_inside}
use Rattle.store.proofs.pieces.Pieces.replace.Goals as goal

-- the key has a change, so its place is in a piece
pub put_at-requires-clause-inside : goal.put_at-requires-clause-inside
put_at-requires-clause-inside c =
    let s = c.args.self.now in
    let place = c.place_of-place.result in
    let spot = subst (λ (k : List ℕ). IsSpot k place.piece place.at s.list.items) c.key.ensures c.place_of-place.ensures in
    let inside : place.piece < length s.list.items = spot_inside c.args.change.0 place.piece place.at s.list.items spot c.requires in
    omega (arith, inside, s.list.ok)

pub put_at-requires-clause-spot : goal.put_at-requires-clause-spot
put_at-requires-clause-spot c =
    subst (λ (k : List ℕ). IsSpot k c.place_of-place.result.piece c.place_of-place.result.at c.args.self.now.list.items) c.key.ensures c.place_of-place.ensures
