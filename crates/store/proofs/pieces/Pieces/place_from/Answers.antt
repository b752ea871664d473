use Rattle.store.proofs.Spots.{spot_from}
use Rattle.store.proofs.pieces.Pieces.place_from.Goals as goal

-- the changes from the key on stand at its place
pub returns : goal.returns
returns c = spot_from c.args.key.now c.place_of.result.piece c.place_of.result.at c.args.self.now.list.items c.args.self.now.ordered c.place_of.ensures
