use Rattle.std.proofs.Common.{◌∙◌, sym}
use Rattle.store.proofs.Places.{first_place}
use Rattle.store.proofs.piece.Piece.first_from.Goals as goal

-- the change stands at the key's place
pub returns : goal.returns
returns c = c.get.ensures ∙ sym (first_place c.args.key.now c.place-at.result c.args.self.now c.place-at.ensures.place)
