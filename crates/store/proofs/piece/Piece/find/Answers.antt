use Rattle.std.proofs.Common.{◌∙◌, sym}
use Rattle.store.proofs.Places.{entry_there, entry_nowhere}
use Rattle.store.proofs.piece.Piece.find.Goals as goal

-- the change of the key stands at its place
pub returns-then-has_key_at : goal.returns-then-has_key_at
returns-then-has_key_at c = c.get.ensures ∙ sym (entry_there c.args.key.now c.place-at.result c.args.self.now c.requires c.place-at.ensures.place (sym c.has_key_at.ensures ∙ c.if-has_key_at.true))

-- or there is none
pub returns-else-has_key_at : goal.returns-else-has_key_at
returns-else-has_key_at c = sym (entry_nowhere c.args.key.now c.place-at.result c.args.self.now c.requires c.place-at.ensures.place (sym c.has_key_at.ensures ∙ c.if-has_key_at.false))
