use Rattle.protocol_laws.proofs.ToldBeginnings.{drawn_as_told}
use Rattle.protocol_laws.proofs.telling.what_was_drawn_is_told.Goals as goal

pub returns : goal.returns
returns c = drawn_as_told
