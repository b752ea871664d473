use Rattle.syntax_places.proofs.OnePlace.{one_place}
use Rattle.syntax_places.proofs.laws.one_syntax_place.Goals as goal

pub returns : goal.returns
returns c = λ text o p one two. one_place c.one_lexing.ensures text o p one two
