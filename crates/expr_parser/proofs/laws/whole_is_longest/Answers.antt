use Rattle.expr_parser.proofs.AloneOperands.{whole_is_longest}
use Rattle.expr_parser.proofs.laws.whole_is_longest.Goals as goal

pub returns : goal.returns
returns c = whole_is_longest
