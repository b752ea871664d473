use Rattle.expr_parser.proofs.Descent.{one_spelling}
use Rattle.expr_parser.proofs.laws.one_tree.Goals as goal

pub returns : goal.returns
returns c = λ ts part i j d e a b. one_spelling a b
