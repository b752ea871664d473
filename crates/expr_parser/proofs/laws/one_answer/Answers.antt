use Rattle.expr_parser.proofs.Descent.{one_spelling}
use Rattle.expr_parser.proofs.OneAnswer.{one_of_texts}
use Rattle.expr_parser.proofs.laws.one_answer.Goals as goal

pub returns : goal.returns
returns c = λ text r s a m b n. one_of_texts (record { one = c.one_lexing.ensures }) (record { one = λ ts x y d e. one_spelling d e }) a b m n
