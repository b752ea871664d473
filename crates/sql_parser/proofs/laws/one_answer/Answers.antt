use Rattle.expr_parser.proofs.OneAnswer.{one_of_texts}
use Rattle.sql_parser.proofs.Wholes.{one_spelled}
use Rattle.sql_parser.proofs.laws.one_answer.Goals as goal

pub returns : goal.returns
returns c = λ text r s a m b n. one_of_texts (record { one = c.one_lexing.ensures }) (record { one = λ ts x y d e. one_spelled d.spelled e.spelled }) a b m n
