use Rattle.statement_parameters.proofs.Written.{written}
use Rattle.statement_parameters.proofs.laws.labels_and_values_add_no_token.Goals as goal

pub returns : goal.returns
returns c = written (record { one = c.one_lexing.ensures; out = c.labels_alone_are_left_out.ensures })
