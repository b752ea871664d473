use Rattle.statement_parameters.proofs.OneReading.{once}
use Rattle.statement_parameters.proofs.laws.one_reading.Goals as goal

pub returns : goal.returns
returns c = once (record { one = c.one_lexing.ensures })
