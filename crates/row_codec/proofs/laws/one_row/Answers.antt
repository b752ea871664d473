use Rattle.row_codec.proofs.Unique.{same_row_spelled}
use Rattle.row_codec.proofs.laws.one_row.Goals as goal

pub returns : goal.returns
returns c layout key value is a b of_a of_b = same_row_spelled layout key value a b is of_a of_b
