use Rattle.row_codec.proofs.Lengths.{row_key_long, row_value_long}
use Rattle.row_codec.proofs.laws.sizes.Goals as goal

pub returns : goal.returns
returns c = record { key = row_key_long; value = row_value_long }
