use Rattle.key_ranges.proofs.TableRanges.{table_range_loses_nothing}
use Rattle.key_ranges.proofs.left_out.table_range_loses_nothing.Goals as goal

pub returns : goal.returns
returns c = table_range_loses_nothing
