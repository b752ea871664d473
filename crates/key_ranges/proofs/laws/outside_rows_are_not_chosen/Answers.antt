use Rattle.key_ranges.proofs.Unchanged.{outside_rows_are_not_chosen, outside_rows_are_not_met}
use Rattle.key_ranges.proofs.laws.outside_rows_are_not_chosen.Goals as goal

pub returns : goal.returns
returns c = record { chosen = outside_rows_are_not_chosen; met = outside_rows_are_not_met }
