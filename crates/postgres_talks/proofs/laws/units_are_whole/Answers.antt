use Rattle.postgres_talks.proofs.Units.{closed_by_commit, error_rolls_back, rolled_back_ends}
use Rattle.postgres_talks.proofs.laws.units_are_whole.Goals as goal

pub returns : goal.returns
returns c = record { fails = error_rolls_back; rolls_back = rolled_back_ends; commits = closed_by_commit }
